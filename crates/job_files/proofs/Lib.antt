mod Lining
