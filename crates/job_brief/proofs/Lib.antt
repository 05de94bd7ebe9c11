mod Numbered
mod Ranking
mod Folding
mod Ordering
mod Lining
mod Cells
mod RowLines
mod Whole
