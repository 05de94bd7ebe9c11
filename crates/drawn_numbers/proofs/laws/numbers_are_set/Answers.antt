use Rattle.drawn_numbers.proofs.DrawnCauses.{causes_are_all_drawn}
use Rattle.drawn_numbers.proofs.RangesSet.{numbers_are_set}
use Rattle.drawn_numbers.proofs.laws.numbers_are_set.Goals as goal

pub returns : goal.returns
returns c = record { causes = causes_are_all_drawn; set = numbers_are_set }
