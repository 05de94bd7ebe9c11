use Rattle.minplus.proofs.EachLane.{all_fit, all_lanes, each_of}
use Rattle.minplus.proofs.lanes.improved_lanes.Goals as goal

pub overflow_add-sums : goal.overflow_add-sums
overflow_add-sums c = all_fit 8 _ _ c.requires.other_count c.requires.weight (each_of _ c.requires.others)

pub returns : goal.returns
returns c = all_lanes 8 _ _ _ c.requires.count c.requires.other_count c.requires.weight (each_of _ c.requires.entries) (each_of _ c.requires.others)
