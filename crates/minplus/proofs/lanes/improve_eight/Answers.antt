use Rattle.minplus.proofs.EachLane.{chunk_held, eight_by_bits, held_by_bits}
use Rattle.minplus.proofs.lanes.improve_eight.Goals as goal

pub improved_lanes-requires-clause-entries : goal.improved_lanes-requires-clause-entries
improved_lanes-requires-clause-entries c = held_by_bits _ c.requires.entries

pub improved_lanes-requires-clause-others : goal.improved_lanes-requires-clause-others
improved_lanes-requires-clause-others c = held_by_bits _ (chunk_held _ _ c.requires.others)

pub returns : goal.returns
returns c = eight_by_bits _ _ _ _ _ c.requires.weight c.requires.place c.requires.lengths c.requires.entries c.requires.others c.improved_lanes.ensures
