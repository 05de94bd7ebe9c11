-- Pairs of ends as the code holds them.
use Rattle.itv_base.specs.Range.{Ends}
use Rattle.json_tree.specs.declared.ends.EndPair.{EndPair}

abbrev pub ends_view : EndPair → Ends
ends_view pair = record { low = pair.low; high = pair.high }
