use Rattle.std.proofs.Common.{◌≡◌, ◌++◌, map, string_bytes}
use Rattle.std.specs.Vec.Iter.{into_iter_items, into_iter_len}
use Rattle.itv_cli.proofs.system.texts_of.Given as goal

-- the copies, and then the words that are left, are all words
abbrev pub invariant-loop-word : goal.invariant-loop-word
invariant-loop-word l = l.texts ++ map string_bytes (into_iter_items l.rest) ≡ map string_bytes (into_iter_items l.fn.args)

abbrev pub decreases-loop-word : goal.decreases-loop-word
decreases-loop-word l = into_iter_len l.rest
