use Rattle.std.proofs.Common.{◌≤◌}
use Rattle.std.specs.Str.{chars}
use Rattle.std.specs.Str.Iter.{chars_rest}
use Rattle.std.specs.Iterator.Adapters.{enumerate_count, enumerate_source}
use Rattle.wave_string.proofs.Walk.{HasPassed}
use Rattle.wave_string.proofs.wave.kind_at.Given as goal

-- The characters that were counted are passed, and the place is not among them.
abbrev pub invariant-loop-index : goal.invariant-loop-index
invariant-loop-index l = record {
  passed : HasPassed (chars l.wave) (enumerate_count l.index-iterator) l.before (chars_rest (enumerate_source l.index-iterator));
  not_reached : enumerate_count l.index-iterator ≤ l.place;
}
