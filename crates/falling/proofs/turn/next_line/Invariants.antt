use Rattle.std.proofs.Common.{◌≡◌, length}
use Rattle.std.specs.List.{sum}
use Rattle.falling.specs.Step.Agenda.{AreOthersTried}
use Rattle.falling.proofs.turn.next_line.Given as goal

-- a constraint without a flag allows no line
abbrev pub invariant-looks : goal.invariant-looks
invariant-looks l = record {
  flags : length l.pending ≡ length l.fn.pending;
  tried : AreOthersTried l.net l.values l.pending;
}

abbrev pub decreases-looks : goal.decreases-looks
decreases-looks l = sum l.pending
