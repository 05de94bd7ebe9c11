use Rattle.std.proofs.Common.{◌≤◌, ◌-◌, List}
use Rattle.falling.specs.declared.line.FallLine.{FallLine}
use Rattle.falling.specs.Agenda.{IsAgendaFor}
use Rattle.falling.specs.Step.Agenda.{AreOthersTried}
use Rattle.falling.proofs.Deriving.{IsUnderWay}
use Rattle.falling.proofs.derivation.derive.Given as goal

-- the lines so far are a derivation of as many lines as turns were taken; it has not ended, and a constraint without a flag allows no line
abbrev pub invariant-turns : goal.invariant-turns
invariant-turns g l = record {
  lines : (lines : List FallLine) × g.N.FallScribe.Grew l.fn.scribe lines l.scribe × IsUnderWay l.net l.from lines l.values l.taken;
  left : l.taken ≤ l.turns;
  agenda : IsAgendaFor l.net l.agenda;
  tried : AreOthersTried l.net l.values l.agenda.pending;
}

abbrev pub decreases-turns : goal.decreases-turns
decreases-turns g l = l.turns - l.taken
