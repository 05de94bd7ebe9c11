use Rattle.falling.specs.Step.Agenda.{Grows}
use Rattle.falling.proofs.Following.{HasCausesBelow}
use Rattle.falling.proofs.followers.push_constraint.Given as goal

-- the lists have the edges of the causes so far
abbrev pub invariant-loop-cause : goal.invariant-loop-cause
invariant-loop-cause l = record {
  grows : Grows l.net l.fn.lists l.lists;
  causes : HasCausesBelow l.net l.lists l.number l.cause;
}
