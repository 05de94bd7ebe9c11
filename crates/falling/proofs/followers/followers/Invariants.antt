use Rattle.falling.specs.Agenda.{AreLists}
use Rattle.falling.proofs.Following.{HasConstraintsBelow}
use Rattle.falling.proofs.followers.followers.Given as goal

-- the lists have the edges of the constraints so far
abbrev pub invariant-loop-number : goal.invariant-loop-number
invariant-loop-number l = record {
  lists : AreLists l.net l.lists;
  constraints : HasConstraintsBelow l.net l.lists l.number;
}
