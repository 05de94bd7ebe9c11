use Rattle.std.proofs.Common.{◌≡◌, drop}
use Rattle.std.specs.List.{position_from}
use Rattle.falling.specs.Kinds.{first_choice}
use Rattle.falling.proofs.Choosing.{is_choice_of}
use Rattle.falling.proofs.kinds.first_choice.Given as goal

-- the constraints so far are no choices of the kind
abbrev pub invariant-loop-number : goal.invariant-loop-number
invariant-loop-number l = first_choice l.kind l.net ≡ position_from (is_choice_of l.kind) l.number (drop l.number l.net.constraints)
