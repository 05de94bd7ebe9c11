use Rattle.std.proofs.Common.{◌≡◌, ◌<◌, All, length}
use Rattle.trail.specs.Step.Undo.{slots_before}
use Rattle.trail.proofs.undo.put_back.Given as goal

-- what is left to put back leads to where the whole would have led
abbrev pub invariant-loop-last : goal.invariant-loop-last
invariant-loop-last l =
    All (λ e. e.slot < length l.slots) l.left × (slots_before l.left l.slots ≡ slots_before l.fn.saved l.fn.slots)

abbrev pub decreases-loop-last : goal.decreases-loop-last
decreases-loop-last l = length l.left
