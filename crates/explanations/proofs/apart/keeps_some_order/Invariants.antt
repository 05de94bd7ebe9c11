use Rattle.explanations.proofs.Wider.{IsWhole}
use Rattle.explanations.proofs.apart.keeps_some_order.Given as goal

-- no constraint so far keeps an order
abbrev pub invariant-loop-number : goal.invariant-loop-number
invariant-loop-number l = IsWhole l.fn.drawn.net l.origins l.number
