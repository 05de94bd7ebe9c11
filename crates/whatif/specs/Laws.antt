-- Laws of sessions.
use Rattle.std.specs.Prelude.{◌≡◌, ℕ}
use Rattle.event_graph.specs.Network.{Net}
use Rattle.requirements.specs.declared.bound.Bound.{Bound}
use Rattle.requirements.specs.declared.bound.Bound.TheVariants.{Closed, Unbounded, Within}
use Rattle.whatif.specs.Session.{IsRightBound, KeptBound}

-- the answer settles the bound
abbrev pub IsSettledAnswer : Bound → Type 0
IsSettledAnswer (Closed value) = Unit {0}
IsSettledAnswer Unbounded = Unit {0}
IsSettledAnswer (Within limit attained) = ⊥

-- Two bounds of one pair have one answer if both are right for one network and both are settled, whatever their budgets and however they came about.
-- So a bound that was kept is the bound that a search from scratch settles.
abbrev pub SettledBoundsAgree : Type 0
SettledBoundsAgree = (net : Net) (budget other : ℕ) (a b : KeptBound) → IsRightBound net budget a → IsRightBound net other b → a.pair ≡ b.pair
    → IsSettledAnswer a.answer → IsSettledAnswer b.answer → a.answer ≡ b.answer
