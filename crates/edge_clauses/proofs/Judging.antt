-- What the code finds of clauses in a frame.
use Rattle.std.proofs.Common.{◌⊎◌, ◌↔◌, inl, inr, ℤ, pos, ◌+ℤ◌, ◌≤ℤ◌, ◌<ℤ◌, Bool, IsTrue, List, All, refl, subst, arith}
use Rattle.std.proofs.lemmas.Int.{ints}
use Rattle.itv_base.specs.declared.names.EventId.{EventId}
use Rattle.event_graph.specs.Network.{Net}
use Rattle.event_graph.specs.Times.{time_of}
use Rattle.edge_clauses.specs.Lines.{Frame, Goal, IsEnded, IsNearBound, LetsFall, LetsRise}
use Rattle.edge_clauses.specs.declared.basis.Basis.{Basis}
use Rattle.edge_clauses.specs.Checking.{SomeClause}
use Rattle.edge_clauses.specs.Clauses.{Clause, IsClause}
use Rattle.edge_clauses.specs.Step.Bounding.{HasCrossed}
use Rattle.edge_clauses.specs.Step.Judging.{AllowsFall, AllowsRise}
use Rattle.edge_clauses.proofs.Filling.{one_clause}

-- the clause of a basis is not one of which something holds
pub refused_by : (net : Net) (kept : List Clause) (basis : Basis) (c : Clause) (P : Clause → Type 0) → IsClause net kept basis c → (P c → ⊥) → SomeClause net kept basis P → ⊥
refused_by net kept basis c P is_c not (d, is_d, h) = not (subst P (one_clause net kept basis d c is_d is_c) h)

-- ---- the end of a frame

one_before : (a b : ℤ) → (a +ℤ pos 1) ≤ℤ b → a <ℤ b
one_before a b h = omega (arith, ints)

both_later : (a b : ℤ) → a ≤ℤ b → (a +ℤ pos 1) ≤ℤ (b +ℤ pos 1)
both_later a b h = omega (arith, ints)

both_before : (a b : ℤ) → (a +ℤ pos 1) ≤ℤ (b +ℤ pos 1) → a ≤ℤ b
both_before a b h = omega (arith, ints)

pub ended_at_claim : (goal : Goal) (frame : Frame) → time_of frame.up goal.to ≤ℤ goal.claim → IsEnded goal frame
ended_at_claim goal frame most = (goal.to, inr (refl, both_later (time_of frame.up goal.to) goal.claim most))

pub ended_cases : (goal : Goal) (frame : Frame) → IsEnded goal frame → HasCrossed (record { up = frame.up; low = frame.low }) ⊎ (time_of frame.up goal.to ≤ℤ goal.claim)
ended_cases goal frame (event, inl low) = inl (event, one_before (time_of frame.up event) (time_of frame.low event) low)
ended_cases goal frame (event, inr (is, low)) =
    inr (subst (λ (x : EventId). time_of frame.up x ≤ℤ goal.claim) is (both_before (time_of frame.up event) goal.claim low))

-- ---- bounds that a clause allows

pub falls_as : (net : Net) (goal : Goal) (frame : Frame) (event : EventId) (value : ℤ) (c : Clause) (all : Bool) → IsTrue all ↔ All (AllowsFall goal frame event value) c
    → IsNearBound net value → value <ℤ time_of frame.up event → IsTrue all ↔ LetsFall net goal frame event value c
unfolding AllowsFall
falls_as net goal frame event value c all is_all bound lower = (
  (λ t. record { edges = λ i d within. is_all.0 t i d within; bound = bound; lower = lower }),
  (λ falls. is_all.1 (λ i d within. falls.edges i d within)),
)

pub rises_as : (net : Net) (goal : Goal) (frame : Frame) (event : EventId) (value : ℤ) (c : Clause) (all : Bool) → IsTrue all ↔ All (AllowsRise goal frame event value) c
    → IsNearBound net value → time_of frame.low event <ℤ value → IsTrue all ↔ LetsRise net goal frame event value c
unfolding AllowsRise
rises_as net goal frame event value c all is_all bound higher = (
  (λ t. record { edges = λ i d within. is_all.0 t i d within; bound = bound; higher = higher }),
  (λ rises. is_all.1 (λ i d within. rises.edges i d within)),
)
