-- The order of the turn rule among the lines of a constraint.
use Rattle.std.proofs.Common.{◌≡◌, ◌<◌, inl, inr, ℕ, ℤ, List, Option, Some, None, IfSome, sym, ap, ◌∙◌, refl, subst, arith}
use Rattle.std.proofs.lemmas.Option.{same_Some}
use Rattle.itv_base.specs.declared.names.EdgeName.{EdgeName}
use Rattle.itv_base.specs.declared.names.RuleKind.{RuleKind}
use Rattle.itv_base.specs.declared.names.RuleKind.TheVariants.{Lin, Late, Early}
use Rattle.itv_base.specs.declared.names.Side.{Side}
use Rattle.itv_base.specs.declared.names.Side.TheVariants.{Lower, Upper}
use Rattle.event_graph.specs.Network.{Net}
use Rattle.falling.specs.declared.line.FallLine.{FallLine}
use Rattle.falling.specs.declared.line.Reason.{Reason}
use Rattle.falling.specs.declared.line.Reason.TheVariants.{ByEdge, ByLatest}
use Rattle.falling.specs.Step.Turns.{ReasonBefore, IsFirstOf, IsFirstOnSide, IsOfKind, IsSideTried, IsTried, constraint_of, latest_rank, side_rank}

-- two sides of a constraint have two places, and neither is the place of the latest line
same_side : (kind : RuleKind) (a b : Side) → side_rank kind a ≡ side_rank kind b → a ≡ b
same_side Lin Lower Lower e = refl
same_side Lin Lower Upper e = absurd (omega arith)
same_side Lin Upper Lower e = absurd (omega arith)
same_side Lin Upper Upper e = refl
same_side Late Lower Lower e = refl
same_side Late Lower Upper e = absurd (omega arith)
same_side Late Upper Lower e = absurd (omega arith)
same_side Late Upper Upper e = refl
same_side Early Lower Lower e = refl
same_side Early Lower Upper e = absurd (omega arith)
same_side Early Upper Lower e = absurd (omega arith)
same_side Early Upper Upper e = refl

not_latest : (kind : RuleKind) (side : Side) → latest_rank kind ≡ side_rank kind side → ⊥
not_latest Lin Lower e = omega arith
not_latest Lin Upper e = omega arith
not_latest Late Lower e = omega arith
not_latest Late Upper e = omega arith
not_latest Early Lower e = omega arith
not_latest Early Upper e = omega arith

-- a name by its parts
tried_name : (net : Net) (values : List ℤ) (number : ℕ) (side : Side) (name : EdgeName) → name.constraint ≡ number → name.side ≡ side
    → IsTried net values (ByEdge (record { constraint = number; cause = name.cause; side = side })) → IsTried net values (ByEdge name)
tried_name net values number side name is_number is_side tried =
    subst (λ (s : Side). IsTried net values (ByEdge (record { constraint = name.constraint; cause = name.cause; side = s }))) (sym is_side)
    (subst (λ n. IsTried net values (ByEdge (record { constraint = n; cause = name.cause; side = side }))) (sym is_number) tried)

-- the first line of a side is the first of the constraint where all that comes before the side was tried
first_by_side : (net : Net) (values : List ℤ) (number : ℕ) (kind : RuleKind) (side : Side) (line : FallLine) → IsOfKind net number kind
    → ((s : Side) → side_rank kind s < side_rank kind side → IsSideTried net values number s) → (latest_rank kind < side_rank kind side → IsTried net values (ByLatest number))
    → IsFirstOnSide net values number side line → IsFirstOf net values number line
first_by_side net values number kind side line is_kind sides latest (cause, is, earlier) = record {
  is = ap constraint_of is;
  earlier = λ k reason is_k is_number before.
      by_reason reason is_number
      (subst (ReasonBefore kind reason) is (subst (λ (x : RuleKind). ReasonBefore x reason line.reason) (same_Some k kind (sym is_k ∙ is_kind)) before));
} where
  by_reason : (reason : Reason) → constraint_of reason ≡ number → ReasonBefore kind reason (ByEdge (record { constraint = number; cause = cause; side = side })) → IsTried net values reason
  by_reason (ByEdge name) is_number (inl less) = sides name.side less name is_number refl
  by_reason (ByEdge name) is_number (inr (same, less)) = tried_name net values number side name is_number (same_side kind name.side side same) (earlier name.cause less)
  by_reason (ByLatest n) is_number (inl less) = subst (λ i. IsTried net values (ByLatest i)) (sym is_number) (latest less)
  by_reason (ByLatest n) is_number (inr (same, less)) = absurd (not_latest kind side same)

pub early_upper : (net : Net) (values : List ℤ) (number : ℕ) (line : FallLine) → IsOfKind net number Early → IsSideTried net values number Lower
    → IsFirstOnSide net values number Upper line → IsFirstOf net values number line
early_upper net values number line is_kind lower first = first_by_side net values number Early Upper line is_kind sides (λ less. absurd (omega arith)) first where
  sides : (s : Side) → side_rank Early s < 1 → IsSideTried net values number s
  sides Lower less = lower
  sides Upper less = absurd (omega arith)

pub late_lower : (net : Net) (values : List ℤ) (number : ℕ) (line : FallLine) → IsOfKind net number Late → IsFirstOnSide net values number Lower line → IsFirstOf net values number line
late_lower net values number line is_kind first =
    first_by_side net values number Late Lower line is_kind (λ side less. absurd (omega arith)) (λ less. absurd (omega arith)) first

pub if_some : {X : Type 0} (o : Option X) (P Q : X → Type 0) → ((x : X) → P x → Q x) → IfSome o P → IfSome o Q
if_some None P Q step h = tt
if_some (Some x) P Q step h = step x h
