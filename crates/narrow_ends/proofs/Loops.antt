-- The loops over constraints and causes.
use Rattle.std.proofs.Common.{◌≡◌, ◌+◌, ℕ, Bool, true, false, ◌&&◌, not, if◌then◌else◌, List, [], ◌∷◌, ◌++◌, Option, Some, refl, sym, ap, ◌∙◌, add-one, append_assoc}
use Rattle.std.specs.Prelude.{is_some}
use Rattle.std.proofs.lemmas.List.{append-nil}
use Rattle.itv_base.specs.declared.names.EdgeName.{EdgeName}
use Rattle.itv_base.specs.declared.names.RuleKind.{RuleKind}
use Rattle.itv_base.specs.declared.names.Side.{Side}
use Rattle.itv_base.specs.declared.names.Side.TheVariants.{Lower, Upper}
use Rattle.origin.specs.declared.origin.Origin.{Origin}
use Rattle.origin.specs.Order.{is_lane}
use Rattle.event_graph.specs.declared.edge.Edge.{Edge}
use Rattle.drawn_networks.specs.Drawn.{Drawn}
use Rattle.narrow_ends.specs.Ends.{cause_count, end_at, ends_below, ends_below_cause, has_range, is_end, is_end_side, is_seen}

-- ---- one name

if_true : {A : Type 0} → (b : Bool) (x y : A) → b ≡ true → (if b then x else y) ≡ x
if_true b x y is = rw is refl

if_false : {A : Type 0} → (b : Bool) (x y : A) → b ≡ false → (if b then x else y) ≡ y
if_false b x y is = rw is refl

-- an end was put at the end
pub pushed : (drawn : Drawn) (constraint cause : ℕ) (side : Side) (before after : List EdgeName) → is_end drawn (record { constraint = constraint; cause = cause; side = side }) ≡ true
    → after ≡ before ++ record { constraint = constraint; cause = cause; side = side } ∷ [] → after ≡ before ++ end_at drawn constraint cause side
pushed drawn constraint cause side before after is put = put ∙ ap (λ names. before ++ names) (sym (if_true (is_end drawn (record { constraint = constraint; cause = cause; side = side })) _ [] is))

-- a name that is not the name of an end was passed over
pub passed : (drawn : Drawn) (constraint cause : ℕ) (side : Side) (before : List EdgeName) → is_end drawn (record { constraint = constraint; cause = cause; side = side }) ≡ false
    → before ≡ before ++ end_at drawn constraint cause side
passed drawn constraint cause side before is =
    sym (append-nil before) ∙ ap (λ names. before ++ names) (sym (if_false (is_end drawn (record { constraint = constraint; cause = cause; side = side })) _ [] is))

-- the result of the three tests of an end
pub end_tests : (kind_there : Option RuleKind) (origin_there : Option Origin) (e : Option Edge) (kind : RuleKind) (origin : Origin) (side : Side) → kind_there ≡ Some kind → origin_there ≡ Some origin
    → ((is_end_side kind side && not (is_lane origin)) && is_some e) ≡ ((is_seen kind_there side && has_range origin_there) && is_some e)
end_tests kind_there origin_there e kind origin side k o = rw (k, o) refl

-- ---- one cause, one constraint

pub next_cause : (drawn : Drawn) (constraint cause : ℕ) (start before middle after : List EdgeName) → before ≡ start ++ ends_below_cause drawn constraint cause
    → middle ≡ before ++ end_at drawn constraint cause Upper → after ≡ middle ++ end_at drawn constraint cause Lower → after ≡ start ++ ends_below_cause drawn constraint (cause + 1)
next_cause drawn constraint cause start before middle after first second third = rw add-one (
    third
    ∙ ap (λ names. names ++ end_at drawn constraint cause Lower) (second ∙ ap (λ names. names ++ end_at drawn constraint cause Upper) first ∙ append_assoc start (ends_below_cause drawn constraint cause) (end_at drawn constraint cause Upper))
    ∙ append_assoc start (ends_below_cause drawn constraint cause ++ end_at drawn constraint cause Upper) (end_at drawn constraint cause Lower)
    )

pub next_constraint : (drawn : Drawn) (constraint : ℕ) (before after : List EdgeName) → before ≡ ends_below drawn constraint
    → after ≡ before ++ ends_below_cause drawn constraint (cause_count drawn constraint) → after ≡ ends_below drawn (constraint + 1)
next_constraint drawn constraint before after first second = rw add-one (second ∙ ap (λ names. names ++ ends_below_cause drawn constraint (cause_count drawn constraint)) first)
