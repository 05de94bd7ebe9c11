-- Products of numbers of causes.
use Rattle.std.proofs.Common.{◌≡◌, ℕ, ◌+◌, ◌*◌, ◌^◌, ◌<◌, ◌≤◌, List, [], ◌∷◌, All, length, get_or, drop, sym, ap, ◌∙◌, arith}
use Rattle.std.proofs.Math.Nat.{mul_assoc, mul-le-mul_left}
use Rattle.std.proofs.lemmas.List.{drop_more}
use Rattle.std.proofs.lemmas.List.Elements.{All-head, All-tail, All-drop}
use Rattle.itv_base.specs.declared.names.RuleKind.{RuleKind}
use Rattle.itv_base.specs.declared.names.RuleKind.TheVariants.{Lin, Late, Early}
use Rattle.event_graph.specs.Network.{Constraint, IsCauseCount, IsConstraint}
use Rattle.event_graph.specs.Edges.{cause_choices, choices_of}

pub choices_of-some : (kind : RuleKind) (count : ℕ) → IsCauseCount kind count → 1 ≤ choices_of kind count
choices_of-some Lin count h = omega arith
choices_of-some Late count h = h.0
choices_of-some Early count h = h.0

-- no product is 0
pub cause_choices-some : (events : ℕ) (cs : List Constraint) → All (IsConstraint events) cs → 1 ≤ cause_choices cs
cause_choices-some events [] h = omega arith
cause_choices-some events (c ∷ cs) h =
    let first : 1 ≤ choices_of c.kind (length c.causes) = choices_of-some c.kind (length c.causes) (All-head (IsConstraint events) c cs h).count in
    let rest : 1 ≤ cause_choices cs = cause_choices-some events cs (All-tail (IsConstraint events) c cs h) in
    omega (arith, mul-le-mul_left (choices_of c.kind (length c.causes)) rest)

-- the choices of one more constraint go into the product
pub product_more : (cs : List Constraint) (i : ℕ) (c : Constraint) (product factor : ℕ) → i < length cs → c ≡ get_or cs i c
    → factor ≡ choices_of c.kind (length c.causes) → product * cause_choices (drop i cs) ≡ cause_choices cs
    → (product * factor) * cause_choices (drop (i + 1) cs) ≡ cause_choices cs
product_more cs i c product factor within here is_factor whole =
    let own : choices_of (get_or cs i c).kind (length (get_or cs i c).causes) ≡ factor = sym (is_factor ∙ ap (λ (k : Constraint). choices_of k.kind (length k.causes)) here) in
    let step : cause_choices (drop i cs) ≡ factor * cause_choices (drop (i + 1) cs) =
    ap cause_choices (drop_more cs i c within) ∙ ap (λ n. n * cause_choices (drop (i + 1) cs)) own in
    mul_assoc product factor (cause_choices (drop (i + 1) cs)) ∙ (sym (ap (λ n. product * n) step) ∙ whole)

-- if the product of the first constraints exceeds a number, the whole product does
pub product_passes : (events most : ℕ) (cs : List Constraint) (i product : ℕ) → All (IsConstraint events) cs
    → product * cause_choices (drop i cs) ≡ cause_choices cs → most < product → most < cause_choices cs
product_passes events most cs i product all whole past =
    let rest : 1 ≤ cause_choices (drop i cs) = cause_choices-some events (drop i cs) (All-drop (IsConstraint events) i cs all) in
    rw (← whole) (omega (arith, mul-le-mul_left product rest))

-- a number that does not fit in 64 bits is greater than one that does
pub not_below : (small large : ℕ) → small < 2 ^ 64 → (large < 2 ^ 64 → ⊥) → small < large
not_below small large fits over = grind arith
