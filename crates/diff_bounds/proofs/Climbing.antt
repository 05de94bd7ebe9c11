-- A climb that is written down, edge by edge.
use Rattle.std.proofs.Common.{◌≡◌, ℕ, ◌+◌, ◌<◌, ◌≤◌, List, [], ◌∷◌, ◌++◌, length, set, take, Some, sym, ◌∙◌, ap, refl, arith, append_assoc}
use Rattle.std.proofs.lemmas.Option.{none-some}
use Rattle.std.proofs.lemmas.List.{length-append, length-take-le, take_more_set}
use Rattle.itv_base.specs.declared.names.EdgeName.{EdgeName}
use Rattle.event_graph.specs.declared.edge.Edge.{Edge}
use Rattle.event_graph.specs.Edges.{edge}
use Rattle.event_graph.specs.Network.{Net}
use Rattle.diff_bounds.specs.Labels.{IsClimb, Parents}
use Rattle.diff_bounds.specs.Step.Walking.{IsOneClimb}
use Rattle.diff_bounds.proofs.Climbs.{way_on}

append_nothing : (xs : List EdgeName) → xs ++ [] ≡ xs
append_nothing [] = refl
append_nothing (x ∷ xs) = ap (λ (ys : List EdgeName). x ∷ ys) (append_nothing xs)

-- at the top no edge is left
pub nothing_left : (net : Net) (actual parent : Parents) (from to at : ℕ) (names written left : List EdgeName) → IsOneClimb net actual parent from names to → IsClimb net parent at left to → written ++ left ≡ names → at ≡ to → written ≡ names
nothing_left net actual parent from to at names written [] one climb is top = sym (append_nothing written) ∙ is
nothing_left net actual parent from to at names written (name ∷ left) one climb is top = absurd (none-some name (sym one.top ∙ ap parent (sym top) ∙ climb.0))

-- before the top there is a parent, and its edge is there
pub there_is : (net : Net) (actual parent : Parents) (from to at : ℕ) (names left : List EdgeName) → IsOneClimb net actual parent from names to → IsClimb net parent at left to → (at ≡ to → ⊥) → (name : EdgeName) × (e : Edge) × (actual at ≡ Some name) × (edge net name ≡ Some e)
there_is net actual parent from to at names [] one climb off = absurd (off climb)
there_is net actual parent from to at names (name ∷ left) one climb off = (name, climb.1.0, one.agrees at name climb.0, climb.1.1)

-- so it is the actual parent
pub parent_is : (net : Net) (actual parent : Parents) (from to at : ℕ) (names left : List EdgeName) (name : EdgeName) → IsOneClimb net actual parent from names to → IsClimb net parent at left to → (at ≡ to → ⊥) → actual at ≡ Some name → parent at ≡ Some name
parent_is net actual parent from to at names [] name one climb off is = absurd (off climb)
parent_is net actual parent from to at names (other ∷ left) name one climb off is = climb.0 ∙ sym (one.agrees at other climb.0) ∙ is

-- one more edge is written
pub one_more : (net : Net) (actual parent : Parents) (from to at : ℕ) (names walk left : List EdgeName) (count : ℕ) (name : EdgeName) (e : Edge) → IsOneClimb net actual parent from names to → IsClimb net parent at left to → take count walk ++ left ≡ names
    → (at ≡ to → ⊥) → actual at ≡ Some name → edge net name ≡ Some e → count < length walk → (rest : List EdgeName) × IsClimb net parent e.from.0 rest to × (take (count + 1) (set walk count name) ++ rest ≡ names)
one_more net actual parent from to at names walk left count name e one climb is off held here below =
    let next = way_on net parent at to name e (parent_is net actual parent from to at names left name one climb off held) here off left climb in (
      next.0,
      next.1,
      ap (λ (ys : List EdgeName). ys ++ next.0) (take_more_set walk count name below) ∙ append_assoc (take count walk) (name ∷ []) next.0 ∙ ap (λ (ys : List EdgeName). take count walk ++ ys) (sym next.2) ∙ is,
    )

-- there is room for one more
pub room_left : (names walk left : List EdgeName) (count : ℕ) → take count walk ++ left ≡ names → length names < length walk → count ≤ length walk → count < length walk
room_left names walk left count is short within =
    let written : length (take count walk) ≡ count = length-take-le count walk within in
    let total : length (take count walk ++ left) ≡ length names = ap length is in
    omega (arith, length-append (take count walk) left)
