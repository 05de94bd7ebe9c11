-- Climbs from events by their parents.
use Rattle.std.proofs.Common.{◌≡◌, ◌≢◌, ℕ, suc, ◌+◌, ◌<◌, ◌≤◌, inl, inr, true, false, eqb, List, [], ◌∷◌, ◌++◌, length, Some, None, sym, ◌∙◌, ap, subst, refl, arith}
use Rattle.std.specs.List.{IsDistinct, AllByRecursion, list_any}
use Rattle.std.proofs.lemmas.Bool.{cases_eq, eqb-true, ne_eqb, or_cases}
use Rattle.std.proofs.lemmas.Option.{none-some, same_Some}
use Rattle.std.proofs.lemmas.Map.Keys.{IsDistinct-cons, IsDistinct-from_apart}
use Rattle.std.proofs.lemmas.Map.Steps.{length-le_from_distinct_below}
use Rattle.itv_base.specs.declared.names.EdgeName.{EdgeName}
use Rattle.event_graph.specs.declared.edge.Edge.{Edge}
use Rattle.event_graph.specs.Edges.{edge}
use Rattle.event_graph.specs.Network.{Net}
use Rattle.diff_bounds.specs.Labels.{IsClimb, IsRooted, Parents}

pub climb-append : (net : Net) (parent : Parents) (v u w : ℕ) (es fs : List EdgeName) → IsClimb net parent v es u → IsClimb net parent u fs w → IsClimb net parent v (es ++ fs) w
climb-append net parent v u w [] fs first second = let P : ℕ → Type 0 = λ x. IsClimb net parent x fs w in subst P (sym first) second
climb-append net parent v u w (name ∷ es) fs first second = (first.0, (first.1.0, first.1.1, climb-append net parent first.1.0.from.0 u w es fs first.1.2 second))

-- one step more
pub climb_more : (net : Net) (parent : Parents) (v u : ℕ) (es : List EdgeName) (name : EdgeName) (e : Edge) → IsClimb net parent v es u → parent u ≡ Some name → edge net name ≡ Some e
    → IsClimb net parent v (es ++ name ∷ []) e.from.0
climb_more net parent v u es name e climb held is = climb-append net parent v u e.from.0 es (name ∷ []) climb (held, (e, is, refl))

-- the same climb, by other parents that agree on it
pub climb_along : (net : Net) (old new : Parents) (v r : ℕ) (es : List EdgeName) → ((u : ℕ) (name : EdgeName) → old u ≡ Some name → new u ≡ Some name) → IsClimb net old v es r → IsClimb net new v es r
climb_along net old new v r [] agrees climb = climb
climb_along net old new v r (name ∷ es) agrees climb = (agrees v name climb.0, (climb.1.0, climb.1.1, climb_along net old new climb.1.0.from.0 r es agrees climb.1.2))

from_same : (e f : Edge) → e ≡ f → e.from.0 ≡ f.from.0
from_same e f same = ap (λ (x : Edge). x.from.0) same

-- the rest of a climb, from the start of the first edge
pub rest_of : (net : Net) (parent : Parents) (v r : ℕ) (name : EdgeName) (e : Edge) (es : List EdgeName) → IsClimb net parent v (name ∷ es) r → edge net name ≡ Some e → IsClimb net parent e.from.0 es r
rest_of net parent v r name e es climb is =
    let P : ℕ → Type 0 = λ x. IsClimb net parent x es r in
    subst P (from_same climb.1.0 e (same_Some climb.1.0 e (sym climb.1.1 ∙ is))) climb.1.2

-- there is one way to the top
pub one_way : (net : Net) (parent : Parents) (v r s : ℕ) (es fs : List EdgeName) → IsClimb net parent v es r → parent r ≡ None → IsClimb net parent v fs s → parent s ≡ None → length es ≡ length fs
one_way net parent v r s [] [] climb top other other_top = refl
one_way net parent v r s [] (name ∷ fs) climb top other other_top = absurd (none-some name (sym top ∙ ap parent (sym climb) ∙ other.0))
one_way net parent v r s (name ∷ es) [] climb top other other_top = absurd (none-some name (sym other_top ∙ ap parent (sym other) ∙ climb.0))
one_way net parent v r s (name ∷ es) (another ∷ fs) climb top other other_top =
    let same : name ≡ another = same_Some name another (sym climb.0 ∙ other.0) in
    let is : edge net name ≡ Some other.1.0 = ap (edge net) same ∙ other.1.1 in
    ap suc (one_way net parent other.1.0.from.0 r s es fs (rest_of net parent v r name other.1.0 es climb is) top other.1.2 other_top)

-- the events on a climb
pub visited : (net : Net) (parent : Parents) (v r : ℕ) (es : List EdgeName) → IsClimb net parent v es r → List ℕ
visited net parent v r [] climb = v ∷ []
visited net parent v r (name ∷ es) climb = v ∷ visited net parent climb.1.0.from.0 r es climb.1.2

length-visited : (net : Net) (parent : Parents) (v r : ℕ) (es : List EdgeName) (p : IsClimb net parent v es r) → length (visited net parent v r es p) ≡ length es + 1
unfolding visited
length-visited net parent v r [] climb = refl
length-visited net parent v r (name ∷ es) climb = let rest = length-visited net parent climb.1.0.from.0 r es climb.1.2 in omega arith

no_less : (a b : ℕ) → a ≡ b → a < b → ⊥
no_less a b same less = omega arith

-- an event with a longer way to the top is not on the climb
apart : (net : Net) (parent : Parents) (v s : ℕ) (fs : List EdgeName) (x r : ℕ) (es : List EdgeName) → IsClimb net parent v fs s → parent s ≡ None → (p : IsClimb net parent x es r) → parent r ≡ None → length es < length fs
    → AllByRecursion (λ y. eqb v y ≡ false) (visited net parent x r es p)
unfolding visited
apart net parent v s fs x r [] way top climb at_top shorter = (
  ne_eqb v x (λ same. let P : ℕ → Type 0 = λ y. IsClimb net parent y fs s in
      no_less 0 (length fs) (one_way net parent x r s [] fs climb at_top (subst P same way) top) shorter),
  tt,
)
apart net parent v s fs x r (name ∷ es) way top climb at_top shorter = (
  ne_eqb v x (λ same. let P : ℕ → Type 0 = λ y. IsClimb net parent y fs s in
      no_less (suc (length es)) (length fs) (one_way net parent x r s (name ∷ es) fs climb at_top (subst P same way) top) shorter),
  apart net parent v s fs climb.1.0.from.0 r es way top climb.1.2 at_top (omega arith),
)

distinct : (net : Net) (parent : Parents) (x r : ℕ) (es : List EdgeName) (p : IsClimb net parent x es r) → parent r ≡ None → IsDistinct eqb (visited net parent x r es p)
unfolding visited
distinct net parent x r [] climb top = IsDistinct-cons eqb x [] tt (IsDistinct-from_apart eqb [] (λ i j d less within. absurd (omega arith)))
distinct net parent x r (name ∷ es) climb top =
    IsDistinct-cons eqb x (visited net parent climb.1.0.from.0 r es climb.1.2)
    (apart net parent x r (name ∷ es) climb.1.0.from.0 r es climb top climb.1.2 top (omega arith)) (distinct net parent climb.1.0.from.0 r es climb.1.2 top)

-- all parents of events below a number start at events below it
abbrev pub StartBelow : Net → Parents → ℕ → Type 0
StartBelow net parent n = (v : ℕ) (name : EdgeName) (e : Edge) → v < n → parent v ≡ Some name → edge net name ≡ Some e → e.from.0 < n

visited_below : (net : Net) (parent : Parents) (n : ℕ) (x r : ℕ) (es : List EdgeName) → StartBelow net parent n → x < n → (p : IsClimb net parent x es r)
    → (q : ℕ) → list_any (eqb q) (visited net parent x r es p) ≡ true → q < n
unfolding visited
visited_below net parent n x r [] below within climb q any =
    elim (or_cases (eqb q x) false any) [ inl here ↦ let same : q ≡ x = eqb-true q x here in omega arith | inr none ↦ absurd (cc none) ]
visited_below net parent n x r (name ∷ es) below within climb q any =
    elim (or_cases (eqb q x) _ any) [
      | inl here ↦ let same : q ≡ x = eqb-true q x here in omega arith
      | inr rest ↦ visited_below net parent n climb.1.0.from.0 r es below (below x name climb.1.0 within climb.0 climb.1.1) climb.1.2 q rest
    ]

-- a climb to the top has fewer edges than there are events
pub top_climb_short : (net : Net) (parent : Parents) (n : ℕ) (x r : ℕ) (es : List EdgeName) → StartBelow net parent n → x < n → IsClimb net parent x es r → parent r ≡ None → length es < n
top_climb_short net parent n x r es below within climb top =
    let most : length (visited net parent x r es climb) ≤ n =
    length-le_from_distinct_below (visited net parent x r es climb) n (distinct net parent x r es climb top) (visited_below net parent n x r es below within climb) in
    omega (arith, length-visited net parent x r es climb)

pub climb_within : (net : Net) (parent : Parents) (n : ℕ) (x r : ℕ) (es : List EdgeName) → StartBelow net parent n → x < n → IsClimb net parent x es r → r < n
climb_within net parent n x r [] below within climb = omega arith
climb_within net parent n x r (name ∷ es) below within climb = climb_within net parent n climb.1.0.from.0 r es below (below x name climb.1.0 within climb.0 climb.1.1) climb.1.2

length-append_le : {X : Type 0} (xs ys : List X) → length xs ≤ length (xs ++ ys)
length-append_le [] ys = omega arith
length-append_le (x ∷ xs) ys = let rest = length-append_le xs ys in omega arith

-- any climb has fewer edges than there are events
pub climb_short : (net : Net) (parent : Parents) (n : ℕ) (x r : ℕ) (es : List EdgeName) → StartBelow net parent n → ((v : ℕ) → v < n → IsRooted net parent v) → x < n → IsClimb net parent x es r → length es < n
climb_short net parent n x r es below rooted within climb =
    let top = rooted r (climb_within net parent n x r es below within climb) in
    let short = top_climb_short net parent n x top.root (es ++ top.way) below within (climb-append net parent x r top.root es top.way climb top.climb) top.top in
    omega (arith, length-append_le es top.way)

-- from an event without a parent no climb leads to another event
pub no_way_on : (net : Net) (parent : Parents) (at target : ℕ) → parent at ≡ None → (at ≡ target → ⊥) → (es : List EdgeName) → IsClimb net parent at es target → ⊥
no_way_on net parent at target top off [] climb = off climb
no_way_on net parent at target top off (name ∷ es) climb = none-some name (sym top ∙ climb.0)

-- a climb to another event continues from the parent
pub way_on : (net : Net) (parent : Parents) (at target : ℕ) (name : EdgeName) (e : Edge) → parent at ≡ Some name → edge net name ≡ Some e → (at ≡ target → ⊥) → (es : List EdgeName) → IsClimb net parent at es target
    → (fs : List EdgeName) × IsClimb net parent e.from.0 fs target × (es ≡ name ∷ fs)
way_on net parent at target name e held is off [] climb = absurd (off climb)
way_on net parent at target name e held is off (other ∷ es) climb =
    let same : other ≡ name = same_Some other name (sym climb.0 ∙ held) in
    (es, rest_of net parent at target other e es climb (ap (edge net) same ∙ is), ap (λ (n : EdgeName). n ∷ es) same)

-- ---- after one parent has changed

-- the parents are as they were, except for one event
pub record ChangesAt (old new : Parents) (v : ℕ) (name : EdgeName) : Type 0 where
  pub here : new v ≡ Some name
  pub others : (u : ℕ) → u ≢ v → new u ≡ old u

-- a climb that does not meet v is as before
climb_kept : (net : Net) (old new : Parents) (v : ℕ) (name : EdgeName) → ChangesAt old new v name → (x r : ℕ) (es : List EdgeName) → ((fs : List EdgeName) → IsClimb net old x fs v → ⊥) → IsClimb net old x es r → IsClimb net new x es r
climb_kept net old new v name changes x r [] off climb = climb
climb_kept net old new v name changes x r (first ∷ es) off climb = (
  changes.others x (λ same. off [] same) ∙ climb.0,
  (
    climb.1.0,
    climb.1.1,
    climb_kept net old new v name changes climb.1.0.from.0 r es (λ fs on. off (first ∷ fs) (climb.0, (climb.1.0, climb.1.1, on))) climb.1.2,
  ),
)

-- the top of a climb that does not meet v is as before
top_kept : (net : Net) (old new : Parents) (v : ℕ) (name : EdgeName) → ChangesAt old new v name → (x r : ℕ) (es : List EdgeName) → ((fs : List EdgeName) → IsClimb net old x fs v → ⊥) → IsClimb net old x es r → old r ≡ None → new r ≡ None
top_kept net old new v name changes x r es off climb top =
    changes.others r (λ same. let P : ℕ → Type 0 = λ y. IsClimb net old x es y in off es (subst P same climb)) ∙ top

-- v has the edge as its parent, so v is rooted where the start of the edge is, if the climb from there does not meet v
rooted_at : (net : Net) (old new : Parents) (v : ℕ) (name : EdgeName) (e : Edge) → ChangesAt old new v name → edge net name ≡ Some e → IsRooted net old e.from.0 → ((fs : List EdgeName) → IsClimb net old e.from.0 fs v → ⊥) → IsRooted net new v
rooted_at net old new v name e changes is rooted off = record {
  root = rooted.root;
  way = name ∷ rooted.way;
  climb = (changes.here, (e, is, climb_kept net old new v name changes e.from.0 rooted.root rooted.way off rooted.climb));
  top = top_kept net old new v name changes e.from.0 rooted.root rooted.way off rooted.climb rooted.top;
}

rooted_more : (net : Net) (parent : Parents) (x : ℕ) (name : EdgeName) (e : Edge) → parent x ≡ Some name → edge net name ≡ Some e → IsRooted net parent e.from.0 → IsRooted net parent x
rooted_more net parent x name e held is rooted = record { root = rooted.root; way = name ∷ rooted.way; climb = (held, (e, is, rooted.climb)); top = rooted.top }

-- each climb still ends, at its old top or through v
rooted_kept : (net : Net) (old new : Parents) (v : ℕ) (name : EdgeName) → ChangesAt old new v name → IsRooted net new v → (x r : ℕ) (es : List EdgeName) → IsClimb net old x es r → old r ≡ None → IsRooted net new x
rooted_kept net old new v name changes rooted x r [] climb top =
    elim (cases_eq x v) [
      | inl same ↦ let P : ℕ → Type 0 = λ y. IsRooted net new y in subst P (sym same) rooted
      | inr off ↦ record { root = x; way = []; climb = refl; top = changes.others x off ∙ ap old climb ∙ top }
    ]
rooted_kept net old new v name changes rooted x r (first ∷ es) climb top =
    let rest = rooted_kept net old new v name changes rooted climb.1.0.from.0 r es climb.1.2 top in
    elim (cases_eq x v) [
      | inl same ↦ let P : ℕ → Type 0 = λ y. IsRooted net new y in subst P (sym same) rooted
      | inr off ↦ rooted_more net new x first climb.1.0 (changes.others x off ∙ climb.0) climb.1.1 rest
    ]

-- all climbs still end
pub all_rooted : (net : Net) (old new : Parents) (v : ℕ) (name : EdgeName) (e : Edge) (n : ℕ) → ChangesAt old new v name → edge net name ≡ Some e → ((x : ℕ) → x < n → IsRooted net old x) → e.from.0 < n
    → ((fs : List EdgeName) → IsClimb net old e.from.0 fs v → ⊥) → (x : ℕ) → x < n → IsRooted net new x
all_rooted net old new v name e n changes is rooted within off x below =
    let here = rooted_at net old new v name e changes is (rooted e.from.0 within) off in
    let was = rooted x below in
    rooted_kept net old new v name changes here x was.root was.way was.climb was.top
