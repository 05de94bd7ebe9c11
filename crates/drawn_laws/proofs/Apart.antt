-- Lists in which no element occurs twice.
use Rattle.std.proofs.Common.{◌≡◌, ◌<◌, ℕ, zero, suc, Bool, true, false, List, [], ◌∷◌, ◌++◌, length, map, get_or, None, refl, sym, ap, ◌∙◌, arith}
use Rattle.std.specs.List.{list_any}
use Rattle.itv_base.specs.Names.{Name}
use Rattle.itv_base.proofs.Bools.{both_false}
use Rattle.sheet.specs.SheetContents.{SheetView}
use Rattle.sheet.specs.Lanes.{first_repeated}
use Rattle.sheet.specs.declared.mark.Mark.{Mark}
use Rattle.sheet.proofs.WholeSheets.{cond_none}
use Rattle.unroll.specs.Cycles.{in_cycles}
use Rattle.unroll.specs.Drawn.{names_in}

-- an element is not in a list
abbrev pub IsOther : {X : Type 0} → X → List X → Type 0
IsOther x [] = Unit {0}
IsOther x (y ∷ ys) = (x ≡ y → ⊥) × IsOther x ys

-- no element of a list is in the other
abbrev pub AllOther : {X : Type 0} → List X → List X → Type 0
AllOther [] ys = Unit {0}
AllOther (x ∷ xs) ys = IsOther x ys × AllOther xs ys

-- no element occurs twice in a list
abbrev pub AreApart : {X : Type 0} → List X → Type 0
AreApart [] = Unit {0}
AreApart (x ∷ xs) = IsOther x xs × AreApart xs

abbrev pub Every : {X : Type 0} → (X → Type 0) → List X → Type 0
Every P [] = Unit {0}
Every P (x ∷ xs) = P x × Every P xs

other_append : {X : Type 0} (x : X) (xs ys : List X) → IsOther x xs → IsOther x ys → IsOther x (xs ++ ys)
other_append x [] ys h g = g
other_append x (y ∷ xs) ys h g = (h.0, other_append x xs ys h.1 g)

pub apart_append : {X : Type 0} (xs ys : List X) → AreApart xs → AreApart ys → AllOther xs ys → AreApart (xs ++ ys)
apart_append [] ys h g o = g
apart_append (x ∷ xs) ys h g o = (other_append x xs ys h.0 o.0, apart_append xs ys h.1 g o.1)

pub every_append : {X : Type 0} (P : X → Type 0) (xs ys : List X) → Every P xs → Every P ys → Every P (xs ++ ys)
every_append P [] ys h g = g
every_append P (x ∷ xs) ys h g = (h.0, every_append P xs ys h.1 g)

pub every_weaker : {X : Type 0} (P Q : X → Type 0) (xs : List X) → ((x : X) → P x → Q x) → Every P xs → Every Q xs
every_weaker P Q [] f h = tt
every_weaker P Q (x ∷ xs) f h = (f x h.0, every_weaker P Q xs f h.1)

-- the same facts by places
at_other : {X : Type 0} (x : X) (xs : List X) (j : ℕ) (d : X) → IsOther x xs → j < length xs → x ≡ get_or xs j d → ⊥
at_other x [] j d h within e = absurd (omega arith)
at_other x (y ∷ ys) zero d h within e = h.0 e
at_other x (y ∷ ys) (suc j) d h within e = at_other x ys j d h.1 (omega arith) e

pub apart_at : {X : Type 0} (xs : List X) (i j : ℕ) (d : X) → AreApart xs → i < j → j < length xs → get_or xs i d ≡ get_or xs j d → ⊥
apart_at [] i j d h less within e = absurd (omega arith)
apart_at (x ∷ xs) i zero d h less within e = absurd (omega arith)
apart_at (x ∷ xs) zero (suc j) d h less within e = at_other x xs j d h.0 (omega arith) e
apart_at (x ∷ xs) (suc i) (suc j) d h less within e = apart_at xs i j d h.1 (omega arith) (omega arith) e

-- ---- what was searched for and not found

not_same : {K : Type 0} (same : K → K → Bool) → ((a b : K) → a ≡ b → same a b ≡ true) → (a b : K) → same a b ≡ false → a ≡ b → ⊥
not_same same self a b is e = cc (is, self a b e)

-- no element meets the test
pub none_met : {X : Type 0} (test : X → Bool) (x : X) (xs : List X) → list_any test (x ∷ xs) ≡ false → (test x ≡ false) × (list_any test xs ≡ false)
none_met test x xs e = both_false (test x) (list_any test xs) e

other_than : {K : Type 0} (same : K → K → Bool) (self : (a b : K) → a ≡ b → same a b ≡ true) (k : K) (before : List K) → list_any (same k) before ≡ false → IsOther k before
other_than same self k [] e = tt
other_than same self k (b ∷ before) e = let p = none_met (same k) b before e in (not_same same self k b p.0, other_than same self k before p.1)

split_one : {K : Type 0} (x k : K) (before : List K) → IsOther x (before ++ k ∷ []) → IsOther x before × (k ≡ x → ⊥)
split_one x k [] h = (tt, λ e. h.0 (sym e))
split_one x k (b ∷ before) h = let p = split_one x k before h.1 in ((h.0, p.0), p.1)

split_other : {K : Type 0} (ks before : List K) (k : K) → AllOther ks (before ++ k ∷ []) → AllOther ks before × IsOther k ks
split_other [] before k h = (tt, tt)
split_other (x ∷ ks) before k h =
    let p = split_one x k before h.0 in
    let q = split_other ks before k h.1 in
    ((p.0, q.0), (p.1, q.1))

module _ {X K : Type 0} (same : K → K → Bool) (key : X → K) (self : (a b : K) → a ≡ b → same a b ≡ true) where
  fresh : (before : List K) (xs : List X) → first_repeated same key before xs ≡ None → AllOther (map key xs) before × AreApart (map key xs)
  fresh before [] e = (tt, tt)
  fresh before (x ∷ xs) e =
      let p = cond_none (list_any (same (key x)) before) x (first_repeated same key (before ++ key x ∷ []) xs) e in
      let rest = fresh (before ++ key x ∷ []) xs p.1 in
      let q = split_other (map key xs) before (key x) rest.0 in
      ((other_than same self (key x) before p.0, q.0), (q.1, rest.1))

  -- where no key is repeated, the keys are apart
  pub keys_apart : (xs : List X) → first_repeated same key [] xs ≡ None → AreApart (map key xs)
  keys_apart xs e = (fresh [] xs e).1

-- ---- names

abbrev pub mark_names : SheetView → List ℕ
mark_names sheet = map (λ (mark : Mark). mark.name) sheet.marks

abbrev pub MarksApart : SheetView → Type 0
MarksApart sheet = AreApart (mark_names sheet)

abbrev named : List ℕ → ℕ → Mark → Name
named part cycle mark = record { part = part; mark = mark.name; cycle = cycle }

other_marks : (part : List ℕ) (cycle : ℕ) (mark : Mark) (marks : List Mark) → IsOther mark.name (map (λ (m : Mark). m.name) marks) → IsOther (named part cycle mark) (map (named part cycle) marks)
other_marks part cycle mark [] h = tt
other_marks part cycle mark (m ∷ marks) h = (λ e. h.0 (ap (λ (n : Name). n.mark) e), other_marks part cycle mark marks h.1)

marks_apart : (part : List ℕ) (cycle : ℕ) (marks : List Mark) → AreApart (map (λ (m : Mark). m.name) marks) → AreApart (map (named part cycle) marks)
marks_apart part cycle [] h = tt
marks_apart part cycle (m ∷ marks) h = (other_marks part cycle m marks h.0, marks_apart part cycle marks h.1)

other_part : (part p : List ℕ) (cycle : ℕ) (name : Name) (marks : List Mark) → name.part ≡ part → (part ≡ p → ⊥) → IsOther name (map (named p cycle) marks)
other_part part p cycle name [] is other = tt
other_part part p cycle name (m ∷ marks) is other = (λ e. other (sym is ∙ ap (λ (n : Name). n.part) e), other_part part p cycle name marks is other)

other_parts : (part : List ℕ) (parts : List (List ℕ)) (sheets : List SheetView) (cycle : ℕ) (name : Name) → name.part ≡ part → IsOther part parts → IsOther name (names_in parts sheets cycle)
other_parts part [] sheets cycle name is h = tt
other_parts part (p ∷ parts) [] cycle name is h = tt
other_parts part (p ∷ parts) (sheet ∷ sheets) cycle name is h =
    other_append name (map (named p cycle) sheet.marks) (names_in parts sheets cycle) (other_part part p cycle name sheet.marks is h.0) (other_parts part parts sheets cycle name is h.1)

all_other_parts : (part : List ℕ) (parts : List (List ℕ)) (sheets : List SheetView) (cycle : ℕ) (marks : List Mark) → IsOther part parts → AllOther (map (named part cycle) marks) (names_in parts sheets cycle)
all_other_parts part parts sheets cycle [] h = tt
all_other_parts part parts sheets cycle (m ∷ marks) h = (other_parts part parts sheets cycle (named part cycle m) refl h, all_other_parts part parts sheets cycle marks h)

names_apart : (parts : List (List ℕ)) (sheets : List SheetView) (cycle : ℕ) → AreApart parts → Every MarksApart sheets → AreApart (names_in parts sheets cycle)
names_apart [] sheets cycle h g = tt
names_apart (part ∷ parts) [] cycle h g = tt
names_apart (part ∷ parts) (sheet ∷ sheets) cycle h g =
    apart_append (map (named part cycle) sheet.marks) (names_in parts sheets cycle) (marks_apart part cycle sheet.marks g.0) (names_apart parts sheets cycle h.1 g.1)
    (all_other_parts part parts sheets cycle sheet.marks h.0)

-- ---- cycles

marks_in : (part : List ℕ) (cycle : ℕ) (marks : List Mark) → Every (λ (n : Name). n.cycle ≡ cycle) (map (named part cycle) marks)
marks_in part cycle [] = tt
marks_in part cycle (m ∷ marks) = (refl, marks_in part cycle marks)

in_cycle : (parts : List (List ℕ)) (sheets : List SheetView) (cycle : ℕ) → Every (λ (n : Name). n.cycle ≡ cycle) (names_in parts sheets cycle)
in_cycle [] sheets cycle = tt
in_cycle (part ∷ parts) [] cycle = tt
in_cycle (part ∷ parts) (sheet ∷ sheets) cycle =
    every_append (λ (n : Name). n.cycle ≡ cycle) (map (named part cycle) sheet.marks) (names_in parts sheets cycle) (marks_in part cycle sheet.marks) (in_cycle parts sheets cycle)

before_cycle : (parts : List (List ℕ)) (sheets : List SheetView) (n : ℕ) → Every (λ (name : Name). name.cycle < n) (in_cycles (names_in parts sheets) n)
before_cycle parts sheets zero = tt
before_cycle parts sheets (suc n) =
    every_append (λ (name : Name). name.cycle < suc n) (in_cycles (names_in parts sheets) n) (names_in parts sheets n)
    (every_weaker (λ (name : Name). name.cycle < n) (λ (name : Name). name.cycle < suc n) (in_cycles (names_in parts sheets) n) (λ name less. omega (arith, less)) (before_cycle parts sheets n))
    (every_weaker (λ (name : Name). name.cycle ≡ n) (λ (name : Name). name.cycle < suc n) (names_in parts sheets n) (λ name is. omega (arith, is)) (in_cycle parts sheets n))

other_cycle : (n : ℕ) (name : Name) (others : List Name) → name.cycle < n → Every (λ (o : Name). o.cycle ≡ n) others → IsOther name others
other_cycle n name [] less h = tt
other_cycle n name (o ∷ others) less h = (λ e. not_both (ap (λ (x : Name). x.cycle) e) h.0, other_cycle n name others less h.1) where
  not_both : name.cycle ≡ o.cycle → o.cycle ≡ n → ⊥
  not_both e is = omega (arith, less, e, is)

all_other_cycle : (n : ℕ) (names others : List Name) → Every (λ (name : Name). name.cycle < n) names → Every (λ (o : Name). o.cycle ≡ n) others → AllOther names others
all_other_cycle n [] others h g = tt
all_other_cycle n (name ∷ names) others h g = (other_cycle n name others h.0 g, all_other_cycle n names others h.1 g)

-- no name occurs twice in all cycles
pub cycles_apart : (parts : List (List ℕ)) (sheets : List SheetView) (n : ℕ) → AreApart parts → Every MarksApart sheets → AreApart (in_cycles (names_in parts sheets) n)
cycles_apart parts sheets zero h g = tt
cycles_apart parts sheets (suc n) h g =
    apart_append (in_cycles (names_in parts sheets) n) (names_in parts sheets n) (cycles_apart parts sheets n h g) (names_apart parts sheets n h g)
    (all_other_cycle n (in_cycles (names_in parts sheets) n) (names_in parts sheets n) (before_cycle parts sheets n) (in_cycle parts sheets n))
