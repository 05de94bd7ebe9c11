-- The first elements of which something holds, and tables of the first leads into marks.
use Rattle.std.proofs.Common.{◌≡◌, ℕ, ◌+◌, ◌<◌, Bool, true, false, not, ◌&&◌, ◌||◌, cond, List, [], ◌∷◌, ◌++◌, length, take, get_or, Option, Some, None, find, is_some, refl, ap, sym, ◌∙◌, inl, inr, true≢false, eq-eqb, eqb-true, ne_eqb}
use Rattle.std.specs.Prelude.{◌==◌}
use Rattle.std.specs.List.{list_any}
use Rattle.std.specs.Option.{option_or}
use Rattle.std.proofs.lemmas.Bool.{and_from, and_parts, and_right, cases_eq}
use Rattle.std.proofs.lemmas.List.{take_more}
use Rattle.std.proofs.lemmas.List.Folds.{find-append}
use Rattle.std.proofs.lemmas.Option.{same_Some}
use Rattle.compose.specs.declared.mark.DesignMark.{DesignMark}
use Rattle.lint.specs.declared.lead.Lead.{Lead}
use Rattle.lint.specs.Leads.{is_at, leads_into, mark_on}
use Rattle.lint.specs.Step.{given_at}

-- ---- first elements

-- one more element
pub first_more : {X : Type 0} (p : X → Bool) (xs : List X) (n : ℕ) (x : X) (before after : Option X) → n < length xs → x ≡ get_or xs n x → before ≡ find p (take n xs)
    → after ≡ option_or before (cond (p x) (Some x) None) → after ≡ find p (take (n + 1) xs)
first_more p xs n x before after within is held grown =
    grown ∙ ap (λ found. option_or found (cond (p x) (Some x) None)) held ∙ sym (find-append p (take n xs) (x ∷ []))
    ∙ ap (find p) (sym (take_more xs n x within ∙ ap (λ y. take n xs ++ y ∷ []) (sym is)))

some_by : {X : Type 0} (b : Bool) (x : X) (found : Option X) (any : Bool) → is_some found ≡ any → is_some (cond b (Some x) found) ≡ (b || any)
some_by true x found any is = refl
some_by false x found any is = is

pub some_any : {X : Type 0} (p : X → Bool) (xs : List X) → is_some (find p xs) ≡ list_any p xs
some_any p [] = refl
some_any p (x ∷ xs) = some_by (p x) x (find p xs) (list_any p xs) (some_any p xs)

pub any_same : {X : Type 0} (p q : X → Bool) → ((x : X) → p x ≡ q x) → (xs : List X) → list_any p xs ≡ list_any q xs
any_same p q same [] = refl
any_same p q same (x ∷ xs) = ap (λ b. b || list_any p xs) (same x) ∙ ap (λ b. q x || b) (any_same p q same xs)

pub or_none : {X : Type 0} (found : Option X) → option_or found None ≡ found
or_none None = refl
or_none (Some x) = refl

some_or : {X : Type 0} (found other : Option X) → is_some found ≡ true → found ≡ option_or found other
some_or None other is = absurd (true≢false (sym is))
some_or (Some x) other is = refl

pub none_is : {X : Type 0} (found : Option X) → is_some found ≡ false → found ≡ None
none_is None is = refl
none_is (Some x) is = absurd (true≢false is)

weaker_by : {X : Type 0} (b c : Bool) (x : X) (found others : Option X) → (c ≡ true → b ≡ true) → (found ≡ None → others ≡ None) → cond b (Some x) found ≡ None → cond c (Some x) others ≡ None
weaker_by true c x found others weaker rest is = absurd (cc is)
weaker_by false true x found others weaker rest is = absurd (true≢false (sym (weaker refl)))
weaker_by false false x found others weaker rest is = rest is

-- where no element meets a test, none meets a stronger one
pub find_weaker : {X : Type 0} (p q : X → Bool) → ((x : X) → q x ≡ true → p x ≡ true) → (xs : List X) → find p xs ≡ None → find q xs ≡ None
find_weaker p q weaker [] is = refl
find_weaker p q weaker (x ∷ xs) is = weaker_by (p x) (q x) x (find p xs) (find q xs) (weaker x) (find_weaker p q weaker xs) is

still_by : {X : Type 0} (b c : Bool) (x first : X) (found others : Option X) → (c ≡ true → b ≡ true) → (x ≡ first → c ≡ true) → (found ≡ Some first → others ≡ Some first) → cond b (Some x) found ≡ Some first
    → cond c (Some x) others ≡ Some first
still_by true true x first found others weaker holds rest is = is
still_by true false x first found others weaker holds rest is = absurd (true≢false (sym (holds (same_Some x first is))))
still_by false true x first found others weaker holds rest is = absurd (true≢false (sym (weaker refl)))
still_by false false x first found others weaker holds rest is = rest is

-- the first element that meets a test is the first that meets a stronger one, if it meets that
pub find_still : {X : Type 0} (p q : X → Bool) → ((x : X) → q x ≡ true → p x ≡ true) → (xs : List X) (first : X) → q first ≡ true → find p xs ≡ Some first → find q xs ≡ Some first
find_still p q weaker [] first holds is = absurd (cc is)
find_still p q weaker (x ∷ xs) first holds is =
    still_by (p x) (q x) x first (find p xs) (find q xs) (weaker x) (λ same. ap q same ∙ holds) (find_still p q weaker xs first holds) is

holds_by : {X : Type 0} (p : X → Bool) (x first : X) (found : Option X) (b : Bool) → p x ≡ b → (found ≡ Some first → p first ≡ true) → cond b (Some x) found ≡ Some first → p first ≡ true
holds_by p x first found true at rest is = ap p (sym (same_Some x first is)) ∙ at
holds_by p x first found false at rest is = rest is

pub find_holds : {X : Type 0} (p : X → Bool) (xs : List X) (first : X) → find p xs ≡ Some first → p first ≡ true
find_holds p [] first is = absurd (cc is)
find_holds p (x ∷ xs) first is = holds_by p x first (find p xs) (p x) refl (find_holds p xs first) is

pub find_none : {X : Type 0} (p : X → Bool) → ((x : X) → p x ≡ false) → (xs : List X) → find p xs ≡ None
find_none p none [] = refl
find_none p none (x ∷ xs) = ap (λ b. cond b (Some x) (find p xs)) (none x) ∙ find_none p none xs

-- ---- tests

pub and_true : (b : Bool) → (b && true) ≡ b
and_true true = refl
and_true false = refl

pub eqb_same : (n : ℕ) → (n == n) ≡ true
eqb_same n = eq-eqb n n refl

pub eqb_sym : (a b : ℕ) → (a == b) ≡ (b == a)
eqb_sym a b = elim (cases_eq a b) [
  | inl same ↦ eq-eqb a b same ∙ sym (eq-eqb b a (sym same))
  | inr apart ↦ ne_eqb a b apart ∙ sym (ne_eqb b a (λ e. apart (sym e)))
]

-- ---- marks

pub at_same : (mark : DesignMark) → is_at mark mark ≡ true
at_same mark = and_from (mark.part == mark.part) (mark.mark == mark.mark) (eqb_same mark.part) (eqb_same mark.mark)

pub mark_same : (a b : DesignMark) → is_at a b ≡ true → a ≡ b
mark_same a b is =
    let both = and_parts (a.part == b.part) (a.mark == b.mark) is in
    ap (λ part. mark_on part a.mark) (eqb-true a.part b.part both.0) ∙ ap (mark_on b.part) (eqb-true a.mark b.mark both.1)

-- ---- a lead that is noted

module _ (old : DesignMark → Option Lead) (lead : Lead) (mark : DesignMark) (given : Bool) where
  -- it is not given
  pub note_none : given ≡ false → old mark ≡ option_or (old mark) (given_at mark given lead)
  note_none not_given = sym (ap (λ b. option_or (old mark) (cond b (Some lead) None)) (and_right (leads_into mark lead) given not_given) ∙ or_none (old mark))

  known_by : (into : Bool) → is_at lead.to mark ≡ into → is_some (old lead.to) ≡ true → old mark ≡ option_or (old mark) (cond (into && given) (Some lead) None)
  known_by true into known = some_or (old mark) (cond given (Some lead) None) (ap (λ m. is_some (old m)) (sym (mark_same lead.to mark into)) ∙ known)
  known_by false into known = sym (or_none (old mark))

  -- its mark has a lead
  pub note_known : is_some (old lead.to) ≡ true → old mark ≡ option_or (old mark) (given_at mark given lead)
  note_known known = known_by (is_at lead.to mark) refl known

  fresh_by : (now : Option Lead) (into : Bool) → is_at lead.to mark ≡ into → is_some (old lead.to) ≡ false → now ≡ cond into (Some lead) (old mark)
      → now ≡ option_or (old mark) (cond (into && true) (Some lead) None)
  fresh_by now true into fresh grown =
      grown ∙ ap (λ found. option_or found (Some lead)) (sym (none_is (old mark) (ap (λ m. is_some (old m)) (sym (mark_same lead.to mark into)) ∙ fresh)))
  fresh_by now false into fresh grown = grown ∙ sym (or_none (old mark))

  -- its mark has none
  pub note_fresh : (now : Option Lead) → given ≡ true → is_some (old lead.to) ≡ false → now ≡ cond (is_at lead.to mark) (Some lead) (old mark)
      → now ≡ option_or (old mark) (given_at mark given lead)
  note_fresh now is_given fresh grown =
      fresh_by now (is_at lead.to mark) refl fresh grown ∙ ap (λ b. option_or (old mark) (cond (leads_into mark lead && b) (Some lead) None)) (sym is_given)
