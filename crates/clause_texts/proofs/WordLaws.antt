-- A word of a line of a proof is read from its text, and from no other.
use Rattle.std.proofs.Common.{◌≡◌, ◌^◌, ◌-◌, ◌<◌, ℕ, true, ◌∷◌, ◌++◌, codes, Option, Some, option_map, refl, ap, subst, ◌∙◌}
use Rattle.std.specs.List.{take_while}
use Rattle.std.specs.Char.{is_ascii_digit}
use Rattle.std.proofs.lemmas.Option.{same_Some}
use Rattle.itv_base.specs.Cuts.{after_while, stripped}
use Rattle.itv_base.specs.Numerals.{number_text, signed_text}
use Rattle.itv_base.proofs.Cuts.{stripped-append, stripped_some}
use Rattle.itv_base.proofs.Numerals.{digits-text}
use Rattle.itv_base.proofs.Runs.{front_of_run, rest_of_run, run_whole, stops}
use Rattle.itv_base.proofs.Options.{mapped_some}
use Rattle.line_words.specs.Words.{◌>>=◌, Word, or_else}
use Rattle.line_words.specs.Numbers.{long_in}
use Rattle.line_words.proofs.Inverts.{Inverts, bind_some, or_cases_some}
use Rattle.line_words.proofs.NumberLaws.{long_inverts, number_inverts}
use Rattle.line_words.proofs.Plain.{is_plain, number_plain, plain_append, signed_plain}
use Rattle.certificate.specs.Reading.{edge_in}
use Rattle.certificate.proofs.LineLaws.{edge_inverts, below_from, edge_plain, to_below}
use Rattle.event_graph.specs.declared.edge.Edge.{Edge}
use Rattle.edge_clauses.specs.declared.basis.Basis.{Basis}
use Rattle.edge_clauses.specs.declared.basis.Basis.TheVariants.{ByEdge, Either, ByChoice, ByKept}
use Rattle.edge_clauses.specs.declared.basis.WalkStep.{WalkStep}
use Rattle.clause_texts.specs.Step.Reading.{basis_in, difference_in, either_in, lettered_in, number_before, short_in, step_in, target_in, through_in, weight_in}
use Rattle.clause_texts.specs.Text.{IsBasisName, IsDifference, IsStepName, basis_word, difference_word, step_word}

-- ---- numbers

pub short_inverts : Inverts short_in number_text (λ n. n < 2 ^ 32)
short_inverts =
    let i = number_inverts (2 ^ 32 - 1) in record {
      takes = λ word n e. let t = i.takes word n e in (t.0, below_from n t.1);
      again = λ n h. i.again n (to_below n h);
    }

-- numbers after a letter
lettered_inverts : (letter : Word) → Inverts (lettered_in letter) (λ n. letter ++ number_text n) (λ n. n < 2 ^ 32)
lettered_inverts letter = record {
  takes = λ word n e.
      let b = bind_some (stripped letter word) short_in n e in
      let t = short_inverts.takes b.0 n b.2 in
      (stripped_some letter word b.0 b.1 ∙ ap (λ x. letter ++ x) t.0, t.1);
  again = λ n h. rw (stripped-append letter (number_text n)) (short_inverts.again n h);
}

-- ---- a number, a mark and what is after it

record Numbered {A : Type 0} (mark : Word) (read : ℕ → Word → Option A) (word : Word) (x : A) : Type 0 where
  number : ℕ
  rest : Word
  whole : word ≡ number_text number ++ (mark ++ rest)
  small : number < 2 ^ 32
  reads : read number rest ≡ Some x

numbered_takes : {A : Type 0} (mark : Word) (read : ℕ → Word → Option A) (word : Word) (x : A) → number_before mark read word ≡ Some x → Numbered mark read word x
numbered_takes mark read word x e =
    let digits = take_while is_ascii_digit word in
    let behind = after_while is_ascii_digit word in
    let a = bind_some (short_in digits) (λ number. stripped mark behind >>= λ rest. read number rest) x e in
    let b = bind_some (stripped mark behind) (λ rest. read a.0 rest) x a.2 in
    let first = short_inverts.takes digits a.0 a.1 in record {
      number = a.0;
      rest = b.0;
      whole = run_whole is_ascii_digit word ∙ ap (λ text. text ++ behind) first.0 ∙ ap (λ text. number_text a.0 ++ text) (stripped_some mark behind b.0 b.1);
      small = first.1;
      reads = b.2;
    }

numbered_again : {A : Type 0} (mark : Word) (read : ℕ → Word → Option A) (number : ℕ) (rest : Word) → number < 2 ^ 32 → stops is_ascii_digit (mark ++ rest) ≡ true
    → number_before mark read (number_text number ++ (mark ++ rest)) ≡ read number rest
numbered_again mark read number rest small ends =
    let front = front_of_run is_ascii_digit (number_text number) (mark ++ rest) (digits-text number) ends in
    let behind = rest_of_run is_ascii_digit (number_text number) (mark ++ rest) (digits-text number) ends in
    rw (front, behind, short_inverts.again number small) (rw (stripped-append mark rest) refl)

-- ---- edges between events

abbrev TakenDifference : Word → Edge → Type 0
TakenDifference word e = (word ≡ difference_word e) × IsDifference e

difference_takes : (word : Word) (e : Edge) → difference_in word ≡ Some e → TakenDifference word e
unfolding difference_in
difference_takes word e h =
    let first = numbered_takes (codes ">") target_in word e h in
    let second = numbered_takes (codes ":") (weight_in first.number) first.rest e first.reads in
    let w =
    bind_some (long_in second.rest) (λ weight. Some (record { from = record { 0 = first.number }; to = record { 0 = second.number }; weight = weight })) e second.reads in
    let third = long_inverts.takes second.rest w.0 w.1 in
    let text : word ≡ number_text first.number ++ (62 ∷ (number_text second.number ++ (58 ∷ signed_text w.0))) =
    first.whole ∙ ap (λ rest. number_text first.number ++ (62 ∷ rest)) (second.whole ∙ ap (λ rest. number_text second.number ++ (58 ∷ rest)) third.0) in
    subst (TakenDifference word) (same_Some (record { from = record { 0 = first.number }; to = record { 0 = second.number }; weight = w.0 }) e w.2)
    (text, (first.small, second.small, third.1))

difference_again : (e : Edge) → IsDifference e → difference_in (difference_word e) ≡ Some e
unfolding difference_in
difference_again e form =
    numbered_again (codes ">") target_in e.from.0 (number_text e.to.0 ++ (58 ∷ signed_text e.weight)) form.0 refl
    ∙ (numbered_again (codes ":") (weight_in e.from.0) e.to.0 (signed_text e.weight) form.1 refl ∙ rw (long_inverts.again e.weight form.2) refl)

pub difference_inverts : Inverts difference_in difference_word IsDifference
difference_inverts = record { takes = difference_takes; again = difference_again }

either_takes : (word : Word) (e : Edge) → either_in word ≡ Some e → (word ≡ 69 ∷ difference_word e) × IsDifference e
either_takes word e h =
    let b = bind_some (stripped (codes "E") word) difference_in e h in
    let t = difference_inverts.takes b.0 e b.2 in
    (stripped_some (codes "E") word b.0 b.1 ∙ ap (λ x. 69 ∷ x) t.0, t.1)

-- ---- where clauses come from

-- what was read: in one way, or in another
pub one_of : {A B : Type 0} (f : B → A) (o : Option B) (other : Option A) (x : A) (P : A → Type 0) → or_else (option_map f o) other ≡ Some x
    → ((y : B) → o ≡ Some y → P (f y)) → (other ≡ Some x → P x) → P x
one_of f o other x P e here there =
    or_cases_some (option_map f o) other x (P x) e (λ h. let m = mapped_some f o x h in subst P m.2 (here m.0 m.1)) there

abbrev TakenBasis : Word → Basis → Type 0
TakenBasis word basis = (word ≡ basis_word basis) × IsBasisName basis

kept_takes : (word : Word) (basis : Basis) → option_map ByKept (lettered_in (codes "K") word) ≡ Some basis → TakenBasis word basis
kept_takes word basis e =
    let m = mapped_some ByKept (lettered_in (codes "K") word) basis e in
    subst (TakenBasis word) m.2 ((lettered_inverts (codes "K")).takes word m.0 m.1)

choice_takes : (word : Word) (basis : Basis) → or_else (option_map ByChoice (lettered_in (codes "C") word)) (option_map ByKept (lettered_in (codes "K") word)) ≡ Some basis
    → TakenBasis word basis
choice_takes word basis e =
    one_of ByChoice (lettered_in (codes "C") word) (option_map ByKept (lettered_in (codes "K") word)) basis (TakenBasis word) e
    (λ n h. (lettered_inverts (codes "C")).takes word n h) (kept_takes word basis)

basis_takes : (word : Word) (basis : Basis) → basis_in word ≡ Some basis → TakenBasis word basis
unfolding basis_in
basis_takes word basis e =
    let letters = or_else (option_map ByChoice (lettered_in (codes "C") word)) (option_map ByKept (lettered_in (codes "K") word)) in
    one_of ByEdge (edge_in word) (or_else (option_map Either (either_in word)) letters) basis (TakenBasis word) e
    (λ edge h. edge_inverts.takes word edge h)
    (λ others. one_of Either (either_in word) letters basis (TakenBasis word) others
    (λ difference h. either_takes word difference h) (choice_takes word basis))

-- a letter begins no name of an edge
either_again : (e : Edge) → IsDifference e → basis_in (69 ∷ difference_word e) ≡ Some (Either e)
unfolding basis_in edge_in
either_again e form = rw (difference_inverts.again e form) refl

choice_again : (n : ℕ) → n < 2 ^ 32 → basis_in (67 ∷ number_text n) ≡ Some (ByChoice n)
unfolding basis_in edge_in
choice_again n h = rw (short_inverts.again n h) refl

kept_again : (n : ℕ) → n < 2 ^ 32 → basis_in (75 ∷ number_text n) ≡ Some (ByKept n)
unfolding basis_in edge_in
kept_again n h = rw (short_inverts.again n h) refl

basis_again : (basis : Basis) → IsBasisName basis → basis_in (basis_word basis) ≡ Some basis
unfolding basis_in
basis_again (ByEdge edge) form = rw (edge_inverts.again edge form) refl
basis_again (Either e) form = either_again e form
basis_again (ByChoice constraint) form = choice_again constraint form
basis_again (ByKept clause) form = kept_again clause form

pub basis_inverts : Inverts basis_in basis_word IsBasisName
basis_inverts = record { takes = basis_takes; again = basis_again }

-- ---- steps

step_takes : (word : Word) (step : WalkStep) → step_in word ≡ Some step → (word ≡ step_word step) × IsStepName step
unfolding step_in
step_takes word step e =
    let place = numbered_takes (codes "/") through_in word step e in
    let b = bind_some (basis_in place.rest) (λ basis. Some (record { basis = basis; through = place.number })) step place.reads in
    let t = basis_inverts.takes place.rest b.0 b.1 in
    subst (λ (s : WalkStep). (word ≡ step_word s) × IsStepName s) (same_Some (record { basis = b.0; through = place.number }) step b.2)
    (place.whole ∙ ap (λ rest. number_text place.number ++ (47 ∷ rest)) t.0, (t.1, place.small))

step_again : (step : WalkStep) → IsStepName step → step_in (step_word step) ≡ Some step
unfolding step_in
step_again step form = numbered_again (codes "/") through_in step.through (basis_word step.basis) form.1 refl ∙ rw (basis_inverts.again step.basis form.0) refl

pub step_inverts : Inverts step_in step_word IsStepName
step_inverts = record { takes = step_takes; again = step_again }

-- ---- visible characters

pub difference_plain : (e : Edge) → is_plain (difference_word e) ≡ true
difference_plain e =
    plain_append (number_text e.from.0) (62 ∷ (number_text e.to.0 ++ (58 ∷ signed_text e.weight))) (number_plain e.from.0)
    (plain_append (number_text e.to.0) (58 ∷ signed_text e.weight) (number_plain e.to.0) (signed_plain e.weight))

pub basis_plain : (basis : Basis) → is_plain (basis_word basis) ≡ true
basis_plain (ByEdge edge) = edge_plain edge
basis_plain (Either e) = difference_plain e
basis_plain (ByChoice constraint) = number_plain constraint
basis_plain (ByKept clause) = number_plain clause

pub step_plain : (step : WalkStep) → is_plain (step_word step) ≡ true
step_plain step = plain_append (number_text step.through) (47 ∷ basis_word step.basis) (number_plain step.through) (basis_plain step.basis)
