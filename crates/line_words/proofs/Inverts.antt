-- Readers that invert spellings, and how they are combined.
use Rattle.std.proofs.Common.{◌≡◌, Bool, true, false, cond, nat_eq, List, [], ◌∷◌, map, Option, Some, None, option_map, refl, ap, subst, ◌∙◌}
use Rattle.std.specs.Prelude.{All}
use Rattle.std.specs.List.{AllByRecursion}
use Rattle.std.proofs.lemmas.Bool.{and_parts, eqb-true, eq-eqb}
use Rattle.std.proofs.lemmas.Option.{same_Some}
use Rattle.std.proofs.lemmas.List.Elements.{All-from_recursion, recursion_from_All}
use Rattle.line_words.specs.Words.{◌>>=◌, Word, behind_word, is_word, keyed, many, one, only_word, or_else, two, two_words, when}
use Rattle.itv_base.proofs.Options.{mapped_some}

-- What is read is spelled so and has the form. What has the form is read from its spelling.
pub record Inverts {W A : Type 0} (read : W → Option A) (spell : A → W) (Form : A → Type 0) : Type 0 where
  pub takes : (w : W) (x : A) → read w ≡ Some x → (w ≡ spell x) × Form x
  pub again : (x : A) → Form x → read (spell x) ≡ Some x

-- ---- steps

pub bind_some : {A B : Type 0} (o : Option A) (f : A → Option B) (y : B) → (o >>= f) ≡ Some y → (x : A) × (o ≡ Some x) × (f x ≡ Some y)
bind_some None f y e = absurd (cc)
bind_some (Some x) f y e = (x, refl, e)

pub when_some : {A : Type 0} (test : Bool) (o : Option A) (y : A) → when test o ≡ Some y → (test ≡ true) × (o ≡ Some y)
when_some true o y e = (refl, e)
when_some false o y e = absurd (cc)

pub or_cases_some : {A : Type 0} (o other : Option A) (y : A) (P : Type 0) → or_else o other ≡ Some y → (o ≡ Some y → P) → (other ≡ Some y → P) → P
or_cases_some None other y P e here there = there e
or_cases_some (Some x) other y P e here there = here e

-- ---- words

pub word_is : (word text : Word) → is_word word text ≡ true → word ≡ text
word_is [] [] e = refl
word_is [] (c ∷ text) e = absurd (cc)
word_is (b ∷ word) [] e = absurd (cc)
word_is (b ∷ word) (c ∷ text) e =
    let p = and_parts (nat_eq b c) (is_word word text) e in
    let first : b ≡ c = eqb-true b c p.0 in
    let rest : word ≡ text = word_is word text p.1 in
    cc

pub word_same : (word : Word) → is_word word word ≡ true
word_same [] = refl
word_same (b ∷ word) = rw (eq-eqb b b refl, word_same word) refl

-- the word is one of several
pub pick_some : {A : Type 0} (word key : Word) (x y : A) (other : Option A) (P : A → Type 0) → cond (is_word word key) (Some x) other ≡ Some y
    → (word ≡ key → P x) → (other ≡ Some y → P y) → P y
pick_some word key x y other P e here there = pick (is_word word key) refl e
  where
    pick : (test : Bool) → is_word word key ≡ test → cond test (Some x) other ≡ Some y → P y
    pick true h e = subst P (same_Some x y e) (here (word_is word key h))
    pick false h e = there e

pub last_some : {A : Type 0} (word key : Word) (x y : A) (P : A → Type 0) → when (is_word word key) (Some x) ≡ Some y → (word ≡ key → P x) → P y
last_some word key x y P e here = pick_some word key x y None P e here (λ none. absurd (cc))

-- ---- readers combined

behind_is : (key : Word) (words rest : List Word) → behind_word key words ≡ Some rest → words ≡ key ∷ rest
behind_is key [] rest e = absurd (cc)
behind_is key (word ∷ words) rest e =
    let p = when_some (is_word word key) (Some words) rest e in
    let first : word ≡ key = word_is word key p.0 in
    let same : words ≡ rest = same_Some words rest p.1 in
    cc

-- what is read after a word
pub keyed_takes : {A : Type 0} (key : Word) (read : List Word → Option A) (words : List Word) (x : A) → keyed key read words ≡ Some x → (rest : List Word) × (words ≡ key ∷ rest) × (read rest ≡ Some x)
keyed_takes key read words x e =
    let b = bind_some (behind_word key words) read x e in
    (b.0, behind_is key words b.0 b.1, b.2)

pub keyed_is : {A : Type 0} (key : Word) (read : List Word → Option A) (words : List Word) → keyed key read (key ∷ words) ≡ read words
keyed_is key read words = rw (word_same key) refl

pub keyed_inverts : {A : Type 0} (key : Word) (read : List Word → Option A) (spell : A → List Word) (Form : A → Type 0) → Inverts read spell Form
    → Inverts (keyed key read) (λ x. key ∷ spell x) Form
keyed_inverts key read spell Form i = record {
  takes = λ words x e. let k = keyed_takes key read words x e in let t = i.takes k.0 x k.2 in (k.1 ∙ ap (λ ws. key ∷ ws) t.0, t.1);
  again = λ x form. keyed_is key read (spell x) ∙ i.again x form;
}

only_is : (words : List Word) (word : Word) → only_word words ≡ Some word → words ≡ word ∷ []
only_is [] word e = absurd (cc)
only_is (first ∷ []) word e = ap (λ w. w ∷ []) (same_Some first word e)
only_is (first ∷ other ∷ words) word e = absurd (cc)

pub one_takes : {A : Type 0} (read : Word → Option A) (words : List Word) (x : A) → one read words ≡ Some x → (word : Word) × (words ≡ word ∷ []) × (read word ≡ Some x)
one_takes read words x e =
    let b = bind_some (only_word words) read x e in
    (b.0, only_is words b.0 b.1, b.2)

pub one_inverts : {A : Type 0} (read : Word → Option A) (spell : A → Word) (Form : A → Type 0) → Inverts read spell Form → Inverts (one read) (λ x. spell x ∷ []) Form
one_inverts read spell Form i = record {
  takes = λ words x e. let k = one_takes read words x e in let t = i.takes k.0 x k.2 in (k.1 ∙ ap (λ w. w ∷ []) t.0, t.1);
  again = λ x form. i.again x form;
}

two_is : (words : List Word) (both : Word × Word) → two_words words ≡ Some both → words ≡ both.0 ∷ both.1 ∷ []
two_is [] both e = absurd (cc)
two_is (word ∷ []) both e = absurd (cc)
two_is (word ∷ other ∷ []) both e = ap (λ (p : Word × Word). p.0 ∷ p.1 ∷ []) (same_Some (word, other) both e)
two_is (word ∷ other ∷ more ∷ words) both e = absurd (cc)

pub two_inverts : {A B : Type 0} (read : Word → Option A) (spell : A → Word) (Form : A → Type 0) (also : Word → Option B) (spell_too : B → Word) (FormToo : B → Type 0)
    → Inverts read spell Form → Inverts also spell_too FormToo
    → Inverts (two read also) (λ p. spell p.0 ∷ spell_too p.1 ∷ []) (λ p. Form p.0 × FormToo p.1)
two_inverts {A} {B} read spell Form also spell_too FormToo i j = record {
  takes = λ words p e.
      let a = bind_some (two_words words) (λ both. read both.0 >>= λ x. also both.1 >>= λ y. Some (x, y)) p e in
      let b = bind_some (read a.0.0) (λ x. also a.0.1 >>= λ y. Some (x, y)) p a.2 in
      let d = bind_some (also a.0.1) (λ y. Some (b.0, y)) p b.2 in
      let first = i.takes a.0.0 b.0 b.1 in
      let second = j.takes a.0.1 d.0 d.1 in
      let whole : words ≡ spell b.0 ∷ spell_too d.0 ∷ [] = two_is words a.0 a.1 ∙ ap (λ w. w ∷ a.0.1 ∷ []) first.0 ∙ ap (λ w. spell b.0 ∷ w ∷ []) second.0 in
      subst (λ (q : A × B). (words ≡ spell q.0 ∷ spell_too q.1 ∷ []) × (Form q.0 × FormToo q.1)) (same_Some (b.0, d.0) p d.2) (whole, (first.1, second.1));
  again = λ p form. rw (i.again p.0 form.0) (rw (j.again p.1 form.1) refl);
}

pub many_takes : {A : Type 0} (read : Word → Option A) (spell : A → Word) (Form : A → Type 0) → Inverts read spell Form
    → (words : List Word) (xs : List A) → many read words ≡ Some xs → (words ≡ map spell xs) × AllByRecursion Form xs
many_takes read spell Form i [] xs e = subst (λ ys. ([] ≡ map spell ys) × AllByRecursion Form ys) (same_Some [] xs e) (refl, tt)
many_takes read spell Form i (word ∷ words) xs e =
    let a = bind_some (read word) (λ x. many read words >>= λ ys. Some (x ∷ ys)) xs e in
    let b = bind_some (many read words) (λ ys. Some (a.0 ∷ ys)) xs a.2 in
    let first = i.takes word a.0 a.1 in
    let rest = many_takes read spell Form i words b.0 b.1 in
    let whole : word ∷ words ≡ spell a.0 ∷ map spell b.0 = ap (λ w. w ∷ words) first.0 ∙ ap (λ ws. spell a.0 ∷ ws) rest.0 in
    subst (λ ys. (word ∷ words ≡ map spell ys) × AllByRecursion Form ys) (same_Some (a.0 ∷ b.0) xs b.2) (whole, (first.1, rest.1))

pub many_again : {A : Type 0} (read : Word → Option A) (spell : A → Word) (Form : A → Type 0) → Inverts read spell Form
    → (xs : List A) → AllByRecursion Form xs → many read (map spell xs) ≡ Some xs
many_again read spell Form i [] form = refl
many_again read spell Form i (x ∷ xs) form = rw (i.again x form.0) (rw (many_again read spell Form i xs form.1) refl)

pub many_inverts : {A : Type 0} (read : Word → Option A) (spell : A → Word) (Form : A → Type 0) → Inverts read spell Form → Inverts (many read) (map spell) (All Form)
many_inverts read spell Form i = record {
  takes = λ words xs e. let t = many_takes read spell Form i words xs e in (t.0, All-from_recursion Form xs t.1);
  again = λ xs form. many_again read spell Form i xs (recursion_from_All Form xs form);
}

-- Two readers of one kind of thing. The second reads where the first reads nothing.
pub either_takes : {A B : Type 0} (f : B → A) (read : List Word → Option B) (other : Option A) (words : List Word) (x : A) (P : A → Type 0)
    → or_else (option_map f (read words)) other ≡ Some x → ((y : B) → read words ≡ Some y → P (f y)) → (other ≡ Some x → P x) → P x
either_takes f read other words x P e here there =
    or_cases_some (option_map f (read words)) other x (P x) e (λ h. let m = mapped_some f (read words) x h in subst P m.2 (here m.0 m.1)) there
