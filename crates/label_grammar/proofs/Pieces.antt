-- Each part of a label that is read is the spelling of what was read, and each spelling of a part is read as this part.
use Rattle.std.proofs.Common.{◌≡◌, ℕ, zero, suc, ◌<◌, ◌≤◌, ℤ, pos, negsuc, neg_ℤ, Bool, true, false, not, eqb, leb, ltb, ◌&&◌, List, [], ◌∷◌, ◌++◌, length, Option, Some, None, refl, sym, ap, subst, ◌∙◌, arith, inl, inr, append_assoc, codes, ◌⊎◌}
use Rattle.std.specs.Prelude.{IfSome, is_some}
use Rattle.std.specs.List.{list_all, take_while}
use Rattle.std.specs.Char.{is_ascii_digit}
use Rattle.std.proofs.lemmas.Bool.{and_parts, eqb-true, ne_eqb, ltb-true, lt-ltb, leb-true, le-leb, cases_eq, both_ways}
use Rattle.std.proofs.lemmas.Option.{cond_some, same_Some, some_pair_parts}
use Rattle.itv_base.specs.Range.{Ends}
use Rattle.label_grammar.specs.declared.label.Kind.{Kind}
use Rattle.label_grammar.specs.declared.label.Kind.TheVariants.{Lin, Late, Early, Req, Ask}
use Rattle.itv_base.specs.Characters.{is_name, is_name_byte}
use Rattle.itv_base.specs.Cuts.{stripped, after, after_while}
use Rattle.itv_base.specs.Numerals.{end_text, signed_text, number_text, is_numeral, value_of}
use Rattle.label_grammar.specs.Label.{Span, fixed, named, Version, version_1, version_2, has_span_form, kind_text, shift_text, tag_text, ends_text, span_text, optional_text, note_text}
use Rattle.label_grammar.specs.Reading.{◌>>=◌, first_kind, kind_of, shift_from, shift_of, tag_from, tag_of, number_from, number_of, end_of, ends_of, name_from, span_of, unless_ask, note_of}
use Rattle.itv_base.proofs.Cuts.{stripped_some}
use Rattle.itv_base.proofs.Runs.{stops, front_of_run, rest_of_run, run_whole}
use Rattle.itv_base.proofs.Numbers.{numeral_is}
use Rattle.itv_base.proofs.Numerals.{text-value, value-text, digits-text, numeral-text}

-- ---- steps

-- the front stands first and the text after it gave what was found, or it does not and the other thing was found
pub after_cases : {R : Type 0} (o : Option (List ℕ)) (f : List ℕ → R) (other found : R) → after o f other ≡ found
    → ((rest : List ℕ) × (o ≡ Some rest) × (f rest ≡ found)) ⊎ ((o ≡ None) × (other ≡ found))
after_cases None f other found e = inr (refl, e)
after_cases (Some rest) f other found e = inl (rest, refl, e)

pub bind_some : {A B : Type 0} (o : Option A) (f : A → Option B) (y : B) → (o >>= f) ≡ Some y → (x : A) × (o ≡ Some x) × (f x ≡ Some y)
bind_some None f y e = absurd cc
bind_some (Some x) f y e = (x, refl, e)

pub bind_is : {A B : Type 0} (o : Option A) (f : A → Option B) (x : A) → o ≡ Some x → (o >>= f) ≡ f x
bind_is o f x e = rw e refl

-- the text is the spelling of what was read, and the text after it
found_is : {A : Type 0} (spell : A → List ℕ) (text behind rest : List ℕ) (x y : A) → ◌≡◌ {A = Option (A × List ℕ)} (Some (x, behind)) (Some (y, rest)) → text ≡ spell x ++ behind → text ≡ spell y ++ rest
found_is spell text behind rest x y e h = let p = some_pair_parts x y behind rest e in h ∙ ap (λ z. spell z ++ behind) p.0 ∙ ap (λ r. spell y ++ r) p.1

-- ---- kinds

first_takes : (kinds : List Kind) (text rest : List ℕ) (kind : Kind) → first_kind kinds text ≡ Some (kind, rest) → text ≡ kind_text kind ++ rest
first_takes [] text rest kind e = absurd cc
first_takes (k ∷ kinds) text rest kind e =
    elim (after_cases (stripped (kind_text k) text) (λ r. Some (k, r)) (first_kind kinds text) (Some (kind, rest)) e) [
      | inl found ↦ (let p = some_pair_parts k kind found.0 rest found.2 in stripped_some (kind_text k) text found.0 found.1 ∙ ap (λ w. kind_text w ++ found.0) p.0 ∙ ap (λ r. kind_text kind ++ r) p.1)
      | inr other ↦ first_takes kinds text rest kind other.1
    ]

pub kind_takes : (text rest : List ℕ) (kind : Kind) → kind_of text ≡ Some (kind, rest) → text ≡ kind_text kind ++ rest
unfolding kind_of
kind_takes text rest kind e = first_takes (Lin ∷ Late ∷ Early ∷ Req ∷ Ask ∷ []) text rest kind e

pub kind_again : (kind : Kind) (rest : List ℕ) → kind_of (kind_text kind ++ rest) ≡ Some (kind, rest)
unfolding kind_of
kind_again Lin rest = refl
kind_again Late rest = refl
kind_again Early rest = refl
kind_again Req rest = refl
kind_again Ask rest = refl

-- ---- shifts

-- what may stand after a shift, and after a tag
abbrev pub Opens : List ℕ → Type 0
Opens [] = Unit {0}
Opens (b ∷ rest) = (b ≡ 58) ⊎ (b ≡ 32)

abbrev pub IsSpaced : List ℕ → Type 0
IsSpaced [] = Unit {0}
IsSpaced (b ∷ rest) = b ≡ 32

-- a text that begins with a numeral begins with the text of its value
numeral_front : (text : List ℕ) → is_numeral (take_while is_ascii_digit text) ≡ true → text ≡ number_text (value_of (take_while is_ascii_digit text)) ++ after_while is_ascii_digit text
numeral_front text h = run_whole is_ascii_digit text ∙ ap (λ x. x ++ after_while is_ascii_digit text) (sym (text-value (take_while is_ascii_digit text) h))

pub shift_above : (n : ℕ) → 0 < n → shift_text n ≡ 43 ∷ number_text n
shift_above n h = rw (ne_eqb n 0 (λ e. omega arith)) refl

-- a shift that is read after a plus
shift_from_takes : (text rest : List ℕ) (n : ℕ) → shift_from (take_while is_ascii_digit text) (after_while is_ascii_digit text) ≡ Some (n, rest) → (43 ∷ text ≡ shift_text n ++ rest) × (n ≤ 64)
shift_from_takes text rest n e =
    let digits = take_while is_ascii_digit text in
    let value = value_of digits in
    let g = cond_some (is_numeral digits && (leb 1 value && leb value 64)) (value, after_while is_ascii_digit text) (n, rest) e in
    let numeral = and_parts (is_numeral digits) (leb 1 value && leb value 64) g.0 in
    let bounds = and_parts (leb 1 value) (leb value 64) numeral.1 in
    let low : 0 < value = omega (arith, leb-true 1 value bounds.0) in
    let high : value ≤ 64 = leb-true value 64 bounds.1 in
    let read : (43 ∷ text ≡ shift_text value ++ after_while is_ascii_digit text) × (value ≤ 64) =
    (ap (λ x. 43 ∷ x) (numeral_front text numeral.0) ∙ ap (λ x. x ++ after_while is_ascii_digit text) (sym (shift_above value low)), high) in
    subst (λ (p : ℕ × List ℕ). (43 ∷ text ≡ shift_text p.0 ++ p.1) × (p.0 ≤ 64)) g.1 read

pub shift_takes : (text rest : List ℕ) (n : ℕ) → shift_of text ≡ Some (n, rest) → (text ≡ shift_text n ++ rest) × (n ≤ 64)
unfolding shift_of
shift_takes text rest n e =
    elim (after_cases (stripped (codes "+") text) (λ r. shift_from (take_while is_ascii_digit r) (after_while is_ascii_digit r)) (Some (0, text)) (Some (n, rest)) e) [
      | inl found ↦ (let t = shift_from_takes found.0 rest n found.2 in (stripped_some (codes "+") text found.0 found.1 ∙ t.0, t.1))
      | inr other ↦ (let p = some_pair_parts 0 n text rest other.1 in (rw (← p.0) p.1, omega (arith, p.0)))
    ]

no_plus : (rest : List ℕ) → Opens rest → stripped (codes "+") rest ≡ None
no_plus [] h = refl
no_plus (b ∷ rest) (inl e) = rw e refl
no_plus (b ∷ rest) (inr e) = rw e refl

no_digit : (rest : List ℕ) → Opens rest → stops is_ascii_digit rest ≡ true
no_digit [] h = refl
no_digit (b ∷ rest) (inl e) = rw e refl
no_digit (b ∷ rest) (inr e) = rw e refl

shift_from_text : (n : ℕ) (rest : List ℕ) → 0 < n → n ≤ 64 → shift_from (number_text n) rest ≡ Some (n, rest)
shift_from_text n rest low high =
    rw (numeral-text n, value-text n, le-leb 1 n low, le-leb n 64 high) refl

pub shift_again : (n : ℕ) (rest : List ℕ) → n ≤ 64 → Opens rest → shift_of (shift_text n ++ rest) ≡ Some (n, rest)
unfolding shift_of
shift_again n rest high opens =
    elim (cases_eq n 0) [
      | inl none ↦ rw (none, no_plus rest opens) refl
      | inr above ↦ (
          let low : 0 < n = omega arith in
          let front : shift_text n ++ rest ≡ 43 ∷ (number_text n ++ rest) = ap (λ x. x ++ rest) (shift_above n low) in
          ap shift_of front ∙ rw (front_of_run is_ascii_digit (number_text n) rest (digits-text n) (no_digit rest opens), rest_of_run is_ascii_digit (number_text n) rest (digits-text n) (no_digit rest opens)) (shift_from_text n rest low high))
    ]

-- ---- tags

pub tag_takes : (text rest : List ℕ) (tag : Option (List ℕ)) → tag_of text ≡ Some (tag, rest) → (text ≡ tag_text tag ++ rest) × IfSome tag (λ t. is_name t ≡ true)
unfolding tag_of
tag_takes text rest tag e =
    elim (after_cases (stripped (codes ":") text) (λ r. tag_from (take_while is_name_byte r) (after_while is_name_byte r)) (Some (None, text)) (Some (tag, rest)) e) [
      | inl found ↦ (
          let name = take_while is_name_byte found.0 in
          let g = cond_some (is_name name) (Some name, after_while is_name_byte found.0) (tag, rest) found.2 in
          let whole : text ≡ tag_text (Some name) ++ after_while is_name_byte found.0 = stripped_some (codes ":") text found.0 found.1 ∙ ap (λ x. 58 ∷ x) (run_whole is_name_byte found.0) in
          subst (λ (p : Option (List ℕ) × List ℕ). (text ≡ tag_text p.0 ++ p.1) × IfSome p.0 (λ t. is_name t ≡ true)) g.1 (whole, g.0))
      | inr other ↦ subst (λ (p : Option (List ℕ) × List ℕ). (text ≡ tag_text p.0 ++ p.1) × IfSome p.0 (λ t. is_name t ≡ true)) (same_Some (None, text) (tag, rest) other.1) (refl, tt)
    ]

no_colon : (rest : List ℕ) → IsSpaced rest → stripped (codes ":") rest ≡ None
no_colon [] h = refl
no_colon (b ∷ rest) h = rw h refl

no_name_byte : (rest : List ℕ) → IsSpaced rest → stops is_name_byte rest ≡ true
no_name_byte [] h = refl
no_name_byte (b ∷ rest) h = rw h refl

pub tag_again : (tag : Option (List ℕ)) (rest : List ℕ) → IfSome tag (λ t. is_name t ≡ true) → IsSpaced rest → tag_of (tag_text tag ++ rest) ≡ Some (tag, rest)
unfolding tag_of
tag_again None rest h spaced = rw (no_colon rest spaced) refl
tag_again (Some name) rest h spaced =
    let bytes : list_all is_name_byte name ≡ true = (and_parts (leb 1 (length name) && leb (length name) 16) (list_all is_name_byte name) h).1 in
    rw (front_of_run is_name_byte name rest bytes (no_name_byte rest spaced), rest_of_run is_name_byte name rest bytes (no_name_byte rest spaced), h) refl

-- ---- ends

minus_text : (n : ℕ) → 0 < n → signed_text (neg_ℤ (pos n)) ≡ 45 ∷ number_text n
minus_text zero h = absurd (omega arith)
minus_text (suc n) h = refl

-- the text of a number with its sign: a minus before a number below 0, and nothing before any other
abbrev sign : Bool → List ℕ → List ℕ
sign false text = text
sign true text = 45 ∷ text

number_takes : (negative : Bool) (text rest : List ℕ) (end : Option ℤ) → number_of negative text ≡ Some (end, rest) → sign negative text ≡ end_text end ++ rest
number_takes false text rest end e =
    let digits = take_while is_ascii_digit text in
    let g = cond_some (is_numeral digits) (Some (pos (value_of digits)), after_while is_ascii_digit text) (end, rest) e in
    subst (λ (p : Option ℤ × List ℕ). text ≡ end_text p.0 ++ p.1) g.1 (numeral_front text g.0)
number_takes true text rest end e =
    let digits = take_while is_ascii_digit text in
    let value = value_of digits in
    let g = cond_some (is_numeral digits && ltb 0 value) (Some (neg_ℤ (pos value)), after_while is_ascii_digit text) (end, rest) e in
    let numeral = and_parts (is_numeral digits) (ltb 0 value) g.0 in
    let whole : 45 ∷ text ≡ signed_text (neg_ℤ (pos value)) ++ after_while is_ascii_digit text =
    ap (λ x. 45 ∷ x) (numeral_front text numeral.0) ∙ ap (λ x. x ++ after_while is_ascii_digit text) (sym (minus_text value (ltb-true 0 value numeral.1))) in
    subst (λ (p : Option ℤ × List ℕ). 45 ∷ text ≡ end_text p.0 ++ p.1) g.1 whole

pub end_takes : (text rest : List ℕ) (end : Option ℤ) → end_of text ≡ Some (end, rest) → text ≡ end_text end ++ rest
unfolding end_of
end_takes text rest end e =
    elim (after_cases (stripped (codes "*") text) (λ r. Some (None, r)) (after (stripped (codes "-") text) (number_of true) (number_of false text)) (Some (end, rest)) e) [
      | inl found ↦ (let p = some_pair_parts None end found.0 rest found.2 in stripped_some (codes "*") text found.0 found.1 ∙ ap (λ o. end_text o ++ found.0) p.0 ∙ ap (λ r. end_text end ++ r) p.1)
      | inr other ↦ elim (after_cases (stripped (codes "-") text) (number_of true) (number_of false text) (Some (end, rest)) other.1) [
        | inl found ↦ stripped_some (codes "-") text found.0 found.1 ∙ number_takes true found.0 rest end found.2
        | inr plain ↦ number_takes false text rest end plain.1
      ]
    ]

-- a numeral does not begin with a sign
no_sign : (c : ℕ) (digits rest : List ℕ) → is_ascii_digit c ≡ false → is_numeral digits ≡ true → stripped (c ∷ []) (digits ++ rest) ≡ None
no_sign c [] rest other h = absurd (omega (arith, (numeral_is [] h).some))
no_sign c (d ∷ digits) rest other h =
    let digit = (and_parts (is_ascii_digit d) (list_all is_ascii_digit digits) (numeral_is (d ∷ digits) h).digits).0 in
    let apart : d ≡ c → ⊥ = λ e. both_ways _ other (rw e at digit) in
    rw (ne_eqb d c apart) refl

number_again : (negative : Bool) (n : ℕ) (rest : List ℕ) → stops is_ascii_digit rest ≡ true → number_of negative (number_text n ++ rest) ≡ number_from negative (number_text n) rest
number_again negative n rest ends =
    rw (front_of_run is_ascii_digit (number_text n) rest (digits-text n) ends, rest_of_run is_ascii_digit (number_text n) rest (digits-text n) ends) refl

pub end_again : (end : Option ℤ) (rest : List ℕ) → stops is_ascii_digit rest ≡ true → end_of (end_text end ++ rest) ≡ Some (end, rest)
unfolding end_of
end_again None rest ends = refl
end_again (Some (pos n)) rest ends =
    rw (no_sign 42 (number_text n) rest refl (numeral-text n), no_sign 45 (number_text n) rest refl (numeral-text n)) (number_again false n rest ends ∙ rw (numeral-text n, value-text n) refl)
end_again (Some (negsuc n)) rest ends =
    let above : ltb 0 (suc n) ≡ true = lt-ltb 0 (suc n) (omega arith) in
    number_again true (suc n) rest ends ∙ rw (numeral-text (suc n), value-text (suc n), above) refl

-- ---- both ends

ends_join : (text a b c d rest low high : List ℕ) → text ≡ 32 ∷ 91 ∷ a → a ≡ low ++ b → b ≡ 44 ∷ c → c ≡ high ++ d → d ≡ 93 ∷ rest
    → text ≡ (32 ∷ 91 ∷ (low ++ (44 ∷ (high ++ (93 ∷ []))))) ++ rest
ends_join text a b c d rest low high e1 e2 e3 e4 e5 =
    e1 ∙ ap (λ x. 32 ∷ 91 ∷ x) (e2 ∙ ap (λ x. low ++ x) (e3 ∙ ap (λ x. 44 ∷ x) (e4 ∙ ap (λ x. high ++ x) e5))) ∙ simp append_assoc

pub ends_take : (text rest : List ℕ) (ends : Ends) → ends_of text ≡ Some (ends, rest) → text ≡ ends_text ends ++ rest
unfolding ends_of
ends_take text rest ends e =
    let a = bind_some (stripped (codes " [") text) (λ opened. end_of opened >>= λ low. stripped (codes ",") low.1 >>= λ parted. end_of parted >>= λ high. stripped (codes "]") high.1 >>= λ closed. Some (record { low = low.0; high = high.0 }, closed)) (ends, rest) e in
    let b = bind_some (end_of a.0) (λ low. stripped (codes ",") low.1 >>= λ parted. end_of parted >>= λ high. stripped (codes "]") high.1 >>= λ closed. Some (record { low = low.0; high = high.0 }, closed)) (ends, rest) a.2 in
    let c = bind_some (stripped (codes ",") b.0.1) (λ parted. end_of parted >>= λ high. stripped (codes "]") high.1 >>= λ closed. Some (record { low = b.0.0; high = high.0 }, closed)) (ends, rest) b.2 in
    let d = bind_some (end_of c.0) (λ high. stripped (codes "]") high.1 >>= λ closed. Some (record { low = b.0.0; high = high.0 }, closed)) (ends, rest) c.2 in
    let f = bind_some (stripped (codes "]") d.0.1) (λ closed. Some (record { low = b.0.0; high = d.0.0 }, closed)) (ends, rest) d.2 in
    let whole = ends_join text a.0 b.0.1 c.0 d.0.1 f.0 (end_text b.0.0) (end_text d.0.0)
    (stripped_some (codes " [") text a.0 a.1) (end_takes a.0 b.0.1 b.0.0 b.1) (stripped_some (codes ",") b.0.1 c.0 c.1) (end_takes c.0 d.0.1 d.0.0 d.1) (stripped_some (codes "]") d.0.1 f.0 f.1) in
    found_is ends_text text f.0 rest (record { low = b.0.0; high = d.0.0 }) ends f.2 whole

pub ends_again : (ends : Ends) (rest : List ℕ) → ends_of (ends_text ends ++ rest) ≡ Some (ends, rest)
unfolding ends_of
ends_again ends rest =
    let regrouped : ends_text ends ++ rest ≡ 32 ∷ 91 ∷ (end_text ends.low ++ (44 ∷ (end_text ends.high ++ (93 ∷ rest)))) = simp append_assoc in
    ap ends_of regrouped ∙ rw (end_again ends.low (44 ∷ (end_text ends.high ++ (93 ∷ rest))) refl, end_again ends.high (93 ∷ rest) refl) refl

-- ---- spans

span_takes : (text rest : List ℕ) (span : Span) → span_of text ≡ Some (span, rest) → (text ≡ span_text span ++ rest) × (has_span_form span ≡ true)
unfolding span_of
span_takes text rest span e =
    elim (after_cases (stripped (codes " $") text) (λ r. name_from (take_while is_name_byte r) (after_while is_name_byte r)) (ends_of text >>= λ ends. Some (fixed ends.0, ends.1)) (Some (span, rest)) e) [
      | inl found ↦ (
          let name = take_while is_name_byte found.0 in
          let g = cond_some (is_name name) (named name, after_while is_name_byte found.0) (span, rest) found.2 in
          let whole : text ≡ span_text (named name) ++ after_while is_name_byte found.0 = stripped_some (codes " $") text found.0 found.1 ∙ ap (λ x. 32 ∷ 36 ∷ x) (run_whole is_name_byte found.0) in
          subst (λ (p : Span × List ℕ). (text ≡ span_text p.0 ++ p.1) × (has_span_form p.0 ≡ true)) g.1 (whole, g.0))
      | inr other ↦ (
          let a = bind_some (ends_of text) (λ x. Some (fixed x.0, x.1)) (span, rest) other.1 in
          subst (λ (p : Span × List ℕ). (text ≡ span_text p.0 ++ p.1) × (has_span_form p.0 ≡ true)) (same_Some (fixed a.0.0, a.0.1) (span, rest) a.2) (ends_take text a.0.1 a.0.0 a.1, refl))
    ]

span_again : (span : Span) (rest : List ℕ) → has_span_form span ≡ true → IsSpaced rest → span_of (span_text span ++ rest) ≡ Some (span, rest)
unfolding span_of
span_again (fixed ends) rest h spaced = rw (ends_again ends rest) refl
span_again (named name) rest h spaced =
    let bytes : list_all is_name_byte name ≡ true = (and_parts (leb 1 (length name) && leb (length name) 16) (list_all is_name_byte name) h).1 in
    rw (front_of_run is_name_byte name rest bytes (no_name_byte rest spaced), rest_of_run is_name_byte name rest bytes (no_name_byte rest spaced), h) refl

-- ---- what gives the ends

-- What gives the ends of a label of a version is read as it is spelled, and spelled as it is read. It stands after a space.
pub record Inverts {E : Type 0} (v : Version E) (reading : List ℕ → Option (E × List ℕ)) : Type 0 where
  pub takes : (text rest : List ℕ) (written : E) → reading text ≡ Some (written, rest) → (text ≡ v.text written ++ rest) × (v.has_form written ≡ true)
  pub again : (written : E) (rest : List ℕ) → v.has_form written ≡ true → IsSpaced rest → reading (v.text written ++ rest) ≡ Some (written, rest)
  pub spaced : (written : E) (rest : List ℕ) → IsSpaced (v.text written ++ rest)

pub ends_invert : Inverts version_1 ends_of
ends_invert = record {
  takes = λ text rest ends e. (ends_take text rest ends e, refl);
  again = λ ends rest form behind. ends_again ends rest;
  spaced = λ ends rest. refl;
}

span_spaced : (span : Span) (rest : List ℕ) → IsSpaced (span_text span ++ rest)
span_spaced (fixed ends) rest = refl
span_spaced (named name) rest = refl

pub spans_invert : Inverts version_2 span_of
spans_invert = record { takes = span_takes; again = span_again; spaced = span_spaced }

module _ {E : Type 0} (v : Version E) (reading : List ℕ → Option (E × List ℕ)) (inverts : Inverts v reading) where
  -- something gives the ends if and only if the kind is no ask, and it can be spelled
  pub record IsTold (ask : Bool) (written : Option E) : Type 0 where
    pub some : is_some written ≡ not ask
    pub form : IfSome written (λ t. v.has_form t ≡ true)

  pub told_takes : (ask : Bool) (text rest : List ℕ) (written : Option E) → unless_ask reading ask text ≡ Some (written, rest) → (text ≡ optional_text v.text written ++ rest) × IsTold ask written
  unfolding unless_ask
  told_takes true text rest written e =
      subst (λ (p : Option E × List ℕ). (text ≡ optional_text v.text p.0 ++ p.1) × IsTold true p.0) (same_Some (None, text) (written, rest) e) (refl, record { some = refl; form = tt })
  told_takes false text rest written e =
      let a = bind_some (reading text) (λ x. Some (Some x.0, x.1)) (written, rest) e in
      let took = inverts.takes text a.0.1 a.0.0 a.1 in
      subst (λ (p : Option E × List ℕ). (text ≡ optional_text v.text p.0 ++ p.1) × IsTold false p.0) (same_Some (Some a.0.0, a.0.1) (written, rest) a.2) (took.0, record { some = refl; form = took.1 })

  pub told_again : (ask : Bool) (written : Option E) (rest : List ℕ) → is_some written ≡ not ask → IfSome written (λ t. v.has_form t ≡ true) → IsSpaced rest → unless_ask reading ask (optional_text v.text written ++ rest) ≡ Some (written, rest)
  unfolding unless_ask
  told_again true None rest h form behind = refl
  told_again true (Some written) rest h form behind = absurd cc
  told_again false None rest h form behind = absurd cc
  told_again false (Some written) rest h form behind = rw (inverts.again written rest form behind) refl

-- ---- notes

pub note_takes : (text : List ℕ) (note : Option (List ℕ)) → note_of text ≡ Some note → text ≡ note_text note
unfolding note_of
note_takes [] note e = ap note_text (same_Some None note e)
note_takes (b ∷ text) note e =
    let g = cond_some (eqb b 32) (Some text) note e in
    ap (λ x. x ∷ text) (eqb-true b 32 g.0) ∙ ap note_text g.1

pub note_again : (note : Option (List ℕ)) → note_of (note_text note) ≡ Some note
unfolding note_of
note_again None = refl
note_again (Some note) = refl
