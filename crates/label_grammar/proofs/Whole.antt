-- A text that is read as a label is the spelling of this label, and each spelling is read as its label.
use Rattle.std.proofs.Common.{◌≡◌, ℕ, true, List, [], ◌∷◌, ◌++◌, Option, Some, None, refl, sym, ap, subst, ◌∙◌, inl, inr}
use Rattle.std.specs.Prelude.{IfSome, is_some, IsTrue, option_map}
use Rattle.std.proofs.lemmas.Option.{same_Some}
use Rattle.itv_base.specs.Range.{Ends}
use Rattle.label_grammar.specs.Label.{LooseLabel, fixed, Version, version_1, version_2, IsLoose, has_span_form, is_ask, kind_text, shift_text, tag_text, ends_text, span_text, optional_text, note_text, spelling, with_span}
use Rattle.label_grammar.specs.Reading.{◌>>=◌, kind_of, shift_of, tag_of, ends_of, span_of, unless_ask, note_of, label_of}
use Rattle.label_grammar.proofs.Pieces.{bind_some, Opens, IsSpaced, kind_takes, kind_again, shift_takes, shift_again, tag_takes, tag_again, Inverts, ends_invert, spans_invert, told_takes, told_again, note_takes, note_again}

join : (text a b c d kind shift tag ends note : List ℕ) → text ≡ kind ++ a → a ≡ shift ++ b → b ≡ tag ++ c → c ≡ ends ++ d → d ≡ note → text ≡ kind ++ (shift ++ (tag ++ (ends ++ note)))
join text a b c d kind shift tag ends note e1 e2 e3 e4 e5 =
    e1 ∙ ap (λ x. kind ++ x) (e2 ∙ ap (λ x. shift ++ x) (e3 ∙ ap (λ x. tag ++ x) (e4 ∙ ap (λ x. ends ++ x) e5)))

module _ {E : Type 0} (v : Version E) (reading : List ℕ → Option (E × List ℕ)) (inverts : Inverts v reading) where
  found_is : (text : List ℕ) (m l : LooseLabel E) → Some m ≡ Some l → IsLoose v m × (text ≡ spelling v m) → IsLoose v l × (text ≡ spelling v l)
  found_is text m l e h = subst (λ (x : LooseLabel E). IsLoose v x × (text ≡ spelling v x)) (same_Some m l e) h

  pub label_takes : (text : List ℕ) (l : LooseLabel E) → label_of reading text ≡ Some l → IsLoose v l × (text ≡ spelling v l)
  unfolding label_of
  label_takes text l e =
      let a = bind_some (kind_of text) (λ kind. shift_of kind.1 >>= λ shift. tag_of shift.1 >>= λ tag. unless_ask reading (is_ask kind.0) tag.1 >>= λ written. note_of written.1 >>= λ note. Some (record { kind = kind.0; shift = shift.0; tag = tag.0; ends = written.0; note = note })) l e in
      let b = bind_some (shift_of a.0.1) (λ shift. tag_of shift.1 >>= λ tag. unless_ask reading (is_ask a.0.0) tag.1 >>= λ written. note_of written.1 >>= λ note. Some (record { kind = a.0.0; shift = shift.0; tag = tag.0; ends = written.0; note = note })) l a.2 in
      let c = bind_some (tag_of b.0.1) (λ tag. unless_ask reading (is_ask a.0.0) tag.1 >>= λ written. note_of written.1 >>= λ note. Some (record { kind = a.0.0; shift = b.0.0; tag = tag.0; ends = written.0; note = note })) l b.2 in
      let d = bind_some (unless_ask reading (is_ask a.0.0) c.0.1) (λ written. note_of written.1 >>= λ note. Some (record { kind = a.0.0; shift = b.0.0; tag = c.0.0; ends = written.0; note = note })) l c.2 in
      let f = bind_some (note_of d.0.1) (λ note. Some (record { kind = a.0.0; shift = b.0.0; tag = c.0.0; ends = d.0.0; note = note })) l d.2 in
      let shift = shift_takes a.0.1 b.0.1 b.0.0 b.1 in
      let tag = tag_takes b.0.1 c.0.1 c.0.0 c.1 in
      let written = told_takes v reading inverts (is_ask a.0.0) c.0.1 d.0.1 d.0.0 d.1 in
      let whole = join text a.0.1 b.0.1 c.0.1 d.0.1 (kind_text a.0.0) (shift_text b.0.0) (tag_text c.0.0) (optional_text v.text d.0.0) (note_text f.0)
      (kind_takes text a.0.1 a.0.0 a.1) shift.0 tag.0 written.0 (note_takes d.0.1 f.0 f.1) in
      found_is text (record { kind = a.0.0; shift = b.0.0; tag = c.0.0; ends = d.0.0; note = f.0 }) l f.2 (record { shift = shift.1; tag = tag.1; ends = written.1.some; form = written.1.form }, whole)

  -- a note stands after a space, if there is one
  noted : (note : Option (List ℕ)) → IsSpaced (note_text note)
  noted None = tt
  noted (Some text) = refl

  -- a tag is followed by a space or by nothing
  spaced : (written : Option E) (note : Option (List ℕ)) → IsSpaced (optional_text v.text written ++ note_text note)
  spaced None remark = noted remark
  spaced (Some written) remark = inverts.spaced written (note_text remark)

  -- a text that begins with a space, or is empty, may stand after a shift
  opened : (text : List ℕ) → IsSpaced text → Opens text
  opened [] h = tt
  opened (b ∷ rest) h = inr h

  -- a shift is followed by a colon, a space or nothing
  opens : (tag : Option (List ℕ)) (written : Option E) (note : Option (List ℕ)) → Opens (tag_text tag ++ (optional_text v.text written ++ note_text note))
  opens None written remark = opened (optional_text v.text written ++ note_text remark) (spaced written remark)
  opens (Some tag) written remark = inl refl

  pub label_again : (l : LooseLabel E) → IsLoose v l → label_of reading (spelling v l) ≡ Some l
  unfolding label_of
  label_again l h =
      let written = optional_text v.text l.ends ++ note_text l.note in
      let tag = tag_text l.tag ++ written in
      let shift = shift_text l.shift ++ tag in
      rw (kind_again l.kind shift, shift_again l.shift tag h.shift (opens l.tag l.ends l.note), tag_again l.tag written h.tag (spaced l.ends l.note), told_again v reading inverts (is_ask l.kind) l.ends (note_text l.note) h.ends h.form (noted l.note), note_again l.note) refl

  -- two different labels have two different spellings
  pub spelling_injective : (l m : LooseLabel E) → IsLoose v l → IsLoose v m → spelling v l ≡ spelling v m → l ≡ m
  spelling_injective l m p q e = same_Some l m (sym (label_again l p) ∙ ap (label_of reading) e ∙ label_again m q)

-- ---- the labels of version 1 are the labels of version 2 that name no parameter

told_same : (ends : Option Ends) → optional_text span_text (option_map fixed ends) ≡ optional_text ends_text ends
told_same None = refl
told_same (Some ends) = refl

pub spelled_same : (l : LooseLabel Ends) → spelling version_2 (with_span l) ≡ spelling version_1 l
spelled_same l = ap (λ text. kind_text l.kind ++ (shift_text l.shift ++ (tag_text l.tag ++ (text ++ note_text l.note)))) (told_same l.ends)

some_same : (ends : Option Ends) → is_some (option_map fixed ends) ≡ is_some ends
some_same None = refl
some_same (Some ends) = refl

form_spans : (ends : Option Ends) → IfSome (option_map fixed ends) (λ span. IsTrue (has_span_form span))
form_spans None = tt
form_spans (Some ends) = refl

form_ends : (ends : Option Ends) → IfSome ends (λ written. IsTrue true)
form_ends None = tt
form_ends (Some ends) = refl

pub label_stays : (text : List ℕ) (l : LooseLabel Ends) → label_of ends_of text ≡ Some l → label_of span_of text ≡ Some (with_span l)
label_stays text l e =
    let read = label_takes version_1 ends_of ends_invert text l e in
    let loose : IsLoose version_2 (with_span l) = record { shift = read.0.shift; tag = read.0.tag; ends = some_same l.ends ∙ read.0.ends; form = form_spans l.ends } in
    ap (label_of span_of) (read.1 ∙ sym (spelled_same l)) ∙ label_again version_2 span_of spans_invert (with_span l) loose

pub label_was_plain : (text : List ℕ) (l : LooseLabel Ends) → label_of span_of text ≡ Some (with_span l) → label_of ends_of text ≡ Some l
label_was_plain text l e =
    let read = label_takes version_2 span_of spans_invert text (with_span l) e in
    let loose : IsLoose version_1 l = record { shift = read.0.shift; tag = read.0.tag; ends = sym (some_same l.ends) ∙ read.0.ends; form = form_ends l.ends } in
    ap (label_of ends_of) (read.1 ∙ spelled_same l) ∙ label_again version_1 ends_of ends_invert l loose
