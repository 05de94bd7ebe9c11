-- A line is read as an edit if and only if it spells this edit.
use Rattle.std.proofs.Common.{◌≡◌, ℕ, ℤ, Bool, true, false, List, [], ◌∷◌, ◌++◌, length, Option, Some, None, Result, Ok, Err, refl, sym, ap, subst, ◌∙◌, append_assoc, codes, if◌then◌else◌, leb, ◌&&◌}
use Rattle.std.specs.List.{list_all}
use Rattle.std.specs.Char.{is_ascii_graphic}
use Rattle.std.specs.Str.{IsUtf8, is_utf8}
use Rattle.std.proofs.lemmas.Bool.{and_parts}
use Rattle.std.proofs.lemmas.Str.{is_utf8-from_IsUtf8}
use Rattle.itv_base.specs.Characters.{is_name, is_name_byte}
use Rattle.itv_base.specs.Numerals.{end_text, number_text}
use Rattle.itv_base.specs.Range.{Ends}
use Rattle.itv_base.specs.Reading.{◌>>=◌}
use Rattle.itv_base.specs.declared.limits.TheConstants.{MAX_NAME_LEN}
use Rattle.label_grammar.specs.Ends.{judged_alone, only_ends}
use Rattle.label_grammar.specs.Label.{ends_text}
use Rattle.label_grammar.specs.Reading.{ends_of}
use Rattle.label_grammar.specs.declared.label.LabelFault.{LabelFault}
use Rattle.label_grammar.specs.declared.label.LabelFault.TheVariants as labels
use Rattle.label_grammar.proofs.StandingRange.{range_again_all, range_takes_all}
use Rattle.line_words.specs.Lines.{line_of}
use Rattle.line_words.proofs.Plain.{ArePlain, all_weaker, end_plain, is_plain, line_is_text, number_plain, plain_append, name_byte_plain}
use Rattle.drawn_networks.specs.Drawn.{Drawn}
use Rattle.drawn_numbers.specs.declared.drawn_number.DrawnNumber.TheVariants as numbers
use Rattle.range_edits.specs.declared.edit.RangeEdit.{RangeEdit}
use Rattle.range_edits.specs.declared.edit.Subject.{Subject}
use Rattle.range_edits.specs.declared.edit.Subject.TheVariants.{Cause, Number}
use Rattle.range_edits.specs.declared.fault.EditsFault.{EditsFault}
use Rattle.range_edits.specs.declared.fault.EditsFault.TheVariants.{Line, NoSuch}
use Rattle.range_edits.specs.Subject.{HasSubjectForm, IsThere, is_there, subject_text}
use Rattle.range_edits.specs.EditLine.{IsEditOf, edit_at, edit_line, edit_named, edit_there, range_judged, subject_of}
use Rattle.range_edits.specs.Laws.{EditLinesAreRead}
use Rattle.range_edits.proofs.Subjects.{Found, subject_again, subject_takes}

-- ---- what is read is spelled

there_takes : (drawn : Drawn) (n : ℕ) (f e : RangeEdit) (b : Bool) → is_there drawn f.subject ≡ b
    → ◌≡◌ {A = Result RangeEdit EditsFault} (if b then Ok f else Err (NoSuch n)) (Ok e) → IsThere drawn f × (f ≡ e)
there_takes drawn n f e true is h = (is, cc)
there_takes drawn n f e false is h = absurd (cc)

judged_takes : (drawn : Drawn) (n : ℕ) (s : Subject) (rest : List ℕ) (r : Result Ends LabelFault) (e : RangeEdit) → judged_alone (only_ends (ends_of rest)) ≡ r
    → (range_judged n r >>= λ range. edit_there drawn n (record { subject = s; range = range })) ≡ Ok e → HasSubjectForm s
    → IsEditOf drawn (codes "set " ++ (subject_text s ++ rest)) e
judged_takes drawn n s rest (Ok range) e is h form =
    let f : RangeEdit = record { subject = s; range = range } in
    let t = there_takes drawn n f e (is_there drawn s) refl h in
    let spelled_so = range_takes_all rest range is in
    let own : IsEditOf drawn (codes "set " ++ (subject_text s ++ rest)) f = record {
      text = ap (λ r. codes "set " ++ (subject_text s ++ r)) spelled_so.0;
      subject = form;
      narrow = spelled_so.1;
      ordered = spelled_so.2;
      there = t.0;
    } in
    subst (IsEditOf drawn (codes "set " ++ (subject_text s ++ rest))) t.1 own
judged_takes drawn n s rest (Err labels.BadLabel) e is h form = absurd (cc)
judged_takes drawn n s rest (Err labels.TooWide) e is h form = absurd (cc)
judged_takes drawn n s rest (Err labels.EmptyRange) e is h form = absurd (cc)

named_takes : (drawn : Drawn) (n : ℕ) (line : List ℕ) (o : Option Found) (e : RangeEdit) → subject_of line ≡ o → edit_named drawn n o ≡ Ok e → IsEditOf drawn line e
named_takes drawn n line None e is h = absurd (cc)
named_takes drawn n line (Some x) e is h =
    let t = subject_takes line x is in
    subst (λ text. IsEditOf drawn text e) (sym t.1) (judged_takes drawn n x.0 x.1 (judged_alone (only_ends (ends_of x.1))) e refl h t.0)

text_takes : (drawn : Drawn) (n : ℕ) (line : List ℕ) (b : Bool) (e : RangeEdit) → (if b then edit_named drawn n (subject_of line) else Err (Line n)) ≡ Ok e → IsEditOf drawn line e
text_takes drawn n line true e h = named_takes drawn n line (subject_of line) e refl h
text_takes drawn n line false e h = absurd (cc)

-- what is read of a line is the edit that the line spells
pub edit_takes : (drawn : Drawn) (n : ℕ) (line : List ℕ) (e : RangeEdit) → edit_at drawn n line ≡ Ok e → IsEditOf drawn line e
edit_takes drawn n line e h = text_takes drawn n line (is_utf8 line) e h

-- ---- what is spelled is read

plain_range : (low high : Option ℤ) → is_plain (91 ∷ (end_text low ++ (44 ∷ (end_text high ++ (93 ∷ []))))) ≡ true
plain_range low high =
    plain_append (end_text low) (44 ∷ (end_text high ++ (93 ∷ []))) (end_plain low) (plain_append (end_text high) (93 ∷ []) (end_plain high) refl)

name_plain : (name : List ℕ) → is_name name ≡ true → is_plain name ≡ true
name_plain name h =
    let bytes : list_all is_name_byte name ≡ true = (and_parts (leb 1 (length name) && leb (length name) MAX_NAME_LEN) (list_all is_name_byte name) h).1 in
    all_weaker is_name_byte is_ascii_graphic name_byte_plain name bytes

-- the range as a word
abbrev range_of : Ends → List ℕ
range_of range = 91 ∷ (end_text range.low ++ (44 ∷ (end_text range.high ++ (93 ∷ []))))

-- the words of what is edited
abbrev words_of : Subject → List (List ℕ)
words_of (Cause name) = (number_text name.constraint ++ (46 ∷ number_text name.cause)) ∷ []
words_of (Number (numbers.Edge part edge)) = part ∷ codes "edge" ∷ number_text edge ∷ []
words_of (Number (numbers.Net net)) = codes "net" ∷ number_text net ∷ []
words_of (Number (numbers.Wire wire)) = codes "wire" ∷ number_text wire ∷ []

-- the words of a line
abbrev words : Subject → Ends → List (List ℕ)
words s range = codes "set" ∷ (words_of s ++ (range_of range ∷ []))

words_are : (s : Subject) (range : Ends) → line_of (words s range) ≡ codes "set " ++ (subject_text s ++ ends_text range)
words_are (Cause name) range = simp append_assoc
words_are (Number (numbers.Edge part edge)) range = simp append_assoc
words_are (Number (numbers.Net net)) range = simp append_assoc
words_are (Number (numbers.Wire wire)) range = simp append_assoc

words_plain : (s : Subject) (range : Ends) → HasSubjectForm s → ArePlain (words s range)
words_plain (Cause name) range form = (
  refl,
  (plain_append (number_text name.constraint) (46 ∷ number_text name.cause) (number_plain name.constraint) (number_plain name.cause), (plain_range range.low range.high, tt)),
)
words_plain (Number (numbers.Edge part edge)) range form = (refl, (name_plain part form.0, (refl, (number_plain edge, (plain_range range.low range.high, tt)))))
words_plain (Number (numbers.Net net)) range form = (refl, (refl, (number_plain net, (plain_range range.low range.high, tt))))
words_plain (Number (numbers.Wire wire)) range form = (refl, (refl, (number_plain wire, (plain_range range.low range.high, tt))))

line_utf8 : (e : RangeEdit) → HasSubjectForm e.subject → is_utf8 (edit_line e) ≡ true
line_utf8 e form =
    is_utf8-from_IsUtf8 (edit_line e) (subst IsUtf8 (words_are e.subject e.range) (line_is_text (words e.subject e.range) (words_plain e.subject e.range form)))

there_again : (drawn : Drawn) (n : ℕ) (e : RangeEdit) → IsThere drawn e → edit_there drawn n e ≡ Ok e
there_again drawn n e there = rw there refl

-- the line that spells an edit is read as this edit
pub edit_again : (drawn : Drawn) (n : ℕ) (line : List ℕ) (e : RangeEdit) → IsEditOf drawn line e → edit_at drawn n line ≡ Ok e
edit_again drawn n line e is =
    let named : subject_of (edit_line e) ≡ Some (e.subject, ends_text e.range) = subject_again e.subject (ends_text e.range) is.subject refl in
    let judged : judged_alone (only_ends (ends_of (ends_text e.range))) ≡ Ok e.range = range_again_all e.range is.narrow is.ordered in
    ap (edit_at drawn n) is.text ∙ rw (line_utf8 e is.subject, named, judged) (there_again drawn n e is.there)

pub edit_lines_are_read : EditLinesAreRead
edit_lines_are_read drawn n line e = (edit_takes drawn n line e, edit_again drawn n line e)
