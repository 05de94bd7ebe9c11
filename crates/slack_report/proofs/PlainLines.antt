-- Every word of a line is plain, so the line is cut into just its words.
use Rattle.std.proofs.Common.{◌≡◌, ◌+◌, ℕ, Bool, true, false, leb, not, ◌&&◌, eqb, List, [], ◌∷◌, ◌++◌, map, length, codes, Option, Some, None, refl, sym, ap, ◌∙◌}
use Rattle.std.specs.Char.{is_ascii_graphic}
use Rattle.std.specs.List.{list_all}
use Rattle.std.specs.Str.{IsUtf8}
use Rattle.std.proofs.lemmas.Bool.{and_parts}
use Rattle.std.proofs.lemmas.List.Splits.{join_with_byte-slice_split}
use Rattle.itv_base.specs.Characters.{is_name_byte}
use Rattle.itv_base.specs.declared.limits.TheConstants.{MAX_NAME_LEN}
use Rattle.itv_base.specs.Names.{Name}
use Rattle.itv_base.specs.Numerals.{end_text, number_text, signed_text}
use Rattle.itv_base.specs.Range.{Ends}
use Rattle.certificate.proofs.LineLaws.{proof_plain}
use Rattle.line_words.specs.Lines.{line_of}
use Rattle.line_words.specs.Words.{Word, split_words}
use Rattle.line_words.proofs.Cutting.{IsLine}
use Rattle.line_words.proofs.Plain.{ArePlain, all_weaker, end_plain, is_plain, join_line, line_is_text, map_plain, number_plain, plain_append, signed_plain, split-join, name_byte_plain}
use Rattle.requirements.specs.declared.bound.Bound.TheVariants as bounds
use Rattle.requirements.specs.declared.verdict.Verdict.TheVariants as verdicts
use Rattle.itv_base.specs.declared.row_kind.RowKind.TheVariants as kinds
use Rattle.slack_report.specs.declared.words.EndWord.TheVariants as endings
use Rattle.requirements.specs.declared.consistency.Consistency.TheVariants as findings
use Rattle.slack_report.specs.declared.words.Which.{Which}
use Rattle.slack_report.specs.declared.words.Which.TheVariants as sorts
use Rattle.slack_report.specs.declared.place.Place.{Place}
use Rattle.slack_report.specs.Entry.{Entry, IsReportEntry, IsName, heading, budget, events, event, proof, finding, times, rows, row, bound, raise, verdict, slack, ending}
use Rattle.slack_report.specs.declared.words.EndWord.{EndWord}
use Rattle.requirements.specs.declared.consistency.Consistency.{Consistency}
use Rattle.slack_report.specs.Order.{OrderStep, events_at}
use Rattle.slack_report.specs.Reading.{step_at}
use Rattle.slack_report.specs.Text.{entry_line, ending_word, finding_word, members_from, name_word, range_word, which_word, words_of}
use Rattle.slack_report.proofs.Standing.{step_again, step_takes}
use Rattle.slack_report.proofs.Walking.{LineLaws}

-- ---- each word

name_plain : (name : Name) → IsName name → is_plain (name_word name) ≡ true
name_plain name form =
    let bytes : list_all is_name_byte name.part ≡ true = (and_parts (leb 1 (length name.part) && leb (length name.part) MAX_NAME_LEN) (list_all is_name_byte name.part) form.part).1 in
    let mark : is_ascii_graphic name.mark ≡ true = (and_parts (is_ascii_graphic name.mark) (not (eqb name.mark 46)) form.mark).0 in
    let behind : is_plain (46 ∷ name.mark ∷ 64 ∷ number_text name.cycle) ≡ true = rw (mark, number_plain name.cycle) refl in
    plain_append name.part (46 ∷ name.mark ∷ 64 ∷ number_text name.cycle) (all_weaker is_name_byte is_ascii_graphic name_byte_plain name.part bytes) behind

range_plain : (ends : Ends) → is_plain (range_word ends) ≡ true
range_plain ends =
    plain_append (end_text ends.low) (44 ∷ (end_text ends.high ++ (93 ∷ []))) (end_plain ends.low) (plain_append (end_text ends.high) (93 ∷ []) (end_plain ends.high) refl)

pub members_plain : (set : List Bool) (number : ℕ) → ArePlain (members_from number set)
members_plain [] number = tt
members_plain (true ∷ set) number = (number_plain number, members_plain set (number + 1))
members_plain (false ∷ set) number = members_plain set (number + 1)

finding_plain : (word : Consistency) → is_plain (finding_word word) ≡ true
finding_plain findings.Consistent = refl
finding_plain findings.Inconsistent = refl
finding_plain findings.Open = refl

ending_plain : (word : EndWord) → is_plain (ending_word word) ≡ true
ending_plain endings.Pass = refl
ending_plain endings.Fail = refl
ending_plain endings.Inconsistent = refl
ending_plain endings.Undecided = refl

pub which_plain : (which : Which) → is_plain (which_word which) ≡ true
which_plain sorts.Max = refl
which_plain sorts.Min = refl

-- ---- the words of a line: one and others, all of them plain

pub record Words (words : List Word) : Type 0 where
  pub first : Word
  pub others : List Word
  pub parts : words ≡ first ∷ others
  pub plain : ArePlain (first ∷ others)

abbrev words_are : (first : Word) (others : List Word) → ArePlain (first ∷ others) → Words (first ∷ others)
words_are first others plain = record { first = first; others = others; parts = refl; plain = plain }

pub words_plain : (count : ℕ) (entry : Entry) → IsReportEntry count entry → Words (words_of entry)
unfolding words_of
words_plain count heading form = words_are (codes "itv") (codes "report" ∷ codes "1" ∷ []) (refl, (refl, (refl, tt)))
words_plain count (budget most) form = words_are (codes "budget") (number_text most ∷ []) (refl, (number_plain most, tt))
words_plain count (events number) form = words_are (codes "events") (number_text number ∷ []) (refl, (number_plain number, tt))
words_plain count (event number name) form = words_are (codes "event") (number_text number ∷ name_word name ∷ []) (refl, (number_plain number, (name_plain name form, tt)))
words_plain count (proof line) form = let w = proof_plain line in record { first = w.first; others = w.others; parts = w.parts; plain = w.plain }
words_plain count (finding word) form = words_are (codes "finding") (finding_word word ∷ []) (refl, (finding_plain word, tt))
words_plain count (times list) form = words_are (codes "times") (map signed_text list) (refl, map_plain signed_text signed_plain list)
words_plain count (rows number) form = words_are (codes "rows") (number_text number ∷ []) (refl, (number_plain number, tt))
words_plain count (row number kinds.Ask from to) form =
    words_are (codes "row") (number_text number ∷ codes "ask" ∷ name_word from ∷ name_word to ∷ []) (refl, (number_plain number, (refl, (name_plain from form.1, (name_plain to form.2, tt)))))
words_plain count (row number (kinds.Req ends) from to) form =
    words_are (codes "row") (number_text number ∷ codes "req" ∷ name_word from ∷ name_word to ∷ range_word ends ∷ []) (refl, (number_plain number, (refl, (name_plain from form.1, (name_plain to form.2, (range_plain ends, tt))))))
words_plain count (bound which (bounds.Closed value)) form = words_are (which_word which) (signed_text value ∷ []) (which_plain which, (signed_plain value, tt))
words_plain count (bound which bounds.Unbounded) form = words_are (which_word which) (codes "unbounded" ∷ []) (which_plain which, (refl, tt))
words_plain count (bound which (bounds.Within limit None)) form = words_are (which_word which) (codes "within" ∷ end_text limit ∷ []) (which_plain which, (refl, (end_plain limit, tt)))
words_plain count (bound which (bounds.Within limit (Some found))) form =
    words_are (which_word which) (codes "within" ∷ end_text limit ∷ codes "found" ∷ signed_text found ∷ []) (which_plain which, (refl, (end_plain limit, (refl, (signed_plain found, tt)))))
words_plain count (raise set) form = words_are (codes "raise") (members_from 0 set) (refl, members_plain set 0)
words_plain count (verdict verdicts.Pass) form = words_are (codes "verdict") (codes "pass" ∷ []) (refl, (refl, tt))
words_plain count (verdict verdicts.FailHigh) form = words_are (codes "verdict") (codes "fail" ∷ codes "high" ∷ []) (refl, (refl, (refl, tt)))
words_plain count (verdict verdicts.FailLow) form = words_are (codes "verdict") (codes "fail" ∷ codes "low" ∷ []) (refl, (refl, (refl, tt)))
words_plain count (verdict verdicts.Undecided) form = words_are (codes "verdict") (codes "undecided" ∷ []) (refl, (refl, tt))
words_plain count (slack value) form = words_are (codes "slack") (end_text value.low ∷ end_text value.high ∷ []) (refl, (end_plain value.low, (end_plain value.high, tt)))
words_plain count (ending word) form = words_are (codes "end") (ending_word word ∷ []) (refl, (ending_plain word, tt))

-- ---- lines

pub line_words : (count : ℕ) (entry : Entry) → IsReportEntry count entry → split_words (entry_line entry) ≡ words_of entry
line_words count entry form =
    let w = words_plain count entry form in
    rw w.parts (split-join w.first w.others w.plain)

is_one_line : (count : ℕ) (entry : Entry) → IsReportEntry count entry → IsLine (entry_line entry)
is_one_line count entry form =
    let w = words_plain count entry form in
    rw w.parts (join_line (w.first ∷ w.others) w.plain)

entry_is_text : (count : ℕ) (entry : Entry) → IsReportEntry count entry → IsUtf8 (entry_line entry)
entry_is_text count entry form =
    let w = words_plain count entry form in
    rw w.parts (line_is_text (w.first ∷ w.others) w.plain)

takes_line : (place : Place) (line : List ℕ) (step : Entry × Place) → step_at place (split_words line) ≡ Some step → (line ≡ entry_line step.0) × OrderStep place step.0 step.1
takes_line place line step e =
    let t = step_takes place (split_words line) step e in
    (sym (join_with_byte-slice_split 32 line) ∙ ap line_of t.0, t.1)

pub line_laws : LineLaws
line_laws = record {
  takes = takes_line;
  again = λ place entry behind steps. ap (step_at place) (line_words (events_at place) entry steps.is_entry) ∙ step_again place entry behind steps;
  is_line = λ place entry behind steps. is_one_line (events_at place) entry steps.is_entry;
}

-- bytes that are not UTF-8 are no line
pub no_line : (place : Place) (line : List ℕ) → (IsUtf8 line → ⊥) → None ≡ step_at place (split_words line)
no_line place line other = none_at (step_at place (split_words line)) refl
  where
    none_at : (o : Option (Entry × Place)) → step_at place (split_words line) ≡ o → None ≡ o
    none_at None e = refl
    none_at (Some step) e =
        let t = takes_line place line step e in
        absurd (other (rw t.0 (entry_is_text (events_at place) step.0 t.1.is_entry)))
