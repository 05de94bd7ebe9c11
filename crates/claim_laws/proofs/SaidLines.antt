-- What may be relied on in the text of a right report.
use Rattle.std.proofs.Common.{◌≡◌, ◌==◌, ◌++◌, ℕ, Bool, true, false, if◌then◌else◌, List, [], ◌∷◌, map, Some, None, slice_get, refl, sym, ap, subst, ◌∙◌, eq-eqb, codes, arith}
use Rattle.std.specs.List.{flat_map}
use Rattle.std.specs.Str.{bytes_eq}
use Rattle.std.proofs.lemmas.Bool.{eqb-true}
use Rattle.std.proofs.lemmas.Int.{ints}
use Rattle.std.proofs.lemmas.Option.{same_Some}
use Rattle.std.proofs.lemmas.Slice.Eq.{bytes_eq-Decides}
use Rattle.itv_base.specs.Numerals.{number_text, value_of}
use Rattle.itv_base.proofs.Numerals.{value-text}
use Rattle.itv_base.specs.Range.{Ends}
use Rattle.itv_base.specs.declared.row_kind.RowKind.TheVariants.{Req}
use Rattle.event_graph.specs.Network.{Net}
use Rattle.event_graph.specs.Proof.{Loop, Path, Split}
use Rattle.event_graph.proofs.ByEdges.{satisfying_meets_always}
use Rattle.line_words.specs.Lines.{ended, line_of}
use Rattle.line_words.specs.Words.{Word}
use Rattle.requirements.specs.Bounds.{IsGreatestBound, IsLeastBound}
use Rattle.requirements.specs.declared.bound.Bound.{Bound}
use Rattle.requirements.specs.declared.bound.Bound.TheVariants.{Closed, Unbounded, Within}
use Rattle.requirements.specs.declared.verdict.Verdict.{Verdict}
use Rattle.requirements.specs.declared.verdict.Verdict.TheVariants.{Pass, FailHigh, FailLow, Undecided}
use Rattle.slack_report.specs.declared.words.Which.TheVariants.{Max, Min}
use Rattle.slack_report.specs.Entry.{Entry, heading, budget, events, event, proof, finding, times, rows, row, bound, raise, verdict, slack, ending}
use Rattle.slack_report.specs.Text.{bound_words, report_text, verdict_words, words_of}
use Rattle.drawn_networks.specs.Drawn.{Drawn}
use Rattle.drawn_networks.specs.declared.row.Row.{Row}
use Rattle.right_report.specs.ReportContents.{behind_row, first_bound, first_verdict}
use Rattle.right_report.specs.Right.ReportState.{at_last}
use Rattle.right_report.specs.Right.LineClaims.{IsRightReport}
use Rattle.claim_laws.specs.Laws.{RightTextIsSo}
use Rattle.claim_laws.specs.Said.{IsSoMax, IsSoMin, IsSoVerdict, first_line, line_on, lines_behind}
use Rattle.right_report.proofs.RowBounds.{greatest_is_right, least_is_right}
use Rattle.claim_laws.proofs.RowLines.{requirement_has_verdict, row_has_greatest, row_has_least}
use Rattle.right_report.proofs.RowVerdicts.{fail_high_is_broken, fail_low_is_broken, pass_is_met}

-- ---- lines of words

text_is : (lines : List Entry) → report_text lines ≡ flat_map (λ words. ended (line_of words)) (map words_of lines)
text_is [] = refl
text_is (line ∷ lines) = ap (λ rest. ended (line_of (words_of line)) ++ rest) (text_is lines)

-- two numbers have one text if and only if they are the same
same_text : (a b : ℕ) → bytes_eq (number_text a) (number_text b) ≡ (a == b)
same_text a b = by (bytes_eq (number_text a) (number_text b)) (a == b) refl refl
  where
    by : (t u : Bool) → bytes_eq (number_text a) (number_text b) ≡ t → (a == b) ≡ u → t ≡ u
    by true true is same = refl
    by false false is same = refl
    by true false is other =
        let texts : number_text a ≡ number_text b = (bytes_eq-Decides (number_text a) (number_text b)).0 is in
        let equal : a ≡ b = sym (value-text a) ∙ ap value_of texts ∙ value-text b in
        absurd (cc (eq-eqb a b equal, other))
    by false true other same =
        absurd (cc (other, (bytes_eq-Decides (number_text a) (number_text b)).1 (ap number_text (eqb-true a b same))))

behind_is : (number : ℕ) (lines : List Entry) → lines_behind number (map words_of lines) ≡ map words_of (behind_row number lines)
unfolding words_of
behind_is number [] = refl
behind_is number (heading ∷ lines) = behind_is number lines
behind_is number (budget most ∷ lines) = behind_is number lines
behind_is number (events count ∷ lines) = behind_is number lines
behind_is number (event other name ∷ lines) = behind_is number lines
behind_is number (proof (Split constraint) ∷ lines) = behind_is number lines
behind_is number (proof (Path edges) ∷ lines) = behind_is number lines
behind_is number (proof (Loop edges) ∷ lines) = behind_is number lines
behind_is number (finding word ∷ lines) = behind_is number lines
behind_is number (times list ∷ lines) = behind_is number lines
behind_is number (rows count ∷ lines) = behind_is number lines
behind_is number (row other kind from to ∷ lines) = by (bytes_eq (number_text other) (number_text number)) (other == number) (same_text other number) (behind_is number lines)
  where
    by : (t u : Bool) → t ≡ u → lines_behind number (map words_of lines) ≡ map words_of (behind_row number lines)
        → (if t then map words_of lines else lines_behind number (map words_of lines)) ≡ map words_of (if u then lines else behind_row number lines)
    by true true is later = refl
    by false false is later = later
    by true false is later = absurd (cc is)
    by false true is later = absurd (cc is)
behind_is number (bound Max value ∷ lines) = behind_is number lines
behind_is number (bound Min value ∷ lines) = behind_is number lines
behind_is number (raise set ∷ lines) = behind_is number lines
behind_is number (verdict word ∷ lines) = behind_is number lines
behind_is number (slack value ∷ lines) = behind_is number lines
behind_is number (ending word ∷ lines) = behind_is number lines

max_is : (lines : List Entry) (value : Bound) → first_bound Max lines ≡ Some value → first_line (codes "max") (map words_of lines) ≡ Some (codes "max" ∷ bound_words value)
unfolding words_of
max_is [] value is = absurd (cc is)
max_is (heading ∷ lines) value is = max_is lines value is
max_is (budget most ∷ lines) value is = max_is lines value is
max_is (events count ∷ lines) value is = max_is lines value is
max_is (event other name ∷ lines) value is = max_is lines value is
max_is (proof (Split constraint) ∷ lines) value is = max_is lines value is
max_is (proof (Path edges) ∷ lines) value is = max_is lines value is
max_is (proof (Loop edges) ∷ lines) value is = max_is lines value is
max_is (finding word ∷ lines) value is = max_is lines value is
max_is (times list ∷ lines) value is = max_is lines value is
max_is (rows count ∷ lines) value is = max_is lines value is
max_is (row other kind from to ∷ lines) value is = absurd (cc is)
max_is (bound Max found ∷ lines) value is = ap (λ v. Some (codes "max" ∷ bound_words v)) (same_Some found value is)
max_is (bound Min found ∷ lines) value is = max_is lines value is
max_is (raise set ∷ lines) value is = max_is lines value is
max_is (verdict word ∷ lines) value is = max_is lines value is
max_is (slack found ∷ lines) value is = max_is lines value is
max_is (ending word ∷ lines) value is = max_is lines value is

min_is : (lines : List Entry) (value : Bound) → first_bound Min lines ≡ Some value → first_line (codes "min") (map words_of lines) ≡ Some (codes "min" ∷ bound_words value)
unfolding words_of
min_is [] value is = absurd (cc is)
min_is (heading ∷ lines) value is = min_is lines value is
min_is (budget most ∷ lines) value is = min_is lines value is
min_is (events count ∷ lines) value is = min_is lines value is
min_is (event other name ∷ lines) value is = min_is lines value is
min_is (proof (Split constraint) ∷ lines) value is = min_is lines value is
min_is (proof (Path edges) ∷ lines) value is = min_is lines value is
min_is (proof (Loop edges) ∷ lines) value is = min_is lines value is
min_is (finding word ∷ lines) value is = min_is lines value is
min_is (times list ∷ lines) value is = min_is lines value is
min_is (rows count ∷ lines) value is = min_is lines value is
min_is (row other kind from to ∷ lines) value is = absurd (cc is)
min_is (bound Max found ∷ lines) value is = min_is lines value is
min_is (bound Min found ∷ lines) value is = ap (λ v. Some (codes "min" ∷ bound_words v)) (same_Some found value is)
min_is (raise set ∷ lines) value is = min_is lines value is
min_is (verdict word ∷ lines) value is = min_is lines value is
min_is (slack found ∷ lines) value is = min_is lines value is
min_is (ending word ∷ lines) value is = min_is lines value is

verdict_is : (lines : List Entry) (word : Verdict) → first_verdict lines ≡ Some word → first_line (codes "verdict") (map words_of lines) ≡ Some (codes "verdict" ∷ verdict_words word)
unfolding words_of
verdict_is [] word is = absurd (cc is)
verdict_is (heading ∷ lines) word is = verdict_is lines word is
verdict_is (budget most ∷ lines) word is = verdict_is lines word is
verdict_is (events count ∷ lines) word is = verdict_is lines word is
verdict_is (event other name ∷ lines) word is = verdict_is lines word is
verdict_is (proof (Split constraint) ∷ lines) word is = verdict_is lines word is
verdict_is (proof (Path edges) ∷ lines) word is = verdict_is lines word is
verdict_is (proof (Loop edges) ∷ lines) word is = verdict_is lines word is
verdict_is (finding found ∷ lines) word is = verdict_is lines word is
verdict_is (times list ∷ lines) word is = verdict_is lines word is
verdict_is (rows count ∷ lines) word is = verdict_is lines word is
verdict_is (row other kind from to ∷ lines) word is = absurd (cc is)
verdict_is (bound Max found ∷ lines) word is = verdict_is lines word is
verdict_is (bound Min found ∷ lines) word is = verdict_is lines word is
verdict_is (raise set ∷ lines) word is = verdict_is lines word is
verdict_is (verdict found ∷ lines) word is = ap (λ v. Some (codes "verdict" ∷ verdict_words v)) (same_Some found word is)
verdict_is (slack found ∷ lines) word is = verdict_is lines word is
verdict_is (ending found ∷ lines) word is = verdict_is lines word is

-- ---- what they say

so_max : (net : Net) (r : Row) (value : Bound) → IsGreatestBound net r.from r.to value → IsSoMax net r value
so_max net r (Closed value) is = is
so_max net r Unbounded is = is
so_max net r (Within (Some limit) found) is = (λ times satisfied. is.0.most times (satisfying_meets_always net times satisfied), is.1)
so_max net r (Within None found) is = (tt, is.1)

so_min : (net : Net) (r : Row) (value : Bound) → IsLeastBound net r.from r.to value → IsSoMin net r value
so_min net r (Closed value) is = is
so_min net r Unbounded is = is
so_min net r (Within (Some limit) found) is = (λ times satisfied. let most = is.0.most times (satisfying_meets_always net times satisfied) in omega (arith, ints, most), is.1)
so_min net r (Within None found) is = (tt, is.1)

so_verdict : (drawn : Drawn) (lines : List Entry) → IsRightReport drawn lines → (number : ℕ) (r : Row) (range : Ends) (word : Verdict) → slice_get drawn.rows number ≡ Some r → r.kind ≡ Req range
    → first_verdict (behind_row number lines) ≡ Some word → IsSoVerdict drawn.net r range word
so_verdict drawn lines is number r range Pass there demands said =
    let (other, kind, met) = pass_is_met drawn lines number r (at_last, is) there said in
    let same : other ≡ range = cc (kind, demands) in subst (λ e. IsSoVerdict drawn.net r e Pass) same met
so_verdict drawn lines is number r range FailHigh there demands said =
    let (other, kind, broken) = fail_high_is_broken drawn lines number r (at_last, is) there said in
    let same : other ≡ range = cc (kind, demands) in subst (λ e. IsSoVerdict drawn.net r e FailHigh) same broken
so_verdict drawn lines is number r range FailLow there demands said =
    let (other, kind, broken) = fail_low_is_broken drawn lines number r (at_last, is) there said in
    let same : other ≡ range = cc (kind, demands) in subst (λ e. IsSoVerdict drawn.net r e FailLow) same broken
so_verdict drawn lines is number r range Undecided there demands said = tt

-- a line of a row, by the lines of the report
on_row : (lines : List Entry) (number : ℕ) (word : Word) (line : List Word) → first_line word (map words_of (behind_row number lines)) ≡ Some line → line_on (map words_of lines) number word ≡ Some line
on_row lines number word line is = ap (first_line word) (behind_is number lines) ∙ is

pub right_text_is_so : RightTextIsSo
right_text_is_so drawn lines is ends = record {
  lines = map words_of lines;
  is_text = text_is lines;
  greatest = λ number r there.
      let (value, found) = row_has_greatest drawn lines number r is there ends in
      (value, on_row lines number (codes "max") (codes "max" ∷ bound_words value) (max_is (behind_row number lines) value found), so_max drawn.net r value (greatest_is_right drawn lines number r value is there found));
  least = λ number r there.
      let (value, found) = row_has_least drawn lines number r is there ends in
      (value, on_row lines number (codes "min") (codes "min" ∷ bound_words value) (min_is (behind_row number lines) value found), so_min drawn.net r value (least_is_right drawn lines number r value is there found));
  verdict = λ number r range there demands.
      let (word, found) = requirement_has_verdict drawn lines number r range is there demands ends in
      (word, on_row lines number (codes "verdict") (codes "verdict" ∷ verdict_words word) (verdict_is (behind_row number lines) word found), so_verdict drawn lines is number r range word there demands found);
}
