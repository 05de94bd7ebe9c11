-- What the end of a right report says.
use Rattle.std.proofs.Common.{◌≡◌, ◌+◌, ◌-◌, ◌<◌, ◌||◌, ℕ, ℤ, Bool, true, false, if◌then◌else◌, List, [], ◌∷◌, length, drop, Some, None, slice_get, inl, inr, ◌⊎◌, refl, sym, ap, subst, ◌∙◌, arith, length-drop}
use Rattle.std.proofs.lemmas.Bool.{cases_eq}
use Rattle.std.proofs.lemmas.Option.{same_Some, slice_get_within}
use Rattle.itv_base.specs.Range.{Ends}
use Rattle.event_graph.specs.Bounds.{IsInconsistent}
use Rattle.event_graph.specs.Proof.{ProofLine}
use Rattle.requirements.specs.Laws.{AreBounds, IsMet, IsWithin}
use Rattle.requirements.specs.Verdicts.{verdict_of}
use Rattle.requirements.specs.declared.bound.Bound.{Bound}
use Rattle.requirements.specs.declared.bound.Bound.TheVariants.{Closed, Unbounded, Within}
use Rattle.requirements.specs.declared.verdict.Verdict.{Verdict}
use Rattle.requirements.specs.declared.verdict.Verdict.TheVariants as verdicts
use Rattle.requirements.proofs.Judging as requirement
use Rattle.itv_base.specs.declared.row_kind.RowKind.{RowKind}
use Rattle.itv_base.specs.declared.row_kind.RowKind.TheVariants.{Ask, Req}
use Rattle.slack_report.specs.declared.words.EndWord.{EndWord}
use Rattle.slack_report.specs.declared.words.EndWord.TheVariants as endings
use Rattle.requirements.specs.declared.consistency.Consistency.{Consistency}
use Rattle.requirements.specs.declared.consistency.Consistency.TheVariants.{Consistent, Inconsistent, Open}
use Rattle.slack_report.specs.Entry.{Entry, ending}
use Rattle.drawn_networks.specs.Drawn.{Drawn}
use Rattle.drawn_networks.specs.declared.row.Row.{Row}
use Rattle.right_report.specs.Right.ReportState.{ReportState, NextBound, CurrentRow, at_heading, at_budget, at_events, at_event, at_finding, at_known, at_rows, at_row, at_bound, at_times, at_raise, at_verdict, at_past, at_slack, at_end, at_last, behind_bound, behind_finding, behind_times, behind_verdict, bounded, end_word, greatest, is_fail, is_within, judged, least_by, undecided_or_pass, with_bounds, with_verdict}
use Rattle.right_report.specs.declared.tally.ReportTally.{ReportTally}
use Rattle.right_report.specs.Right.LineClaims.{IsFinding, right}
use Rattle.right_report.specs.Right.Following.{MayBound, MayFind, MayFollow, LinesLead}
use Rattle.right_report.specs.Laws.{AllMet, FailEndIsSo, InconsistentEndIsSo, PassEndIsSo, SomeBroken, SomeSatisfy}
use Rattle.right_report.specs.ReportContents.{end_in}
use Rattle.right_report.proofs.Standing.{IsTold, Stands, stands}

or_first : (a b : Bool) → (a || b) ≡ false → a ≡ false
or_first true b e = e
or_first false b e = refl

or_second : (a b : Bool) → (a || b) ≡ false → b ≡ false
or_second true b e = absurd (cc)
or_second false b e = e

or_some : (a b : Bool) → (a || b) ≡ true → (a ≡ true) ⊎ (b ≡ true)
or_some true b e = inl refl
or_some false b e = inr e

-- ---- what the rows so far say

-- what a report says of the rows before this one
pub record Tallies (drawn : Drawn) (tally : ReportTally) (number : ℕ) : Type 0 where
  pub met : tally.fails ≡ false → tally.within ≡ false → (k : ℕ) (r : Row) (range : Ends) → k < number → slice_get drawn.rows k ≡ Some r → r.kind ≡ Req range → IsMet drawn.net r.from r.to range
  pub broken : tally.fails ≡ true → SomeBroken drawn
  pub satisfied : tally.found ≡ Consistent → SomeSatisfy drawn.net
  pub settled : tally.found ≡ Inconsistent → ⊥

abbrev Counts : Drawn → ReportState → Type 0
Counts drawn (at_rows word) = (word ≡ Consistent → SomeSatisfy drawn.net) × (word ≡ Inconsistent → ⊥)
Counts drawn (at_row tally number later) = Tallies drawn tally number
Counts drawn (at_bound current coming lines) = Tallies drawn current.tally current.number
Counts drawn (at_times current coming value) = Tallies drawn current.tally current.number
Counts drawn (at_raise current coming list) = Tallies drawn current.tally current.number
Counts drawn (at_verdict current range least most) = Tallies drawn current.tally current.number
Counts drawn (at_past current range least most) = Tallies drawn current.tally current.number
Counts drawn (at_slack tally number later range least most) = Tallies drawn tally number
Counts drawn (at_end word) = (word ≡ endings.Inconsistent) × IsInconsistent drawn.net
Counts drawn other = Unit {0}

-- ---- a row with all its lines

pub within_is : (value : Bound) → IsWithin value → is_within value ≡ false → ⊥
within_is (Closed value) w e = w
within_is Unbounded w e = w
within_is (Within limit attained) w e = cc

module _ (drawn : Drawn) (current : CurrentRow) (is_row : slice_get drawn.rows current.number ≡ Some current.row) (c : Tallies drawn current.tally current.number) where
  -- one more row
  tallies_more : (new : ReportTally) → (new.fails ≡ false → current.tally.fails ≡ false) → (new.within ≡ false → current.tally.within ≡ false)
      → (new.fails ≡ false → new.within ≡ false → (range : Ends) → current.row.kind ≡ Req range → IsMet drawn.net current.row.from current.row.to range)
      → (new.fails ≡ true → SomeBroken drawn) → new.found ≡ current.tally.found → Tallies drawn new (current.number + 1)
  tallies_more new old_fails old_within here broken found = record {
    met = met;
    broken = broken;
    satisfied = λ e. c.satisfied (sym found ∙ e);
    settled = λ e. c.settled (sym found ∙ e);
  }
    where
      met : new.fails ≡ false → new.within ≡ false → (k : ℕ) (r : Row) (range : Ends) → k < current.number + 1 → slice_get drawn.rows k ≡ Some r → r.kind ≡ Req range → IsMet drawn.net r.from r.to range
      met f w k r range lt get kind =
          elim (cases_eq k current.number) [
            | inl e ↦ (
                let same : current.row ≡ r = same_Some current.row r (sym is_row ∙ ap (slice_get drawn.rows) (sym e) ∙ get) in
                subst (λ (x : Row). IsMet drawn.net x.from x.to range) same (here f w range (ap (λ (x : Row). x.kind) same ∙ kind)))
            | inr other ↦ (
                let below : k < current.number = omega arith in
                c.met (old_fails f) (old_within w) k r range below get kind)
          ]

  -- a row that demands nothing
  tallies_ask : (least most : Bound) → current.row.kind ≡ Ask → Tallies drawn (with_bounds current.tally least most) (current.number + 1)
  tallies_ask least most ask =
      tallies_more (with_bounds current.tally least most) (λ e. e) (or_first current.tally.within (is_within least || is_within most))
      (λ f w range kind. let clash : Ask ≡ Req range = sym ask ∙ kind in absurd (cc)) c.broken refl

  -- a row with its verdict
  module _ (range : Ends) (least most : Bound) (kind : current.row.kind ≡ Req range) (are : AreBounds drawn.net current.row.from current.row.to least most) where
    met_here : (word : Verdict) → verdict_of range least most ≡ word → is_fail word ≡ false → (is_within least || is_within most) ≡ false → IsMet drawn.net current.row.from current.row.to range
    met_here verdicts.Pass e f w = requirement.pass_is_met drawn.net current.row.from current.row.to range least most are e
    met_here verdicts.FailHigh e f w = absurd (cc)
    met_here verdicts.FailLow e f w = absurd (cc)
    met_here verdicts.Undecided e f w =
        elim (requirement.undecided_is_within range least most e) [
          | inl by_least ↦ absurd (within_is least by_least (or_first (is_within least) (is_within most) w))
          | inr by_most ↦ absurd (within_is most by_most (or_second (is_within least) (is_within most) w))
        ]

    broken_here : (word : Verdict) → verdict_of range least most ≡ word → is_fail word ≡ true → SomeBroken drawn
    broken_here verdicts.Pass e f = absurd (cc)
    broken_here verdicts.FailHigh e f = record {
      number = current.number;
      asked = current.row;
      range = range;
      is_row = is_row;
      is_kind = kind;
      is_broken = inl (requirement.fail_high_is_broken drawn.net current.row.from current.row.to range least most are e);
    }
    broken_here verdicts.FailLow e f = record {
      number = current.number;
      asked = current.row;
      range = range;
      is_row = is_row;
      is_kind = kind;
      is_broken = inr (requirement.fail_low_is_broken drawn.net current.row.from current.row.to range least most are e);
    }
    broken_here verdicts.Undecided e f = absurd (cc)

    same_range : (other : Ends) → current.row.kind ≡ Req other → range ≡ other
    same_range other e = let both : Req range ≡ Req other = sym kind ∙ e in cc

    tallies_word : (word : Verdict) → verdict_of range least most ≡ word → Tallies drawn (with_verdict (with_bounds current.tally least most) word) (current.number + 1)
    tallies_word word e =
        tallies_more (with_verdict (with_bounds current.tally least most) word) (or_first current.tally.fails (is_fail word)) (or_first current.tally.within (is_within least || is_within most))
        (λ f w other is. subst (IsMet drawn.net current.row.from current.row.to) (same_range other is)
        (met_here word e (or_second current.tally.fails (is_fail word) f) (or_second current.tally.within (is_within least || is_within most) w)))
        (λ f. elim (or_some current.tally.fails (is_fail word) f) [
          | inl old ↦ c.broken old
          | inr new ↦ broken_here word e new
        ]) refl

    counts_verdict : (word : Verdict) → verdict_of range least most ≡ word → Counts drawn (behind_verdict current range least most word)
    counts_verdict verdicts.Pass e = tallies_word verdicts.Pass e
    counts_verdict verdicts.FailHigh e = c
    counts_verdict verdicts.FailLow e = c
    counts_verdict verdicts.Undecided e = tallies_word verdicts.Undecided e

  -- ---- after a bound

  counts_judged : (least most : Bound) (kind : RowKind) → current.row.kind ≡ kind → Counts drawn (judged kind current least most)
  counts_judged least most Ask e = tallies_ask least most e
  counts_judged least most (Req range) e = c

  counts_bounded : (coming : NextBound) (value : Bound) → Counts drawn (bounded current coming value)
  counts_bounded greatest value = c
  counts_bounded (least_by most) value = counts_judged value most current.row.kind refl

  counts_bound : (coming : NextBound) (value : Bound) → Counts drawn (behind_bound current coming value)
  counts_bound coming (Closed value) = c
  counts_bound coming Unbounded = c
  counts_bound coming (Within limit (Some found)) = c
  counts_bound coming (Within limit None) = counts_bounded coming (Within limit None)

  counts_times : (coming : NextBound) (value : Bound) (list : List ℤ) → Counts drawn (behind_times current coming value list)
  counts_times coming (Closed value) list = counts_bounded coming (Closed value)
  counts_times coming Unbounded list = c
  counts_times coming (Within limit attained) list = counts_bounded coming (Within limit attained)

-- ---- a right line keeps the tally

module _ (drawn : Drawn) where
  counts_finding : (word : Consistency) → IsFinding drawn.net word → Counts drawn (behind_finding word)
  counts_finding Consistent h = tt
  counts_finding Inconsistent h = (refl, h)
  counts_finding Open h = ((λ e. absurd (cc e)), (λ e. cc))

  counts_find : (lines : List ProofLine) (line : Entry) (next : ReportState) → MayFind (right drawn.net) lines line next → Counts drawn next
  counts_find lines line next (inl h) = subst (Counts drawn) (sym h.2) tt
  counts_find lines line next (inr h) = subst (Counts drawn) (sym h.3) (counts_finding h.0 h.2)

  counts_bind : (current : CurrentRow) (coming : NextBound) (lines : List ProofLine) (line : Entry) (next : ReportState) → IsTold drawn current → Tallies drawn current.tally current.number → MayBound (right drawn.net) current coming lines line next
      → Counts drawn next
  counts_bind current coming lines line next t c (inl h) = subst (Counts drawn) (sym h.2) c
  counts_bind current coming lines line next t c (inr h) = subst (Counts drawn) (sym h.3) (counts_bound drawn current t.is_row c coming h.0)

  first_tally : (word : Consistency) → (word ≡ Consistent → SomeSatisfy drawn.net) → (word ≡ Inconsistent → ⊥) → Tallies drawn (record { found = word; fails = false; within = false }) 0
  first_tally word satisfied settled = record {
    met = λ f w k r range lt get kind. absurd (omega arith);
    broken = λ e. absurd (cc e);
    satisfied = satisfied;
    settled = settled;
  }

  counts : (here : ReportState) (line : Entry) (next : ReportState) → Stands drawn here → Counts drawn here → MayFollow (right drawn.net) drawn here line next → Counts drawn next
  counts at_heading line next s c h = subst (Counts drawn) (sym h.1) tt
  counts at_budget line next s c h = subst (Counts drawn) (sym h.2) tt
  counts at_events line next s c h = subst (Counts drawn) (sym h.1) tt
  counts (at_event number (name ∷ names)) line next s c h = subst (Counts drawn) (sym h.1) tt
  counts (at_event number []) line next s c h = counts_find [] line next h
  counts (at_finding lines) line next s c h = counts_find lines line next h
  counts at_known line next s c h = subst (Counts drawn) (sym h.3) ((λ e. (h.0, h.2.0)), (λ e. cc))
  counts (at_rows word) line next s c h = subst (Counts drawn) (sym h.1) (first_tally word c.0 c.1)
  counts (at_row tally number []) line next s c h = subst (Counts drawn) (sym h.1) tt
  counts (at_row tally number (r ∷ later)) line next s c h = subst (Counts drawn) (sym h.1) c
  counts (at_bound current coming lines) line next s c h = counts_bind current coming lines line next s.0 c h
  counts (at_times current coming value) line next s c h = subst (Counts drawn) (sym h.3) (counts_times drawn current s.0.is_row c coming value h.0)
  counts (at_raise current coming list) line next s c h = subst (Counts drawn) (sym h.3) (counts_bounded drawn current s.0.is_row c coming Unbounded)
  counts (at_verdict current range least most) line next s c h =
      subst (Counts drawn) (sym h.1) (counts_verdict drawn current s.0.is_row c range least most s.1 s.2 (verdict_of range least most) refl)
  counts (at_past current range least most) line next s c h =
      subst (Counts drawn) (sym h.3) (tallies_word drawn current s.0.is_row c range least most s.1 s.2 (verdict_of range least most) refl)
  counts (at_slack tally number later range least most) line next s c h = subst (Counts drawn) (sym h.1) c
  counts (at_end word) line next s c h = subst (Counts drawn) (sym h.1) tt
  counts at_last line next s c h = absurd h

-- ---- the end

abbrev EndSays : Drawn → EndWord → Type 0
EndSays drawn endings.Pass = SomeSatisfy drawn.net × AllMet drawn
EndSays drawn endings.Fail = SomeBroken drawn
EndSays drawn endings.Inconsistent = IsInconsistent drawn.net
EndSays drawn endings.Undecided = Unit {0}

pub same_ending : (a b : EndWord) → ending a ≡ ending b → a ≡ b
same_ending a b e = cc

module _ (drawn : Drawn) where
  -- after the last row every row has had its lines
  all_told : (number k : ℕ) (r : Row) → [] ≡ drop number drawn.rows → slice_get drawn.rows k ≡ Some r → k < number
  all_told number k r none get =
      let long : length {A = Row} [] ≡ length drawn.rows - number = ap length none ∙ length-drop number drawn.rows in
      let within : k < length drawn.rows = slice_get_within drawn.rows k r get in
      omega arith

  word_says : (tally : ReportTally) (number : ℕ) → [] ≡ drop number drawn.rows → Tallies drawn tally number → (fails : Bool) (found : Consistency) (within : Bool)
      → tally.fails ≡ fails → tally.found ≡ found → tally.within ≡ within → EndSays drawn (if fails then endings.Fail else undecided_or_pass found within)
  word_says tally number none c true found within f e w = c.broken f
  word_says tally number none c false Consistent true f e w = tt
  word_says tally number none c false Consistent false f e w = (c.satisfied e, λ k r range get kind. c.met f w k r range (all_told number k r none get) get kind)
  word_says tally number none c false Inconsistent within f e w = absurd (c.settled e)
  word_says tally number none c false Open within f e w = tt

  ending_says : (here : ReportState) (word : EndWord) (next : ReportState) → Stands drawn here → Counts drawn here → MayFollow (right drawn.net) drawn here (ending word) next → EndSays drawn word
  ending_says at_heading word next s c h = absurd (cc h.0)
  ending_says at_budget word next s c h = absurd (cc h.1)
  ending_says at_events word next s c h = absurd (cc h.0)
  ending_says (at_event number (name ∷ names)) word next s c h = absurd (cc h.0)
  ending_says (at_event number []) word next s c (inl h) = absurd (cc h.1)
  ending_says (at_event number []) word next s c (inr h) = absurd (cc h.1)
  ending_says (at_finding lines) word next s c (inl h) = absurd (cc h.1)
  ending_says (at_finding lines) word next s c (inr h) = absurd (cc h.1)
  ending_says at_known word next s c h = absurd (cc h.1)
  ending_says (at_rows found) word next s c h = absurd (cc h.0)
  ending_says (at_row tally number []) word next s c h =
      subst (EndSays drawn) (sym (same_ending word (end_word tally) h.0)) (word_says tally number s c tally.fails tally.found tally.within refl refl refl)
  ending_says (at_row tally number (r ∷ later)) word next s c h = absurd (cc h.0)
  ending_says (at_bound current coming lines) word next s c (inl h) = absurd (cc h.1)
  ending_says (at_bound current coming lines) word next s c (inr h) = absurd (cc h.1)
  ending_says (at_times current coming value) word next s c h = absurd (cc h.1)
  ending_says (at_raise current coming list) word next s c h = absurd (cc h.1)
  ending_says (at_verdict current range least most) word next s c h = absurd (cc h.0)
  ending_says (at_past current range least most) word next s c h = absurd (cc h.1)
  ending_says (at_slack tally number later range least most) word next s c h = absurd (cc h.0)
  ending_says (at_end other) word next s c h = subst (EndSays drawn) (sym (same_ending word other h.0 ∙ c.0)) c.1
  ending_says at_last word next s c h = absurd h

  end_says : (word : EndWord) (lines : List Entry) (here last : ReportState) → Stands drawn here → Counts drawn here → LinesLead (right drawn.net) drawn here lines last → end_in lines ≡ Some word → EndSays drawn word
  end_says word [] here last s c h is = absurd (cc)
  end_says word (ending other ∷ lines) here last s c h is = subst (EndSays drawn) (same_Some other word is) (ending_says here other h.0 s c h.1)
  end_says word (line ∷ lines) here last s c h is = end_says word lines h.0 last (stands drawn here line h.0 s h.1) (counts drawn here line h.0 s c h.1) h.2 is

pub pass_end_is_so : PassEndIsSo
pass_end_is_so drawn lines h is = end_says drawn endings.Pass lines at_heading h.0 tt tt h.1 is

pub fail_end_is_so : FailEndIsSo
fail_end_is_so drawn lines h is = end_says drawn endings.Fail lines at_heading h.0 tt tt h.1 is

pub inconsistent_end_is_so : InconsistentEndIsSo
inconsistent_end_is_so drawn lines h is = end_says drawn endings.Inconsistent lines at_heading h.0 tt tt h.1 is
