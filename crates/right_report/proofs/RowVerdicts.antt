-- What a verdict in a right report says.
use Rattle.std.proofs.Common.{◌≡◌, ℕ, ℤ, List, [], ◌∷◌, ◌++◌, slice_get, Some, None, inl, inr, ◌⊎◌, refl, sym, subst}
use Rattle.std.proofs.lemmas.Option.{same_Some}
use Rattle.itv_base.specs.Range.{Ends}
use Rattle.requirements.specs.Laws.{AreBounds}
use Rattle.requirements.specs.Verdicts.{verdict_of}
use Rattle.requirements.specs.declared.bound.Bound.{Bound}
use Rattle.requirements.specs.declared.bound.Bound.TheVariants.{Closed, Unbounded, Within}
use Rattle.requirements.specs.declared.verdict.Verdict.{Verdict}
use Rattle.requirements.specs.declared.verdict.Verdict.TheVariants.{FailHigh, FailLow, Pass}
use Rattle.requirements.proofs.Judging as requirement
use Rattle.itv_base.specs.declared.row_kind.RowKind.{RowKind}
use Rattle.itv_base.specs.declared.row_kind.RowKind.TheVariants.{Ask, Req}
use Rattle.slack_report.specs.Entry.{Entry, bound, ending, proof, raise, times, verdict}
use Rattle.drawn_networks.specs.Drawn.{Drawn}
use Rattle.drawn_networks.specs.declared.row.Row.{Row}
use Rattle.right_report.specs.Right.ReportState.{ReportState, NextBound, CurrentRow, at_heading, at_row, at_bound, at_times, at_raise, at_verdict, at_last, behind_bound, behind_times, bounded, end_word, greatest, judged, least_by, which_of}
use Rattle.right_report.specs.Right.LineClaims.{BeginsRightReport, right}
use Rattle.right_report.specs.Right.Following.{MayFollow, LinesLead}
use Rattle.right_report.specs.Laws.{ReportFailHighIsBroken, ReportFailLowIsBroken, ReportPassIsMet}
use Rattle.right_report.specs.ReportContents.{first_verdict, verdict_on}
use Rattle.right_report.proofs.Standing.{Stands, on_row, stands}

-- the verdict is the verdict on the row's range by two right bounds
pub record IsJudged (drawn : Drawn) (r : Row) (word : Verdict) : Type 0 where
  pub range : Ends
  pub is_kind : r.kind ≡ Req range
  pub least : Bound
  pub most : Bound
  pub are_bounds : AreBounds drawn.net r.from r.to least most
  pub is_verdict : verdict_of range least most ≡ word

-- a state in which the verdict on a row is yet to come, or in which the row is over without a verdict
abbrev IsIn : Row → ReportState → Type 0
IsIn r (at_bound current coming lines) = current.row ≡ r
IsIn r (at_times current coming value) = current.row ≡ r
IsIn r (at_raise current coming list) = current.row ≡ r
IsIn r (at_verdict current range least most) = current.row ≡ r
IsIn r (at_row tally number later) = Unit {0}
IsIn r at_last = Unit {0}
IsIn r other = ⊥

in_judged : (r : Row) (kind : RowKind) (current : CurrentRow) (least most : Bound) → current.row ≡ r → IsIn r (judged kind current least most)
in_judged r Ask current least most is = tt
in_judged r (Req range) current least most is = is

in_bounded : (r : Row) (current : CurrentRow) (coming : NextBound) (value : Bound) → current.row ≡ r → IsIn r (bounded current coming value)
in_bounded r current greatest value is = is
in_bounded r current (least_by most) value is = in_judged r current.row.kind current value most is

in_bound : (r : Row) (current : CurrentRow) (coming : NextBound) (value : Bound) → current.row ≡ r → IsIn r (behind_bound current coming value)
in_bound r current coming (Closed value) is = is
in_bound r current coming Unbounded is = is
in_bound r current coming (Within limit (Some found)) is = is
in_bound r current coming (Within limit None) is = in_bounded r current coming (Within limit None) is

in_times : (r : Row) (current : CurrentRow) (coming : NextBound) (value : Bound) (list : List ℤ) → current.row ≡ r → IsIn r (behind_times current coming value list)
in_times r current coming (Closed value) list is = in_bounded r current coming (Closed value) is
in_times r current coming Unbounded list is = is
in_times r current coming (Within limit attained) list is = in_bounded r current coming (Within limit attained) is

module _ (drawn : Drawn) (r : Row) (word : Verdict) (lines : List Entry) where
  -- the line is not the verdict
  passes : (line known : Entry) (next there : ReportState) → first_verdict (line ∷ lines) ≡ Some word → line ≡ known → (first_verdict (known ∷ lines) ≡ Some word → first_verdict lines ≡ Some word) → next ≡ there → IsIn r there
      → (IsIn r next × (first_verdict lines ≡ Some word)) ⊎ IsJudged drawn r word
  passes line known next there is same skip leads inside = inl (subst (IsIn r) (sym leads) inside, skip (subst (λ l. first_verdict (l ∷ lines) ≡ Some word) same is))

  judged_here : (current : CurrentRow) (range : Ends) (least most : Bound) (line : Entry) → Stands drawn (at_verdict current range least most) → current.row ≡ r → line ≡ verdict (verdict_of range least most)
      → first_verdict (line ∷ lines) ≡ Some word → IsJudged drawn r word
  judged_here current range least most line s inside same is = subst (λ x. IsJudged drawn x word) inside (record {
    range = range;
    is_kind = s.1;
    least = least;
    most = most;
    are_bounds = s.2;
    is_verdict = same_Some (verdict_of range least most) word (subst (λ l. first_verdict (l ∷ lines) ≡ Some word) same is);
  })

  in_step : (here : ReportState) (line : Entry) (next : ReportState) → Stands drawn here → IsIn r here → MayFollow (right drawn.net) drawn here line next → first_verdict (line ∷ lines) ≡ Some word
      → (IsIn r next × (first_verdict lines ≡ Some word)) ⊎ IsJudged drawn r word
  in_step (at_bound current coming before) line next s inside (inl h) is = passes line (proof h.0) next (at_bound current coming (before ++ h.0 ∷ [])) is h.1 (λ x. x) h.2 inside
  in_step (at_bound current coming before) line next s inside (inr h) is = passes line (bound (which_of coming) h.0) next (behind_bound current coming h.0) is h.1 (λ x. x) h.3 (in_bound r current coming h.0 inside)
  in_step (at_times current coming value) line next s inside h is = passes line (times h.0) next (behind_times current coming value h.0) is h.1 (λ x. x) h.3 (in_times r current coming value h.0 inside)
  in_step (at_raise current coming list) line next s inside h is = passes line (raise h.0) next (bounded current coming Unbounded) is h.1 (λ x. x) h.3 (in_bounded r current coming Unbounded inside)
  in_step (at_verdict current range least most) line next s inside h is = inr (judged_here current range least most line s inside h.0 is)
  in_step (at_row tally number []) line next s inside h is = passes line (ending (end_word tally)) next at_last is h.0 (λ x. x) h.1 tt
  in_step (at_row tally number (other ∷ later)) line next s inside h is =
      let clash : None ≡ Some word = subst (λ l. first_verdict (l ∷ lines) ≡ Some word) h.0 is in absurd (cc)
  in_step at_last line next s inside h is = absurd h
  in_step here line next s inside h is = absurd inside

in_lines : (drawn : Drawn) (last : ReportState) (r : Row) (word : Verdict) (lines : List Entry) (here : ReportState) → Stands drawn here → IsIn r here → LinesLead (right drawn.net) drawn here lines last
    → first_verdict lines ≡ Some word → IsJudged drawn r word
in_lines drawn last r word [] here s inside h is = absurd (cc)
in_lines drawn last r word (line ∷ lines) here s inside h is =
    elim (in_step drawn r word lines here line h.0 s inside h.1 is) [
      | inl more ↦ in_lines drawn last r word lines h.0 (stands drawn here line h.0 s h.1) more.0 h.2 more.1
      | inr found ↦ found
    ]

is_judged : (drawn : Drawn) (lines : List Entry) (number : ℕ) (r : Row) (word : Verdict) → BeginsRightReport drawn lines → slice_get drawn.rows number ≡ Some r → verdict_on lines number ≡ Some word
    → IsJudged drawn r word
is_judged drawn lines number r word h get is =
    on_row drawn h.0 first_verdict (IsJudged drawn) refl (λ current more x t reads first. in_lines drawn h.0 current.row x more (at_bound current greatest []) (t, tt) refl reads first) lines at_heading number r word tt h.1 get is

pub pass_is_met : ReportPassIsMet
pass_is_met drawn lines number r h get is =
    let j : IsJudged drawn r Pass = is_judged drawn lines number r Pass h get is in
    (j.range, j.is_kind, requirement.pass_is_met drawn.net r.from r.to j.range j.least j.most j.are_bounds j.is_verdict)

pub fail_high_is_broken : ReportFailHighIsBroken
fail_high_is_broken drawn lines number r h get is =
    let j : IsJudged drawn r FailHigh = is_judged drawn lines number r FailHigh h get is in
    (j.range, j.is_kind, requirement.fail_high_is_broken drawn.net r.from r.to j.range j.least j.most j.are_bounds j.is_verdict)

pub fail_low_is_broken : ReportFailLowIsBroken
fail_low_is_broken drawn lines number r h get is =
    let j : IsJudged drawn r FailLow = is_judged drawn lines number r FailLow h get is in
    (j.range, j.is_kind, requirement.fail_low_is_broken drawn.net r.from r.to j.range j.least j.most j.are_bounds j.is_verdict)
