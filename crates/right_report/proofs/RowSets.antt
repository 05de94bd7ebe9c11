-- What the set of events after an unbounded bound says.
use Rattle.std.proofs.Common.{◌≡◌, ◌++◌, ℤ, Bool, List, [], ◌∷◌, Some, None, inl, inr, ◌⊎◌, refl, sym, subst, ◌∙◌}
use Rattle.event_graph.specs.Bounds.{IsUnbounded}
use Rattle.requirements.specs.declared.bound.Bound.{Bound}
use Rattle.requirements.specs.declared.bound.Bound.TheVariants.{Closed, Unbounded, Within}
use Rattle.requirements.specs.declared.verdict.Verdict.{Verdict}
use Rattle.requirements.specs.declared.verdict.Verdict.TheVariants as verdicts
use Rattle.requirements.specs.Verdicts.{verdict_of}
use Rattle.requirements.specs.Slacks.{slack_of}
use Rattle.itv_base.specs.Range.{Ends}
use Rattle.itv_base.specs.declared.row_kind.RowKind.{RowKind}
use Rattle.itv_base.specs.declared.row_kind.RowKind.TheVariants.{Ask, Req}
use Rattle.slack_report.specs.declared.words.Which.TheVariants.{Max, Min}
use Rattle.slack_report.specs.Entry.{Entry, bound, ending, proof, raise, slack, times, verdict}
use Rattle.drawn_networks.specs.Drawn.{Drawn}
use Rattle.drawn_networks.specs.declared.row.Row.{Row}
use Rattle.right_report.specs.Right.ReportState.{ReportState, NextBound, CurrentRow, at_heading, at_row, at_bound, at_times, at_raise, at_verdict, at_past, at_slack, at_last, behind_bound, behind_past, behind_times, behind_verdict, bounded, end_word, greatest, judged, least_by, which_of}
use Rattle.right_report.specs.Right.LineClaims.{right}
use Rattle.right_report.specs.Right.Following.{MayFollow, LinesLead}
use Rattle.right_report.specs.Laws.{SetShowsAbove, SetShowsBelow}
use Rattle.right_report.specs.ReportContents.{first_set, set_behind}
use Rattle.right_report.proofs.RowBounds.{IsBeforeMax, IsBeforeMin, before_min_bound, before_min_times}
use Rattle.right_report.proofs.Standing.{IsRightBound, on_row, rise_is_right}

-- ---- after a bound

module _ (drawn : Drawn) (P : Type 0) where
  -- a state after a bound: the next set is yet to come, or there is none before the next bound or row
  abbrev Waits : ReportState → Type 0
  Waits (at_times current coming value) = IsRightBound drawn.net current.row coming Unbounded → P
  Waits (at_raise current coming list) = IsRightBound drawn.net current.row coming Unbounded → P
  Waits (at_bound current coming lines) = Unit {0}
  Waits (at_verdict current range least most) = Unit {0}
  Waits (at_past current range least most) = Unit {0}
  Waits (at_slack tally number later range least most) = Unit {0}
  Waits (at_row tally number later) = Unit {0}
  Waits at_last = Unit {0}
  Waits other = ⊥

  waits_judged : (current : CurrentRow) (least most : Bound) (kind : RowKind) → Waits (judged kind current least most)
  waits_judged current least most Ask = tt
  waits_judged current least most (Req range) = tt

  waits_bounded : (current : CurrentRow) (coming : NextBound) (value : Bound) → Waits (bounded current coming value)
  waits_bounded current greatest value = tt
  waits_bounded current (least_by most) value = waits_judged current value most current.row.kind

  waits_bound : (current : CurrentRow) (coming : NextBound) (value : Bound) → (IsRightBound drawn.net current.row coming Unbounded → P) → Waits (behind_bound current coming value)
  waits_bound current coming (Closed value) w = w
  waits_bound current coming Unbounded w = w
  waits_bound current coming (Within limit (Some found)) w = w
  waits_bound current coming (Within limit None) w = waits_bounded current coming (Within limit None)

  waits_times : (current : CurrentRow) (coming : NextBound) (value : Bound) (list : List ℤ) → (IsRightBound drawn.net current.row coming Unbounded → P) → Waits (behind_times current coming value list)
  waits_times current coming (Closed value) list w = waits_bounded current coming (Closed value)
  waits_times current coming Unbounded list w = w
  waits_times current coming (Within limit attained) list w = waits_bounded current coming (Within limit attained)

  waits_verdict : (current : CurrentRow) (range : Ends) (least most : Bound) (word : Verdict) → Waits (behind_verdict current range least most word)
  waits_verdict current range least most verdicts.Pass = tt
  waits_verdict current range least most verdicts.FailHigh = tt
  waits_verdict current range least most verdicts.FailLow = tt
  waits_verdict current range least most verdicts.Undecided = tt

  module _ (set : List Bool) (lines : List Entry) where
    goes_on : (line known : Entry) (next there : ReportState) → set_behind (line ∷ lines) ≡ Some set → line ≡ known → (set_behind (known ∷ lines) ≡ Some set → set_behind lines ≡ Some set) → next ≡ there → Waits there
        → (Waits next × (set_behind lines ≡ Some set)) ⊎ P
    goes_on line known next there is same skip leads waits = inl (subst Waits (sym leads) waits, skip (subst (λ l. set_behind (l ∷ lines) ≡ Some set) same is))

    ends_here : (line known : Entry) → set_behind (line ∷ lines) ≡ Some set → line ≡ known → set_behind (known ∷ lines) ≡ None → ⊥
    ends_here line known is same none = let clash : None ≡ Some set = sym none ∙ subst (λ l. set_behind (l ∷ lines) ≡ Some set) same is in cc

    waits_step : (here : ReportState) (line : Entry) (next : ReportState) → Waits here → MayFollow (right drawn.net) drawn here line next → set_behind (line ∷ lines) ≡ Some set → (Waits next × (set_behind lines ≡ Some set)) ⊎ P
    waits_step (at_times current coming value) line next w h is = goes_on line (times h.0) next (behind_times current coming value h.0) is h.1 (λ x. x) h.3 (waits_times current coming value h.0 w)
    waits_step (at_raise current coming list) line next w h is = inr (w (rise_is_right drawn.net current.row coming list h.0 h.2))
    waits_step (at_bound current coming before) line next w (inl h) is = goes_on line (proof h.0) next (at_bound current coming (before ++ h.0 ∷ [])) is h.1 (λ x. x) h.2 tt
    waits_step (at_bound current coming before) line next w (inr h) is = absurd (ends_here line (bound (which_of coming) h.0) is h.1 refl)
    waits_step (at_verdict current range least most) line next w h is =
        goes_on line (verdict (verdict_of range least most)) next (behind_verdict current range least most (verdict_of range least most)) is h.0 (λ x. x) h.1 (waits_verdict current range least most (verdict_of range least most))
    waits_step (at_past current range least most) line next w h is = goes_on line (times h.0) next (behind_past current range least most (verdict_of range least most)) is h.1 (λ x. x) h.3 tt
    waits_step (at_slack tally number later range least most) line next w h is = goes_on line (slack (slack_of range least most)) next (at_row tally number later) is h.0 (λ x. x) h.1 tt
    waits_step (at_row tally number []) line next w h is = goes_on line (ending (end_word tally)) next at_last is h.0 (λ x. x) h.1 tt
    waits_step (at_row tally number (r ∷ later)) line next w h is = absurd (ends_here line _ is h.0 refl)
    waits_step at_last line next w h is = absurd h
    waits_step here line next w h is = absurd w

  waits_lines : (set : List Bool) (lines : List Entry) (here last : ReportState) → Waits here → LinesLead (right drawn.net) drawn here lines last → set_behind lines ≡ Some set → P
  waits_lines set [] here last w h is = absurd (cc)
  waits_lines set (line ∷ lines) here last w h is =
      elim (waits_step set lines here line h.0 w h.1 is) [
        | inl more ↦ waits_lines set lines h.0 last more.0 h.2 more.1
        | inr found ↦ found
      ]

-- ---- the bounds of a row

module _ (drawn : Drawn) (last : ReportState) (r : Row) (set : List Bool) where
  at_max : (current : CurrentRow) (other : Bound) (line : Entry) (next : ReportState) (lines : List Entry) → current.row ≡ r → line ≡ bound Max other → next ≡ behind_bound current greatest other → LinesLead (right drawn.net) drawn next lines last
      → first_set Max (line ∷ lines) ≡ Some set → IsUnbounded drawn.net r.from r.to
  at_max current other line next lines inside same leads h is =
      waits_lines drawn (IsUnbounded drawn.net r.from r.to) set lines (behind_bound current greatest other) last
      (waits_bound drawn (IsUnbounded drawn.net r.from r.to) current greatest other (λ w. subst (λ (x : Row). IsUnbounded drawn.net x.from x.to) inside w))
      (subst (λ x. LinesLead (right drawn.net) drawn x lines last) leads h) (subst (λ l. first_set Max (l ∷ lines) ≡ Some set) same is)

  max_step : (here : ReportState) (line : Entry) (next : ReportState) (lines : List Entry) → IsBeforeMax r here → MayFollow (right drawn.net) drawn here line next → LinesLead (right drawn.net) drawn next lines last
      → first_set Max (line ∷ lines) ≡ Some set → (IsBeforeMax r next × (first_set Max lines ≡ Some set)) ⊎ IsUnbounded drawn.net r.from r.to
  max_step (at_bound current greatest before) line next lines inside (inl h) more is =
      inl (subst (IsBeforeMax r) (sym h.2) inside, subst (λ l. first_set Max (l ∷ lines) ≡ Some set) h.1 is)
  max_step (at_bound current greatest before) line next lines inside (inr h) more is = inr (at_max current h.0 line next lines inside h.1 h.3 more is)
  max_step here line next lines inside h more is = absurd inside

  max_lines : (lines : List Entry) (here : ReportState) → IsBeforeMax r here → LinesLead (right drawn.net) drawn here lines last → first_set Max lines ≡ Some set → IsUnbounded drawn.net r.from r.to
  max_lines [] here inside h is = absurd (cc)
  max_lines (line ∷ lines) here inside h is =
      elim (max_step here line h.0 lines inside h.1 h.2 is) [
        | inl more ↦ max_lines lines h.0 more.0 h.2 more.1
        | inr found ↦ found
      ]

  at_min : (current : CurrentRow) (most other : Bound) (line : Entry) (next : ReportState) (lines : List Entry) → current.row ≡ r → line ≡ bound Min other → next ≡ behind_bound current (least_by most) other → LinesLead (right drawn.net) drawn next lines last
      → first_set Min (line ∷ lines) ≡ Some set → IsUnbounded drawn.net r.to r.from
  at_min current most other line next lines inside same leads h is =
      waits_lines drawn (IsUnbounded drawn.net r.to r.from) set lines (behind_bound current (least_by most) other) last
      (waits_bound drawn (IsUnbounded drawn.net r.to r.from) current (least_by most) other (λ w. subst (λ (x : Row). IsUnbounded drawn.net x.to x.from) inside w))
      (subst (λ x. LinesLead (right drawn.net) drawn x lines last) leads h) (subst (λ l. first_set Min (l ∷ lines) ≡ Some set) same is)

  goes_by : (line known : Entry) (next there : ReportState) (lines : List Entry) → first_set Min (line ∷ lines) ≡ Some set → line ≡ known → (first_set Min (known ∷ lines) ≡ Some set → first_set Min lines ≡ Some set) → next ≡ there
      → IsBeforeMin r there → (IsBeforeMin r next × (first_set Min lines ≡ Some set)) ⊎ IsUnbounded drawn.net r.to r.from
  goes_by line known next there lines is same skip leads inside = inl (subst (IsBeforeMin r) (sym leads) inside, skip (subst (λ l. first_set Min (l ∷ lines) ≡ Some set) same is))

  min_step : (here : ReportState) (line : Entry) (next : ReportState) (lines : List Entry) → IsBeforeMin r here → MayFollow (right drawn.net) drawn here line next → LinesLead (right drawn.net) drawn next lines last
      → first_set Min (line ∷ lines) ≡ Some set → (IsBeforeMin r next × (first_set Min lines ≡ Some set)) ⊎ IsUnbounded drawn.net r.to r.from
  min_step (at_bound current coming before) line next lines inside (inl h) more is = goes_by line (proof h.0) next (at_bound current coming (before ++ h.0 ∷ [])) lines is h.1 (λ x. x) h.2 inside
  min_step (at_bound current greatest before) line next lines inside (inr h) more is = goes_by line (bound Max h.0) next (behind_bound current greatest h.0) lines is h.1 (λ x. x) h.3 (before_min_bound r current h.0 inside)
  min_step (at_bound current (least_by most) before) line next lines inside (inr h) more is = inr (at_min current most h.0 line next lines inside h.1 h.3 more is)
  min_step (at_times current greatest other) line next lines inside h more is = goes_by line (times h.0) next (behind_times current greatest other h.0) lines is h.1 (λ x. x) h.3 (before_min_times r current other h.0 inside)
  min_step (at_raise current greatest list) line next lines inside h more is = goes_by line (raise h.0) next (bounded current greatest Unbounded) lines is h.1 (λ x. x) h.3 inside
  min_step here line next lines inside h more is = absurd inside

  min_lines : (lines : List Entry) (here : ReportState) → IsBeforeMin r here → LinesLead (right drawn.net) drawn here lines last → first_set Min lines ≡ Some set → IsUnbounded drawn.net r.to r.from
  min_lines [] here inside h is = absurd (cc)
  min_lines (line ∷ lines) here inside h is =
      elim (min_step here line h.0 lines inside h.1 h.2 is) [
        | inl more ↦ min_lines lines h.0 more.0 h.2 more.1
        | inr found ↦ found
      ]

pub set_shows_above : SetShowsAbove
set_shows_above drawn lines number r set h get is =
    on_row drawn h.0 (first_set Max) (λ x found. IsUnbounded drawn.net x.from x.to) refl
    (λ current more found t reads first. max_lines drawn h.0 current.row found more (at_bound current greatest []) refl reads first) lines at_heading number r set tt h.1 get is

pub set_shows_below : SetShowsBelow
set_shows_below drawn lines number r set h get is =
    on_row drawn h.0 (first_set Min) (λ x found. IsUnbounded drawn.net x.to x.from) refl
    (λ current more found t reads first. min_lines drawn h.0 current.row found more (at_bound current greatest []) refl reads first) lines at_heading number r set tt h.1 get is
