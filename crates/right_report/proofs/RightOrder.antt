-- Right reports by their states.
use Rattle.std.proofs.Common.{◌≡◌, ◌+◌, ◌++◌, ℕ, ℤ, subst, Bool, true, false, cond, eqb, List, [], ◌∷◌, length, Option, Some, None, refl, sym, ap, ◌∙◌, inl, inr, ◌⊎◌}
use Rattle.std.proofs.lemmas.Bool.{eq-eqb}
use Rattle.itv_base.specs.Range.{Ends}
use Rattle.event_graph.specs.Proof.{ProofLine}
use Rattle.requirements.specs.declared.bound.Bound.{Bound}
use Rattle.requirements.specs.declared.bound.Bound.TheVariants as bounds
use Rattle.requirements.specs.declared.verdict.Verdict.{Verdict}
use Rattle.requirements.specs.declared.verdict.Verdict.TheVariants as verdicts
use Rattle.requirements.specs.Verdicts.{verdict_of}
use Rattle.itv_base.specs.declared.row_kind.RowKind.{RowKind}
use Rattle.itv_base.specs.declared.row_kind.RowKind.TheVariants as kinds
use Rattle.slack_report.specs.declared.place.Place.{Place}
use Rattle.slack_report.specs.declared.place.Place.TheVariants as at
use Rattle.requirements.specs.declared.consistency.Consistency.{Consistency}
use Rattle.requirements.specs.declared.consistency.Consistency.TheVariants as findings
use Rattle.slack_report.specs.declared.words.Which.{Which}
use Rattle.slack_report.specs.declared.words.Which.TheVariants as sorts
use Rattle.slack_report.specs.Entry.{Entry, heading, budget, events, event, proof, finding, times, rows, row, bound, raise, verdict, slack, ending}
use Rattle.slack_report.specs.Order.{after_bound, after_finding, after_times, after_verdict, before_row, in_bound, is_required, is_which, next}
use Rattle.drawn_networks.specs.Drawn.{Drawn}
use Rattle.drawn_networks.specs.declared.row.Row.{Row}
use Rattle.right_report.specs.Right.ReportState.{ReportState, NextBound, CurrentRow, at_heading, at_budget, at_events, at_event, at_finding, at_known, at_rows, at_row, at_bound, at_times, at_raise, at_verdict, at_past, at_slack, at_end, at_last, behind_bound, behind_finding, behind_times, behind_verdict, bounded, greatest, judged, least_by, which_of}
use Rattle.right_report.specs.Right.LineClaims.{right}
use Rattle.right_report.specs.Right.Following.{LineClaims, Implies, MayBound, MayFind, MayFollow, LinesLead}
use Rattle.right_report.specs.Right.Order.{RightLinesKeepOrder, is_unbounded, place_of, spot_behind, spot_of}

-- ---- one reader and another

follows_weaker : (claims other : LineClaims) (drawn : Drawn) (here : ReportState) (line : Entry) (behind : ReportState) → Implies claims other → MayFollow claims drawn here line behind → MayFollow other drawn here line behind
follows_weaker claims other drawn at_heading line behind i h = h
follows_weaker claims other drawn at_budget line behind i h = h
follows_weaker claims other drawn at_events line behind i h = h
follows_weaker claims other drawn (at_event number (name ∷ names)) line behind i h = h
follows_weaker claims other drawn (at_event number []) line behind i (inl h) = inl h
follows_weaker claims other drawn (at_event number []) line behind i (inr h) = inr (h.0, h.1, i.finding [] h.0 h.2, h.3)
follows_weaker claims other drawn (at_finding lines) line behind i (inl h) = inl h
follows_weaker claims other drawn (at_finding lines) line behind i (inr h) = inr (h.0, h.1, i.finding lines h.0 h.2, h.3)
follows_weaker claims other drawn at_known line behind i h = (h.0, h.1, i.known h.0 h.2, h.3)
follows_weaker claims other drawn (at_rows word) line behind i h = h
follows_weaker claims other drawn (at_row tally number []) line behind i h = h
follows_weaker claims other drawn (at_row tally number (r ∷ later)) line behind i h = h
follows_weaker claims other drawn (at_bound current coming lines) line behind i (inl h) = inl h
follows_weaker claims other drawn (at_bound current coming lines) line behind i (inr h) = inr (h.0, h.1, i.bound current.tally.found current.row coming lines h.0 h.2, h.3)
follows_weaker claims other drawn (at_times current coming value) line behind i h = (h.0, h.1, i.times current.row value h.0 h.2, h.3)
follows_weaker claims other drawn (at_raise current coming list) line behind i h = (h.0, h.1, i.raise current.row coming list h.0 h.2, h.3)
follows_weaker claims other drawn (at_verdict current range least most) line behind i h = h
follows_weaker claims other drawn (at_past current range least most) line behind i h = (h.0, h.1, i.past current.row range (verdict_of range least most) h.0 h.2, h.3)
follows_weaker claims other drawn (at_slack tally number later range least most) line behind i h = h
follows_weaker claims other drawn (at_end word) line behind i h = h
follows_weaker claims other drawn at_last line behind i h = h

-- if a reader asks for less than another, it accepts all lines that the other accepts
pub reads_weaker : (claims other : LineClaims) (drawn : Drawn) (lines : List Entry) (here last : ReportState) → Implies claims other → LinesLead claims drawn here lines last → LinesLead other drawn here lines last
reads_weaker claims other drawn [] here last i h = h
reads_weaker claims other drawn (line ∷ lines) here last i h = (h.0, follows_weaker claims other drawn here line h.0 i h.1, reads_weaker claims other drawn lines h.0 last i h.2)

-- more lines after lines
pub reads-append : (claims : LineClaims) (drawn : Drawn) (lines more : List Entry) (here mid last : ReportState) → LinesLead claims drawn here lines mid → LinesLead claims drawn mid more last → LinesLead claims drawn here (lines ++ more) last
reads-append claims drawn [] more here mid last p q = subst (λ x. LinesLead claims drawn x more last) (sym p) q
reads-append claims drawn (line ∷ lines) more here mid last p q = (p.0, p.1, reads-append claims drawn lines more p.0 mid last p.2 q)

-- ---- the order

module _ (drawn : Drawn) where
  find_place : (word : Consistency) → after_finding (length drawn.names) word ≡ place_of drawn (behind_finding word)
  find_place findings.Consistent = refl
  find_place findings.Inconsistent = refl
  find_place findings.Open = refl

  judged_place : (kind : RowKind) (current : CurrentRow) (least most : Bound)
      → cond (is_required kind) (at.Verdict (spot_behind drawn (current.number + 1) current.later (is_required kind))) (before_row (length drawn.names) (current.number + 1) (length current.later)) ≡ place_of drawn (judged kind current least most)
  judged_place kinds.Ask current least most = refl
  judged_place (kinds.Req range) current least most = refl

  bounded_place : (current : CurrentRow) (coming : NextBound) (value : Bound) → after_bound (spot_of drawn current) (which_of coming) ≡ place_of drawn (bounded current coming value)
  bounded_place current greatest value = refl
  bounded_place current (least_by most) value = judged_place current.row.kind current value most

  bound_place : (current : CurrentRow) (coming : NextBound) (value : Bound) → in_bound (spot_of drawn current) (which_of coming) value ≡ place_of drawn (behind_bound current coming value)
  bound_place current coming (bounds.Closed value) = refl
  bound_place current coming bounds.Unbounded = refl
  bound_place current coming (bounds.Within limit None) = bounded_place current coming (bounds.Within limit None)
  bound_place current coming (bounds.Within limit (Some found)) = refl

  times_place : (current : CurrentRow) (coming : NextBound) (value : Bound) (list : List ℤ) → after_times (spot_of drawn current) (which_of coming) (is_unbounded value) ≡ place_of drawn (behind_times current coming value list)
  times_place current coming (bounds.Closed value) list = bounded_place current coming (bounds.Closed value)
  times_place current coming bounds.Unbounded list = refl
  times_place current coming (bounds.Within limit attained) list = bounded_place current coming (bounds.Within limit attained)

  verdict_place : (current : CurrentRow) (range : Ends) (least most : Bound) (word : Verdict) → after_verdict (spot_behind drawn (current.number + 1) current.later true) word ≡ place_of drawn (behind_verdict current range least most word)
  verdict_place current range least most verdicts.Pass = refl
  verdict_place current range least most verdicts.FailHigh = refl
  verdict_place current range least most verdicts.FailLow = refl
  verdict_place current range least most verdicts.Undecided = refl

  same_which : (which : Which) → is_which which which ≡ true
  same_which sorts.Max = refl
  same_which sorts.Min = refl

  find_order : (claims : LineClaims) (lines : List ProofLine) (line : Entry) (behind : ReportState) → MayFind claims lines line behind → next (at.Finding (length drawn.names)) line ≡ Some (place_of drawn behind)
  find_order claims lines line behind (inl h) = rw (h.1, h.2) refl
  find_order claims lines line behind (inr h) = rw (h.1, h.3) (ap (λ x. Some x) (find_place h.0))

  bound_order : (claims : LineClaims) (current : CurrentRow) (coming : NextBound) (lines : List ProofLine) (line : Entry) (behind : ReportState) → MayBound claims current coming lines line behind
      → next (at.Bound (spot_of drawn current) (which_of coming)) line ≡ Some (place_of drawn behind)
  bound_order claims current coming lines line behind (inl h) = rw (h.1, h.2) refl
  bound_order claims current coming lines line behind (inr h) = rw (h.1, h.3) (rw (same_which (which_of coming)) (ap (λ x. Some x) (bound_place current coming h.0)))

  pub keeps_order : (claims : LineClaims) (here : ReportState) (line : Entry) (behind : ReportState) → MayFollow claims drawn here line behind → next (place_of drawn here) line ≡ Some (place_of drawn behind)
  keeps_order claims at_heading line behind h = rw (h.0, h.1) refl
  keeps_order claims at_budget line behind h = rw (h.1, h.2) refl
  keeps_order claims at_events line behind h = rw (h.0, h.1) refl
  keeps_order claims (at_event number (name ∷ names)) line behind h = rw (h.0, h.1) (rw (eq-eqb number number refl) refl)
  keeps_order claims (at_event number []) line behind h = find_order claims [] line behind h
  keeps_order claims (at_finding lines) line behind h = find_order claims lines line behind h
  keeps_order claims at_known line behind h = rw (h.1, h.3) refl
  keeps_order claims (at_rows word) line behind h = rw (h.0, h.1) refl
  keeps_order claims (at_row tally number []) line behind h = rw (h.0, h.1) refl
  keeps_order claims (at_row tally number (r ∷ later)) line behind h = rw (h.0, h.1) (rw (eq-eqb number number refl) refl)
  keeps_order claims (at_bound current coming lines) line behind h = bound_order claims current coming lines line behind h
  keeps_order claims (at_times current coming value) line behind h = rw (h.1, h.3) (ap (λ x. Some x) (times_place current coming value h.0))
  keeps_order claims (at_raise current coming list) line behind h = rw (h.1, h.3) (ap (λ x. Some x) (bounded_place current coming bounds.Unbounded))
  keeps_order claims (at_verdict current range least most) line behind h = rw (h.0, h.1) (ap (λ x. Some x) (verdict_place current range least most (verdict_of range least most)))
  keeps_order claims (at_past current range least most) line behind h = rw (h.1, h.3) refl
  keeps_order claims (at_slack tally number later range least most) line behind h = rw (h.0, h.1) refl
  keeps_order claims (at_end word) line behind h = rw (h.0, h.1) refl
  keeps_order claims at_last line behind h = absurd h

pub right_lines_keep_order : RightLinesKeepOrder
right_lines_keep_order drawn here line behind h = keeps_order drawn (right drawn.net) here line behind h
