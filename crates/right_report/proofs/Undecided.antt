-- When a report ends undecided.
use Rattle.std.proofs.Common.{◌≡◌, ◌<◌, ◌||◌, ℕ, ℤ, Bool, true, false, if◌then◌else◌, List, [], ◌∷◌, Some, None, inl, inr, refl, sym, subst}
use Rattle.std.proofs.lemmas.Option.{same_Some}
use Rattle.itv_base.specs.Range.{Ends}
use Rattle.event_graph.specs.Edges.{cause_choices}
use Rattle.event_graph.specs.Network.{IsNet, Net}
use Rattle.event_graph.specs.Proof.{Nothing, ProofLine}
use Rattle.event_graph.proofs.ProofCounts.{stopped_proof_is_below_choices}
use Rattle.requirements.specs.Verdicts.{verdict_of}
use Rattle.requirements.specs.declared.bound.Bound.{Bound}
use Rattle.requirements.specs.declared.bound.Bound.TheVariants.{Closed, Unbounded, Within}
use Rattle.requirements.specs.declared.verdict.Verdict.{Verdict}
use Rattle.requirements.specs.declared.verdict.Verdict.TheVariants as verdicts
use Rattle.itv_base.specs.declared.row_kind.RowKind.{RowKind}
use Rattle.itv_base.specs.declared.row_kind.RowKind.TheVariants.{Ask, Req}
use Rattle.slack_report.specs.declared.words.EndWord.{EndWord}
use Rattle.slack_report.specs.declared.words.EndWord.TheVariants as endings
use Rattle.requirements.specs.declared.consistency.Consistency.{Consistency}
use Rattle.requirements.specs.declared.consistency.Consistency.TheVariants.{Consistent, Inconsistent, Open}
use Rattle.slack_report.specs.Entry.{Entry, ending}
use Rattle.drawn_networks.specs.Drawn.{Drawn}
use Rattle.drawn_networks.specs.declared.row.Row.{Row}
use Rattle.right_report.specs.Right.ReportState.{ReportState, NextBound, CurrentRow, at_heading, at_budget, at_events, at_event, at_finding, at_known, at_rows, at_row, at_bound, at_times, at_raise, at_verdict, at_past, at_slack, at_end, at_last, behind_bound, behind_finding, behind_past, behind_times, behind_verdict, bounded, end_word, greatest, is_within, judged, least_by, undecided_or_pass}
use Rattle.right_report.specs.declared.tally.ReportTally.{ReportTally}
use Rattle.right_report.specs.Right.LineClaims.{HasAttained, IsBoundOf}
use Rattle.right_report.specs.Right.Following.{LineClaims, MayBound, MayFind, MayFollow, LinesLead}
use Rattle.right_report.specs.Laws.{BareUndecidedIsBelow, ShownUndecidedIsBelow}
use Rattle.right_report.specs.Shown.{ShowsBound, bare, goal_of, shown}
use Rattle.right_report.specs.ReportContents.{end_in}

or_by : (P : Type 0) (a b : Bool) → (a ≡ true → P) → (b ≡ true → P) → (a || b) ≡ true → P
or_by P true b f g e = f refl
or_by P false b f g e = g e

-- What an unsettled finding gives, and what a bound that was left open gives, a report that ends undecided gives.
module _ (claims : LineClaims) (drawn : Drawn) (P : Type 0)
    (by_finding : (lines : List ProofLine) → claims.finding lines Open → P)
    (by_bound : (found : Consistency) (r : Row) (coming : NextBound) (lines : List ProofLine) (value : Bound) → claims.bound found r coming lines value → (found ≡ Open → P) → is_within value ≡ true → P) where
  -- ---- what is known in a state

  abbrev Settles : ReportTally → Type 0
  Settles tally = (tally.found ≡ Open → P) × (tally.within ≡ true → P)

  abbrev SettlesSide : NextBound → Type 0
  SettlesSide greatest = Unit {0}
  SettlesSide (least_by most) = is_within most ≡ true → P

  abbrev Settled : ReportState → Type 0
  Settled (at_rows word) = word ≡ Open → P
  Settled (at_row tally number later) = Settles tally
  Settled (at_bound current coming lines) = Settles current.tally × SettlesSide coming
  Settled (at_times current coming value) = Settles current.tally × SettlesSide coming × (is_within value ≡ true → P)
  Settled (at_raise current coming list) = Settles current.tally × SettlesSide coming
  Settled (at_verdict current range least most) = Settles current.tally × ((is_within least || is_within most) ≡ true → P)
  Settled (at_past current range least most) = Settles current.tally × ((is_within least || is_within most) ≡ true → P)
  Settled (at_slack tally number later range least most) = Settles tally
  Settled (at_end word) = word ≡ endings.Undecided → P
  Settled other = Unit {0}

  -- ---- after a bound and a verdict

  settled_judged : (current : CurrentRow) (least most : Bound) (kind : RowKind) → Settles current.tally → ((is_within least || is_within most) ≡ true → P) → Settled (judged kind current least most)
  settled_judged current least most Ask s both = (s.0, or_by P current.tally.within (is_within least || is_within most) s.1 both)
  settled_judged current least most (Req range) s both = (s, both)

  settled_bounded : (current : CurrentRow) (coming : NextBound) (value : Bound) → Settles current.tally → SettlesSide coming → (is_within value ≡ true → P) → Settled (bounded current coming value)
  settled_bounded current greatest value s t v = (s, v)
  settled_bounded current (least_by most) value s t v = settled_judged current value most current.row.kind s (or_by P (is_within value) (is_within most) v t)

  settled_bound : (current : CurrentRow) (coming : NextBound) (value : Bound) → Settles current.tally → SettlesSide coming → (is_within value ≡ true → P) → Settled (behind_bound current coming value)
  settled_bound current coming (Closed value) s t v = (s, t, v)
  settled_bound current coming Unbounded s t v = (s, t, v)
  settled_bound current coming (Within limit (Some found)) s t v = (s, t, v)
  settled_bound current coming (Within limit None) s t v = settled_bounded current coming (Within limit None) s t v

  settled_times : (current : CurrentRow) (coming : NextBound) (value : Bound) (list : List ℤ) → Settled (at_times current coming value) → Settled (behind_times current coming value list)
  settled_times current coming (Closed value) list s = settled_bounded current coming (Closed value) s.0 s.1 s.2
  settled_times current coming Unbounded list s = (s.0, s.1)
  settled_times current coming (Within limit attained) list s = settled_bounded current coming (Within limit attained) s.0 s.1 s.2

  settled_past : (current : CurrentRow) (range : Ends) (least most : Bound) (word : Verdict) → Settled (at_verdict current range least most) → Settled (behind_past current range least most word)
  settled_past current range least most word s = (s.0.0, or_by P current.tally.within (is_within least || is_within most) s.0.1 s.1)

  settled_verdict : (current : CurrentRow) (range : Ends) (least most : Bound) (word : Verdict) → Settled (at_verdict current range least most) → Settled (behind_verdict current range least most word)
  settled_verdict current range least most verdicts.Pass s = settled_past current range least most verdicts.Pass s
  settled_verdict current range least most verdicts.FailHigh s = s
  settled_verdict current range least most verdicts.FailLow s = s
  settled_verdict current range least most verdicts.Undecided s = settled_past current range least most verdicts.Undecided s

  -- ---- a line keeps it

  settled_finding : (lines : List ProofLine) (word : Consistency) → claims.finding lines word → Settled (behind_finding word)
  settled_finding lines Consistent h = tt
  settled_finding lines Inconsistent h = λ e. absurd (cc e)
  settled_finding lines Open h = λ e. by_finding lines h

  settled_find : (lines : List ProofLine) (line : Entry) (next : ReportState) → MayFind claims lines line next → Settled next
  settled_find lines line next (inl h) = subst Settled (sym h.2) tt
  settled_find lines line next (inr h) = subst Settled (sym h.3) (settled_finding lines h.0 h.2)

  settled_bind : (current : CurrentRow) (coming : NextBound) (lines : List ProofLine) (line : Entry) (next : ReportState) → Settles current.tally → SettlesSide coming → MayBound claims current coming lines line next → Settled next
  settled_bind current coming lines line next s t (inl h) = subst Settled (sym h.2) (s, t)
  settled_bind current coming lines line next s t (inr h) = subst Settled (sym h.3) (settled_bound current coming h.0 s t (by_bound current.tally.found current.row coming lines h.0 h.2 s.0))

  settled : (here : ReportState) (line : Entry) (next : ReportState) → Settled here → MayFollow claims drawn here line next → Settled next
  settled at_heading line next s h = subst Settled (sym h.1) tt
  settled at_budget line next s h = subst Settled (sym h.2) tt
  settled at_events line next s h = subst Settled (sym h.1) tt
  settled (at_event number (name ∷ names)) line next s h = subst Settled (sym h.1) tt
  settled (at_event number []) line next s h = settled_find [] line next h
  settled (at_finding lines) line next s h = settled_find lines line next h
  settled at_known line next s h = subst Settled (sym h.3) (λ e. absurd (cc e))
  settled (at_rows word) line next s h = subst Settled (sym h.1) (s, (λ e. absurd (cc e)))
  settled (at_row tally number []) line next s h = subst Settled (sym h.1) tt
  settled (at_row tally number (r ∷ later)) line next s h = subst Settled (sym h.1) (s, tt)
  settled (at_bound current coming lines) line next s h = settled_bind current coming lines line next s.0 s.1 h
  settled (at_times current coming value) line next s h = subst Settled (sym h.3) (settled_times current coming value h.0 s)
  settled (at_raise current coming list) line next s h = subst Settled (sym h.3) (settled_bounded current coming Unbounded s.0 s.1 (λ e. absurd (cc e)))
  settled (at_verdict current range least most) line next s h = subst Settled (sym h.1) (settled_verdict current range least most (verdict_of range least most) s)
  settled (at_past current range least most) line next s h = subst Settled (sym h.3) (settled_past current range least most (verdict_of range least most) s)
  settled (at_slack tally number later range least most) line next s h = subst Settled (sym h.1) s
  settled (at_end word) line next s h = subst Settled (sym h.1) tt
  settled at_last line next s h = absurd h

  -- ---- the end

  by_word : (tally : ReportTally) → Settles tally → (fails : Bool) (found : Consistency) (within : Bool) → tally.found ≡ found → tally.within ≡ within
      → (if fails then endings.Fail else undecided_or_pass found within) ≡ endings.Undecided → P
  by_word tally s true found within e w is = absurd (cc)
  by_word tally s false Consistent true e w is = s.1 w
  by_word tally s false Consistent false e w is = absurd (cc)
  by_word tally s false Inconsistent within e w is = absurd (cc)
  by_word tally s false Open within e w is = s.0 e

  same_ending : (a b : EndWord) → ending a ≡ ending b → a ≡ b
  same_ending a b e = cc

  by_ending : (here : ReportState) (next : ReportState) → Settled here → MayFollow claims drawn here (ending endings.Undecided) next → P
  by_ending at_heading next s h = absurd (cc h.0)
  by_ending at_budget next s h = absurd (cc h.1)
  by_ending at_events next s h = absurd (cc h.0)
  by_ending (at_event number (name ∷ names)) next s h = absurd (cc h.0)
  by_ending (at_event number []) next s (inl h) = absurd (cc h.1)
  by_ending (at_event number []) next s (inr h) = absurd (cc h.1)
  by_ending (at_finding lines) next s (inl h) = absurd (cc h.1)
  by_ending (at_finding lines) next s (inr h) = absurd (cc h.1)
  by_ending at_known next s h = absurd (cc h.1)
  by_ending (at_rows found) next s h = absurd (cc h.0)
  by_ending (at_row tally number []) next s h =
      by_word tally s tally.fails tally.found tally.within refl refl (sym (same_ending endings.Undecided (end_word tally) h.0))
  by_ending (at_row tally number (r ∷ later)) next s h = absurd (cc h.0)
  by_ending (at_bound current coming lines) next s (inl h) = absurd (cc h.1)
  by_ending (at_bound current coming lines) next s (inr h) = absurd (cc h.1)
  by_ending (at_times current coming value) next s h = absurd (cc h.1)
  by_ending (at_raise current coming list) next s h = absurd (cc h.1)
  by_ending (at_verdict current range least most) next s h = absurd (cc h.0)
  by_ending (at_past current range least most) next s h = absurd (cc h.1)
  by_ending (at_slack tally number later range least most) next s h = absurd (cc h.0)
  by_ending (at_end other) next s h = s (sym (same_ending endings.Undecided other h.0))
  by_ending at_last next s h = absurd h

  by_end : (lines : List Entry) (here last : ReportState) → Settled here → LinesLead claims drawn here lines last → end_in lines ≡ Some endings.Undecided → P
  by_end [] here last s h is = absurd (cc)
  by_end (ending word ∷ lines) here last s h is =
      by_ending here h.0 s (subst (λ w. MayFollow claims drawn here (ending w) h.0) (same_Some word endings.Undecided is) h.1)
  by_end (line ∷ lines) here last s h is = by_end lines h.0 last (settled here line h.0 s h.1) h.2 is

-- ---- the budget was used up

abbrev IsBelow : Net → ℕ → Type 0
IsBelow net most = most < cause_choices net.constraints

below_by_bound : (net : Net) (most : ℕ) (found : Consistency) (r : Row) (coming : NextBound) (lines : List ProofLine) (value : Bound) → IsNet net → IsBoundOf net found r coming value → ShowsBound net most lines r coming value
    → (found ≡ Open → IsBelow net most) → is_within value ≡ true → IsBelow net most
below_by_bound net most found r coming lines (Closed value) is_net b h unsettled e = absurd (cc)
below_by_bound net most found r coming lines Unbounded is_net b h unsettled e = absurd (cc)
below_by_bound net most found r coming lines (Within limit (Some value)) is_net b h unsettled e = stopped_proof_is_below_choices net (goal_of r coming value) lines most is_net h
below_by_bound net most found r coming lines (Within limit None) is_net b h unsettled e = by_found found b.1 unsettled
  where
    by_found : (word : Consistency) → HasAttained word None → (word ≡ Open → IsBelow net most) → IsBelow net most
    by_found Consistent attained unsettled = absurd (cc attained)
    by_found Inconsistent attained unsettled = absurd attained
    by_found Open attained unsettled = unsettled refl

pub shown_undecided_is_below : ShownUndecidedIsBelow
shown_undecided_is_below drawn most lines is_net h is =
    by_end (shown drawn.net most) drawn (IsBelow drawn.net most) (λ hidden f. stopped_proof_is_below_choices drawn.net Nothing hidden most is_net f.1)
    (λ found r coming hidden value b unsettled e. below_by_bound drawn.net most found r coming hidden value is_net b.0 b.1 unsettled e) lines at_heading at_last tt h.reads is

pub bare_undecided_is_below : BareUndecidedIsBelow
bare_undecided_is_below drawn most lines is_net h is =
    by_end (bare drawn.net most) drawn (IsBelow drawn.net most) (λ none f. stopped_proof_is_below_choices drawn.net Nothing f.2.0 most is_net f.2.1)
    (λ found r coming none value b unsettled e. below_by_bound drawn.net most found r coming b.2.0 value is_net b.0 b.2.1 unsettled e) lines at_heading at_last tt h.reads is
