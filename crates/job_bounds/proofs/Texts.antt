-- Each line of a report that the job writes has a text.
use Rattle.std.proofs.Common.{◌≡◌, ◌<◌, ◌≤◌, ◌^◌, ℕ, zero, suc, ℤ, pos, negsuc, neg_ℤ, ◌-ℤ◌, ◌<ℤ◌, Bool, List, [], ◌∷◌, ◌++◌, length, All, Option, Some, None, slice_get, unwrap_or, sym, subst, ◌∙◌, inl, inr, arith}
use Rattle.std.specs.Prelude.{IfSome}
use Rattle.std.proofs.lemmas.Int.{ints}
use Rattle.itv_base.specs.Names.{Name}
use Rattle.itv_base.specs.Range.{Ends, IsEnd, IsRange}
use Rattle.itv_base.specs.declared.limits.TheConstants.{MAX_BUDGET, MAX_ROWS}
use Rattle.itv_base.specs.declared.names.EventId.{EventId}
use Rattle.certificate.specs.Text.{IsProofLine}
use Rattle.event_graph.specs.Limits.{IsPrintedTime}
use Rattle.event_graph.specs.Network.{IsNet, Net}
use Rattle.event_graph.specs.Proof.{ProofLine}
use Rattle.event_graph.specs.Times.{IsTime}
use Rattle.event_graph.proofs.Sizes.{printed_time}
use Rattle.line_words.specs.Numbers.{IsLong, IsLongOrOpen}
use Rattle.requirements.specs.Bounds.{HasTimes}
use Rattle.requirements.specs.Slacks.{high_slack, low_slack}
use Rattle.requirements.specs.Verdicts.{verdict_of}
use Rattle.requirements.specs.declared.bound.Bound.{Bound}
use Rattle.requirements.specs.declared.bound.Bound.TheVariants as bounds
use Rattle.requirements.specs.declared.verdict.Verdict.{Verdict}
use Rattle.requirements.specs.declared.verdict.Verdict.TheVariants as verdicts
use Rattle.itv_base.specs.declared.row_kind.RowKind.{RowKind}
use Rattle.itv_base.specs.declared.row_kind.RowKind.TheVariants as kinds
use Rattle.requirements.specs.declared.consistency.Consistency.{Consistency}
use Rattle.requirements.specs.declared.consistency.Consistency.TheVariants as findings
use Rattle.slack_report.specs.Entry.{Entry, HasBoundForm, IsReportEntry, IsKind, IsName, heading, budget}
use Rattle.right_report.specs.Right.ReportState.{ReportState, NextBound, CurrentRow, at_heading, at_budget, at_events, at_event, at_finding, at_known, at_rows, at_row, at_bound, at_times, at_raise, at_verdict, at_past, at_slack, at_end, at_last, behind_bound, behind_finding, behind_times, behind_verdict, bounded, greatest, judged, least_by}
use Rattle.drawn_networks.specs.Drawn.{Drawn, name_of, nameless, IsRowOf}
use Rattle.drawn_networks.specs.declared.row.Row.{Row}
use Rattle.right_report.specs.Right.LineClaims.{CanRise}
use Rattle.right_report.specs.Right.Following.{MayFollow, LinesLead}
use Rattle.job_bounds.specs.Step.Searched.{sized}
use Rattle.job_bounds.proofs.Entries.{all_cons, all_head, all_nil, all_tail, bound_lines, finding_lines, printed_lines}

-- ---- numbers

wide : (z : ℤ) → neg_ℤ (pos (2 ^ 62)) <ℤ z → z <ℤ pos (2 ^ 62) → IsLong z
wide (pos n) low high = record { sfits = omega (arith, ints, low, high) }
wide (negsuc n) low high = record { sfits = omega (arith, ints, low, high) }

long : (z : ℤ) → IsTime z → IsLong z
long z h = wide z (omega (arith, ints, h.0, h.1)) (omega (arith, ints, h.0, h.1))

apart : (a b : ℤ) → IsTime a → IsEnd (Some b) → IsLong (a -ℤ b) × IsLong (b -ℤ a)
apart a b h end = (
  wide (a -ℤ b) (omega (arith, ints, end.0, end.1, h.0, h.1)) (omega (arith, ints, end.0, end.1, h.0, h.1)),
  wide (b -ℤ a) (omega (arith, ints, end.0, end.1, h.0, h.1)) (omega (arith, ints, end.0, end.1, h.0, h.1)),
)

longs : (list : List ℤ) → All IsPrintedTime list → All IsLong list
longs list all = λ k d h. long _ (printed_time _ (all k d h))

long_or_open : (z : Option ℤ) → IfSome z IsTime → IsLongOrOpen z
long_or_open None h = tt
long_or_open (Some z) h = long z h

long_bound : (value : Bound) → HasTimes value → HasBoundForm value
long_bound (bounds.Closed value) h = long value h
long_bound bounds.Unbounded h = tt
long_bound (bounds.Within limit attained) h = (long_or_open limit h.0, long_or_open attained h.1)

long_low : (low : Option ℤ) (least : Bound) → IsEnd low → HasTimes least → IsLongOrOpen (low_slack low least)
long_low None least end h = tt
long_low (Some low) (bounds.Closed value) end h = (apart value low h end).0
long_low (Some low) bounds.Unbounded end h = tt
long_low (Some low) (bounds.Within limit attained) end h = tt

long_high : (high : Option ℤ) (most : Bound) → IsEnd high → HasTimes most → IsLongOrOpen (high_slack high most)
long_high None most end h = tt
long_high (Some high) (bounds.Closed value) end h = (apart value high h end).1
long_high (Some high) bounds.Unbounded end h = tt
long_high (Some high) (bounds.Within limit attained) end h = tt

-- ---- lists

named : (names : List Name) (k : ℕ) → All IsName names → k < length names → IsName (unwrap_or (slice_get names k) nameless)
named [] k all h = absurd (omega arith)
named (name ∷ names) zero all h = all_head IsName name names all
named (name ∷ names) (suc k) all h = named names k (all_tail IsName name names all) (omega arith)

all_last : (lines : List ProofLine) (more : ProofLine) → All IsProofLine (lines ++ more ∷ []) → All IsProofLine lines × IsProofLine more
all_last [] more all = (all_nil IsProofLine, all_head IsProofLine more [] all)
all_last (line ∷ lines) more all =
    let rest = all_last lines more (all_tail IsProofLine line (lines ++ more ∷ []) all) in
    (all_cons IsProofLine line lines (all_head IsProofLine line (lines ++ more ∷ []) all) rest.0, rest.1)

-- ---- what is known in a report state, and what is to show there

abbrev IsFine : Net → Row → Type 0
IsFine net r = IsKind r.kind × (r.from.0 < net.events) × (r.to.0 < net.events)

-- the current row and the later ones
abbrev AreFine : Net → CurrentRow → Type 0
AreFine net current = IsFine net current.row × All (IsFine net) current.later

abbrev BeforeIsFine : NextBound → Type 0
BeforeIsFine greatest = Unit {0}
BeforeIsFine (least_by first) = HasTimes first

abbrev Held : Net → ReportState → Type 0
Held net at_heading = ⊥
Held net at_budget = ⊥
Held net at_events = Unit {0}
Held net (at_event number names) = All IsName names
Held net (at_finding lines) = Unit {0}
Held net at_known = Unit {0}
Held net (at_rows word) = Unit {0}
Held net (at_row report_tally number later) = All (IsFine net) later
Held net (at_bound current coming lines) = AreFine net current × BeforeIsFine coming
Held net (at_times current coming value) = AreFine net current × BeforeIsFine coming × HasTimes value
Held net (at_raise current coming list) = AreFine net current × BeforeIsFine coming
Held net (at_verdict current range least first) = AreFine net current × IsRange range × HasTimes least × HasTimes first
Held net (at_past current range least first) = AreFine net current × IsRange range × HasTimes least × HasTimes first
Held net (at_slack report_tally number later range least first) = All (IsFine net) later × IsRange range × HasTimes least × HasTimes first
Held net (at_end word) = Unit {0}
Held net at_last = Unit {0}

-- the lines of a proof have texts
abbrev Due : ReportState → Type 0
Due (at_finding lines) = All IsProofLine lines
Due (at_bound current coming lines) = All IsProofLine lines
Due here = Unit {0}

abbrev Step : Drawn → ReportState → Entry → ReportState → Type 0
Step drawn here line next = Held drawn.net next × (Due next → Due here × IsReportEntry (length drawn.names) line)

as_is : (drawn : Drawn) (here : ReportState) (line line' : Entry) (next next' : ReportState) → line ≡ line' → next ≡ next' → Step drawn here line' next' → Step drawn here line next
as_is drawn here line line' next next' e f s =
    subst (λ (l : Entry). Step drawn here l next) (sym e) (subst (λ (n : ReportState). Step drawn here line' n) (sym f) s)

held_judged : (net : Net) (kind : RowKind) (current : CurrentRow) (least first : Bound) → IsKind kind → AreFine net current → HasTimes least → HasTimes first → Held net (judged kind current least first)
held_judged net kinds.Ask current least first kind fine l m = fine.1
held_judged net (kinds.Req range) current least first kind fine l m = (fine, kind, l, m)

held_bounded : (net : Net) (current : CurrentRow) (coming : NextBound) (value : Bound) → AreFine net current → BeforeIsFine coming → HasTimes value → Held net (bounded current coming value)
held_bounded net current greatest value fine before h = (fine, h)
held_bounded net current (least_by first) value fine before h = held_judged net current.row.kind current value first fine.0.0 fine h before

held_bound : (net : Net) (current : CurrentRow) (coming : NextBound) (value : Bound) → AreFine net current → BeforeIsFine coming → HasTimes value → Held net (behind_bound current coming value)
held_bound net current coming (bounds.Closed value) fine before h = (fine, before, h)
held_bound net current coming bounds.Unbounded fine before h = (fine, before, h)
held_bound net current coming (bounds.Within limit None) fine before h = held_bounded net current coming (bounds.Within limit None) fine before h
held_bound net current coming (bounds.Within limit (Some found)) fine before h = (fine, before, h)

held_times : (net : Net) (current : CurrentRow) (coming : NextBound) (value : Bound) (list : List ℤ) → AreFine net current → BeforeIsFine coming → HasTimes value → Held net (behind_times current coming value list)
held_times net current coming (bounds.Closed value) list fine before h = held_bounded net current coming (bounds.Closed value) fine before h
held_times net current coming bounds.Unbounded list fine before h = (fine, before)
held_times net current coming (bounds.Within limit attained) list fine before h = held_bounded net current coming (bounds.Within limit attained) fine before h

held_finding : (net : Net) (word : Consistency) → Held net (behind_finding word)
held_finding net findings.Consistent = tt
held_finding net findings.Inconsistent = tt
held_finding net findings.Open = tt

held_verdict : (net : Net) (current : CurrentRow) (range : Ends) (least first : Bound) (word : Verdict) → Held net (at_past current range least first) → Held net (behind_verdict current range least first word)
held_verdict net current range least first verdicts.Pass h = (h.0.1, h.1, h.2, h.3)
held_verdict net current range least first verdicts.FailHigh h = h
held_verdict net current range least first verdicts.FailLow h = h
held_verdict net current range least first verdicts.Undecided h = (h.0.1, h.1, h.2, h.3)

set_count : (net : Net) (r : Row) (coming : NextBound) (list : List ℤ) (set : List Bool) → CanRise net r coming list set → length set ≡ net.events
set_count net r greatest list set ray = ray.count
set_count net r (least_by first) list set ray = ray.count

module _ (drawn : Drawn) (most : ℕ) (cert : Bool) (basis : List ℤ) (is_net : IsNet drawn.net) (count : length drawn.names ≡ drawn.net.events) (few_rows : length drawn.rows ≤ MAX_ROWS)
    (names : All IsName drawn.names) (fine : All (IsFine drawn.net) drawn.rows) where
  name_at : (e : EventId) → e.0 < drawn.net.events → IsName (name_of drawn e)
  name_at e h = named drawn.names e.0 names (subst (λ n. e.0 < n) (sym count) h)

  finding_due : (lines : List ProofLine) (word : Consistency) → (sized drawn.net most cert basis).finding lines word → All IsProofLine lines
  finding_due lines word fact =
      let p = fact.1 in
      subst (λ (ls : List ProofLine). All IsProofLine ls) (sym p.1) (printed_lines cert p.0 (finding_lines drawn.net most p.0 word is_net p.2.0))

  bound_due : (found : Consistency) (r : Row) (coming : NextBound) (lines : List ProofLine) (value : Bound) → (sized drawn.net most cert basis).bound found r coming lines value → All IsProofLine lines
  bound_due found r coming lines value fact =
      let p = fact.0.2 in
      subst (λ (ls : List ProofLine). All IsProofLine ls) (sym p.1) (printed_lines cert p.0 (bound_lines drawn.net most p.0 r coming value is_net p.2.0))

  step : (here : ReportState) (line : Entry) (next : ReportState) → Held drawn.net here → MayFollow (sized drawn.net most cert basis) drawn here line next → Step drawn here line next
  step at_heading line next held m = absurd held
  step at_budget line next held m = absurd held
  step at_events line next held m = as_is drawn at_events line _ next _ m.0 m.1 (names, λ due. (tt, omega (arith, count, is_net.events)))
  step (at_event number []) line next held (inl (more, e, f)) = as_is drawn (at_event number []) line _ next _ e f (tt, λ due. (tt, all_head IsProofLine more [] due))
  step (at_event number []) line next held (inr (word, e, fact, f)) = as_is drawn (at_event number []) line _ next _ e f (held_finding drawn.net word, λ due. (tt, tt))
  step (at_event number (name ∷ rest)) line next held m =
      as_is drawn (at_event number (name ∷ rest)) line _ next _ m.0 m.1 (all_tail IsName name rest held, λ due. (tt, all_head IsName name rest held))
  step (at_finding lines) line next held (inl (more, e, f)) =
      as_is drawn (at_finding lines) line _ next _ e f (tt, λ due. all_last lines more due)
  step (at_finding lines) line next held (inr (word, e, fact, f)) =
      as_is drawn (at_finding lines) line _ next _ e f (held_finding drawn.net word, λ due. (finding_due lines word fact, tt))
  step at_known line next held m =
      as_is drawn at_known line _ next _ m.1 m.3 (tt, λ due. (tt, (m.2.2.0.count ∙ sym count, longs m.0 m.2.1)))
  step (at_rows word) line next held m = as_is drawn (at_rows word) line _ next _ m.0 m.1 (fine, λ due. (tt, few_rows))
  step (at_row report_tally number []) line next held m = as_is drawn (at_row report_tally number []) line _ next _ m.0 m.1 (tt, λ due. (tt, tt))
  step (at_row report_tally number (r ∷ later)) line next held m =
      let f : IsFine drawn.net r = all_head (IsFine drawn.net) r later held in
      as_is drawn (at_row report_tally number (r ∷ later)) line _ next _ m.0 m.1 (((f, all_tail (IsFine drawn.net) r later held), tt), λ due. (tt, (f.0, name_at r.from f.1, name_at r.to f.2)))
  step (at_bound current coming lines) line next held (inl (more, e, f)) =
      as_is drawn (at_bound current coming lines) line _ next _ e f (held, λ due. all_last lines more due)
  step (at_bound current coming lines) line next held (inr (value, e, fact, f)) =
      as_is drawn (at_bound current coming lines) line _ next _ e f (held_bound drawn.net current coming value held.0 held.1 fact.1, λ due. (bound_due current.tally.found current.row coming lines value fact, long_bound value fact.1))
  step (at_times current coming value) line next held m =
      as_is drawn (at_times current coming value) line _ next _ m.1 m.3 (held_times drawn.net current coming value m.0 held.0 held.1 held.2, λ due. (tt, (m.2.1.0.satisfied.count ∙ sym count, longs m.0 m.2.0)))
  step (at_raise current coming list) line next held m =
      as_is drawn (at_raise current coming list) line _ next _ m.1 m.3 (held_bounded drawn.net current coming bounds.Unbounded held.0 held.1 tt, λ due. (tt, set_count drawn.net current.row coming list m.0 m.2 ∙ sym count))
  step (at_verdict current range least first) line next held m =
      as_is drawn (at_verdict current range least first) line _ next _ m.0 m.1 (held_verdict drawn.net current range least first (verdict_of range least first) held, λ due. (tt, tt))
  step (at_past current range least first) line next held m =
      as_is drawn (at_past current range least first) line _ next _ m.1 m.3 ((held.0.1, held.1, held.2, held.3), λ due. (tt, (m.2.1.0.satisfied.count ∙ sym count, longs m.0 m.2.0)))
  step (at_slack report_tally number later range least first) line next held m =
      as_is drawn (at_slack report_tally number later range least first) line _ next _ m.0 m.1 (held.0, λ due. (tt, (long_low range.low least held.1.0 held.2, long_high range.high first held.1.1 held.3)))
  step (at_end word) line next held m = as_is drawn (at_end word) line _ next _ m.0 m.1 (tt, λ due. (tt, tt))
  step at_last line next held m = absurd m

  -- the lines to the end
  all_lines : (lines : List Entry) (here : ReportState) → Held drawn.net here → LinesLead (sized drawn.net most cert basis) drawn here lines at_last → Due here × All (IsReportEntry (length drawn.names)) lines
  all_lines [] here held reads = (subst Due (sym reads) tt, all_nil (IsReportEntry (length drawn.names)))
  all_lines (line ∷ lines) here held (next, may, reads) =
      let s = step here line next held may in
      let rest = all_lines lines next s.0 reads in
      let due = s.1 rest.0 in
      (due.0, all_cons (IsReportEntry (length drawn.names)) line lines due.1 rest.1)

  pub entries : (lines : List Entry) → 1 ≤ most → most ≤ MAX_BUDGET → LinesLead (sized drawn.net most cert basis) drawn at_events lines at_last → All (IsReportEntry (length drawn.names)) (heading ∷ budget most ∷ lines)
  entries lines least_most few reads =
      let P : Entry → Type 0 = IsReportEntry (length drawn.names) in
      all_cons (IsReportEntry (length drawn.names)) heading (budget most ∷ lines) tt (all_cons (IsReportEntry (length drawn.names)) (budget most) lines (least_most, few) (all_lines lines at_events tt reads).1)

-- the rows are between events, and have ranges
pub fine_rows : (net : Net) (asked : List Row) → All (IsRowOf net) asked → All (λ (r : Row). IsKind r.kind) asked → All (IsFine net) asked
fine_rows net [] within ranges = all_nil (IsFine net)
fine_rows net (r ∷ asked) within ranges =
    let w : IsRowOf net r = all_head (IsRowOf net) r asked within in
    all_cons (IsFine net) r asked (all_head (λ (r : Row). IsKind r.kind) r asked ranges, w.0, w.1)
    (fine_rows net asked (all_tail (IsRowOf net) r asked within) (all_tail (λ (r : Row). IsKind r.kind) r asked ranges))
