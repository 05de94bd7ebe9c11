-- Each row of a right report has its lines.
use Rattle.std.proofs.Common.{◌≡◌, ◌+◌, ◌<◌, ◌≤◌, ◌==◌, ◌++◌, ℕ, ℤ, Bool, true, false, if◌then◌else◌, List, [], ◌∷◌, length, drop, Some, None, slice_get, inl, inr, ◌⊎◌, refl, sym, ap, subst, ◌∙◌, arith, length-drop}
use Rattle.std.proofs.lemmas.Bool.{eqb-false, eqb-true}
use Rattle.std.proofs.lemmas.Option.{same_Some, slice_get_within}
use Rattle.itv_base.specs.Range.{Ends}
use Rattle.event_graph.specs.Proof.{ProofLine}
use Rattle.requirements.specs.declared.bound.Bound.{Bound}
use Rattle.requirements.specs.declared.bound.Bound.TheVariants.{Closed, Unbounded, Within}
use Rattle.requirements.specs.declared.verdict.Verdict.{Verdict}
use Rattle.requirements.specs.declared.verdict.Verdict.TheVariants.{Pass, FailHigh, FailLow, Undecided}
use Rattle.requirements.specs.Verdicts.{verdict_of}
use Rattle.requirements.specs.Slacks.{slack_of}
use Rattle.requirements.specs.declared.consistency.Consistency.{Consistency}
use Rattle.requirements.specs.declared.consistency.Consistency.TheVariants as findings
use Rattle.itv_base.specs.declared.row_kind.RowKind.{RowKind}
use Rattle.itv_base.specs.declared.row_kind.RowKind.TheVariants.{Ask, Req}
use Rattle.slack_report.specs.declared.words.EndWord.TheVariants as endings
use Rattle.slack_report.specs.declared.words.Which.TheVariants.{Max, Min}
use Rattle.slack_report.specs.Entry.{Entry, heading, budget, events, event, proof, finding, times, rows, row, bound, raise, verdict, slack}
use Rattle.drawn_networks.specs.Drawn.{Drawn, name_of}
use Rattle.drawn_networks.specs.declared.row.Row.{Row}
use Rattle.right_report.specs.Right.ReportState.{ReportState, NextBound, CurrentRow, at_heading, at_budget, at_events, at_event, at_finding, at_known, at_rows, at_row, at_bound, at_times, at_raise, at_verdict, at_past, at_slack, at_end, at_last, behind_bound, behind_finding, behind_past, behind_times, behind_verdict, bounded, tally_of, greatest, judged, least_by, which_of}
use Rattle.right_report.specs.Right.LineClaims.{IsRightReport, right}
use Rattle.right_report.specs.Right.Following.{MayBound, MayFind, MayFollow, LinesLead}
use Rattle.claim_laws.specs.Laws.{RowHasGreatest, RowHasLeast, RequirementHasVerdict}
use Rattle.right_report.specs.ReportContents.{behind_row, end_in, first_bound, first_verdict}
use Rattle.right_report.proofs.RowBounds.{IsBeforeMax, IsBeforeMin, before_min_bound, before_min_times}
use Rattle.right_report.proofs.Standing.{Stands, next_row, stands}

-- ---- before a row

-- the row with a number is yet to come, if the report is not at its end
abbrev Awaits : ℕ → ReportState → Type 0
Awaits number (at_row tally first later) = first ≤ number
Awaits number (at_bound current coming lines) = current.number + 1 ≤ number
Awaits number (at_times current coming value) = current.number + 1 ≤ number
Awaits number (at_raise current coming list) = current.number + 1 ≤ number
Awaits number (at_verdict current range least most) = current.number + 1 ≤ number
Awaits number (at_past current range least most) = current.number + 1 ≤ number
Awaits number (at_slack tally first later range least most) = first ≤ number
Awaits number (at_end word) = word ≡ endings.Inconsistent
Awaits number at_last = ⊥
Awaits number other = Unit {0}

awaits_finding : (number : ℕ) (word : Consistency) → Awaits number (behind_finding word)
awaits_finding number findings.Consistent = tt
awaits_finding number findings.Inconsistent = refl
awaits_finding number findings.Open = tt

awaits_judged : (number : ℕ) (kind : RowKind) (current : CurrentRow) (least most : Bound) → current.number + 1 ≤ number → Awaits number (judged kind current least most)
awaits_judged number Ask current least most less = less
awaits_judged number (Req range) current least most less = less

awaits_bounded : (number : ℕ) (current : CurrentRow) (coming : NextBound) (value : Bound) → current.number + 1 ≤ number → Awaits number (bounded current coming value)
awaits_bounded number current greatest value less = less
awaits_bounded number current (least_by most) value less = awaits_judged number current.row.kind current value most less

awaits_bound : (number : ℕ) (current : CurrentRow) (coming : NextBound) (value : Bound) → current.number + 1 ≤ number → Awaits number (behind_bound current coming value)
awaits_bound number current coming (Closed value) less = less
awaits_bound number current coming Unbounded less = less
awaits_bound number current coming (Within limit (Some found)) less = less
awaits_bound number current coming (Within limit None) less = awaits_bounded number current coming (Within limit None) less

awaits_times : (number : ℕ) (current : CurrentRow) (coming : NextBound) (value : Bound) (list : List ℤ) → current.number + 1 ≤ number → Awaits number (behind_times current coming value list)
awaits_times number current coming (Closed value) list less = awaits_bounded number current coming (Closed value) less
awaits_times number current coming Unbounded list less = less
awaits_times number current coming (Within limit attained) list less = awaits_bounded number current coming (Within limit attained) less

awaits_verdict : (number : ℕ) (current : CurrentRow) (range : Ends) (least most : Bound) (word : Verdict) → current.number + 1 ≤ number → Awaits number (behind_verdict current range least most word)
awaits_verdict number current range least most Pass less = less
awaits_verdict number current range least most FailHigh less = less
awaits_verdict number current range least most FailLow less = less
awaits_verdict number current range least most Undecided less = less

no_rows : (drawn : Drawn) (first number : ℕ) (r : Row) → [] ≡ drop first drawn.rows → first ≤ number → slice_get drawn.rows number ≡ Some r → ⊥
no_rows drawn first number r none less get =
    let within : number < length drawn.rows = slice_get_within drawn.rows number r get in
    let empty = ap length none ∙ length-drop first drawn.rows in
    omega (arith, within, less, empty)

module _ (drawn : Drawn) (number : ℕ) (r : Row) (get : slice_get drawn.rows number ≡ Some r) where
  -- the line begins the row
  record IsHere (line : Entry) (lines : List Entry) (next : ReportState) : Type 0 where
    current : CurrentRow
    leads : next ≡ at_bound current greatest []
    same : current.row ≡ r
    behind : behind_row number (line ∷ lines) ≡ lines

  -- the line is before the row
  record IsEarlier (line : Entry) (lines : List Entry) (next : ReportState) : Type 0 where
    awaits : Awaits number next
    behind : behind_row number (line ∷ lines) ≡ behind_row number lines
    ends : end_in (line ∷ lines) ≡ end_in lines

  module _ (lines : List Entry) where
    passes : (line known : Entry) (next there : ReportState) → line ≡ known → behind_row number (known ∷ lines) ≡ behind_row number lines → end_in (known ∷ lines) ≡ end_in lines → next ≡ there → Awaits number there
        → IsEarlier line lines next ⊎ IsHere line lines next
    passes line known next there same behind ends leads awaits = inl (record {
      awaits = subst (Awaits number) (sym leads) awaits;
      behind = subst (λ l. behind_row number (l ∷ lines) ≡ behind_row number lines) (sym same) behind;
      ends = subst (λ l. end_in (l ∷ lines) ≡ end_in lines) (sym same) ends;
    })

    row_by : (first : ℕ) (found : Row) (later : List Row) (line : Entry) (next : ReportState) (current : CurrentRow) (test : Bool) → (first == number) ≡ test → (found ∷ later) ≡ drop first drawn.rows → first ≤ number
        → line ≡ row first found.kind (name_of drawn found.from) (name_of drawn found.to) → current.row ≡ found → current.number ≡ first → next ≡ at_bound current greatest [] → IsEarlier line lines next ⊎ IsHere line lines next
    row_by first found later line next current true is left less same at_it counted leads =
        let equal : first ≡ number = eqb-true first number is in
        let there = next_row drawn.rows later first found left in
        let one : found ≡ r = same_Some found r (sym there.0 ∙ ap (slice_get drawn.rows) equal ∙ get) in
        inr (record {
          current = current;
          leads = leads;
          same = at_it ∙ one;
          behind = subst (λ l. behind_row number (l ∷ lines) ≡ lines) (sym same) (ap (λ b. if b then lines else behind_row number lines) is);
        })
    row_by first found later line next current false is left less same at_it counted leads =
        let other : first ≡ number → ⊥ = eqb-false first number is in
        let before : current.number + 1 ≤ number = omega (arith, other, less, counted) in
        passes line (row first found.kind (name_of drawn found.from) (name_of drawn found.to)) next (at_bound current greatest []) same (ap (λ b. if b then lines else behind_row number lines) is) refl leads before

    step_find : (before : List ProofLine) (line : Entry) (next : ReportState) → MayFind (right drawn.net) before line next → IsEarlier line lines next ⊎ IsHere line lines next
    step_find before line next (inl h) = passes line (proof h.0) next (at_finding (before ++ h.0 ∷ [])) h.1 refl refl h.2 tt
    step_find before line next (inr h) = passes line (finding h.0) next (behind_finding h.0) h.1 refl refl h.3 (awaits_finding number h.0)

    step_bound : (current : CurrentRow) (coming : NextBound) (before : List ProofLine) (line : Entry) (next : ReportState) → current.number + 1 ≤ number → MayBound (right drawn.net) current coming before line next
        → IsEarlier line lines next ⊎ IsHere line lines next
    step_bound current coming before line next awaits (inl h) = passes line (proof h.0) next (at_bound current coming (before ++ h.0 ∷ [])) h.1 refl refl h.2 awaits
    step_bound current coming before line next awaits (inr h) =
        passes line (bound (which_of coming) h.0) next (behind_bound current coming h.0) h.1 refl refl h.3 (awaits_bound number current coming h.0 awaits)

    step : (here : ReportState) (line : Entry) (next : ReportState) → Stands drawn here → Awaits number here → MayFollow (right drawn.net) drawn here line next → (end_in (line ∷ lines) ≡ Some endings.Inconsistent → ⊥)
        → IsEarlier line lines next ⊎ IsHere line lines next
    step at_heading line next s w h ends = passes line heading next at_budget h.0 refl refl h.1 tt
    step at_budget line next s w h ends = passes line (budget h.0) next at_events h.1 refl refl h.2 tt
    step at_events line next s w h ends = passes line (events (length drawn.names)) next (at_event 0 drawn.names) h.0 refl refl h.1 tt
    step (at_event first (name ∷ names)) line next s w h ends = passes line (event first name) next (at_event (first + 1) names) h.0 refl refl h.1 tt
    step (at_event first []) line next s w h ends = step_find [] line next h
    step (at_finding before) line next s w h ends = step_find before line next h
    step at_known line next s w h ends = passes line (times h.0) next (at_rows findings.Consistent) h.1 refl refl h.3 tt
    step (at_rows word) line next s w h ends = passes line (rows (length drawn.rows)) next (at_row (tally_of word) 0 drawn.rows) h.0 refl refl h.1 (omega arith)
    step (at_row tally first []) line next s w h ends = absurd (no_rows drawn first number r s w get)
    step (at_row tally first (found ∷ later)) line next s w h ends =
        row_by first found later line next (record { tally = tally; number = first; row = found; later = later }) (first == number) refl s w h.0 refl refl h.1
    step (at_bound current coming before) line next s w h ends = step_bound current coming before line next w h
    step (at_times current coming value) line next s w h ends = passes line (times h.0) next (behind_times current coming value h.0) h.1 refl refl h.3 (awaits_times number current coming value h.0 w)
    step (at_raise current coming list) line next s w h ends = passes line (raise h.0) next (bounded current coming Unbounded) h.1 refl refl h.3 (awaits_bounded number current coming Unbounded w)
    step (at_verdict current range least most) line next s w h ends =
        passes line (verdict (verdict_of range least most)) next (behind_verdict current range least most (verdict_of range least most)) h.0 refl refl h.1 (awaits_verdict number current range least most (verdict_of range least most) w)
    step (at_past current range least most) line next s w h ends =
        passes line (times h.0) next (behind_past current range least most (verdict_of range least most)) h.1 refl refl h.3 w
    step (at_slack tally first later range least most) line next s w h ends = passes line (slack (slack_of range least most)) next (at_row tally first later) h.0 refl refl h.1 w
    step (at_end word) line next s w h ends =
        let said : end_in (line ∷ lines) ≡ Some endings.Inconsistent = subst (λ l. end_in (l ∷ lines) ≡ Some endings.Inconsistent) (sym h.0) (ap (λ x. Some x) w) in absurd (ends said)
    step at_last line next s w h ends = absurd h

  -- the lines after the first line of the row
  record HasRow (lines : List Entry) : Type 0 where
    current : CurrentRow
    same : current.row ≡ r
    leads : LinesLead (right drawn.net) drawn (at_bound current greatest []) (behind_row number lines) at_last

  none_left : (here : ReportState) → Awaits number here → here ≡ at_last → ⊥
  none_left here w is = subst (Awaits number) is w

  has_row : (lines : List Entry) (here : ReportState) → Stands drawn here → Awaits number here → (end_in lines ≡ Some endings.Inconsistent → ⊥) → LinesLead (right drawn.net) drawn here lines at_last → HasRow lines
  has_row [] here s w ends h = absurd (none_left here w h)
  has_row (line ∷ lines) here s w ends h =
      elim (step lines here line h.0 s w h.1 ends) [
        | inl earlier ↦ further earlier (has_row lines h.0 (stands drawn here line h.0 s h.1) earlier.awaits (λ is. ends (earlier.ends ∙ is)) h.2)
        | inr at_it ↦ record {
          current = at_it.current;
          same = at_it.same;
          leads = subst (λ more. LinesLead (right drawn.net) drawn (at_bound at_it.current greatest []) more at_last) (sym at_it.behind)
              (subst (λ x. LinesLead (right drawn.net) drawn x lines at_last) at_it.leads h.2);
        }
      ]
    where
      further : {next : ReportState} → IsEarlier line lines next → HasRow lines → HasRow (line ∷ lines)
      further earlier found = record {
        current = found.current;
        same = found.same;
        leads = subst (λ more. LinesLead (right drawn.net) drawn (at_bound found.current greatest []) more at_last) (sym earlier.behind) found.leads;
      }

  row_of : (lines : List Entry) → IsRightReport drawn lines → (end_in lines ≡ Some endings.Inconsistent → ⊥) → HasRow lines
  row_of lines is ends = has_row lines at_heading tt tt ends is

-- ---- in a row

module _ (drawn : Drawn) (r : Row) where
  max_line : (current : CurrentRow) (before : List ProofLine) (line : Entry) (lines : List Entry) (next : ReportState) → current.row ≡ r → MayBound (right drawn.net) current greatest before line next
      → (IsBeforeMax r next × (first_bound Max (line ∷ lines) ≡ first_bound Max lines)) ⊎ ((value : Bound) × (first_bound Max (line ∷ lines) ≡ Some value))
  max_line current before line lines next inside (inl h) =
      inl (subst (IsBeforeMax r) (sym h.2) inside, subst (λ l. first_bound Max (l ∷ lines) ≡ first_bound Max lines) (sym h.1) refl)
  max_line current before line lines next inside (inr h) = inr (h.0, subst (λ l. first_bound Max (l ∷ lines) ≡ Some h.0) (sym h.1) refl)

  max_step : (here : ReportState) (line : Entry) (lines : List Entry) (next : ReportState) → IsBeforeMax r here → MayFollow (right drawn.net) drawn here line next
      → (IsBeforeMax r next × (first_bound Max (line ∷ lines) ≡ first_bound Max lines)) ⊎ ((value : Bound) × (first_bound Max (line ∷ lines) ≡ Some value))
  max_step (at_bound current greatest before) line lines next inside h = max_line current before line lines next inside h
  max_step here line lines next inside h = absurd inside

  max_there : (lines : List Entry) (here : ReportState) → IsBeforeMax r here → LinesLead (right drawn.net) drawn here lines at_last → (value : Bound) × (first_bound Max lines ≡ Some value)
  max_there [] here inside h = absurd (subst (IsBeforeMax r) h inside)
  max_there (line ∷ lines) here inside h =
      elim (max_step here line lines h.0 inside h.1) [
        | inl more ↦ let found = max_there lines h.0 more.0 h.2 in (found.0, more.1 ∙ found.1)
        | inr found ↦ found
      ]

  min_passes : (line known : Entry) (lines : List Entry) (next there : ReportState) → line ≡ known → first_bound Min (known ∷ lines) ≡ first_bound Min lines → next ≡ there → IsBeforeMin r there
      → (IsBeforeMin r next × (first_bound Min (line ∷ lines) ≡ first_bound Min lines)) ⊎ ((value : Bound) × (first_bound Min (line ∷ lines) ≡ Some value))
  min_passes line known lines next there same skip leads inside =
      inl (subst (IsBeforeMin r) (sym leads) inside, subst (λ l. first_bound Min (l ∷ lines) ≡ first_bound Min lines) (sym same) skip)

  min_step : (here : ReportState) (line : Entry) (lines : List Entry) (next : ReportState) → IsBeforeMin r here → MayFollow (right drawn.net) drawn here line next
      → (IsBeforeMin r next × (first_bound Min (line ∷ lines) ≡ first_bound Min lines)) ⊎ ((value : Bound) × (first_bound Min (line ∷ lines) ≡ Some value))
  min_step (at_bound current coming before) line lines next inside (inl h) = min_passes line (proof h.0) lines next (at_bound current coming (before ++ h.0 ∷ [])) h.1 refl h.2 inside
  min_step (at_bound current greatest before) line lines next inside (inr h) = min_passes line (bound Max h.0) lines next (behind_bound current greatest h.0) h.1 refl h.3 (before_min_bound r current h.0 inside)
  min_step (at_bound current (least_by most) before) line lines next inside (inr h) = inr (h.0, subst (λ l. first_bound Min (l ∷ lines) ≡ Some h.0) (sym h.1) refl)
  min_step (at_times current greatest other) line lines next inside h = min_passes line (times h.0) lines next (behind_times current greatest other h.0) h.1 refl h.3 (before_min_times r current other h.0 inside)
  min_step (at_raise current greatest list) line lines next inside h = min_passes line (raise h.0) lines next (bounded current greatest Unbounded) h.1 refl h.3 inside
  min_step here line lines next inside h = absurd inside

  min_there : (lines : List Entry) (here : ReportState) → IsBeforeMin r here → LinesLead (right drawn.net) drawn here lines at_last → (value : Bound) × (first_bound Min lines ≡ Some value)
  min_there [] here inside h = absurd (subst (IsBeforeMin r) h inside)
  min_there (line ∷ lines) here inside h =
      elim (min_step here line lines h.0 inside h.1) [
        | inl more ↦ let found = min_there lines h.0 more.0 h.2 in (found.0, more.1 ∙ found.1)
        | inr found ↦ found
      ]

-- a state in which the verdict on a row is yet to come
abbrev IsBeforeVerdict : Ends → ReportState → Type 0
IsBeforeVerdict range (at_bound current coming lines) = current.row.kind ≡ Req range
IsBeforeVerdict range (at_times current coming value) = current.row.kind ≡ Req range
IsBeforeVerdict range (at_raise current coming list) = current.row.kind ≡ Req range
IsBeforeVerdict range (at_verdict current other least most) = Unit {0}
IsBeforeVerdict range other = ⊥

module _ (drawn : Drawn) (range : Ends) where
  before_judged : (kind : RowKind) (current : CurrentRow) (least most : Bound) → kind ≡ Req range → IsBeforeVerdict range (judged kind current least most)
  before_judged Ask current least most is = absurd (cc is)
  before_judged (Req other) current least most is = tt

  before_bounded : (current : CurrentRow) (coming : NextBound) (value : Bound) → current.row.kind ≡ Req range → IsBeforeVerdict range (bounded current coming value)
  before_bounded current greatest value is = is
  before_bounded current (least_by most) value is = before_judged current.row.kind current value most is

  before_bound : (current : CurrentRow) (coming : NextBound) (value : Bound) → current.row.kind ≡ Req range → IsBeforeVerdict range (behind_bound current coming value)
  before_bound current coming (Closed value) is = is
  before_bound current coming Unbounded is = is
  before_bound current coming (Within limit (Some found)) is = is
  before_bound current coming (Within limit None) is = before_bounded current coming (Within limit None) is

  before_times : (current : CurrentRow) (coming : NextBound) (value : Bound) (list : List ℤ) → current.row.kind ≡ Req range → IsBeforeVerdict range (behind_times current coming value list)
  before_times current coming (Closed value) list is = before_bounded current coming (Closed value) is
  before_times current coming Unbounded list is = is
  before_times current coming (Within limit attained) list is = before_bounded current coming (Within limit attained) is

  verdict_passes : (line known : Entry) (lines : List Entry) (next there : ReportState) → line ≡ known → first_verdict (known ∷ lines) ≡ first_verdict lines → next ≡ there → IsBeforeVerdict range there
      → (IsBeforeVerdict range next × (first_verdict (line ∷ lines) ≡ first_verdict lines)) ⊎ ((word : Verdict) × (first_verdict (line ∷ lines) ≡ Some word))
  verdict_passes line known lines next there same skip leads inside =
      inl (subst (IsBeforeVerdict range) (sym leads) inside, subst (λ l. first_verdict (l ∷ lines) ≡ first_verdict lines) (sym same) skip)

  verdict_step : (here : ReportState) (line : Entry) (lines : List Entry) (next : ReportState) → IsBeforeVerdict range here → MayFollow (right drawn.net) drawn here line next
      → (IsBeforeVerdict range next × (first_verdict (line ∷ lines) ≡ first_verdict lines)) ⊎ ((word : Verdict) × (first_verdict (line ∷ lines) ≡ Some word))
  verdict_step (at_bound current coming before) line lines next inside (inl h) = verdict_passes line (proof h.0) lines next (at_bound current coming (before ++ h.0 ∷ [])) h.1 refl h.2 inside
  verdict_step (at_bound current coming before) line lines next inside (inr h) = verdict_passes line (bound (which_of coming) h.0) lines next (behind_bound current coming h.0) h.1 refl h.3 (before_bound current coming h.0 inside)
  verdict_step (at_times current coming value) line lines next inside h = verdict_passes line (times h.0) lines next (behind_times current coming value h.0) h.1 refl h.3 (before_times current coming value h.0 inside)
  verdict_step (at_raise current coming list) line lines next inside h = verdict_passes line (raise h.0) lines next (bounded current coming Unbounded) h.1 refl h.3 (before_bounded current coming Unbounded inside)
  verdict_step (at_verdict current other least most) line lines next inside h = inr (verdict_of other least most, subst (λ l. first_verdict (l ∷ lines) ≡ Some (verdict_of other least most)) (sym h.0) refl)
  verdict_step here line lines next inside h = absurd inside

  verdict_there : (lines : List Entry) (here : ReportState) → IsBeforeVerdict range here → LinesLead (right drawn.net) drawn here lines at_last → (word : Verdict) × (first_verdict lines ≡ Some word)
  verdict_there [] here inside h = absurd (subst (IsBeforeVerdict range) h inside)
  verdict_there (line ∷ lines) here inside h =
      elim (verdict_step here line lines h.0 inside h.1) [
        | inl more ↦ let found = verdict_there lines h.0 more.0 h.2 in (found.0, more.1 ∙ found.1)
        | inr found ↦ found
      ]

-- ---- the laws

pub row_has_greatest : RowHasGreatest
row_has_greatest drawn lines number r is get ends =
    let found = row_of drawn number r get lines is ends in
    max_there drawn found.current.row (behind_row number lines) (at_bound found.current greatest []) refl found.leads

pub row_has_least : RowHasLeast
row_has_least drawn lines number r is get ends =
    let found = row_of drawn number r get lines is ends in
    min_there drawn found.current.row (behind_row number lines) (at_bound found.current greatest []) refl found.leads

pub requirement_has_verdict : RequirementHasVerdict
requirement_has_verdict drawn lines number r range is get demands ends =
    let found = row_of drawn number r get lines is ends in
    verdict_there drawn range (behind_row number lines) (at_bound found.current greatest []) (ap (λ (x : Row). x.kind) found.same ∙ demands) found.leads
