-- What is known in a state of a right report, according to the lines before it.
use Rattle.std.proofs.Common.{◌≡◌, ◌+◌, ◌-◌, ◌<◌, ◌==◌, ℕ, suc, ℤ, Bool, true, false, if◌then◌else◌, List, [], ◌∷◌, length, drop, get_or, Option, Some, None, slice_get, inl, inr, refl, sym, ap, subst, ◌∙◌, arith, add-one, drop-cons, length-drop}
use Rattle.std.proofs.lemmas.Bool.{eqb-true}
use Rattle.std.proofs.lemmas.Option.{same_Some, slice_get-get_or}
use Rattle.itv_base.specs.Names.{Name}
use Rattle.itv_base.specs.Range.{Ends}
use Rattle.event_graph.specs.Network.{Net}
use Rattle.event_graph.specs.Proof.{ProofLine}
use Rattle.event_graph.proofs.Rays.{ray_is_unbounded}
use Rattle.requirements.specs.Bounds.{IsGreatestBound, IsLeastBound}
use Rattle.requirements.specs.Laws.{AreBounds}
use Rattle.requirements.specs.Verdicts.{verdict_of}
use Rattle.requirements.specs.declared.bound.Bound.{Bound}
use Rattle.requirements.specs.declared.bound.Bound.TheVariants.{Closed, Unbounded, Within}
use Rattle.requirements.specs.declared.verdict.Verdict.{Verdict}
use Rattle.requirements.specs.declared.verdict.Verdict.TheVariants as verdicts
use Rattle.itv_base.specs.declared.row_kind.RowKind.{RowKind}
use Rattle.itv_base.specs.declared.row_kind.RowKind.TheVariants.{Ask, Req}
use Rattle.requirements.specs.declared.consistency.Consistency.{Consistency}
use Rattle.requirements.specs.declared.consistency.Consistency.TheVariants as findings
use Rattle.slack_report.specs.Entry.{Entry, row}
use Rattle.drawn_networks.specs.Drawn.{Drawn, name_of, AreTimes}
use Rattle.drawn_networks.specs.declared.row.Row.{Row}
use Rattle.right_report.specs.Right.ReportState.{ReportState, NextBound, CurrentRow, at_heading, at_budget, at_events, at_event, at_finding, at_known, at_rows, at_row, at_bound, at_times, at_raise, at_verdict, at_past, at_slack, at_end, at_last, behind_bound, behind_finding, behind_times, behind_verdict, bounded, greatest, judged, least_by}
use Rattle.right_report.specs.Right.LineClaims.{Attains, CanRise, IsBoundOf, right}
use Rattle.right_report.specs.Right.Following.{LineClaims, MayBound, MayFind, MayFollow, LinesLead}
use Rattle.right_report.specs.ReportContents.{behind_row}

-- ---- rows that are left

-- the next of the rows that are left is the row with this number
pub next_row : (rows later : List Row) (number : ℕ) (r : Row) → (r ∷ later) ≡ drop number rows → (slice_get rows number ≡ Some r) × (later ≡ drop (number + 1) rows)
next_row rows later number r is =
    let long : length (r ∷ later) ≡ length rows - number = ap length is ∙ length-drop number rows in
    let within : number < length rows = omega arith in
    let cut : drop number rows ≡ get_or rows number r ∷ drop (suc number) rows = drop-cons rows number r within in
    let both : (r ∷ later) ≡ (get_or rows number r ∷ drop (suc number) rows) = is ∙ cut in
    let same : get_or rows number r ≡ r = cc in
    let rest : later ≡ drop (suc number) rows = cc in
    (slice_get-get_or rows number r within ∙ ap (λ x. Some x) same, rw add-one rest)

-- ---- states

-- the current row is a row of the design, and the later rows are the rows after it
pub record IsTold (drawn : Drawn) (current : CurrentRow) : Type 0 where
  pub is_row : slice_get drawn.rows current.number ≡ Some current.row
  pub are_later : current.later ≡ drop (current.number + 1) drawn.rows

-- if the least bound comes, the greatest bound is right
abbrev pub IsSide : Net → Row → NextBound → Type 0
IsSide net r greatest = Unit {0}
IsSide net r (least_by most) = IsGreatestBound net r.from r.to most

-- a bound of a side is right
abbrev pub IsRightBound : Net → Row → NextBound → Bound → Type 0
IsRightBound net r greatest value = IsGreatestBound net r.from r.to value
IsRightBound net r (least_by most) value = IsLeastBound net r.from r.to value

abbrev pub Stands : Drawn → ReportState → Type 0
Stands drawn at_heading = Unit {0}
Stands drawn at_budget = Unit {0}
Stands drawn at_events = Unit {0}
Stands drawn (at_event number names) = Unit {0}
Stands drawn (at_finding lines) = Unit {0}
Stands drawn at_known = Unit {0}
Stands drawn (at_rows word) = Unit {0}
Stands drawn (at_row tally number later) = later ≡ drop number drawn.rows
Stands drawn (at_bound current coming lines) = IsTold drawn current × IsSide drawn.net current.row coming
Stands drawn (at_times current coming value) = IsTold drawn current × IsSide drawn.net current.row coming × IsBoundOf drawn.net current.tally.found current.row coming value
Stands drawn (at_raise current coming list) = IsTold drawn current × IsSide drawn.net current.row coming
Stands drawn (at_verdict current range least most) = IsTold drawn current × (current.row.kind ≡ Req range) × AreBounds drawn.net current.row.from current.row.to least most
Stands drawn (at_past current range least most) = IsTold drawn current × (current.row.kind ≡ Req range) × AreBounds drawn.net current.row.from current.row.to least most
Stands drawn (at_slack tally number later range least most) = later ≡ drop number drawn.rows
Stands drawn (at_end word) = Unit {0}
Stands drawn at_last = Unit {0}

-- ---- when a bound is right

pub closed_is_right : (net : Net) (found : Consistency) (r : Row) (coming : NextBound) (value : ℤ) → IsBoundOf net found r coming (Closed value) → IsRightBound net r coming (Closed value)
closed_is_right net found r greatest value h = h.1
closed_is_right net found r (least_by most) value h = h.1

pub rise_is_right : (net : Net) (r : Row) (coming : NextBound) (list : List ℤ) (set : List Bool) → CanRise net r coming list set → IsRightBound net r coming Unbounded
rise_is_right net r greatest list set h = ray_is_unbounded net r.from r.to list set h
rise_is_right net r (least_by most) list set h = ray_is_unbounded net r.to r.from list set h

pub none_is_right : (net : Net) (found : Consistency) (r : Row) (coming : NextBound) (limit : Option ℤ) → IsBoundOf net found r coming (Within limit None) → IsRightBound net r coming (Within limit None)
none_is_right net found r greatest limit h = (h.0, tt)
none_is_right net found r (least_by most) limit h = (h.0, tt)

pub attained_is_right : (net : Net) (found : Consistency) (r : Row) (coming : NextBound) (limit : Option ℤ) (value : ℤ) (list : List ℤ) → IsBoundOf net found r coming (Within limit (Some value)) → AreTimes net r list
    → Attains r (Within limit (Some value)) list → IsRightBound net r coming (Within limit (Some value))
attained_is_right net found r greatest limit value list h t e = (h.0, (list, t.satisfied, e))
attained_is_right net found r (least_by most) limit value list h t e = (h.0, (list, t.satisfied, e))

-- ---- a right line keeps what is known

module _ (drawn : Drawn) where
  stands_judged : (current : CurrentRow) (least most : Bound) (kind : RowKind) → current.row.kind ≡ kind → IsTold drawn current → AreBounds drawn.net current.row.from current.row.to least most
      → Stands drawn (judged kind current least most)
  stands_judged current least most Ask e t b = t.are_later
  stands_judged current least most (Req range) e t b = (t, e, b)

  stands_bounded : (current : CurrentRow) (coming : NextBound) (value : Bound) → IsTold drawn current → IsSide drawn.net current.row coming → IsRightBound drawn.net current.row coming value → Stands drawn (bounded current coming value)
  stands_bounded current greatest value t s b = (t, b)
  stands_bounded current (least_by most) value t s b = stands_judged current value most current.row.kind refl t (record { is_least = b; is_greatest = s })

  stands_bound : (current : CurrentRow) (coming : NextBound) (value : Bound) → IsTold drawn current → IsSide drawn.net current.row coming → IsBoundOf drawn.net current.tally.found current.row coming value
      → Stands drawn (behind_bound current coming value)
  stands_bound current coming (Closed value) t s b = (t, s, b)
  stands_bound current coming Unbounded t s b = (t, s, b)
  stands_bound current coming (Within limit (Some value)) t s b = (t, s, b)
  stands_bound current coming (Within limit None) t s b = stands_bounded current coming (Within limit None) t s (none_is_right drawn.net current.tally.found current.row coming limit b)

  stands_times : (current : CurrentRow) (coming : NextBound) (value : Bound) (list : List ℤ) → Stands drawn (at_times current coming value) → AreTimes drawn.net current.row list → Attains current.row value list
      → Stands drawn (behind_times current coming value list)
  stands_times current coming (Closed value) list h t a = stands_bounded current coming (Closed value) h.0 h.1 (closed_is_right drawn.net current.tally.found current.row coming value h.2)
  stands_times current coming Unbounded list h t a = (h.0, h.1)
  stands_times current coming (Within limit (Some value)) list h t a =
      stands_bounded current coming (Within limit (Some value)) h.0 h.1 (attained_is_right drawn.net current.tally.found current.row coming limit value list h.2 t a)
  stands_times current coming (Within limit None) list h t a = stands_bounded current coming (Within limit None) h.0 h.1 (none_is_right drawn.net current.tally.found current.row coming limit h.2)

  stands_verdict : (current : CurrentRow) (range : Ends) (least most : Bound) (word : Verdict) → Stands drawn (at_verdict current range least most) → Stands drawn (behind_verdict current range least most word)
  stands_verdict current range least most verdicts.Pass s = s.0.are_later
  stands_verdict current range least most verdicts.FailHigh s = s
  stands_verdict current range least most verdicts.FailLow s = s
  stands_verdict current range least most verdicts.Undecided s = s.0.are_later

  stands_finding : (word : Consistency) → Stands drawn (behind_finding word)
  stands_finding findings.Consistent = tt
  stands_finding findings.Inconsistent = tt
  stands_finding findings.Open = tt

  stands_find : (lines : List ProofLine) (line : Entry) (next : ReportState) → MayFind (right drawn.net) lines line next → Stands drawn next
  stands_find lines line next (inl h) = subst (Stands drawn) (sym h.2) tt
  stands_find lines line next (inr h) = subst (Stands drawn) (sym h.3) (stands_finding h.0)

  stands_bind : (current : CurrentRow) (coming : NextBound) (lines : List ProofLine) (line : Entry) (next : ReportState) → IsTold drawn current → IsSide drawn.net current.row coming → MayBound (right drawn.net) current coming lines line next
      → Stands drawn next
  stands_bind current coming lines line next t s (inl h) = subst (Stands drawn) (sym h.2) (t, s)
  stands_bind current coming lines line next t s (inr h) = subst (Stands drawn) (sym h.3) (stands_bound current coming h.0 t s h.2)

  pub stands : (here : ReportState) (line : Entry) (next : ReportState) → Stands drawn here → MayFollow (right drawn.net) drawn here line next → Stands drawn next
  stands at_heading line next s h = subst (Stands drawn) (sym h.1) tt
  stands at_budget line next s h = subst (Stands drawn) (sym h.2) tt
  stands at_events line next s h = subst (Stands drawn) (sym h.1) tt
  stands (at_event number (name ∷ names)) line next s h = subst (Stands drawn) (sym h.1) tt
  stands (at_event number []) line next s h = stands_find [] line next h
  stands (at_finding lines) line next s h = stands_find lines line next h
  stands at_known line next s h = subst (Stands drawn) (sym h.3) tt
  stands (at_rows word) line next s h = subst (Stands drawn) (sym h.1) refl
  stands (at_row tally number []) line next s h = subst (Stands drawn) (sym h.1) tt
  stands (at_row tally number (r ∷ later)) line next s h =
      let n = next_row drawn.rows later number r s in
      subst (Stands drawn) (sym h.1) (record { is_row = n.0; are_later = n.1 }, tt)
  stands (at_bound current coming lines) line next s h = stands_bind current coming lines line next s.0 s.1 h
  stands (at_times current coming value) line next s h = subst (Stands drawn) (sym h.3) (stands_times current coming value h.0 s h.2.0 h.2.1)
  stands (at_raise current coming list) line next s h =
      subst (Stands drawn) (sym h.3) (stands_bounded current coming Unbounded s.0 s.1 (rise_is_right drawn.net current.row coming list h.0 h.2))
  stands (at_verdict current range least most) line next s h = subst (Stands drawn) (sym h.1) (stands_verdict current range least most (verdict_of range least most) s)
  stands (at_past current range least most) line next s h = subst (Stands drawn) (sym h.3) s.0.are_later
  stands (at_slack tally number later range least most) line next s h = subst (Stands drawn) (sym h.1) s
  stands (at_end word) line next s h = subst (Stands drawn) (sym h.1) tt
  stands at_last line next s h = absurd h

-- ---- the lines of a row

-- a line that begins a row leads to the state before its greatest bound
pub record Begins (drawn : Drawn) (number : ℕ) (next : ReportState) : Type 0 where
  pub current : CurrentRow
  pub is_number : number ≡ current.number
  pub leads : next ≡ at_bound current greatest []

same_number : (n m : ℕ) (kind other : RowKind) (a b c d : Name) → row n kind a b ≡ row m other c d → n ≡ m
same_number n m kind other a b c d e = cc

module _ (claims : LineClaims) (drawn : Drawn) (number : ℕ) (kind : RowKind) (from to : Name) (next : ReportState) where
  pub begins : (here : ReportState) → MayFollow claims drawn here (row number kind from to) next → Begins drawn number next
  begins at_heading h = absurd (cc h.0)
  begins at_budget h = absurd (cc h.1)
  begins at_events h = absurd (cc h.0)
  begins (at_event other (name ∷ names)) h = absurd (cc h.0)
  begins (at_event other []) (inl h) = absurd (cc h.1)
  begins (at_event other []) (inr h) = absurd (cc h.1)
  begins (at_finding lines) (inl h) = absurd (cc h.1)
  begins (at_finding lines) (inr h) = absurd (cc h.1)
  begins at_known h = absurd (cc h.1)
  begins (at_rows word) h = absurd (cc h.0)
  begins (at_row tally other []) h = absurd (cc h.0)
  begins (at_row tally other (r ∷ later)) h = record {
    current = record { tally = tally; number = other; row = r; later = later };
    is_number = same_number number other kind r.kind from to (name_of drawn r.from) (name_of drawn r.to) h.0;
    leads = h.1;
  }
  begins (at_bound current coming lines) (inl h) = absurd (cc h.1)
  begins (at_bound current coming lines) (inr h) = absurd (cc h.1)
  begins (at_times current coming value) h = absurd (cc h.1)
  begins (at_raise current coming list) h = absurd (cc h.1)
  begins (at_verdict current range least most) h = absurd (cc h.0)
  begins (at_past current range least most) h = absurd (cc h.1)
  begins (at_slack tally other later range least most) h = absurd (cc h.0)
  begins (at_end word) h = absurd (cc h.0)
  begins at_last h = absurd h

-- a claim on what the lines of a row say first holds, wherever the row is in the report
module _ {X : Type 0} (drawn : Drawn) (last : ReportState) (first : List Entry → Option X) (Claim : Row → X → Type 0)
    (empty : first [] ≡ None)
    (in_row : (current : CurrentRow) (lines : List Entry) (x : X) → IsTold drawn current → LinesLead (right drawn.net) drawn (at_bound current greatest []) lines last → first lines ≡ Some x → Claim current.row x) where
  here_or_later : (number other : ℕ) (r : Row) (x : X) (lines : List Entry) (next : ReportState) (same : Bool) → (other == number) ≡ same → Begins drawn other next → Stands drawn next
      → LinesLead (right drawn.net) drawn next lines last → slice_get drawn.rows number ≡ Some r → first (if same then lines else behind_row number lines) ≡ Some x
      → (first (behind_row number lines) ≡ Some x → Claim r x) → Claim r x
  here_or_later number other r x lines next true e b s h get is later =
      let there : Stands drawn (at_bound b.current greatest []) = subst (Stands drawn) b.leads s in
      let number_is : b.current.number ≡ number = sym b.is_number ∙ eqb-true other number e in
      let same : b.current.row ≡ r = same_Some b.current.row r (sym there.0.is_row ∙ ap (slice_get drawn.rows) number_is ∙ get) in
      subst (λ y. Claim y x) same (in_row b.current lines x there.0 (subst (λ y. LinesLead (right drawn.net) drawn y lines last) b.leads h) is)
  here_or_later number other r x lines next false e b s h get is later = later is

  pub on_row : (lines : List Entry) (here : ReportState) (number : ℕ) (r : Row) (x : X) → Stands drawn here → LinesLead (right drawn.net) drawn here lines last → slice_get drawn.rows number ≡ Some r
      → first (behind_row number lines) ≡ Some x → Claim r x
  on_row [] here number r x s h get is = let clash : None ≡ Some x = sym empty ∙ is in absurd (cc)
  on_row (row other kind from to ∷ lines) here number r x s h get is =
      here_or_later number other r x lines h.0 (other == number) refl (begins (right drawn.net) drawn other kind from to h.0 here h.1) (stands drawn here (row other kind from to) h.0 s h.1) h.2 get is
      (λ more. on_row lines h.0 number r x (stands drawn here (row other kind from to) h.0 s h.1) h.2 get more)
  on_row (line ∷ lines) here number r x s h get is = on_row lines h.0 number r x (stands drawn here line h.0 s h.1) h.2 get is
