-- What the bounds of a right report say.
use Rattle.std.proofs.Common.{◌≡◌, ◌++◌, ℤ, List, [], ◌∷◌, Some, None, inl, inr, ◌⊎◌, refl, sym, subst}
use Rattle.std.proofs.lemmas.Option.{same_Some}
use Rattle.requirements.specs.Bounds.{IsGreatestBound, IsLeastBound}
use Rattle.requirements.specs.declared.bound.Bound.{Bound}
use Rattle.requirements.specs.declared.bound.Bound.TheVariants.{Closed, Unbounded, Within}
use Rattle.slack_report.specs.declared.words.Which.TheVariants.{Max, Min}
use Rattle.slack_report.specs.Entry.{Entry, bound, proof, raise, times}
use Rattle.drawn_networks.specs.Drawn.{Drawn}
use Rattle.drawn_networks.specs.declared.row.Row.{Row}
use Rattle.right_report.specs.Right.ReportState.{ReportState, NextBound, CurrentRow, at_heading, at_bound, at_times, at_raise, at_last, behind_bound, behind_times, bounded, greatest, least_by}
use Rattle.right_report.specs.Right.LineClaims.{IsBoundOf, right}
use Rattle.right_report.specs.Right.Following.{MayFollow, LinesLead}
use Rattle.right_report.specs.Laws.{GreatestIsRight, LeastIsRight, UnboundedAbove, UnboundedBelow}
use Rattle.right_report.specs.ReportContents.{first_bound}
use Rattle.right_report.proofs.Standing.{IsRightBound, attained_is_right, closed_is_right, none_is_right, on_row, rise_is_right}

-- ---- a bound is right by the times and the set after it

module _ (drawn : Drawn) (current : CurrentRow) (coming : NextBound) where
  raised : (list : List ℤ) (lines : List Entry) → LinesLead (right drawn.net) drawn (at_raise current coming list) lines at_last → IsRightBound drawn.net current.row coming Unbounded
  raised list [] h = absurd (cc)
  raised list (line ∷ lines) h = let m = h.1 in rise_is_right drawn.net current.row coming list m.0 m.2

  is_right : (value : Bound) (lines : List Entry) → IsBoundOf drawn.net current.tally.found current.row coming value → LinesLead (right drawn.net) drawn (behind_bound current coming value) lines at_last
      → IsRightBound drawn.net current.row coming value
  is_right (Closed value) lines b h = closed_is_right drawn.net current.tally.found current.row coming value b
  is_right Unbounded [] b h = absurd (cc)
  is_right Unbounded (line ∷ lines) b h = let m = h.1 in raised m.0 lines (subst (λ x. LinesLead (right drawn.net) drawn x lines at_last) m.3 h.2)
  is_right (Within limit None) lines b h = none_is_right drawn.net current.tally.found current.row coming limit b
  is_right (Within limit (Some value)) [] b h = absurd (cc)
  is_right (Within limit (Some value)) (line ∷ lines) b h = let m = h.1 in attained_is_right drawn.net current.tally.found current.row coming limit value m.0 b m.2.0 m.2.1

-- ---- the first bound of a sort in a row

-- a state in which the greatest bound of a row is yet to come
abbrev pub IsBeforeMax : Row → ReportState → Type 0
IsBeforeMax r (at_bound current greatest lines) = current.row ≡ r
IsBeforeMax r other = ⊥

-- a state in which the least bound of a row is yet to come
abbrev pub IsBeforeMin : Row → ReportState → Type 0
IsBeforeMin r (at_bound current coming lines) = current.row ≡ r
IsBeforeMin r (at_times current greatest value) = current.row ≡ r
IsBeforeMin r (at_raise current greatest list) = current.row ≡ r
IsBeforeMin r other = ⊥

pub before_min_bound : (r : Row) (current : CurrentRow) (value : Bound) → current.row ≡ r → IsBeforeMin r (behind_bound current greatest value)
before_min_bound r current (Closed value) is = is
before_min_bound r current Unbounded is = is
before_min_bound r current (Within limit (Some found)) is = is
before_min_bound r current (Within limit None) is = is

pub before_min_times : (r : Row) (current : CurrentRow) (value : Bound) (list : List ℤ) → current.row ≡ r → IsBeforeMin r (behind_times current greatest value list)
before_min_times r current (Closed value) list is = is
before_min_times r current Unbounded list is = is
before_min_times r current (Within limit attained) list is = is

module _ (drawn : Drawn) (r : Row) (value : Bound) (lines : List Entry) where
  -- the line of the bound is here
  here_max : (current : CurrentRow) (other : Bound) (line : Entry) (next : ReportState) → current.row ≡ r → line ≡ bound Max other → IsBoundOf drawn.net current.tally.found current.row greatest other → next ≡ behind_bound current greatest other
      → LinesLead (right drawn.net) drawn next lines at_last → first_bound Max (line ∷ lines) ≡ Some value → IsGreatestBound drawn.net r.from r.to value
  here_max current other line next inside same b leads h is =
      let found : Some other ≡ Some value = subst (λ l. first_bound Max (l ∷ lines) ≡ Some value) same is in
      let holds : IsGreatestBound drawn.net current.row.from current.row.to other = is_right drawn current greatest other lines b (subst (λ x. LinesLead (right drawn.net) drawn x lines at_last) leads h) in
      let there : IsGreatestBound drawn.net current.row.from current.row.to value = subst (IsGreatestBound drawn.net current.row.from current.row.to) (same_Some other value found) holds in
      subst (λ x. IsGreatestBound drawn.net x.from x.to value) inside there

  max_step : (here : ReportState) (line : Entry) (next : ReportState) → IsBeforeMax r here → MayFollow (right drawn.net) drawn here line next → LinesLead (right drawn.net) drawn next lines at_last
      → first_bound Max (line ∷ lines) ≡ Some value → (IsBeforeMax r next × (first_bound Max lines ≡ Some value)) ⊎ IsGreatestBound drawn.net r.from r.to value
  max_step (at_bound current greatest before) line next inside (inl h) more is =
      inl (subst (IsBeforeMax r) (sym h.2) inside, subst (λ l. first_bound Max (l ∷ lines) ≡ Some value) h.1 is)
  max_step (at_bound current greatest before) line next inside (inr h) more is = inr (here_max current h.0 line next inside h.1 h.2 h.3 more is)
  max_step here line next inside h more is = absurd inside

  here_min : (current : CurrentRow) (most other : Bound) (line : Entry) (next : ReportState) → current.row ≡ r → line ≡ bound Min other → IsBoundOf drawn.net current.tally.found current.row (least_by most) other
      → next ≡ behind_bound current (least_by most) other → LinesLead (right drawn.net) drawn next lines at_last → first_bound Min (line ∷ lines) ≡ Some value → IsLeastBound drawn.net r.from r.to value
  here_min current most other line next inside same b leads h is =
      let found : Some other ≡ Some value = subst (λ l. first_bound Min (l ∷ lines) ≡ Some value) same is in
      let holds : IsLeastBound drawn.net current.row.from current.row.to other = is_right drawn current (least_by most) other lines b (subst (λ x. LinesLead (right drawn.net) drawn x lines at_last) leads h) in
      let there : IsLeastBound drawn.net current.row.from current.row.to value = subst (IsLeastBound drawn.net current.row.from current.row.to) (same_Some other value found) holds in
      subst (λ x. IsLeastBound drawn.net x.from x.to value) inside there

  -- the line is not the line of the bound
  passes : (line known : Entry) (next there : ReportState) → first_bound Min (line ∷ lines) ≡ Some value → line ≡ known → (first_bound Min (known ∷ lines) ≡ Some value → first_bound Min lines ≡ Some value) → next ≡ there
      → IsBeforeMin r there → (IsBeforeMin r next × (first_bound Min lines ≡ Some value)) ⊎ IsLeastBound drawn.net r.from r.to value
  passes line known next there is same skip leads inside = inl (subst (IsBeforeMin r) (sym leads) inside, skip (subst (λ l. first_bound Min (l ∷ lines) ≡ Some value) same is))

  min_step : (here : ReportState) (line : Entry) (next : ReportState) → IsBeforeMin r here → MayFollow (right drawn.net) drawn here line next → LinesLead (right drawn.net) drawn next lines at_last
      → first_bound Min (line ∷ lines) ≡ Some value → (IsBeforeMin r next × (first_bound Min lines ≡ Some value)) ⊎ IsLeastBound drawn.net r.from r.to value
  min_step (at_bound current coming before) line next inside (inl h) more is = passes line (proof h.0) next (at_bound current coming (before ++ h.0 ∷ [])) is h.1 (λ x. x) h.2 inside
  min_step (at_bound current greatest before) line next inside (inr h) more is = passes line (bound Max h.0) next (behind_bound current greatest h.0) is h.1 (λ x. x) h.3 (before_min_bound r current h.0 inside)
  min_step (at_bound current (least_by most) before) line next inside (inr h) more is = inr (here_min current most h.0 line next inside h.1 h.2 h.3 more is)
  min_step (at_times current greatest other) line next inside h more is = passes line (times h.0) next (behind_times current greatest other h.0) is h.1 (λ x. x) h.3 (before_min_times r current other h.0 inside)
  min_step (at_raise current greatest list) line next inside h more is = passes line (raise h.0) next (bounded current greatest Unbounded) is h.1 (λ x. x) h.3 inside
  min_step here line next inside h more is = absurd inside

max_lines : (drawn : Drawn) (r : Row) (value : Bound) (lines : List Entry) (here : ReportState) → IsBeforeMax r here → LinesLead (right drawn.net) drawn here lines at_last → first_bound Max lines ≡ Some value
    → IsGreatestBound drawn.net r.from r.to value
max_lines drawn r value [] here inside h is = absurd (cc)
max_lines drawn r value (line ∷ lines) here inside h is =
    elim (max_step drawn r value lines here line h.0 inside h.1 h.2 is) [
      | inl more ↦ max_lines drawn r value lines h.0 more.0 h.2 more.1
      | inr found ↦ found
    ]

min_lines : (drawn : Drawn) (r : Row) (value : Bound) (lines : List Entry) (here : ReportState) → IsBeforeMin r here → LinesLead (right drawn.net) drawn here lines at_last → first_bound Min lines ≡ Some value
    → IsLeastBound drawn.net r.from r.to value
min_lines drawn r value [] here inside h is = absurd (cc)
min_lines drawn r value (line ∷ lines) here inside h is =
    elim (min_step drawn r value lines here line h.0 inside h.1 h.2 is) [
      | inl more ↦ min_lines drawn r value lines h.0 more.0 h.2 more.1
      | inr found ↦ found
    ]

pub greatest_is_right : GreatestIsRight
greatest_is_right drawn lines number r value h get is =
    on_row drawn at_last (first_bound Max) (λ x found. IsGreatestBound drawn.net x.from x.to found) refl
    (λ current more found t reads first. max_lines drawn current.row found more (at_bound current greatest []) refl reads first) lines at_heading number r value tt h get is

pub least_is_right : LeastIsRight
least_is_right drawn lines number r value h get is =
    on_row drawn at_last (first_bound Min) (λ x found. IsLeastBound drawn.net x.from x.to found) refl
    (λ current more found t reads first. min_lines drawn current.row found more (at_bound current greatest []) refl reads first) lines at_heading number r value tt h get is

pub unbounded_above : UnboundedAbove
unbounded_above drawn lines number r h get is = greatest_is_right drawn lines number r Unbounded h get is

pub unbounded_below : UnboundedBelow
unbounded_below drawn lines number r h get is = least_is_right drawn lines number r Unbounded h get is
