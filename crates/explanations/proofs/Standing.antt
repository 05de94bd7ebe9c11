-- Findings, of a drawn network and of its network apart from the order of lanes.
use Rattle.std.proofs.Common.{◌≡◌, ℕ, Bool, List, Option, Some, None, refl, sym, subst}
use Rattle.std.specs.Prelude.{IfSome}
use Rattle.itv_base.specs.Range.{Ends}
use Rattle.itv_base.specs.declared.row_kind.RowKind.{RowKind}
use Rattle.itv_base.specs.declared.row_kind.RowKind.TheVariants as kinds
use Rattle.event_graph.proofs.EdgesMet.{All-found}
use Rattle.event_graph.specs.Bounds.{IsInconsistent}
use Rattle.event_graph.specs.Network.{Net}
use Rattle.event_graph.specs.Satisfying.{Holds}
use Rattle.extremes.specs.Found.{IsContradictionFound, IsFindingOpen}
use Rattle.extremes.specs.declared.extremes.Extremes.{Extremes}
use Rattle.requirements.specs.declared.bound.BothBounds.{BothBounds}
use Rattle.requirements.specs.declared.verdict.Verdict.TheVariants as verdicts
use Rattle.requirements.specs.declared.consistency.Consistency.{Consistency}
use Rattle.requirements.specs.declared.consistency.Consistency.TheVariants as findings
use Rattle.drawn_networks.specs.Drawn.{Drawn}
use Rattle.drawn_networks.specs.declared.row.Row.{Row}
use Rattle.explanations.specs.Answers.{IsFindingApart, RestsOnOrder}
use Rattle.explanations.specs.Apart.{net_apart}
use Rattle.explanations.specs.declared.desk.Apart.{Apart}
use Rattle.explanations.specs.declared.searches.Searches.{Searches}
use Rattle.explanations.specs.Step.Resting.{AreBoundsApart, verdict_by}
use Rattle.explanations.specs.Step.Standing.{FindingAllows, HasFound, HasSameBudget, IsFresh, IsSearchable, IsSearchableAfter, IsSettledApart, net_in, word_in}
use Rattle.explanations.proofs.Wider.{always_is_wider, apart_is_wider}

-- where some constraints contradict each other no times satisfy
pub contradiction_is_inconsistent : (net : Net) (budget : ℕ) (set : List Bool) → IsContradictionFound net budget set → IsInconsistent net
contradiction_is_inconsistent net budget set is times sat =
    is.contradicts times (record { count = sat.count; each = λ number c is_in at. All-found (Holds times) net.constraints number c at sat.each })

-- after a finding that is not inconsistent bounds can be found
pub found_searchable : (net : Net) (word : Consistency) (extremes : Extremes) → HasFound net word extremes → (word ≡ findings.Inconsistent → ⊥) → IsSearchableAfter net word extremes
found_searchable net findings.Consistent extremes found settled = found
found_searchable net findings.Inconsistent extremes found settled = settled refl
found_searchable net findings.Open extremes found settled = (found.0, found.1.always)

-- and it allows times
pub found_allows : (net : Net) (word : Consistency) (extremes : Extremes) → HasFound net word extremes → (word ≡ findings.Inconsistent → ⊥) → FindingAllows net word
found_allows net findings.Consistent extremes found settled = found.consistent
found_allows net findings.Inconsistent extremes found settled = settled refl
found_allows net findings.Open extremes found settled = found.1.always

-- where times satisfy, a finding is not inconsistent
pub not_inconsistent : (net : Net) (word : Consistency) (extremes : Extremes) → FindingAllows net findings.Consistent → HasFound net word extremes → word ≡ findings.Inconsistent → ⊥
not_inconsistent net findings.Consistent extremes allows found is = cc is
not_inconsistent net findings.Inconsistent extremes allows found is = found.none allows.0 allows.1
not_inconsistent net findings.Open extremes allows found is = cc is

-- ---- apart

-- what the finding of the drawn network allows, it allows in the network apart
pub allows_apart : (drawn : Drawn) (word : Consistency) → FindingAllows drawn.net word → FindingAllows (net_apart drawn) word
allows_apart drawn findings.Consistent allows = (allows.0, apart_is_wider drawn allows.0 allows.1)
allows_apart drawn findings.Inconsistent allows = allows
allows_apart drawn findings.Open allows = (allows.0, always_is_wider drawn allows.0 allows.1)

-- what holds of the network apart holds of the network in its memory
pub in_memory : (P : Net → Type 0) (drawn : Drawn) (apart : Option Apart) → net_in drawn.net apart ≡ net_apart drawn → P (net_apart drawn) → IfSome apart (λ (a : Apart). P a.net)
in_memory P drawn None is p = tt
in_memory P drawn (Some a) is p = subst P (sym is) p

-- the same budget by another name
pub same_budget : (spent budget : ℕ) (apart : Option Apart) → spent ≡ budget → HasSameBudget budget apart → HasSameBudget spent apart
same_budget spent budget apart same has = subst (λ (b : ℕ). HasSameBudget b apart) (sym same) has

pub rests_within : (net : Net) (spent budget : ℕ) (word : Consistency) (row : Row) (range : Ends) (rests : Option BothBounds) → spent ≡ budget
    → RestsOnOrder net spent word row range rests → RestsOnOrder net budget word row range rests
rests_within net spent budget word row range rests same is = subst (λ (b : ℕ). RestsOnOrder net b word row range rests) same is

-- a requirement that passes in the drawn network has the bounds apart by which it rests on the order, or not
pub judged_apart : (apart : Apart) (there : Option Apart) (row : Row) (kind : RowKind) (range : Ends) (both : BothBounds) (rests : Option BothBounds)
    → there ≡ Some apart → kind ≡ kinds.Req range → verdict_by range both ≡ verdicts.Pass → RestsOnOrder apart.net apart.searches.extremes.budget apart.searches.word row range rests
    → (net : Net) (budget : ℕ) (word : Consistency) → HasSameBudget budget there → AreBoundsApart (net_in net there) budget (word_in word there) row kind both rests
judged_apart apart there row kind range both rests same_there same_kind passes is net budget word has =
    let same : apart.searches.extremes.budget ≡ budget = subst (HasSameBudget budget) same_there has in
    rw (same_there, same_kind, passes) (rests_within apart.net apart.searches.extremes.budget budget apart.searches.word row range rests same is)

-- ---- the finding of the network apart

-- after a consistent finding of the drawn network the network apart is searched
pub searched_apart : (net : Net) (budget : ℕ) (there : Consistency) (extremes : Extremes) → FindingAllows net findings.Consistent → HasFound net there extremes → extremes.budget ≡ budget
    → IsFindingApart net budget findings.Consistent there
searched_apart net budget findings.Consistent extremes allows found same = refl
searched_apart net budget findings.Inconsistent extremes allows found same = found.none allows.0 allows.1
searched_apart net budget findings.Open extremes allows found same = λ is. subst (λ (b : ℕ). IsFindingOpen net b) same found.1

-- so bounds can be found there
pub searchable_apart : (net : Net) (there : Consistency) (extremes : Extremes) → FindingAllows net findings.Consistent → HasFound net there extremes → IsSearchableAfter net there extremes
searchable_apart net there extremes allows found = found_searchable net there extremes found (not_inconsistent net there extremes allows found)

-- after an unsettled one it is not
pub unsettled_apart : (net : Net) (budget : ℕ) (there : Consistency) → there ≡ findings.Open → IsFindingApart net budget findings.Open there
unsettled_apart net budget there same = subst (IsFindingApart net budget findings.Open) (sym same) (λ is. absurd (cc is))

-- and bounds can be found as limits
pub unsettled_searchable : (net : Net) (searches : Searches) → FindingAllows net findings.Open → IsFresh net searches → IsSearchable net searches
unsettled_searchable net searches allows fresh = subst (λ (w : Consistency). IsSearchableAfter net w searches.extremes) (sym fresh.unsettled) (fresh.made, allows)

-- a network apart that is the drawn one has its finding
whole_apart : (net : Net) (budget : ℕ) (word : Consistency) → (word ≡ findings.Inconsistent → ⊥) → IsFindingApart net budget word word
whole_apart net budget findings.Consistent settled = refl
whole_apart net budget findings.Inconsistent settled = settled refl
whole_apart net budget findings.Open settled = λ is. absurd (cc is)

pub finding_apart : (drawn : Drawn) (budget : ℕ) (word : Consistency) (apart : Option Apart) → net_in drawn.net apart ≡ net_apart drawn → (word ≡ findings.Inconsistent → ⊥)
    → IsSettledApart budget word apart → IsFindingApart (net_apart drawn) budget word (word_in word apart)
finding_apart drawn budget word None is not_none settled = subst (λ (n : Net). IsFindingApart n budget word word) is (whole_apart drawn.net budget word not_none)
finding_apart drawn budget word (Some a) is not_none settled = subst (λ (n : Net). IsFindingApart n budget word a.searches.word) is settled
