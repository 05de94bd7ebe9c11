-- What is known of a network while its rows are searched.
use Rattle.std.specs.Prelude.{◌≡◌, ℕ, ℤ, List, Option, Some, None, IfSome}
use Rattle.event_graph.specs.Network.{Net}
use Rattle.event_graph.specs.RootBound.{MeetsAlways}
use Rattle.event_graph.specs.Satisfying.{Satisfies}
use Rattle.extremes.specs.Found.{IsFindingOpen}
use Rattle.extremes.specs.Ready.{IsContradicted, IsFor}
use Rattle.extremes.specs.Ready.{IsReady as CanSearch}
use Rattle.extremes.specs.declared.extremes.Extremes.{Extremes}
use Rattle.requirements.specs.declared.consistency.Consistency.{Consistency}
use Rattle.requirements.specs.declared.consistency.Consistency.TheVariants as findings
use Rattle.drawn_networks.specs.Drawn.{Drawn}
use Rattle.explanations.specs.Answers.{IsFindingApart}
use Rattle.explanations.specs.Apart.{net_apart}
use Rattle.explanations.specs.declared.searches.Searches.{Searches}
use Rattle.explanations.specs.declared.desk.Apart.{Apart}
use Rattle.explanations.specs.declared.desk.Desk.{Desk}

-- what is known after the search for times
abbrev pub HasFound : Net → Consistency → Extremes → Type 0
HasFound net findings.Consistent extremes = CanSearch net extremes
HasFound net findings.Inconsistent extremes = IsContradicted net extremes
HasFound net findings.Open extremes = IsFor net extremes × IsFindingOpen net extremes.budget

-- times that a finding allows: some that satisfy, or some that meet the always-edges; an inconsistent finding allows none
abbrev pub FindingAllows : Net → Consistency → Type 0
FindingAllows net findings.Consistent = (times : List ℤ) × Satisfies times net
FindingAllows net findings.Inconsistent = ⊥
FindingAllows net findings.Open = (times : List ℤ) × MeetsAlways times net

-- nothing was searched yet
pub record IsFresh (net : Net) (searches : Searches) : Type 0 where
  pub made : IsFor net searches.extremes
  pub unsettled : searches.word ≡ findings.Open

-- bounds can be found after a finding: by searches after a consistent one, and as limits after an unsettled one
abbrev pub IsSearchableAfter : Net → Consistency → Extremes → Type 0
IsSearchableAfter net findings.Consistent extremes = CanSearch net extremes
IsSearchableAfter net findings.Inconsistent extremes = ⊥
IsSearchableAfter net findings.Open extremes = IsFor net extremes × ((times : List ℤ) × MeetsAlways times net)

abbrev pub IsSearchable : Net → Searches → Type 0
IsSearchable net searches = IsSearchableAfter net searches.word searches.extremes

-- a search keeps the finding and the budget
pub record KeepsFinding (old new : Searches) : Type 0 where
  pub word : new.word ≡ old.word
  pub budget : new.extremes.budget ≡ old.extremes.budget

-- the network apart in some memory, or the network itself where there is no such memory
abbrev pub net_in : Net → Option Apart → Net
net_in net None = net
net_in net (Some apart) = apart.net

-- the finding of the network apart in some memory, or the one of the network itself where there is no such memory
abbrev pub word_in : Consistency → Option Apart → Consistency
word_in word None = word
word_in word (Some apart) = apart.searches.word

-- the finding of the network apart that a desk has
abbrev pub word_apart : Desk → Consistency
word_apart desk = word_in desk.searches.word desk.apart

-- searches of the network apart have this budget
abbrev pub HasSameBudget : ℕ → Option Apart → Type 0
HasSameBudget budget apart = IfSome apart (λ (a : Apart). a.searches.extremes.budget ≡ budget)

-- the memory is made for a drawn network, and for its network apart if this is another
pub record IsDeskFor (drawn : Drawn) (desk : Desk) : Type 0 where
  pub chains : desk.chains.events ≡ drawn.net.events
  pub apart : net_in drawn.net desk.apart ≡ net_apart drawn
  pub fresh : IfSome desk.apart (λ (a : Apart). IsFresh a.net a.searches)
  pub budget : HasSameBudget desk.searches.extremes.budget desk.apart

-- the finding of the network apart is made, if this is another network; after the finding of the drawn network with this word
abbrev pub IsSettledApart : ℕ → Consistency → Option Apart → Type 0
IsSettledApart budget word apart = IfSome apart (λ (a : Apart). IsFindingApart a.net budget word a.searches.word)

-- findings were made in the drawn network and in the network apart; no finding is inconsistent
pub record IsReady (drawn : Drawn) (desk : Desk) : Type 0 where
  pub searchable : IsSearchable drawn.net desk.searches
  pub chains : desk.chains.events ≡ drawn.net.events
  pub apart : net_in drawn.net desk.apart ≡ net_apart drawn
  pub searchable_apart : IfSome desk.apart (λ (a : Apart). IsSearchable a.net a.searches)
  pub budget : HasSameBudget desk.searches.extremes.budget desk.apart

-- the searches of a row keep both findings and the budget
pub record KeepsFindings (old new : Desk) : Type 0 where
  pub whole : KeepsFinding old.searches new.searches
  pub apart : word_apart new ≡ word_apart old
