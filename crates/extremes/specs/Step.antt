-- Words of private contracts.
use Rattle.std.specs.Prelude.{◌≡◌, ◌≤◌, ℕ, ℤ, Bool, false, List, length}
use Rattle.itv_base.specs.declared.names.EventId.{EventId}
use Rattle.event_graph.specs.Bounds.{IsInconsistent}
use Rattle.event_graph.specs.Edges.{cause_choices}
use Rattle.event_graph.specs.Network.{Net}
use Rattle.event_graph.specs.Satisfying.{Satisfies}
use Rattle.chains.specs.Named.{SatisfiesOf}
use Rattle.requirements.specs.Separations.{is_open}
use Rattle.extremes.specs.Found.{Greatest, IsGreatestFound, IsOpenShown}
use Rattle.extremes.specs.Ready.{AreStart}
use Rattle.extremes.specs.declared.by_clauses.ClauseFinding.{ClauseFinding}
use Rattle.extremes.specs.declared.by_clauses.ClauseFinding.TheVariants as clauses

-- what a search by clauses finds of a network
abbrev pub IsClauseFinding : Net → ClauseFinding → Type 0
IsClauseFinding net (clauses.Start times) = AreStart net times.items
IsClauseFinding net (clauses.Nothing named) = IsInconsistent net × (length named.items ≡ length net.constraints)
IsClauseFinding net clauses.Open = Unit {0}

-- a greatest separation that was found and not left open
pub record IsSettledBy (net : Net) (from to : EventId) (found : Greatest) : Type 0 where
  pub right : IsGreatestFound net from to found
  pub settled : is_open found ≡ false

-- what is found of a greatest separation within a budget
pub record IsFoundBy (net : Net) (budget : ℕ) (from to : EventId) (found : Greatest) : Type 0 where
  pub right : IsGreatestFound net from to found
  pub open_shown : IsOpenShown net budget from to found
  pub settles : cause_choices net.constraints ≤ budget → is_open found ≡ false

-- times that satisfy the constraints of a set satisfy the network
abbrev pub AllowsAll : Net → List Bool → Net → Type 0
AllowsAll net set part = (times : List ℤ) → SatisfiesOf set times net → Satisfies times part
