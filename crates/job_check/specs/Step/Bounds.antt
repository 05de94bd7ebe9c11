-- Root bounds, and what the lines before a closed bound are to show.
use Rattle.std.specs.Prelude.{◌<◌, ℤ, neg_ℤ, List, Option, Some, None, option_map}
use Rattle.event_graph.specs.Network.{Net}
use Rattle.event_graph.specs.Proof.{ProofGoal}
use Rattle.event_graph.specs.RootBound.{MeetsAlways}
use Rattle.branch.specs.declared.answer.Root.{Root}
use Rattle.branch.specs.declared.answer.Root.TheVariants as roots
use Rattle.requirements.specs.declared.bound.Bound.{Bound}
use Rattle.requirements.specs.declared.bound.Bound.TheVariants as bounds
use Rattle.right_report.specs.Right.ReportState.{NextBound}
use Rattle.drawn_networks.specs.declared.row.Row.{Row}
use Rattle.right_report.specs.Shown.{goal_of}

-- some times meet the always-edges
abbrev pub SomeMeet : Net → Type 0
SomeMeet net = (list : List ℤ) × MeetsAlways list net

-- a root bound with its number negated
abbrev pub reversed_root : Root → Root
reversed_root roots.NoTimes = roots.NoTimes
reversed_root (roots.Bound upper) = roots.Bound (option_map neg_ℤ upper)

-- the row is between events of the network
pub record IsBetween (net : Net) (row : Row) : Type 0 where
  pub from : row.from.0 < net.events
  pub to : row.to.0 < net.events

-- what the lines before a bound are to show: for a closed bound they are to prove it, and otherwise nothing
abbrev pub goal_for : Row → NextBound → Bound → Option ProofGoal
goal_for r coming (bounds.Closed value) = Some (goal_of r coming value)
goal_for r coming bounds.Unbounded = None
goal_for r coming (bounds.Within limit attained) = None
