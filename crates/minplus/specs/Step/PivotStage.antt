-- A matrix that was improved through the events below a number.
use Rattle.std.specs.Prelude.{◌≡◌, ◌<◌, ℕ, pos, ◌≤ℤ◌}
use Rattle.itv_base.specs.declared.limits.TheConstants.{END_LIMIT}
use Rattle.event_graph.specs.Network.{Net}
use Rattle.minplus.specs.Rows.{IsEntry}
use Rattle.minplus.specs.Step.Entries.{BoundsAlways, Entries, HoldsEdges, IsClosedBelow}
use Rattle.minplus.specs.Step.Paths.{ArePaths, AreSteps}

-- the matrix of steps was improved through the events below a number, and each entry of the diagonal is 0
pub record PivotStage (net : Net) (steps : Entries) (event : ℕ) (entries : Entries) : Type 0 where
  pub small : AreSteps END_LIMIT steps
  pub held : (from to : ℕ) → IsEntry (entries from to)
  pub falls : (from to : ℕ) → entries from to ≤ℤ steps from to
  pub closed : IsClosedBelow event entries
  pub diagonal : (at : ℕ) → at < net.events → entries at at ≡ pos 0
  pub paths : ArePaths steps event entries
  pub edges : HoldsEdges net entries
  pub bounds : BoundsAlways net entries
