-- What the fields of a trail mean, and what holds of them.
use Rattle.std.specs.Prelude.{◌*◌, ◌^◌, ◌<◌, ◌≤◌, length, reverse, vec_capacity}
use Rattle.trail.specs.declared.trail.Trail.TheInside.{Inside}
use Rattle.trail.specs.Stack.{TrailView}
use Rattle.trail.specs.Step.Undo.{TrailState, graph_of, graphs_at, IsUndoable}

abbrev pub state_in : Inside → TrailState
state_in t = record { edges = t.edges.items; slots = t.slots.items; saved = t.saved.items }

-- the stack that the fields stand for
abbrev pub stack_in : Inside → TrailView
stack_in t = record {
  levels = t.levels;
  current = graph_of (state_in t);
  below = graphs_at (state_in t) (reverse t.starts.items);
}

-- there are no more edges, and no more begun levels, than there may be levels; there is room for all that may come; and every level can be taken back
pub record IsSoundTrail (t : Inside) : Type 0 where
  pub few_levels : t.levels < 2 ^ 32
  pub few_edges : length t.edges.items ≤ t.levels
  pub few_starts : length t.starts.items ≤ t.levels
  pub edge_room : t.levels ≤ vec_capacity t.edges
  pub start_room : t.levels ≤ vec_capacity t.starts
  pub saved_room : length t.slots.items * t.levels ≤ vec_capacity t.saved
  pub undoable : IsUndoable (state_in t) (reverse t.starts.items)
