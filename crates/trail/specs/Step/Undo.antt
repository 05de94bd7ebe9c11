-- How a stack of graphs is kept: one graph, a log of the slots that were overwritten, and where each level began.
use Rattle.std.specs.Prelude.{◌≡◌, ℕ, suc, ◌+◌, ◌<◌, ◌≤◌, List, [], ◌∷◌, length, take, drop, map, All, Contains, slice_index_or, slice_set, count_by, nat_lt}
use Rattle.itv_base.specs.declared.names.EdgeName.{EdgeName}
use Rattle.trail.specs.declared.undo.Slot.{Slot}
use Rattle.trail.specs.declared.undo.Saved.{Saved}
use Rattle.trail.specs.declared.undo.LevelStart.{LevelStart}
use Rattle.trail.specs.Stack.{Graph}

-- the edges and the slots as they are, and the log of saved slots, the oldest first
pub record TrailState : Type 0 where
  pub edges : List EdgeName
  pub slots : List Slot
  pub saved : List Saved

-- the slots as they were before these were saved
abbrev pub slots_before : List Saved → List Slot → List Slot
slots_before [] slots = slots
slots_before (e ∷ saved) slots = slice_set (slots_before saved slots) e.slot e.was

-- the state in which a level began
abbrev pub state_at : TrailState → LevelStart → TrailState
state_at s m = record {
  edges = take m.edges s.edges;
  slots = slots_before (drop m.saved s.saved) s.slots;
  saved = take m.saved s.saved;
}

abbrev pub graph_of : TrailState → Graph
graph_of s = record { edges = s.edges; stamps = map (λ slot. slot.stamp) s.slots }

-- the graphs in which levels began, the last level first
abbrev pub graphs_at : TrailState → List LevelStart → List Graph
graphs_at s [] = []
graphs_at s (m ∷ starts) = graph_of (state_at s m) ∷ graphs_at (state_at s m) starts

-- The log of the last level. The place where the level began lies within the state. The log names slots that are there. No later level set a slot. Each
-- slot that this level set is in the log. The entries of the log, and the slots that this level has not set, are together no more than all slots, since a
-- level logs a slot once.
pub record IsLogged (s : TrailState) (m : LevelStart) (level : ℕ) : Type 0 where
  pub edges_within : m.edges ≤ length s.edges
  pub saved_within : m.saved ≤ length s.saved
  pub present : All (λ e. e.slot < length s.slots) (drop m.saved s.saved)
  pub not_later : All (λ slot. slot.level ≤ level) s.slots
  pub logged : (i : ℕ) (d : Slot) → i < length s.slots → (slice_index_or s.slots i d).level ≡ level → Contains (map (λ e. e.slot) (drop m.saved s.saved)) i
  pub once : length (drop m.saved s.saved) + count_by (λ slot. nat_lt slot.level level) s.slots ≤ length s.slots

-- the state can be taken back level by level, the last level first; before the first level began, no level had set a slot
abbrev pub IsUndoable : TrailState → List LevelStart → Type 0
IsUndoable s [] = All (λ slot. slot.level ≡ 0) s.slots × (s.saved ≡ [])
IsUndoable s (m ∷ starts) = IsLogged s m (suc (length starts)) × IsUndoable (state_at s m) starts
