-- What each change of a trail's fields does to the stack that they stand for.
use Rattle.std.proofs.Common.{◌≡◌, ℕ, zero, suc, ◌*◌, ◌<◌, ◌≤◌, List, [], ◌∷◌, ◌++◌, length, get_or, set, map, replicate, reverse, refl, sym, ap, ◌∙◌, subst, arith, length-set, Vec, Global, vec_len, vec_capacity}
use Rattle.std.proofs.Math.Nat.{mul-le-mul_left}
use Rattle.std.proofs.lemmas.List.{length_push, length-map, length-reverse, map-set, reverse-append}
use Rattle.itv_base.specs.declared.names.EdgeName.{EdgeName}
use Rattle.trail.specs.declared.undo.Slot.{Slot}
use Rattle.trail.specs.declared.undo.Saved.{Saved}
use Rattle.trail.specs.declared.undo.LevelStart.{LevelStart}
use Rattle.trail.specs.declared.trail.Trail.TheInside.{Inside}
use Rattle.trail.specs.Stack.{TrailView, new_stack, empty_stamp, after_push, with_edge, with_stamp}
use Rattle.trail.specs.Step.Undo.{TrailState, state_at, graphs_at}
use Rattle.trail.specs.Step.Inside.{state_in, stack_in, IsSoundTrail}
use Rattle.trail.proofs.StateAt.{IsUndoable-edge, graphs_at-edge, IsUndoable-slot, graphs_at-slot, IsUndoable-saved, graphs_at-saved, IsUndoable-start, graphs_at-start, room-saved}

reverse_push : (starts : List LevelStart) (m : LevelStart) → reverse (starts ++ m ∷ []) ≡ m ∷ reverse starts
reverse_push starts m = reverse-append starts (m ∷ [])

length-graphs_at : (k : TrailState) (starts : List LevelStart) → length (graphs_at k starts) ≡ length starts
length-graphs_at k [] = refl
length-graphs_at k (m ∷ starts) = ap suc (length-graphs_at (state_at k m) starts)

-- there is a graph for each level
pub length-below : (t : Inside) → length (stack_in t).below ≡ length t.starts.items
length-below t = length-graphs_at (state_in t) (reverse t.starts.items) ∙ length-reverse t.starts.items

-- a slot that no level has set
abbrev pub unset : Slot
unset = record { stamp = empty_stamp; level = 0 }

map-replicate : (n : ℕ) → map (λ s. s.stamp) (replicate n unset) ≡ replicate n empty_stamp
map-replicate zero = refl
map-replicate (suc n) = ap (λ stamps. empty_stamp ∷ stamps) (map-replicate n)

-- the fields of a new trail stand for a new stack
pub stack_in-new_stack : (t : Inside) (slots : ℕ) → t.edges.items ≡ [] → t.slots.items ≡ replicate slots unset → t.starts.items ≡ [] → stack_in t ≡ new_stack slots t.levels
stack_in-new_stack t slots edges items starts = rw (edges, items, starts, map-replicate slots)

-- What a caller says of the stack, said of the fields.
module _ (t : Inside) (g : TrailView) (view : stack_in t ≡ g) where
  pub slot_in : (slot : ℕ) → slot < length g.current.stamps → slot < length t.slots.items
  slot_in slot below =
      let stored = subst (λ (g : TrailView). slot < length g.current.stamps) (sym view) below in
      omega (arith, stored, length-map t.slots.items (λ s. s.stamp))

  pub depth_in : (depth : ℕ) → depth ≡ length g.below → depth ≡ length t.starts.items
  depth_in depth count = count ∙ ap (λ (g : TrailView). length g.below) (sym view) ∙ length-below t

  pub depth_below : length g.below < g.levels → length t.starts.items < t.levels
  depth_below below =
      let stored = subst (λ (g : TrailView). length g.below < g.levels) (sym view) below in
      omega (arith, stored, length-below t)

  pub edges_below : length g.current.edges < g.levels → length t.edges.items < t.levels
  edges_below below = subst (λ (g : TrailView). length g.current.edges < g.levels) (sym view) below

module _ (t : Inside) (h : IsSoundTrail t) where
  -- An edge is added.
  module _ (edges : Vec EdgeName Global) (e : EdgeName) (items : edges.items ≡ t.edges.items ++ e ∷ []) where
    pub IsSoundTrail-edge : vec_capacity edges ≡ vec_capacity t.edges → length t.edges.items < t.levels → IsSoundTrail (record t { edges = edges })
    IsSoundTrail-edge room few = record {
      few_levels = h.few_levels;
      few_edges = omega (arith, ap length items, length_push t.edges.items e);
      few_starts = h.few_starts;
      edge_room = omega (arith, h.edge_room);
      start_room = h.start_room;
      saved_room = h.saved_room;
      undoable = rw items (IsUndoable-edge (state_in t) (reverse t.starts.items) e h.undoable);
    }

    pub stack_in-edge : stack_in (record t { edges = edges }) ≡ record (stack_in t) { current = with_edge (stack_in t).current e }
    stack_in-edge = rw (items, graphs_at-edge (state_in t) (reverse t.starts.items) e h.undoable)

  -- A level begins.
  module _ (starts : Vec LevelStart Global) (items : starts.items ≡ t.starts.items ++ record { edges = vec_len t.edges; saved = vec_len t.saved } ∷ []) where
    pub IsSoundTrail-start : vec_capacity starts ≡ vec_capacity t.starts → length t.starts.items < t.levels → IsSoundTrail (record t { starts = starts })
    IsSoundTrail-start room few = record {
      few_levels = h.few_levels;
      few_edges = h.few_edges;
      few_starts = omega (arith, ap length items, length_push t.starts.items (record { edges = vec_len t.edges; saved = vec_len t.saved }));
      edge_room = h.edge_room;
      start_room = omega (arith, h.start_room);
      saved_room = h.saved_room;
      undoable = rw (items, reverse_push, t.edges.ok.0, t.saved.ok.0) (IsUndoable-start (state_in t) (reverse t.starts.items) h.undoable);
    }

    pub stack_in-start : stack_in (record t { starts = starts }) ≡ after_push (stack_in t)
    stack_in-start = rw (items, reverse_push, t.edges.ok.0, t.saved.ok.0, graphs_at-start (state_in t) (reverse t.starts.items))

  -- A slot is set. It was `was` before.
  module _ (slots : Vec Slot Global) (i : ℕ) (was x : Slot) (items : slots.items ≡ set t.slots.items i x) (below : i < length t.slots.items) (read : was ≡ get_or t.slots.items i was) (now : x.level ≡ length t.starts.items) where
    starts_now : x.level ≡ length (reverse t.starts.items)
    starts_now = now ∙ sym (length-reverse t.starts.items)

    pub IsSoundTrail-slot : length t.starts.items ≤ was.level → IsSoundTrail (record t { slots = slots })
    IsSoundTrail-slot at = record {
      few_levels = h.few_levels;
      few_edges = h.few_edges;
      few_starts = h.few_starts;
      edge_room = h.edge_room;
      start_room = h.start_room;
      saved_room = rw (items, length-set) h.saved_room;
      undoable = rw items (IsUndoable-slot (state_in t) i was x below read (reverse t.starts.items) starts_now (omega (arith, length-reverse t.starts.items)) h.undoable);
    }

    pub stack_in-slot : length t.starts.items ≤ was.level → stack_in (record t { slots = slots }) ≡ record (stack_in t) { current = with_stamp (stack_in t).current i x.stamp }
    stack_in-slot at =
        rw (items, map-set (λ s. s.stamp) t.slots.items i x, graphs_at-slot (state_in t) i was x below read (reverse t.starts.items) starts_now (omega (arith, length-reverse t.starts.items)) h.undoable)

    -- the slot is saved first
    module _ (saved : Vec Saved Global) (log : saved.items ≡ t.saved.items ++ record { slot = i; was = was } ∷ []) (unset : was.level < length t.starts.items) where
      starts_unset : was.level < length (reverse t.starts.items)
      starts_unset = omega (arith, length-reverse t.starts.items)

      pub IsSoundTrail-saved : vec_capacity saved ≡ vec_capacity t.saved → IsSoundTrail (record t { slots = slots; saved = saved })
      IsSoundTrail-saved room = record {
        few_levels = h.few_levels;
        few_edges = h.few_edges;
        few_starts = h.few_starts;
        edge_room = h.edge_room;
        start_room = h.start_room;
        saved_room = rw (items, length-set, room) h.saved_room;
        undoable = rw (items, log) (IsUndoable-saved (state_in t) i was x below read (reverse t.starts.items) starts_now starts_unset h.undoable);
      }

      pub stack_in-saved : stack_in (record t { slots = slots; saved = saved }) ≡ record (stack_in t) { current = with_stamp (stack_in t).current i x.stamp }
      stack_in-saved =
          rw (items, log, map-set (λ s. s.stamp) t.slots.items i x, graphs_at-saved (state_in t) i was x below read (reverse t.starts.items) starts_now starts_unset h.undoable)

  -- where a slot is still to be saved, there is room for it
  pub room-saved_slot : (i : ℕ) (was : Slot) → i < length t.slots.items → was ≡ get_or t.slots.items i was → was.level < length t.starts.items → vec_len t.saved < vec_capacity t.saved
  room-saved_slot i was below read unset =
      let same = length-reverse t.starts.items in
      let fits : length t.slots.items * length t.starts.items ≤ length t.slots.items * t.levels = mul-le-mul_left (length t.slots.items) h.few_starts in
      omega (
        arith,
        t.saved.ok.0,
        h.saved_room,
        fits,
        ap (λ n. length t.slots.items * n) same,
        room-saved (state_in t) (reverse t.starts.items) i was h.undoable below read (omega arith),
      )
