-- A stack of graphs, and what is done to it.
use Rattle.std.specs.Prelude.{ℕ, List, [], ◌∷◌, ◌++◌, None, replicate, slice_set}
use Rattle.itv_base.specs.declared.names.EdgeName.{EdgeName}
use Rattle.trail.specs.declared.stamp.Stamp.{Stamp}

-- a list of edges, and a stamp for each slot
pub record Graph : Type 0 where
  pub edges : List EdgeName
  pub stamps : List Stamp

-- how many graphs may be pushed, the current graph, and the graphs below it, the nearest first
pub record TrailView : Type 0 where
  pub levels : ℕ
  pub current : Graph
  pub below : List Graph

-- neither a label nor a parent
abbrev pub empty_stamp : Stamp
empty_stamp = record { label = None; parent = None }

-- a graph without edges, with an empty stamp in each slot
abbrev pub empty_graph : ℕ → Graph
empty_graph slots = record { edges = []; stamps = replicate slots empty_stamp }

-- the stack of an empty graph alone
abbrev pub new_stack : ℕ → ℕ → TrailView
new_stack slots levels = record { levels = levels; current = empty_graph slots; below = [] }

-- the graph with one more edge, at the end
abbrev pub with_edge : Graph → EdgeName → Graph
with_edge g edge = record g { edges = g.edges ++ edge ∷ [] }

-- the graph with another stamp in the slot
abbrev pub with_stamp : Graph → ℕ → Stamp → Graph
with_stamp g slot stamp = record g { stamps = slice_set g.stamps slot stamp }

-- the stack with a copy of the current graph on top
abbrev pub after_push : TrailView → TrailView
after_push s = record s { below = s.current ∷ s.below }

-- the stack of these graphs, the top first; without any graph it stays as it is
abbrev pub with_graphs : TrailView → List Graph → TrailView
with_graphs s [] = s
with_graphs s (g ∷ graphs) = record s { current = g; below = graphs }

-- the stack without its top, where there is a graph below it
abbrev pub after_pop : TrailView → TrailView
after_pop s = with_graphs s s.below
