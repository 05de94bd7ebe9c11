-- Frames: the frame that lines change, and the frame outside of the block.
use Rattle.std.specs.Prelude.{◌≡◌, List, Option, Some, None, IsSome}
use Rattle.event_graph.specs.declared.edge.Edge.{Edge}
use Rattle.edge_clauses.specs.Lines.{Frame, Goal, State}
use Rattle.edge_clauses.specs.declared.frames.Frames.{Frames}
use Rattle.edge_clauses.specs.declared.terms.Terms.{Terms}
use Rattle.edge_clauses.specs.Checking.{ClauseCheckerView}
use Rattle.edge_clauses.specs.Clauses.{Clause}

-- the goal that lines are judged by
abbrev pub goal_of : Terms → Goal
goal_of terms = record { from = terms.from; to = terms.to; claim = terms.claim }

-- the frame that lines read and change
abbrev pub frame_now : Frames → Frame
frame_now f = record { up = f.bounds.now.up; low = f.bounds.now.low; known = f.known.now }

-- the frame outside of the block, if a block is open
abbrev pub frame_outside : Frames → Frame
frame_outside f = record { up = f.bounds.outside.up; low = f.bounds.outside.low; known = f.known.outside }

-- the open block assumes the same, and the frame outside of it is the same
pub record KeepsOutside (old new : Frames) : Type 0 where
  pub assumed : new.assumed ≡ old.assumed
  pub outside : IsSome old.assumed → frame_outside new ≡ frame_outside old

-- the frame that is left when an open block closes
abbrev pub base_of : Option (List Edge) → Frame → Frame → Frame
base_of None outside now = now
base_of (Some assumed) outside now = outside

-- a state, from what the open block assumes, the frame outside of it, the frame that lines change, and the clauses that were kept
abbrev pub state_with : Option (List Edge) → Frame → Frame → List Clause → State
state_with None outside now kept = record { frame = now; kept = kept; block = None }
state_with (Some assumed) outside now kept = record { frame = outside; kept = kept; block = Some (record { assumed = assumed; frame = now }) }

abbrev pub state_of : Frames → List Clause → State
state_of f kept = state_with f.assumed (frame_outside f) (frame_now f) kept

-- a checker, from its parts
abbrev pub check_of : Terms → Frames → List Clause → ClauseCheckerView
check_of terms frames kept = record { limits = terms.limits; goal = goal_of terms; state = state_of frames kept }
