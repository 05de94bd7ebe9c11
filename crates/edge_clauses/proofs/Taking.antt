-- A line that opens a block.
use Rattle.std.proofs.Common.{◌≡◌, List, Option, Some, None, refl, ap, ◌∙◌}
use Rattle.event_graph.specs.declared.edge.Edge.{Edge}
use Rattle.event_graph.specs.Network.{Net}
use Rattle.edge_clauses.specs.declared.frames.Frames.{Frames}
use Rattle.edge_clauses.specs.declared.terms.Terms.{Terms}
use Rattle.edge_clauses.specs.Checking.{TakesLine}
use Rattle.edge_clauses.specs.Clauses.{Clause, IsNearClause}
use Rattle.edge_clauses.specs.Lines.{Assume, Frame, refuting, with_known}
use Rattle.edge_clauses.specs.Step.Standing.{base_of, check_of, frame_now, frame_outside, state_with}

-- the state after a block has opened
opened_is : (assumed : Option (List Edge)) (outside now : Frame) (kept : List Clause) (edges : List Edge) (after_outside after : Frame) → after_outside ≡ base_of assumed outside now
    → after ≡ with_known (base_of assumed outside now) edges
    → state_with (Some edges) after_outside after kept
    ≡ record { frame = (state_with assumed outside now kept).frame; kept = (state_with assumed outside now kept).kept; block = Some (record { assumed = edges; frame = with_known (state_with assumed outside now kept).frame edges }) }
opened_is None outside now kept edges after_outside after same is = rw (same, is) refl
opened_is (Some old) outside now kept edges after_outside after same is = rw (same, is) refl

pub assume_taken : (net : Net) (terms : Terms) (old new : Frames) (kept : List Clause) (edges : List Edge) → IsNearClause edges → IsNearClause (refuting edges)
    → new.assumed ≡ Some edges → frame_outside new ≡ base_of old.assumed (frame_outside old) (frame_now old)
    → frame_now new ≡ with_known (base_of old.assumed (frame_outside old) (frame_now old)) edges
    → TakesLine net (check_of terms old kept) (Assume edges) (check_of terms new kept)
assume_taken net terms old new kept edges near opposites is_assumed is_outside is_now = record {
  limits = refl;
  goal = refl;
  line = (
    near,
    opposites,
    ap (λ (a : Option (List Edge)). state_with a (frame_outside new) (frame_now new) kept) is_assumed
        ∙ opened_is old.assumed (frame_outside old) (frame_now old) kept edges (frame_outside new) (frame_now new) is_outside is_now,
  );
}
