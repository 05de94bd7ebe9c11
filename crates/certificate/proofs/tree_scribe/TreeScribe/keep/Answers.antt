use Rattle.std.proofs.Common.{◌≡◌, [], ◌∷◌, ◌++◌, length, refl, sym, ap, ◌∙◌, arith, append-nil, length-append}
use Rattle.std.specs.Vec.{vec_len}
use Rattle.std.proofs.lemmas.Bool.{false≢true}
use Rattle.certificate.specs.Step.Stored.{stored_line, stored_lines}
use Rattle.certificate.proofs.Trees.{kept_ends, kept_lines, too_full}
use Rattle.certificate.proofs.tree_scribe.TreeScribe.keep.Goals as goal

pub returns-then-not-has_room-clause-failed : goal.returns-then-not-has_room-clause-failed
returns-then-not-has_room-clause-failed c =
    let s = c.self.inside in
    let stored : vec_len s.stored ≡ length s.stored.items = s.stored.ok.0 in
    let edges : vec_len s.edges ≡ length s.edges.items = s.edges.ok.0 in
    rw (← c.self.view_is) (record {
      before = [];
      last = stored_line c.args.kind c.args.edges.now;
      parts = refl;
      kept = sym (append-nil (stored_lines 0 s.stored.items s.edges.items));
      line_room = refl;
      edge_room = refl;
      faults = c.saturating_add-self-inside.ensures;
      full = too_full s.stored.items s.edges.items c.args.edges.now c.args.kind s.line_room s.edge_room c.self.invariant.0 c.requires
          (λ room. let lines = room.0 in let most = room.1 in false≢true (c.if-not-has_room.ensures.1 (omega arith, omega arith)));
    })

pub invariant_of-self-2 : goal.invariant_of-self-2
invariant_of-self-2 c =
    let s = c.self.inside in
    let edges = rw c.unwrap.ensures at c.extend_from_slice.ensures.items in
    let stored = rw c.unwrap-2.ensures at c.push.ensures.items in
    let last : c.len-end.result ≡ length (s.edges.items ++ c.args.edges.now) = c.len-end.ensures ∙ c.extend_from_slice.new.self.ok.0 ∙ ap length edges in
    let ends = kept_ends s.stored.items s.edges.items c.args.edges.now c.args.kind c.len-end.result c.self.invariant.0 c.requires last in
    let stored_count : vec_len s.stored ≡ length s.stored.items = s.stored.ok.0 in
    let edge_count : vec_len s.edges ≡ length s.edges.items = s.edges.ok.0 in
    let room = c.if-not-has_room.ensures.0 refl in (
      rw (stored, edges) ends,
      (let count = ap length stored ∙ length-append s.stored.items ((record { kind = c.args.kind; end = c.len-end.result }) ∷ []) in omega (arith, count, room.0)),
      (let kept = c.push.ensures.capacity in omega arith),
      (let count = ap length edges ∙ length-append s.edges.items c.args.edges.now in omega (arith, count, room.1)),
      (let kept = c.extend_from_slice.ensures.capacity in omega arith),
    )

pub returns-clause-ok : goal.returns-clause-ok
returns-clause-ok c =
    let s = c.self.inside in
    let edges = rw c.unwrap.ensures at c.extend_from_slice.ensures.items in
    let stored = rw c.unwrap-2.ensures at c.push.ensures.items in
    let last : c.len-end.result ≡ length (s.edges.items ++ c.args.edges.now) = c.len-end.ensures ∙ c.extend_from_slice.new.self.ok.0 ∙ ap length edges in
    let lines = kept_lines s.stored.items s.edges.items c.args.edges.now c.args.kind c.len-end.result c.self.invariant.0 last in
    rw (← c.self.view_is, stored, edges) (ap (λ ls. record { lines = ls; line_room = s.line_room; edge_room = s.edge_room; faults = s.count }) lines)
