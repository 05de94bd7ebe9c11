use Rattle.std.proofs.Common.{◌≡◌, length, sym, ap, ◌∙◌}
use Rattle.certificate.proofs.Trees.{length-stored}
use Rattle.certificate.proofs.tree_scribe.TreeScribe.line.Goals as goal

pub line_at-requires-clause-line : goal.line_at-requires-clause-line
line_at-requires-clause-line c =
    let s = c.self.inside in
    let count : length c.args.self.now.lines ≡ length s.stored.items = sym (ap (λ t. length t.lines) c.self.view_is) ∙ length-stored 0 s.stored.items s.edges.items in
    rw (c.deref.ensures.value, ← count) c.requires
