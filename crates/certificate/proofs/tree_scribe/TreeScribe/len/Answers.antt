use Rattle.std.proofs.Common.{length, sym, ap, ◌∙◌}
use Rattle.certificate.proofs.Trees.{length-stored}
use Rattle.certificate.proofs.tree_scribe.TreeScribe.len.Goals as goal

pub returns : goal.returns
returns c =
    let s = c.self.inside in
    record { count = c.len.ensures ∙ s.stored.ok.0 ∙ sym (length-stored 0 s.stored.items s.edges.items) ∙ ap (λ t. length t.lines) c.self.view_is }
