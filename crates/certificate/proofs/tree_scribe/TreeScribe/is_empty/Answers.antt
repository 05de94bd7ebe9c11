use Rattle.std.proofs.Common.{◌≡◌, ◌==◌, length, sym, ap, ◌∙◌}
use Rattle.std.specs.Vec.{vec_len}
use Rattle.certificate.proofs.Trees.{length-stored}
use Rattle.certificate.proofs.tree_scribe.TreeScribe.is_empty.Goals as goal

pub returns : goal.returns
returns c =
    let s = c.self.inside in
    let count : vec_len s.stored ≡ length c.args.self.now.lines = s.stored.ok.0 ∙ sym (length-stored 0 s.stored.items s.edges.items) ∙ ap (λ t. length t.lines) c.self.view_is in
    record { test = c.is_empty.ensures ∙ ap (λ n. n == 0) count }
