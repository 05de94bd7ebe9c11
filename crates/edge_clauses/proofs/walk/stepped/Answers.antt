use Rattle.std.proofs.Common.{◌≡◌, refl, rules}
use Rattle.std.proofs.lemmas.Option.{IfSome_then}
use Rattle.edge_clauses.proofs.walk.stepped.Goals as goal

pub returns-clause-next : goal.returns-clause-next
returns-clause-next c =
    let is_at : c.edge_in-edge.result.to ≡ c.args.walk.at = search rules in
    IfSome_then c.led_on.result c.led_on.ensures.next
    (λ next p. (c.edge_in-edge.result, c.edge_in-edge.ensures, is_at, c.if-not-are_others_covered.ensures.covered.0 refl, p.0, p.1))
