use Rattle.std.proofs.Common.{◌≡◌, neg_ℤ, replicate, ap, ◌∙◌, arith}
use Rattle.std.proofs.lemmas.Int.{ints}
use Rattle.edge_clauses.proofs.Bounding.{start_flags}
use Rattle.edge_clauses.proofs.bounds.EventBounds.new.Goals as goal

pub invariant_of-result : goal.invariant_of-result
invariant_of-result c =
    let ups : c.in_ok-up.up.items ≡ replicate c.args.events c.args.cap =
    c.in_ok-up.ensures.items_if_clones_equal (λ y same. same) ∙ ap (replicate c.args.events) (omega (arith, ints)) in
    let lows : c.in_ok-low.low.items ≡ replicate c.args.events (neg_ℤ c.args.cap) =
    c.in_ok-low.ensures.items_if_clones_equal (λ y same. same) ∙ ap (replicate c.args.events) (omega (arith, ints)) in
    start_flags c.new.result.items c.in_ok-up.up.items c.in_ok-low.low.items c.args.events c.args.cap c.args.from c.requires.least c.new.ensures.items ups lows
