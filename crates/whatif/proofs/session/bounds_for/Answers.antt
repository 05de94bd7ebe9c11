use Rattle.std.proofs.Common.{◌++◌, ◌∷◌, [], ◌∙◌, ap}
use Rattle.whatif.proofs.Sessions.{two_more}
use Rattle.whatif.proofs.session.bounds_for.Goals as goal

pub loop-k-preserved : goal.loop-k-preserved
loop-k-preserved c =
    two_more c.args.events c.args.pairs.now c.loop-k.k c.loop-k.bounds.items c.push-in-loop-k.new.self.items c.in_ok-new.field-0 c.in_ok-new-2.field-0 _
    c.loop-k.invariant.0 c.loop-k.invariant.1 c.loop-k-test.true c.in_ok-new.ensures.pair c.in_ok-new-2.ensures.pair c.in_ok-new.ensures.places c.in_ok-new-2.ensures.places
    (c.in_ok-push-2.ensures.items ∙ ap (λ xs. xs ++ c.in_ok-new-2.field-0 ∷ []) c.in_ok-push.ensures.items)
