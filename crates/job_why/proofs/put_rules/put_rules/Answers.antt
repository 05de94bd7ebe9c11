use Rattle.std.proofs.lemmas.Result.{err_from_is_err_and}
use Rattle.std.proofs.Common.{◌<◌, length, arith, subst}
use Rattle.drawn_networks.specs.Drawn.{OriginsFit}
use Rattle.job_why.proofs.Looking.{origins_fit}
use Rattle.itv_base.proofs.Written.{left_after, left_cut}
use Rattle.job_why.proofs.Gathering.{rules_more}
use Rattle.job_why.proofs.put_rules.put_rules.Goals as goal

pub returns-in_err-put_flagged : goal.returns-in_err-put_flagged
returns-in_err-put_flagged g c =
    let p = err_from_is_err_and c.from_residual.result c.from_residual.ensures.1 in
    let in_set : c.loop-number.number < length c.args.set.now = grind arith in
    let in_net : c.loop-number.number < length c.args.drawn.now.net.constraints = omega (arith, in_set, c.requires.count) in
    let in_origins : c.loop-number.number < length c.args.drawn.now.origins =
    (origins_fit c.args.drawn.now c.loop-number.number (subst (OriginsFit c.args.drawn.now.net) c.origins-origins.ensures.origins c.origins-origins.ensures.fit) in_net).0 in
    record { puts = rw p.1 (left_cut _ _ _ _ _ _ _ c.loop-number.invariant (rules_more (g.N.Notes.noted c.args.notes.now) c.args.drawn.now c.args.set.now c.loop-number.number _ in_set in_net in_origins) c.in_err-put_flagged.ensures) }

pub loop-number-preserved : goal.loop-number-preserved
loop-number-preserved g c =
    let in_set : c.loop-number.number < length c.args.set.now = grind arith in
    let in_net : c.loop-number.number < length c.args.drawn.now.net.constraints = omega (arith, in_set, c.requires.count) in
    let in_origins : c.loop-number.number < length c.args.drawn.now.origins =
    (origins_fit c.args.drawn.now c.loop-number.number (subst (OriginsFit c.args.drawn.now.net) c.origins-origins.ensures.origins c.origins-origins.ensures.fit) in_net).0 in
    left_after _ _ _ _ _ _ _ c.loop-number.invariant (rules_more (g.N.Notes.noted c.args.notes.now) c.args.drawn.now c.args.set.now c.loop-number.number _ in_set in_net in_origins) c.in_ok-put_flagged.ensures
