use Rattle.std.proofs.Common.{◌≡◌, ◌∙◌, arith}
use Rattle.unroll.proofs.BetweenLists.{kept_rows_between, kept_rules_between}
use Rattle.unroll.proofs.DrawnSteps.{kept_room, made_by, made_is, made_kept}
use Rattle.unroll.proofs.draw.draw_kept.Goals as goal

pub network_of-requires-clause-between : goal.network_of-requires-clause-between
network_of-requires-clause-between c = rw (c.requires.kept, c.requires.marks) (kept_rules_between c.args.design.now c.cycles-cycles.ensures.design)

pub network_of-requires-clause-room : goal.network_of-requires-clause-room
network_of-requires-clause-room c =
    omega (arith, kept_room c.args.design.now c.args.marks c.cycles-cycles.result c.args.rules.now c.requires.marks c.cycles-cycles.ensures.cycles c.requires.kept, c.requires.constraints)

pub rows_in-requires-clause-between : goal.rows_in-requires-clause-between
rows_in-requires-clause-between c = rw (c.requires.asked, c.requires.marks) (kept_rows_between c.args.design.now c.cycles-cycles.ensures.design)

pub of-requires : goal.of-requires
of-requires c =
    let d = c.args.design.now in
    let parts : c.in_ok-parts.parts ≡ d.parts = c.in_ok-parts.ensures.copy ∙ c.parts.ensures.parts in
    let made = made_by d c.args.marks c.cycles-cycles.result c.args.rules.now c.args.asked.now c.in_ok-network.network c.in_ok-origins.origins c.in_ok-parts.parts c.in_ok-labels.labels.items c.in_ok-rows.rows
    c.requires.marks c.cycles-cycles.ensures.cycles c.requires.kept c.requires.asked c.in_ok-network.ensures c.in_ok-origins.ensures parts c.in_ok-labels.ensures c.in_ok-rows.ensures in
    made_kept d c.in_ok-network.network c.in_ok-origins.origins c.in_ok-parts.parts c.in_ok-labels.labels.items c.in_ok-rows.rows c.cycles-cycles.ensures.design c.requires.rows made

pub returns : goal.returns
returns c =
    let d = c.args.design.now in
    let parts : c.in_ok-parts.parts ≡ d.parts = c.in_ok-parts.ensures.copy ∙ c.parts.ensures.parts in
    let made = made_by d c.args.marks c.cycles-cycles.result c.args.rules.now c.args.asked.now c.in_ok-network.network c.in_ok-origins.origins c.in_ok-parts.parts c.in_ok-labels.labels.items c.in_ok-rows.rows
    c.requires.marks c.cycles-cycles.ensures.cycles c.requires.kept c.requires.asked c.in_ok-network.ensures c.in_ok-origins.ensures parts c.in_ok-labels.ensures c.in_ok-rows.ensures in
    c.of.ensures.drawn ∙ made_is d c.in_ok-network.network c.in_ok-origins.origins c.in_ok-parts.parts c.in_ok-labels.labels.items c.in_ok-rows.rows c.cycles-cycles.ensures.design made
