use Rattle.std.proofs.Common.{◌≡◌, ◌≤◌, None, length, subst, sym, ap, arith}
use Rattle.event_graph.specs.Cases.{DecisionsView, cause_chosen}
use Rattle.event_graph.proofs.Choosing.{cause_beyond}
use Rattle.event_graph.proofs.decisions.Decisions.cause_of.Goals as goal

pub returns-in-None : goal.returns-in-None
returns-in-None c =
    let causes = c.self.inside.causes.items in
    let within : length c.deref.result.now ≤ c.args.constraint = c.in-None.ensures.lookup.3 in
    let beyond : length causes ≤ c.args.constraint = omega (arith, within, ap length c.deref.ensures.value) in
    let Beyond : DecisionsView → Type 0 = λ d. None ≡ cause_chosen d.chosen c.args.constraint in
    subst Beyond c.self.view_is (sym (cause_beyond (length causes) _ c.args.constraint c.self.invariant.table.choices beyond))
