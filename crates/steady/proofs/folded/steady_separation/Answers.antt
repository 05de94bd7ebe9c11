use Rattle.std.proofs.Common.{◌≡◌, ap, ◌∙◌, sym, to_z, of_z, w64}
use Rattle.std.proofs.lemmas.Int.{to_z-of_z}
use Rattle.longer_runs.specs.Periods.{period_at}
use Rattle.steady.proofs.FoldedSteps.{separated}
use Rattle.steady.proofs.folded.steady_separation.Goals as goal

pub returns-clause-separation : goal.returns-clause-separation
returns-clause-separation c =
    let one : to_z w64 (of_z w64 c.period_at-period.result) ≡ c.period_at-period.result = to_z-of_z w64 c.period_at-period.result (record { sfits = c.period_at-period.type_inv }) in
    let same : c.period_at-period.result ≡ c.period_at.result =
    sym one ∙ ap (to_z w64) c.if-period-period_at.false ∙ to_z-of_z w64 c.period_at.result (record { sfits = c.period_at.type_inv }) in
    separated c.args.side c.args.folded.now.net c.args.folded.now.each.items c.args.row.now c.in_ok-found.found c.separation_of.result (to_z w64 (of_z w64 c.period_at-period.result))
    c.period_at-period.result c.period_at.result c.in_ok-found.ensures.found one (c.period_at-period.ensures.period ∙ ap (λ es. period_at es c.args.row.now.from) c.deref.ensures.value)
    (c.period_at.ensures.period ∙ ap (λ es. period_at es c.args.row.now.to) c.deref-2.ensures.value) same c.separation_of.ensures
