use Rattle.std.proofs.Common.{◌≡◌, ◌∙◌, ℤ, List, to_z, of_z, w64, subst}
use Rattle.branch.specs.Step.Raising.{IsRise}
use Rattle.branch.proofs.RaisingSets.{are_raised}
use Rattle.branch.proofs.Signs.{passed_rise, passed_separation}
use Rattle.branch.proofs.raise.raise.Goals as goal

pub returns : goal.returns
returns c =
    let set = c.args.set.now in
    let times : List ℤ = c.args.times.now in
    let by : ℤ = c.rise-by.result in
    let passed_reach : to_z w64 (of_z w64 c.args.reach) ≡ c.args.reach = passed_separation c.args.reach c.requires.reach in
    let rise : IsRise set c.args.from c.args.to c.args.reach times by = subst (λ r. IsRise set c.args.from c.args.to r times by) passed_reach c.rise-by.ensures in
    let passed : to_z w64 (of_z w64 by) ≡ by = passed_rise by rise.low rise.high in
    are_raised set c.args.from c.args.to c.args.reach times c.raise_by.new.times by c.requires.near c.requires.count c.requires.lacks c.requires.holds rise
    (λ n is. c.raise_by.ensures n (passed ∙ is))
