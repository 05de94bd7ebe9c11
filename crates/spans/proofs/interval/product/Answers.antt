use Rattle.std.proofs.Common.{sym, subst}
use Rattle.spans.specs.Step.{IsUnwrapped}
use Rattle.spans.proofs.Multiples.{product_is, product_small}
use Rattle.spans.proofs.interval.product.Goals as goal

pub returns-clause-product : goal.returns-clause-product
returns-clause-product c =
    product_is c.args.times c.args.value c.ranges.times c.ranges.value (product_small c.args.times c.args.value c.requires.times c.requires.value)

pub returns-clause-small : goal.returns-clause-small
returns-clause-small c =
    let small = product_small c.args.times c.args.value c.requires.times c.requires.value in
    subst IsUnwrapped (sym (product_is c.args.times c.args.value c.ranges.times c.ranges.value small)) small
