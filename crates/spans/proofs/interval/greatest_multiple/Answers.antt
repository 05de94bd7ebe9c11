use Rattle.spans.proofs.Multiples.{greatest_falling, greatest_rising}
use Rattle.spans.proofs.interval.greatest_multiple.Goals as goal

pub returns-in-Some-clause-greatest : goal.returns-in-Some-clause-greatest
returns-in-Some-clause-greatest c = λ value within.
    greatest_falling c.args.times c.in-Some.least c.product.result value c.args.interval.least c.ranges.times c.in-Some.is c.requires.interval.0 c.product.ensures.product c.product.ensures.small
    c.if-times-lt0.true within.0

pub returns-in-Some-most-clause-greatest : goal.returns-in-Some-most-clause-greatest
returns-in-Some-most-clause-greatest c = λ value within.
    greatest_rising c.args.times c.in-Some-most.most c.product-in-Some-most.result value c.args.interval.most c.ranges.times c.in-Some-most.is c.requires.interval.1
    c.product-in-Some-most.ensures.product c.product-in-Some-most.ensures.small c.if-times-lt0.false within.1
