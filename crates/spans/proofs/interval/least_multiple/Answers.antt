use Rattle.spans.proofs.Multiples.{least_falling, least_rising}
use Rattle.spans.proofs.interval.least_multiple.Goals as goal

pub returns-in-Some-clause-least : goal.returns-in-Some-clause-least
returns-in-Some-clause-least c = λ value within.
    least_falling c.args.times c.in-Some.most c.product.result value c.args.interval.most c.ranges.times c.in-Some.is c.requires.interval.1 c.product.ensures.product c.product.ensures.small
    c.if-times-lt0.true within.1

pub returns-in-Some-least-clause-least : goal.returns-in-Some-least-clause-least
returns-in-Some-least-clause-least c = λ value within.
    least_rising c.args.times c.in-Some-least.least c.product-in-Some-least.result value c.args.interval.least c.ranges.times c.in-Some-least.is c.requires.interval.0
    c.product-in-Some-least.ensures.product c.product-in-Some-least.ensures.small c.if-times-lt0.false within.0
