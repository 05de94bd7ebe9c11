use Rattle.std.proofs.Common.{arith}
use Rattle.compose.proofs.WholeDesigns.{number_within}
use Rattle.unroll.proofs.numbered_design.NumberedDesign.number_of.Goals as goal

pub overflow_add-result : goal.overflow_add-result
overflow_add-result c = omega (arith, number_within c.args.self.now.sheets c.args.mark c.requires, c.first_of.ensures.first, c.first_of.ensures.few)
