use Rattle.std.proofs.Common.{◌≡◌, ◌∙◌, length, ap, arith}
use Rattle.compose.specs.Design.{DesignView}
use Rattle.unroll.specs.Step.Firsts.{firsts_of}
use Rattle.unroll.proofs.PartLists.{first_read, length-firsts_of}
use Rattle.unroll.proofs.numbered_design.NumberedDesign.first_of.Goals as goal

pub index-requires : goal.index-requires
index-requires c =
    let same : c.self.inside.design.now ≡ c.args.self.now = c.self.view_is in
    omega (arith, ap length c.self.invariant.stand, length-firsts_of 0 c.self.inside.design.now.sheets, ap (λ (d : DesignView). length d.sheets) same, c.requires)

pub returns-clause-first : goal.returns-clause-first
returns-clause-first c =
    let same : c.self.inside.design.now ≡ c.args.self.now = c.self.view_is in
    let is : c.self.inside.firsts.items ≡ firsts_of 0 c.args.self.now.sheets = c.self.invariant.stand ∙ ap (λ (d : DesignView). firsts_of 0 d.sheets) same in
    first_read c.args.self.now.sheets c.self.inside.firsts.items c.args.part c.index.result.now is c.requires c.index.ensures
