use Rattle.std.proofs.Common.{◌∙◌, ap, sym}
use Rattle.std.specs.Prelude.{slice_get}
use Rattle.compose.specs.Nets.{part_named}
use Rattle.design_plan.proofs.PartPlaces.{edge_nowhere, edge_there}
use Rattle.design_plan.proofs.plan.Plan.edge_named.Goals as goal

pub returns-in-Some : goal.returns-in-Some
returns-in-Some c =
    let parts = c.as_slice.ensures.items ∙ c.parts.ensures.parts in
    record {
      text =
          c.text_at.ensures ∙ ap (λ texts. slice_get texts c.args.n) c.edges.ensures.edges
          ∙ edge_there c.args.self.now c.args.name.now c.args.n c.in-Some.part c.sheet_of.result.now
          (ap (λ ps. part_named ps c.args.name.now) (ap (λ p. p.netlist.parts) (sym c.self.view_is) ∙ sym parts) ∙ sym c.in-Some.ensures.found)
          c.sheet_of.ensures;
    }

pub returns-in-None : goal.returns-in-None
returns-in-None c =
    let parts = c.as_slice.ensures.items ∙ c.parts.ensures.parts in
    record {
      text =
          edge_nowhere c.args.self.now c.args.name.now c.args.n
          (ap (λ ps. part_named ps c.args.name.now) (ap (λ p. p.netlist.parts) (sym c.self.view_is) ∙ sym parts) ∙ sym c.in-None.ensures.found);
    }
