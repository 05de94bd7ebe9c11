use Rattle.design_plan.proofs.PartPlaces.{sheet_found, sheet_stands}
use Rattle.design_plan.proofs.plan.Plan.sheet_of.Goals as goal

pub unreachable-requires : goal.unreachable-requires
unreachable-requires c =
    sheet_stands (record { netlist = c.self.inside.netlist; sheets = c.self.inside.sheets.entries }) c.self.inside.places.items c.self.invariant.0 c.self.invariant.1 c.args.part c.index.result.now
    (rw (← c.self.view_is) at c.requires) c.index.ensures c.in-None.ensures.entry

pub returns : goal.returns
returns c =
    rw (← c.self.view_is)
    (sheet_found (record { netlist = c.self.inside.netlist; sheets = c.self.inside.sheets.entries }) c.self.inside.places.items c.self.invariant.0 c.self.invariant.1 c.args.part c.index.result.now
    (rw (← c.self.view_is) at c.requires) c.index.ensures c.in-Some.field-0-0.now c.in-Some.sheet.now c.in-Some.ensures.entry)
