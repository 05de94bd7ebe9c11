use Rattle.std.proofs.Common.{◌++◌, append_assoc}
use Rattle.std.specs.List.{flat_map}
use Rattle.lint.specs.Leads.{leads_of}
use Rattle.lint.specs.Lists.{each_from, netlist_part}
use Rattle.lint.specs.Rules.{both_in, lead_across, sheet_both}
use Rattle.lint.proofs.CapLists.{leads_met}
use Rattle.lint.proofs.both.push_all.Goals as goal

pub returns : goal.returns
returns c =
    let design = c.args.design.now in
    let texts = c.args.plan.now.netlist.edges in
    let old = c.args.warnings.now.items in
    let sheets = each_from sheet_both 0 design.sheets in
    let netlist = both_in netlist_part texts design.rules in
    let across = flat_map (lead_across design.sheets texts) (leads_of design) in
    record {
      pushed = rw (
        c.edges.ensures.edges,
        c.netlist.ensures.netlist,
        leads_met design.sheets c.push_sheets.new.tables c.in_ok-push_sheets.ensures.noted texts c.args.leads.now,
        c.requires.leads,
        c.in_ok-push_netlist.ensures.pushed,
        c.in_ok-push_sheets.ensures.pushed,
        append_assoc (old ++ sheets) netlist across,
        append_assoc old sheets (netlist ++ across),
      ) at c.push_across.ensures.pushed;
    }
