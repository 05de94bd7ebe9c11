use Rattle.std.proofs.Common.{Err, List, ℕ, sym, subst}
use Rattle.itv_base.specs.Outside.{ShelfState}
use Rattle.drawn_networks.specs.Drawn.{Drawn}
use Rattle.design_plan.specs.Plan.{PlanView}
use Rattle.design_reading.specs.declared.planning.ReadPlan as code
use Rattle.design_reading.specs.AskedFor.{files_at}
use Rattle.design_reading.specs.Design.{drawn_at, plan_at}
use Rattle.design_reading.specs.FileReading.{RunsTo, ready}
use Rattle.design_reading.specs.Step.Gave.{files_of}
use Rattle.design_reading.proofs.Asking.{files_given, files_stop}
use Rattle.design_reading.proofs.Opens.{opens_stop, opens_then}
use Rattle.design_reading.proofs.files.open_files.Goals as goal

-- the plan of what was read
abbrev plan_in : code.ReadPlan → PlanView
plan_in read = read.plan

pub returns-in_err-read : goal.returns-in_err-read
returns-in_err-read g c =
    let old : ShelfState = g.H.Shelf.state c.args.shelf.now in
    let new : ShelfState = g.H.Shelf.state c.open_read_plan.new.shelf in
    record {
      opens = files_stop c.args.name.now old new c.in_err-read.field-0.0 c.from_residual.result c.from_residual.ensures.1
          (opens_stop plan_in (λ (d : Drawn). d) (plan_at c.args.name.now) (λ plan. drawn_at plan.netlist plan.sheets) old new c.in_err-read.field-0.0 c.in_err-read.ensures.opens);
    }

pub returns-in_err-drawn : goal.returns-in_err-drawn
returns-in_err-drawn g c =
    let old : ShelfState = g.H.Shelf.state c.args.shelf.now in
    let new : ShelfState = g.H.Shelf.state c.open_read_plan.new.shelf in
    record {
      opens = files_stop c.args.name.now old new c.in_err-drawn.field-0.0 c.from_residual-in_err-drawn.result c.from_residual-in_err-drawn.ensures.1
          (opens_then plan_in (λ (d : Drawn). d) (plan_at c.args.name.now) (λ plan. drawn_at plan.netlist plan.sheets) old new new c.in_ok-read.read (Err c.in_err-drawn.field-0.0) c.in_ok-read.ensures.opens
          (c.in_err-drawn.ensures.draws new));
    }

pub returns : goal.returns
returns g c =
    let old : ShelfState = g.H.Shelf.state c.args.shelf.now in
    let names : List (List ℕ) = files_of c.args.name.now c.in_ok-read.read.is_lone c.in_ok-read.read.plan.netlist.parts in
    record {
      opens = (
        subst (λ (ns : List (List ℕ)). RunsTo old (files_at c.args.name.now) (ready ns)) (sym c.in_ok-names.ensures)
            (files_given c.args.name.now old c.in_ok-read.read.plan c.in_ok-drawn.drawn names c.in_ok-read.ensures.asked (c.in_ok-drawn.ensures.draws old).0),
        c.in_ok-read.ensures.opens.1,
      );
    }
