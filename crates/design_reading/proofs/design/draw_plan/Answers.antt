use Rattle.std.proofs.Common.{Ok, Err, refl}
use Rattle.design_reading.proofs.Drawing.{joins_refused, limits_refused, drawn_ready, drawn_same}
use Rattle.design_reading.proofs.design.draw_plan.Goals as goal

pub returns-in-Err : goal.returns-in-Err
returns-in-Err c = record {
  draws = λ state. drawn_same state c.netlist.result.now c.args.plan.now.netlist c.sheets.result.now.entries c.args.plan.now.sheets (Err c.join_stop.result) c.netlist.ensures.netlist c.sheets.ensures.sheets
      (rw c.join_stop.ensures (joins_refused state c.netlist.result.now c.sheets.result.now c.in-Err.fault c.in-Err.ensures.answer));
}

pub returns-in-Ok-unrolled : goal.returns-in-Ok-unrolled
returns-in-Ok-unrolled c = record {
  draws = λ state. drawn_same state c.netlist.result.now c.args.plan.now.netlist c.sheets.result.now.entries c.args.plan.now.sheets (Ok c.in-Ok-unrolled.drawn) c.netlist.ensures.netlist c.sheets.ensures.sheets
      (drawn_ready state c.netlist.result.now c.sheets.result.now c.in-Ok.design c.in-Ok.ensures.answer c.in-Ok-unrolled.drawn c.in-Ok-unrolled.ensures.answer, refl);
}

pub returns-in-Err-unrolled : goal.returns-in-Err-unrolled
returns-in-Err-unrolled c = record {
  draws = λ state. drawn_same state c.netlist.result.now c.args.plan.now.netlist c.sheets.result.now.entries c.args.plan.now.sheets (Err c.limit_stop.result) c.netlist.ensures.netlist c.sheets.ensures.sheets
      (rw c.limit_stop.ensures (limits_refused state c.netlist.result.now c.sheets.result.now c.in-Ok.design c.in-Ok.ensures.answer c.in-Err-unrolled.fault c.in-Err-unrolled.ensures.answer));
}
