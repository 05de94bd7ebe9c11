use Rattle.std.specs.Prelude.{⊤}
use Rattle.design_reading.specs.Design.{with_part}
use Rattle.design_reading.specs.FileReading.{each}
use Rattle.design_reading.proofs.Opens.{each_end, each_next, each_stop, resumes_all}
use Rattle.itv_base.proofs.Faults.{drop-next}
use Rattle.design_reading.proofs.sheets.push_parts.Goals as goal

pub loop-part-init : goal.loop-part-init
loop-part-init c state = resumes_all state (each (with_part c.args.place c.args.name.now c.args.grades.now c.args.diagram.now) 0 c.args.sheets.now.entries c.args.parts.now)

pub returns-in_err-push_part : goal.returns-in_err-push_part
returns-in_err-push_part c state =
    each_stop (with_part c.args.place c.args.name.now c.args.grades.now c.args.diagram.now) state state state _ c.args.parts.now c.loop-part.part-index c.loop-part.part-index c.part-item.result c.loop-part.sheets.entries
    (drop-next c.args.parts.now c.loop-part.part-index c.part-item.result c.loop-part-test.true c.part-item.is) (c.loop-part.invariant state) (λ (_ : ⊤). c.push_part.new.sheets.entries) (λ (_ : ⊤). c.push_part.new.sheets.entries) c.in_err-push_part.field-0.0 c.from_residual.result
    c.from_residual.ensures.1 (c.in_err-push_part.ensures c.loop-part.part-index state)

pub loop-part-preserved : goal.loop-part-preserved
loop-part-preserved c state =
    each_next (with_part c.args.place c.args.name.now c.args.grades.now c.args.diagram.now) state state state _ c.args.parts.now c.loop-part.part-index c.loop-part.part-index c.part-item.result c.loop-part.sheets.entries
    (drop-next c.args.parts.now c.loop-part.part-index c.part-item.result c.loop-part-test.true c.part-item.is) (c.loop-part.invariant state) (λ (_ : ⊤). c.push_part.new.sheets.entries) tt (c.in_ok-push_part.ensures c.loop-part.part-index state)

pub returns : goal.returns
returns c state =
    each_end (with_part c.args.place c.args.name.now c.args.grades.now c.args.diagram.now) state state _ c.args.parts.now c.loop-part.part-index c.loop-part.part-index (λ (_ : ⊤). c.loop-part.sheets.entries) tt c.loop-part-test.false (c.loop-part.invariant state)
