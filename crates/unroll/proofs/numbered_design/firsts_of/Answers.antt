use Rattle.std.proofs.Common.{◌≤◌, length, take, ap, ◌∙◌, arith}
use Rattle.std.proofs.lemmas.List.{take_all}
use Rattle.unroll.specs.Step.Firsts.{firsts_of}
use Rattle.itv_base.proofs.Lists.{take_get}
use Rattle.unroll.proofs.PartLists.{firsts_kept, mark_count_push}
use Rattle.unroll.proofs.numbered_design.firsts_of.Goals as goal

pub overflow_cast-parts : goal.overflow_cast-parts
overflow_cast-parts c =
    let whole = c.cycles-cycles.ensures.design in
    omega (arith, ap length c.parts.ensures.parts, c.len-parts.ensures.count, whole.parts, whole.few)

pub sheet_of-requires : goal.sheet_of-requires
sheet_of-requires c = omega (arith, ap length c.parts.ensures.parts, c.len-parts.ensures.count, c.cycles-cycles.ensures.design.parts, c.loop-part-test.true)

pub loop-part-preserved : goal.loop-part-preserved
loop-part-preserved c =
    let sheets = c.args.design.now.sheets in
    let front = take c.loop-part.part sheets in
    let sheet = c.sheet_of.result.now in
    let more = take_get sheets c.loop-part.part sheet c.sheet_of.ensures.sheet in
    record {
      first = rw more (omega (arith, mark_count_push front sheet, c.loop-part.invariant.first, c.len.ensures.count, ap length c.marks.ensures.marks));
      firsts = rw more (firsts_kept front sheet c.loop-part.firsts.items c.push.new.self.items c.loop-part.first c.loop-part.invariant.first c.loop-part.invariant.firsts c.in_ok-push.ensures.items);
    }

pub returns : goal.returns
returns c =
    let sheets = c.args.design.now.sheets in
    let all : length sheets ≤ c.loop-part.part = omega (arith, ap length c.parts.ensures.parts, c.len-parts.ensures.count, c.cycles-cycles.ensures.design.parts, c.loop-part-test.false) in
    c.loop-part.invariant.firsts ∙ ap (firsts_of 0) (take_all c.loop-part.part sheets all)
