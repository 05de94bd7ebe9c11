use Rattle.std.proofs.Common.{◌≡◌, length, ap, ◌∙◌, arith}
use Rattle.lint.proofs.LeadLists.{mark_here, mark_later, mark_past}
use Rattle.lint.proofs.home.mark_of.Goals as goal

pub overflow_cast-count : goal.overflow_cast-count
overflow_cast-count c = omega (arith, c.len-count.ensures.count, ap length c.marks.ensures.marks, c.marks.ensures.whole.marks)

pub returns-then-rest-count : goal.returns-then-rest-count
returns-then-rest-count c =
    mark_here c.args.design.now.sheets c.loop-part.part c.loop-part.rest c.args.number c.loop-part.invariant.held c.len-count.result c.sheet_of.result.now c.sheet_of.ensures.sheet
    (c.len-count.ensures.count ∙ ap length c.marks.ensures.marks) c.if-rest-count.true

pub loop-part-preserved : goal.loop-part-preserved
loop-part-preserved c = record {
  within = omega (arith, c.loop-part-test.true);
  held = mark_later c.args.design.now.sheets c.loop-part.part c.loop-part.rest c.args.number c.loop-part.invariant.held c.len-count.result c.sheet_of.result.now c.sheet_of.ensures.sheet
      (c.len-count.ensures.count ∙ ap length c.marks.ensures.marks) c.if-rest-count.false;
}

pub returns : goal.returns
returns c =
    let last : c.loop-part.part ≡ c.part_count-parts.result = omega (arith, c.loop-part.invariant.within, c.loop-part-test.false) in
    rw last at (mark_past c.args.design.now.sheets c.loop-part.part c.loop-part.rest c.args.number c.loop-part.invariant.held (omega (arith, c.part_count-parts.ensures.count, c.loop-part-test.false)))
