use Rattle.std.proofs.Common.{◌<◌, ap, length, arith}
use Rattle.std.proofs.lemmas.List.{length-map}
use Rattle.compose.proofs.PartSheets.{seen, marks_more}
use Rattle.compose.proofs.wires.marks_before.Goals as goal

pub loop-before-preserved : goal.loop-before-preserved
loop-before-preserved c =
    let sheets = seen c.args.sheets.now in
    let within : c.loop-before.before < length sheets = omega (arith, c.loop-before-test.true, c.requires.part, length-map c.args.sheets.now (λ s. s.now)) in
    let more = marks_more sheets c.loop-before.before within in
    record {
      count = omega (arith, more, c.loop-before.invariant.count, ap length c.marks_at.ensures.marks);
      within = omega (arith, c.loop-before.invariant.within, c.marks_at.ensures.few);
    }
