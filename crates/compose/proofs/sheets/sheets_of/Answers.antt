use Rattle.std.proofs.Common.{◌∙◌, ◌+◌, ap, sym, length, length-append}
use Rattle.compose.specs.Sheets.{key_of, sheet_named}
use Rattle.compose.proofs.PartSheets.{sheets_more, sheets_kept}
use Rattle.compose.proofs.sheets.sheets_of.Goals as goal

pub loop-part-preserved : goal.loop-part-preserved
loop-part-preserved c =
    let before = c.loop-part.invariant in
    record {
      found = sheets_more (λ part. sheet_named c.args.sheets.now (key_of part)) c.args.parts.now c.loop-part.part-index c.part-item.result c.loop-part.found.items c.push.new.self.items c.sheet_named.result c.loop-part-test.true c.part-item.is
          before.found (ap (sheet_named c.args.sheets.now) (sym c.in_ok-key.ensures.key) ∙ c.sheet_named.ensures.found) c.in_ok-push.ensures.items;
      count = ap length c.in_ok-push.ensures.items ∙ length-append c.loop-part.found.items _ ∙ ap (λ n. n + 1) before.count;
      whole = sheets_kept c.loop-part.found.items c.push.new.self.items c.sheet_named.result before.whole c.sheet_named.ensures.whole c.in_ok-push.ensures.items;
    }
