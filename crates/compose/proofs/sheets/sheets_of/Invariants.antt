use Rattle.std.proofs.Common.{◌≡◌, All, length, map, take}
use Rattle.sheet.specs.Whole.{IsWhole}
use Rattle.compose.specs.Sheets.{sheets_of}
use Rattle.compose.proofs.sheets.sheets_of.Given as goal

abbrev pub invariant-loop-part : goal.invariant-loop-part
invariant-loop-part l = record {
  found : map (λ s. s.now) l.found.items ≡ sheets_of l.sheets (take l.part-index l.parts);
  count : length l.found.items ≡ l.part-index;
  whole : All IsWhole (map (λ s. s.now) l.found.items);
}
