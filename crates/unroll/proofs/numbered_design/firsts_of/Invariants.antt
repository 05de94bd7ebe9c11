use Rattle.std.proofs.Common.{◌≡◌, take}
use Rattle.compose.specs.Numbers.{mark_count}
use Rattle.unroll.specs.Step.Firsts.{firsts_of}
use Rattle.unroll.proofs.numbered_design.firsts_of.Given as goal

abbrev pub invariant-loop-part : goal.invariant-loop-part
invariant-loop-part l = record {
  first : l.first ≡ mark_count (take l.part l.design.sheets);
  firsts : l.firsts.items ≡ firsts_of 0 (take l.part l.design.sheets);
}
