use Rattle.std.proofs.Common.{◌≡◌, ◌*◌, ◌≤◌, take}
use Rattle.itv_base.specs.declared.limits.TheConstants.{MAX_CYCLES}
use Rattle.std.specs.Prelude.{sum_by}
use Rattle.unroll.specs.Step.Counting.{rule_cycles, splittable_cycles}
use Rattle.unroll.proofs.counts.count_rules.Given as goal

abbrev pub invariant-loop-rule : goal.invariant-loop-rule
invariant-loop-rule l = record {
  all : l.all ≡ sum_by (rule_cycles l.cycles) (take l.rule-index l.rules);
  splittable : l.splittable ≡ sum_by (splittable_cycles l.cycles) (take l.rule-index l.rules);
  all_within : l.all ≤ l.rule-index * MAX_CYCLES;
  splittable_within : l.splittable ≤ l.rule-index * MAX_CYCLES;
}
