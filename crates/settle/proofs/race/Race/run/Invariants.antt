use Rattle.std.proofs.Common.{◌≡◌, ◌≤◌, ◌-◌}
use Rattle.settle.specs.Step.Racing.{IsRacing, line_count}
use Rattle.settle.proofs.race.Race.run.Given as goal

-- both searches are under way, and together have taken at most as many lines as turns
abbrev pub invariant-turns : goal.invariant-turns
invariant-turns l = record {
  racing : IsRacing l.net l.self;
  from : l.self.from ≡ l.initial.self.from;
  to : l.self.to ≡ l.initial.self.to;
  lines : line_count l.self ≤ l.taken;
  most : l.taken ≤ l.turns;
}

abbrev pub decreases-turns : goal.decreases-turns
decreases-turns l = l.turns - l.taken
