use Rattle.std.proofs.Common.{◌≤◌, ℕ, subst, sym}
use Rattle.settle.specs.declared.race.RaceEnd.{RaceEnd}
use Rattle.settle.specs.Step.Racing.{IsEnding}
use Rattle.settle.proofs.Concluding.{found_closed, found_inconsistent, found_unbounded, handed, of_pair}
use Rattle.settle.proofs.settler.found_by.Goals as goal

pub returns-in-Closed : goal.returns-in-Closed
returns-in-Closed c = record {
  found = λ most within. of_pair c.args.net.now c.args.race c.args.from c.args.to most _ c.requires.from c.requires.to (found_closed c.args.net.now c.args.race c.in-Closed.view c.args.finish.turns most c.closed_at.result c.times_in.result c.new.result c.lines_of.result c.is_whole.ensures.net
      c.requires.racing (subst (λ (e : RaceEnd). IsEnding c.args.net.now c.args.race e) c.in-Closed.is c.requires.ending) c.requires.lines c.closed_at.ensures
      c.times_in.ensures (handed c.args.race c.in-Closed.view c.lines_of.result.items c.lines_of.ensures.plain c.lines_of.ensures.negated) within);
}

pub returns-in-Unbounded : goal.returns-in-Unbounded
returns-in-Unbounded c = record {
  found = λ most within. of_pair c.args.net.now c.args.race c.args.from c.args.to most _ c.requires.from c.requires.to (found_unbounded c.args.net.now c.args.race c.in-Unbounded.ray most c.unbounded_by.result
      c.requires.racing (subst (λ (e : RaceEnd). IsEnding c.args.net.now c.args.race e) c.in-Unbounded.is c.requires.ending) c.unbounded_by.ensures.answer
      c.unbounded_by.ensures.times c.unbounded_by.ensures.ray c.unbounded_by.ensures.lines (subst (λ (n : ℕ). n ≤ most) (sym c.unbounded_by.ensures.turns) within));
}

pub returns-in-Inconsistent : goal.returns-in-Inconsistent
returns-in-Inconsistent c = record {
  found = λ most within. of_pair c.args.net.now c.args.race c.args.from c.args.to most _ c.requires.from c.requires.to (found_inconsistent c.args.net.now c.args.race c.in-Inconsistent.view c.args.finish.turns most c.new-in-Inconsistent.result c.new-in-Inconsistent-2.result
      c.lines_of-in-Inconsistent.result c.is_whole.ensures.net c.requires.racing
      (subst (λ (e : RaceEnd). IsEnding c.args.net.now c.args.race e) c.in-Inconsistent.is c.requires.ending) c.requires.lines
      (handed c.args.race c.in-Inconsistent.view c.lines_of-in-Inconsistent.result.items c.lines_of-in-Inconsistent.ensures.plain c.lines_of-in-Inconsistent.ensures.negated) within);
}
