-- What the fields of working memory mean, and what always holds of them.
use Rattle.std.specs.Prelude.{◌≡◌, true, cond, length, All, None, Some}
use Rattle.diff_bounds.specs.Limits.{IsTimely}
use Rattle.branch.specs.Work.{WorkView}
use Rattle.branch.specs.declared.work.Work.TheInside.{Inside}

abbrev pub view_in : Inside → WorkView
view_in w = record {
  bounds = w.search.bounds;
  room = w.search.cases.room;
  splits = w.trial.distances;
  known = cond w.has_known (Some w.known.items) None;
  times = w.best.times.items;
  ray = w.trial.ray.items;
  leaves = w.search.leaves;
}

-- each list has an entry per event, and known times are timely
pub record IsSoundWork (w : Inside) : Type 0 where
  pub known : length w.known.items ≡ length w.best.times.items
  pub candidate : length w.trial.candidate.items ≡ length w.best.times.items
  pub ray : length w.trial.ray.items ≡ length w.best.times.items
  pub near : w.has_known ≡ true → All IsTimely w.known.items
