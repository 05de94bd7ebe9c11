use Rattle.std.proofs.lemmas.Result.{on_ok_weaker}
use Rattle.narrow_ends.proofs.Seeking.{closed_satisfies}
use Rattle.narrow_ends.proofs.search.keep_times.Goals as goal

pub returns-in-Closed : goal.returns-in-Closed
returns-in-Closed c = record {
  kept = on_ok_weaker c.keep.result (λ kept net e found. kept net (closed_satisfies net e c.args.greatest c.in-Closed.value c.in-Closed.shown c.in-Closed.is found)) c.keep.ensures.kept;
}
