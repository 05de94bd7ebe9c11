use Rattle.std.proofs.Common.{refl}
use Rattle.slack_report.specs.Entry.{ending}
use Rattle.slack_report.specs.Text.{entry_text}
use Rattle.job_fall.specs.Fall.{at_last}
use Rattle.job_fall.specs.Step.{asked}
use Rattle.job_fall.proofs.Following.{job_of}
use Rattle.job_fall.proofs.Going.{goes_up, stopped_piece, stops_then, told_piece, told_then}
use Rattle.job_fall.proofs.write.print_bounds.Goals as goal

pub returns-in_err-found : goal.returns-in_err-found
returns-in_err-found g c = record {
  goes = λ view v.
      let of = job_of c.args.drawn.now c.args.wanted view c.network.result.now c.network.ensures.network v in
      goes_up at_last c.from_residual.result c.from_residual.ensures.0 (c.in_err-found.ensures.goes (asked c.args.drawn.now view c.args.wanted) of);
}

pub returns-in_err-word : goal.returns-in_err-word
returns-in_err-word g c = record {
  goes = λ view v.
      let of = job_of c.args.drawn.now c.args.wanted view c.network.result.now c.network.ensures.network v in
      goes_up at_last c.from_residual-in_err-word.result c.from_residual-in_err-word.ensures.0
      (stops_then (c.in_ok-found.ensures.goes (asked c.args.drawn.now view c.args.wanted) of) (c.in_err-word.ensures.goes view v));
}

pub returns-in_err-write_item : goal.returns-in_err-write_item
returns-in_err-write_item g c = record {
  goes = λ view v.
      let of = job_of c.args.drawn.now c.args.wanted view c.network.result.now c.network.ensures.network v in
      let word = c.in_ok-word.word in
      goes_up at_last c.from_residual-in_err-write_item.result c.from_residual-in_err-write_item.ensures.0
      (stops_then (told_then (c.in_ok-found.ensures.goes (asked c.args.drawn.now view c.args.wanted) of) (c.in_ok-word.ensures.goes view v))
      (stopped_piece (at_last word) (entry_text (ending word)) (refl, refl) c.in_err-write_item.ensures.puts));
}

pub returns : goal.returns
returns g c = record {
  goes = λ view v.
      let of = job_of c.args.drawn.now c.args.wanted view c.network.result.now c.network.ensures.network v in
      let word = c.in_ok-word.word in
      told_then (told_then (c.in_ok-found.ensures.goes (asked c.args.drawn.now view c.args.wanted) of) (c.in_ok-word.ensures.goes view v))
      (told_piece (at_last word) (entry_text (ending word)) (refl, refl) c.in_ok-write_item.ensures.puts);
}
