use Rattle.std.proofs.Common.{◌<◌, ◌≤◌, drop, length, refl, arith}
use Rattle.job_confirm.proofs.Reading.{read_row, start_read}
use Rattle.job_confirm.proofs.Whole.{reads_row, row_wants, rows_done, starts_rows, want_on}
use Rattle.job_confirm.proofs.rows.all_rows.Goals as goal

pub loop-number-init : goal.loop-number-init
loop-number-init c = record {
  read = start_read c.args.drawn.now c.args.text.now c.args.start c.new-found.result.items c.new-found.ensures.items c.requires.start;
  reading = starts_rows c.args.drawn.now (drop c.args.start c.args.text.now) (drop c.args.start c.args.text.now) c.new-found.result.items c.new-found.ensures.items refl;
}

pub returns-in_err-read-clause-read : goal.returns-in_err-read-clause-read
returns-in_err-read-clause-read c found more shown stands =
    let within : c.loop-number.number < length c.args.drawn.now.rows = grind arith in
    want_on _ c.from_residual.result _ c.from_residual.ensures.1
    (row_wants c.args.drawn.now _ (drop c.loop-number.place c.args.text.now) c.loop-number.number c.loop-number.found.items _ within c.loop-number.invariant.reading
    c.in_err-read.ensures.read found more shown stands)

pub loop-number-preserved : goal.loop-number-preserved
loop-number-preserved c =
    let within : c.loop-number.number < length c.args.drawn.now.rows = grind arith in record {
      read = read_row c.args.drawn.now c.args.text.now c.args.start c.loop-number.number c.loop-number.found.items c.push.new.self.items c.loop-number.place c.in_ok-read.read.place
          c.in_ok-read.read.found within c.loop-number.invariant.read c.in_ok-read.ensures.found c.in_ok-read.ensures.behind c.in_ok-push.ensures.items;
      reading = reads_row c.args.drawn.now (drop c.args.start c.args.text.now) (drop c.loop-number.place c.args.text.now) (drop c.in_ok-read.read.place c.args.text.now) c.loop-number.number
          c.loop-number.found.items c.push.new.self.items c.in_ok-read.read.found within c.loop-number.invariant.reading c.in_ok-read.ensures.read c.in_ok-push.ensures.items;
    }

pub returns-clause-read : goal.returns-clause-read
returns-clause-read c found more shown stands =
    let past : length c.args.drawn.now.rows ≤ c.loop-number.number = grind arith in
    rows_done c.args.drawn.now found more c.loop-number.number c.loop-number.found.items (drop c.loop-number.place c.args.text.now) past
    (c.loop-number.invariant.reading found more shown stands)
