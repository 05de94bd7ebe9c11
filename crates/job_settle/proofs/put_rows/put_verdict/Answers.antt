use Rattle.std.proofs.lemmas.Result.{err_from_is_err_and}
use Rattle.std.proofs.Common.{refl}
use Rattle.requirements.specs.Slacks.{slack_of}
use Rattle.job_settle.proofs.Putting.{verdict_is}
use Rattle.line_words.proofs.Putting.{cut_two, put_three}
use Rattle.job_settle.proofs.put_rows.put_verdict.Goals as goal

pub returns-in_err-put_past : goal.returns-in_err-put_past
returns-in_err-put_past g c =
    let p = err_from_is_err_and c.from_residual-in_err-put_past.result c.from_residual-in_err-put_past.ensures.1 in
    let both = c.both_of-both.result in
    record {
      puts = rw p.1 (cut_two _ _ _ _ _ _ _ (verdict_is c.args.range c.args.found.now both.least both.greatest _ _ (slack_of c.args.range both.least both.greatest) c.both_of-both.ensures.least
          c.both_of-both.ensures.greatest c.judge-word.ensures c.deref.ensures.value refl) c.in_ok-write_item.ensures.puts c.in_err-put_past.ensures.puts);
    }

pub returns : goal.returns
returns g c =
    let both = c.both_of-both.result in
    record {
      puts = put_three _ _ _ _ _ _ _ _ c.write_item-2.result (verdict_is c.args.range c.args.found.now both.least both.greatest _ _ _ c.both_of-both.ensures.least c.both_of-both.ensures.greatest
          c.judge-word.ensures c.deref.ensures.value c.slack.ensures) c.in_ok-write_item.ensures.puts c.in_ok-put_past.ensures.puts c.write_item-2.ensures.puts;
    }
