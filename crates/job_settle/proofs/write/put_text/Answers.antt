use Rattle.std.proofs.lemmas.Result.{err_from_is_err_and}
use Rattle.std.proofs.Common.{refl}
use Rattle.job_settle.proofs.Putting.{settle_is}
use Rattle.line_words.proofs.Putting.{cut_one, cut_three, cut_two, put_four}
use Rattle.job_settle.proofs.write.put_text.Goals as goal

pub returns-in_err-put_front : goal.returns-in_err-put_front
returns-in_err-put_front g c =
    let p = err_from_is_err_and c.from_residual.result c.from_residual.ensures.1 in
    record {
      puts = rw p.1 (cut_one _ _ _ _ _ (settle_is c.args.drawn.now c.args.cert c.args.found.now.finding _ c.args.found.now.rows.items c.args.word refl c.requires.word) c.in_err-put_front.ensures.puts);
    }

pub returns-in_err-put_finding : goal.returns-in_err-put_finding
returns-in_err-put_finding g c =
    let p = err_from_is_err_and c.from_residual-in_err-put_finding.result c.from_residual-in_err-put_finding.ensures.1 in
    record {
      puts = rw p.1 (cut_two _ _ _ _ _ _ _ (settle_is c.args.drawn.now c.args.cert c.args.found.now.finding _ c.args.found.now.rows.items c.args.word refl c.requires.word)
          c.in_ok-put_front.ensures.puts c.in_err-put_finding.ensures.puts);
    }

pub returns-in_err-put_behind : goal.returns-in_err-put_behind
returns-in_err-put_behind g c =
    let p = err_from_is_err_and c.from_residual-in_err-put_behind.result c.from_residual-in_err-put_behind.ensures.1 in
    record {
      puts = rw p.1 (cut_three _ _ _ _ _ _ _ _ _ (settle_is c.args.drawn.now c.args.cert c.args.found.now.finding _ c.args.found.now.rows.items c.args.word c.deref.ensures.value c.requires.word)
          c.in_ok-put_front.ensures.puts c.in_ok-put_finding.ensures.puts c.in_err-put_behind.ensures.puts);
    }

pub returns : goal.returns
returns g c = record {
  puts = put_four _ _ _ _ _ _ _ _ _ _ c.write_item.result (settle_is c.args.drawn.now c.args.cert c.args.found.now.finding _ c.args.found.now.rows.items c.args.word c.deref.ensures.value c.requires.word)
      c.in_ok-put_front.ensures.puts c.in_ok-put_finding.ensures.puts c.in_ok-put_behind.ensures.puts c.write_item.ensures.puts;
}
