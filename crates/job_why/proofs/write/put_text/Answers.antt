use Rattle.std.proofs.lemmas.Result.{err_from_is_err_and}
use Rattle.std.proofs.Common.{refl}
use Rattle.explanations.specs.Answers.{consistency_of}
use Rattle.job_why.proofs.Whole.{why_is}
use Rattle.line_words.proofs.Putting.{cut_one, cut_two, cut_three, put_four}
use Rattle.job_why.proofs.write.put_text.Goals as goal

pub returns-in_err-put : goal.returns-in_err-put
returns-in_err-put g c =
    let p = err_from_is_err_and c.from_residual.result c.from_residual.ensures.1 in
    record { puts = rw p.1 (cut_one _ _ _ _ _ (why_is (g.N.Notes.noted c.args.notes.now) c.args.drawn.now c.args.found.now.finding c.args.found.now.rows.items c.args.found.now.rows.items (consistency_of c.args.found.now.finding) c.args.word refl refl c.requires.word) c.in_err-put.ensures.puts) }

pub returns-in_err-write_item : goal.returns-in_err-write_item
returns-in_err-write_item g c =
    let p = err_from_is_err_and c.from_residual-in_err-write_item.result c.from_residual-in_err-write_item.ensures.1 in
    record { puts = rw p.1 (cut_two _ _ _ _ _ _ _ (why_is (g.N.Notes.noted c.args.notes.now) c.args.drawn.now c.args.found.now.finding c.args.found.now.rows.items c.args.found.now.rows.items c.consistency.result c.args.word refl c.consistency.ensures.word c.requires.word) c.in_ok-put.ensures.puts c.in_err-write_item.ensures.puts) }

pub returns-in_err-put_behind : goal.returns-in_err-put_behind
returns-in_err-put_behind g c =
    let p = err_from_is_err_and c.from_residual-in_err-put_behind.result c.from_residual-in_err-put_behind.ensures.1 in
    record { puts = rw p.1 (cut_three _ _ _ _ _ _ _ _ _ (why_is (g.N.Notes.noted c.args.notes.now) c.args.drawn.now c.args.found.now.finding c.deref.result.now c.args.found.now.rows.items c.consistency.result c.args.word c.deref.ensures.value c.consistency.ensures.word c.requires.word) c.in_ok-put.ensures.puts c.in_ok-write_item.ensures.puts c.in_err-put_behind.ensures.puts) }

pub returns : goal.returns
returns g c = record {
  puts = put_four _ _ _ _ _ _ _ _ _ _ c.write_item-2.result (why_is (g.N.Notes.noted c.args.notes.now) c.args.drawn.now c.args.found.now.finding c.deref.result.now c.args.found.now.rows.items c.consistency.result c.args.word c.deref.ensures.value c.consistency.ensures.word c.requires.word) c.in_ok-put.ensures.puts c.in_ok-write_item.ensures.puts
      c.in_ok-put_behind.ensures.puts c.write_item-2.ensures.puts;
}
