use Rattle.std.proofs.lemmas.Result.{err_from_is_err_and}
use Rattle.job_brief.proofs.Whole.{rows_are}
use Rattle.line_words.proofs.Putting.{cut_one, put_two}
use Rattle.job_brief.proofs.write.put_counted.Goals as goal

pub put_rows-requires-clause-places : goal.put_rows-requires-clause-places
put_rows-requires-clause-places g c = rw (c.deref.ensures.value, c.deref-2.ensures.value) c.requires.outline.places

pub returns-in_err-put_rows : goal.returns-in_err-put_rows
returns-in_err-put_rows g c =
    let p = err_from_is_err_and c.from_residual.result c.from_residual.ensures.1 in
    record {
      puts = rw p.1 (cut_one _ _ _ _ _ (rows_are (g.N.Notes.noted c.args.notes.now) c.args.drawn.now _ c.args.found.now.rows.items c.args.outline.now.counts c.deref.ensures.value c.requires.outline.counts)
          c.in_err-put_rows.ensures.puts);
    }

pub returns : goal.returns
returns g c = record {
  puts = put_two _ _ _ _ _ _ c.put_line.result
      (rows_are (g.N.Notes.noted c.args.notes.now) c.args.drawn.now _ c.args.found.now.rows.items c.args.outline.now.counts c.deref.ensures.value c.requires.outline.counts)
      c.in_ok-put_rows.ensures.puts c.put_line.ensures.puts;
}
