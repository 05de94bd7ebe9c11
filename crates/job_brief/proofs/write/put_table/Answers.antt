use Rattle.std.proofs.lemmas.Result.{err_from_is_err_and}
use Rattle.std.proofs.Common.{refl}
use Rattle.job_brief.proofs.Whole.{table_is}
use Rattle.line_words.proofs.Putting.{cut_one, put_two}
use Rattle.job_brief.proofs.write.put_table.Goals as goal

pub put_rows-requires-clause-places : goal.put_rows-requires-clause-places
put_rows-requires-clause-places g c = rw (c.deref.ensures.value, c.deref-2.ensures.value) c.requires.outline.places

pub returns-in_err-put_header : goal.returns-in_err-put_header
returns-in_err-put_header g c =
    let p = err_from_is_err_and c.from_residual.result c.from_residual.ensures.1 in
    record { puts = rw p.1 (cut_one _ _ _ _ _ (table_is (g.N.Notes.noted c.args.notes.now) c.args.drawn.now c.args.found.now.finding _ c.args.found.now.rows.items refl) c.in_err-put_header.ensures) }

pub returns : goal.returns
returns g c = record {
  puts = put_two _ _ _ _ _ _ c.put_rows.result (table_is (g.N.Notes.noted c.args.notes.now) c.args.drawn.now c.args.found.now.finding _ c.args.found.now.rows.items c.deref.ensures.value)
      c.in_ok-put_header.ensures c.put_rows.ensures.puts;
}
