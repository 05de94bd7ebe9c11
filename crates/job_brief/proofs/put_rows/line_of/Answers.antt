use Rattle.std.proofs.Common.{ap, ◌∙◌, refl}
use Rattle.itv_base.specs.Names.{Name}
use Rattle.job_brief.proofs.RowLines.{line_is}
use Rattle.job_brief.proofs.put_rows.line_of.Goals as goal

pub returns : goal.returns
returns g c =
    let noted = g.N.Notes.noted c.args.notes.now in
    let row = c.args.row.now in
    record {
      text = line_is noted c.args.drawn.now (record { number = c.args.number; row = row; found = c.args.found.now }) (record { number = c.args.number; row = c.args.last.now; found = c.args.found.now })
          (record {
            csv = c.args.csv;
            number = c.args.number;
            kind = row.kind;
            from = c.name-from.result;
            to = c.name.result;
            both = c.both_of.result;
            judged = c.judged_of.result;
            by = record { origin = row.origin; note = c.note.result; grade = c.grade.result };
            rests_on_order = c.is_some.result;
            last_cycle = c.name-2.result.cycle;
          })
          (record {
            number = refl;
            kind = refl;
            from = c.name-from.ensures.name;
            to = c.name.ensures.name;
            least = c.both_of.ensures.least;
            greatest = c.both_of.ensures.greatest;
            judged = c.judged_of.ensures.judged;
            origin = refl;
            note = c.note.ensures.note ∙ ap (λ (name : Name). noted.note name.part row.origin) c.name-from.ensures.name;
            grade = c.grade.ensures.grade ∙ ap (λ (name : Name). noted.grade name.part row.origin) c.name-from.ensures.name;
            order = c.is_some.ensures;
            last_cycle = ap (λ (name : Name). name.cycle) c.name-2.ensures.name;
          })
          c.args.csv;
    }
