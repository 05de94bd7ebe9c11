use Rattle.std.proofs.Common.{drop}
use Rattle.std.specs.List.{flat_map}
use Rattle.itv_base.proofs.Written.{Left}
use Rattle.job_brief.specs.Rows.{ordered, runs_of}
use Rattle.job_brief.specs.Step.{numbered_rows}
use Rattle.job_brief.specs.Text.{run_text, runs_text}
use Rattle.job_brief.proofs.put_rows.put_rows.Given as goal

-- the lines of the first runs are put
abbrev pub invariant-loop-at : goal.invariant-loop-at
invariant-loop-at g l =
    Left (g.K.Sink.state l.fn.sink) (g.K.Sink.state l.sink) (flat_map (run_text l.csv (g.N.Notes.noted l.notes) l.drawn) (drop l.at (ordered (runs_of l.drawn (numbered_rows l.drawn l.found)))))
    (runs_text l.csv (g.N.Notes.noted l.notes) l.drawn (numbered_rows l.drawn l.found))
