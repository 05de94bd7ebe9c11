use Rattle.std.proofs.Common.{◌≡◌, codes, option_map, rules}
use Rattle.clap.specs.Matches.{found_of}
use Rattle.clap.specs.Walk.{rows_of}
use Rattle.command_words.specs.declared.job.SearchJob.TheVariants.{Bounds, Settle}
use Rattle.command_words.specs.declared.job.PlanJob.TheVariants.{Brief}
use Rattle.command_words.specs.Task.{has_flag, planned_of, searched_of}
use Rattle.command_words.specs.View.{task_view}
use Rattle.command_words.proofs.read.task_named.Goals as goal

pub returns-then-eq : goal.returns-then-eq
returns-then-eq c =
    let flagged : option_map task_view c.searched_task.result ≡ searched_of (Bounds (has_flag (codes "cert") (rows_of (found_of c.args.matches.now)))) (rows_of (found_of c.args.matches.now)) =
    rw c.has_flag-cert.ensures at c.searched_task.ensures in
    search rules

pub returns-then-eq-8 : goal.returns-then-eq-8
returns-then-eq-8 c =
    let flagged : option_map task_view c.searched_task-then-eq-8.result ≡ searched_of (Settle (has_flag (codes "cert") (rows_of (found_of c.args.matches.now)))) (rows_of (found_of c.args.matches.now)) =
    rw c.has_flag-cert-then-eq-8.ensures at c.searched_task-then-eq-8.ensures in
    search rules

pub returns-then-eq-11 : goal.returns-then-eq-11
returns-then-eq-11 c =
    let flagged : option_map task_view c.planned_task-then-eq-11.result ≡ planned_of (Brief (has_flag (codes "csv") (rows_of (found_of c.args.matches.now)))) (rows_of (found_of c.args.matches.now)) =
    rw c.has_flag-csv.ensures at c.planned_task-then-eq-11.ensures in
    search rules
