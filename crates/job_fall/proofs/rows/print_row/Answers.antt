use Rattle.std.proofs.Common.{◌+◌, ◌||◌, Bool, ap, refl}
use Rattle.slack_report.specs.declared.words.Which.TheVariants.{Max}
use Rattle.slack_report.specs.Entry.{row}
use Rattle.slack_report.specs.Text.{entry_text}
use Rattle.drawn_networks.specs.Drawn.{name_of}
use Rattle.job_fall.specs.Fall.{FallRow, at_bound, before_rows}
use Rattle.job_fall.specs.Step.{asked, behind_row, fall_row}
use Rattle.job_fall.proofs.Following.{job_of, spent_in}
use Rattle.job_fall.proofs.Going.{goes_up, stopped_piece, stops_then, told_at, told_piece, told_then}
use Rattle.job_fall.proofs.rows.print_row.Goals as goal

pub returns-in_err-put_row-clause-goes : goal.returns-in_err-put_row-clause-goes
returns-in_err-put_row-clause-goes g c = λ view spent later v.
    let asked_row = c.args.row.now in
    let current : FallRow = fall_row spent c.args.number asked_row later in
    goes_up (behind_row current) c.from_residual.result c.from_residual.ensures.0
    (stopped_piece (at_bound current Max) (entry_text (row c.args.number asked_row.kind (name_of c.args.drawn.now asked_row.from) (name_of c.args.drawn.now asked_row.to))) (refl, refl) c.in_err-put_row.ensures.puts)

pub returns-in_err-is_greatest_spent-clause-goes : goal.returns-in_err-is_greatest_spent-clause-goes
returns-in_err-is_greatest_spent-clause-goes g c = λ view spent later v.
    let asked_row = c.args.row.now in
    let current : FallRow = fall_row spent c.args.number asked_row later in
    let of = job_of c.args.drawn.now c.args.wanted view c.network-net.result.now c.network-net.ensures.network v in
    goes_up (behind_row current) c.from_residual-in_err-is_greatest_spent.result c.from_residual-in_err-is_greatest_spent.ensures.0
    (stops_then (told_piece (at_bound current Max) (entry_text (row c.args.number asked_row.kind (name_of c.args.drawn.now asked_row.from) (name_of c.args.drawn.now asked_row.to))) (refl, refl) c.in_ok-put_row.ensures.puts)
    (c.in_err-is_greatest_spent.ensures.goes (asked c.args.drawn.now view c.args.wanted) current of refl))

pub returns-in_err-is_least_spent-clause-goes : goal.returns-in_err-is_least_spent-clause-goes
returns-in_err-is_least_spent-clause-goes g c = λ view spent later v.
    let asked_row = c.args.row.now in
    let current : FallRow = fall_row spent c.args.number asked_row later in
    let behind : FallRow = fall_row (spent || c.in_ok-is_greatest_spent.is_greatest_spent) c.args.number asked_row later in
    let of = job_of c.args.drawn.now c.args.wanted view c.network-net.result.now c.network-net.ensures.network v in
    goes_up (behind_row current) c.from_residual-in_err-is_least_spent.result c.from_residual-in_err-is_least_spent.ensures.0
    (stops_then (told_then (told_piece (at_bound current Max) (entry_text (row c.args.number asked_row.kind (name_of c.args.drawn.now asked_row.from) (name_of c.args.drawn.now asked_row.to))) (refl, refl) c.in_ok-put_row.ensures.puts)
    (c.in_ok-is_greatest_spent.ensures.goes (asked c.args.drawn.now view c.args.wanted) current of refl))
    (c.in_err-is_least_spent.ensures.goes (asked c.args.drawn.now view c.args.wanted) behind of refl))

pub returns-clause-goes : goal.returns-clause-goes
returns-clause-goes g c = λ view spent later v.
    let asked_row = c.args.row.now in
    let current : FallRow = fall_row spent c.args.number asked_row later in
    let behind : FallRow = fall_row (spent || c.in_ok-is_greatest_spent.is_greatest_spent) c.args.number asked_row later in
    let of = job_of c.args.drawn.now c.args.wanted view c.network-net.result.now c.network-net.ensures.network v in
    told_at (ap (λ (is : Bool). before_rows is (c.args.number + 1) later) (spent_in spent c.in_ok-is_greatest_spent.is_greatest_spent c.in_ok-is_least_spent.is_least_spent c.either.result c.either.ensures))
    (told_then (told_then (told_piece (at_bound current Max) (entry_text (row c.args.number asked_row.kind (name_of c.args.drawn.now asked_row.from) (name_of c.args.drawn.now asked_row.to))) (refl, refl) c.in_ok-put_row.ensures.puts)
    (c.in_ok-is_greatest_spent.ensures.goes (asked c.args.drawn.now view c.args.wanted) current of refl))
    (c.in_ok-is_least_spent.ensures.goes (asked c.args.drawn.now view c.args.wanted) behind of refl))
