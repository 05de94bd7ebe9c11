use Rattle.std.proofs.Common.{Bool, ap, ◌∙◌, sym}
use Rattle.job_fall.specs.Fall.{behind_bound}
use Rattle.job_fall.specs.Step.{shown_bound}
use Rattle.job_fall.specs.Text.{bound_text, printed}
use Rattle.job_fall.proofs.Following.{begun_bound, bound_may, spent_told}
use Rattle.job_fall.proofs.Going.{goes_up, stopped_search, stopped_shown, told_at, told_shown}
use Rattle.job_fall.proofs.Viewing.{in_pair, near_times, not_inconsistent, shows_row}
use Rattle.job_fall.proofs.bounding.print_bound.Goals as goal

pub returns-in_err-fallen-clause-goes : goal.returns-in_err-fallen-clause-goes
returns-in_err-fallen-clause-goes g c = λ job current of same.
    let (lines, cut, begin) = c.in_err-fallen.ensures.cut in
    goes_up (behind_bound current c.args.which) c.from_residual.result c.from_residual.ensures.0
    (stopped_search (printed c.args.wanted.cert lines) (begun_bound of current c.args.which c.args.row.now lines same begin) cut)

pub returns-in_err-put_bound-clause-goes : goal.returns-in_err-put_bound-clause-goes
returns-in_err-put_bound-clause-goes g c = λ job current of same.
    let (lines, grew, a) = c.in_ok-fallen.ensures.answers in
    let solver = c.search_bound.new.solver in
    let (some, satisfied) = c.requires.consistent in
    let value = shown_bound c.args.which c.args.row.now.from solver.times solver.ray c.in_ok-fallen.fallen in
    let shows = shows_row c.args.net.now c.args.which c.args.row.now c.requires.set.is_net c.requires.row.0 c.requires.row.1 solver.negation c.args.wanted.turns lines solver.times solver.ray
    c.in_ok-fallen.fallen job.view of.view c.in_ok-fallen.ensures.made.negation some satisfied a.1
    (near_times c.args.net.now solver.limits solver.negation _ _ c.args.wanted.turns lines solver.times solver.ray c.in_ok-fallen.fallen c.requires.set.is_net c.in_ok-fallen.ensures.made.limits
    c.in_ok-fallen.ensures.made.negation (in_pair c.args.which c.args.row.now c.args.net.now.events c.requires.row.0 c.requires.row.1).0
    (in_pair c.args.which c.args.row.now c.args.net.now.events c.requires.row.0 c.requires.row.1).1 a.1) in
    goes_up (behind_bound current c.args.which) c.from_residual-in_err-put_bound.result c.from_residual-in_err-put_bound.ensures.0
    (stopped_shown _ (printed c.args.wanted.cert lines) (bound_text c.args.which value) (bound_may of current c.args.which c.args.row.now lines value same a.0 shows) grew c.in_err-put_bound.ensures.puts)

pub returns-clause-goes : goal.returns-clause-goes
returns-clause-goes g c = λ job current of same.
    let (lines, grew, a) = c.in_ok-fallen.ensures.answers in
    let solver = c.search_bound.new.solver in
    let (some, satisfied) = c.requires.consistent in
    let value = shown_bound c.args.which c.args.row.now.from solver.times solver.ray c.in_ok-fallen.fallen in
    let shows = shows_row c.args.net.now c.args.which c.args.row.now c.requires.set.is_net c.requires.row.0 c.requires.row.1 solver.negation c.args.wanted.turns lines solver.times solver.ray
    c.in_ok-fallen.fallen job.view of.view c.in_ok-fallen.ensures.made.negation some satisfied a.1
    (near_times c.args.net.now solver.limits solver.negation _ _ c.args.wanted.turns lines solver.times solver.ray c.in_ok-fallen.fallen c.requires.set.is_net c.in_ok-fallen.ensures.made.limits
    c.in_ok-fallen.ensures.made.negation (in_pair c.args.which c.args.row.now c.args.net.now.events c.requires.row.0 c.requires.row.1).0
    (in_pair c.args.which c.args.row.now c.args.net.now.events c.requires.row.0 c.requires.row.1).1 a.1) in
    let spent = spent_told c.args.which c.args.row.now.from solver.times solver.ray c.in_ok-fallen.fallen
    (not_inconsistent c.args.net.now solver.negation _ _ c.args.wanted.turns lines solver.times solver.ray c.in_ok-fallen.fallen some satisfied a.1) in
    told_at (ap (λ (is : Bool). behind_bound current c.args.which is) (spent ∙ sym c.was_spent.ensures))
    (told_shown _ (printed c.args.wanted.cert lines) (bound_text c.args.which value) (bound_may of current c.args.which c.args.row.now lines value same a.0 shows) grew c.in_ok-put_bound.ensures.puts)
