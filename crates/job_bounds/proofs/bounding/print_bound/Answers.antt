use Rattle.std.proofs.Common.{◌≡◌, ◌<◌, ℕ, ℤ, [], sym, subst}
use Rattle.branch.specs.Answers.{IsGreatestAnswer, evidence}
use Rattle.branch.specs.Needed.{IsNeededToBound}
use Rattle.branch.specs.Work.{IsKnownReach}
use Rattle.event_graph.specs.Reading.{AtEachSplit}
use Rattle.event_graph.specs.Times.{separation}
use Rattle.right_report.proofs.Leading.{reads_bound_proof, stopped_proof}
use Rattle.requirements.specs.declared.bound.Bound.{Bound}
use Rattle.right_report.specs.Right.ReportState.{at_bound}
use Rattle.event_graph.specs.declared.pair.Pair.{Pair}
use Rattle.slack_report.specs.declared.words.Which.{Which}
use Rattle.slack_report.specs.declared.words.Which.TheVariants as sorts
use Rattle.job_bounds.specs.Step.Witness.{IsWitness, searched_pair}
use Rattle.job_bounds.specs.Step.Searched.{search_of, sized}
use Rattle.job_bounds.specs.Written.{printed}
use Rattle.job_bounds.proofs.Answering.{has_times}
use Rattle.job_bounds.proofs.Findings.{known_apart}
use Rattle.job_bounds.proofs.Putting.{answer_fact}
use Rattle.job_bounds.proofs.WriterSteps.{goes_up, stops_then, told_proof, told_then}
use Rattle.job_bounds.proofs.bounding.print_bound.Goals as goal

-- both events of the searched pair are there
pair_within : (which : Which) (pair searched : Pair) (events : ℕ) → searched ≡ searched_pair which pair → pair.from.0 < events → pair.to.0 < events → (searched.from.0 < events) × (searched.to.0 < events)
pair_within sorts.Max pair searched events is from to = subst (λ (p : Pair). (p.from.0 < events) × (p.to.0 < events)) (sym is) (from, to)
pair_within sorts.Min pair searched events is from to = subst (λ (p : Pair). (p.from.0 < events) × (p.to.0 < events)) (sym is) (to, from)

pub keep-requires-clause-answers : goal.keep-requires-clause-answers
keep-requires-clause-answers g c =
    let current = c.in_ok-answer.ensures.answers in
    (c.args.wanted.budget, current.0, subst (λ (p : Pair). IsGreatestAnswer (search_of c.args.net.now p c.args.wanted.budget) (evidence current.0 c.greatest_of.new.work) c.in_ok-answer.answer) c.searched_pair.ensures.pair current.2.says)

pub keep-requires-clause-reached : goal.keep-requires-clause-reached
keep-requires-clause-reached g c = subst (λ (p : Pair). IsKnownReach (separation c.greatest_of.new.work.times p.from p.to)) c.searched_pair.ensures.pair c.in_ok-answer.ensures.reached

pub bound_of-value-requires : goal.bound_of-value-requires
bound_of-value-requires g c = record { times = has_times _ _ _ c.in_ok-answer.ensures.answers.2.says c.in_ok-answer.ensures.close }

pub returns-in_err-answer-clause-goes : goal.returns-in_err-answer-clause-goes
returns-in_err-answer-clause-goes g c = λ basis drawn current coming known found of.
    let claims = sized c.args.net.now c.args.wanted.budget c.args.wanted.cert basis in
    let cut = c.in_err-answer.ensures.cut in
    goes_up _ _ c.from_residual.result c.from_residual.ensures.0
    (stopped_proof (at_bound current coming cut.0) cut.0 (reads_bound_proof claims drawn current coming [] cut.0) cut.1)

pub returns-in_err-put_bound-clause-goes : goal.returns-in_err-put_bound-clause-goes
returns-in_err-put_bound-clause-goes g c = λ basis drawn current coming known found of.
    let claims = sized c.args.net.now c.args.wanted.budget c.args.wanted.cert basis in
    let answers = c.in_ok-answer.ensures.answers in
    let lines = printed c.args.wanted.cert answers.0 in
    let pair = c.searched_pair.result in
    let within = pair_within c.args.extreme.which c.args.extreme.pair pair c.args.net.now.events c.searched_pair.ensures.pair c.requires.from c.requires.to in
    let apart = known_apart c.args.net.now c.args.work.now.known basis pair.from pair.to c.requires.known within.0 within.1 known in
    let needed = subst (λ (v : ℤ). AtEachSplit c.args.net.now (IsNeededToBound c.args.net.now pair.from pair.to v) answers.0) apart answers.2.needed in
    goes_up _ _ c.from_residual-in_err-put_bound.result c.from_residual-in_err-put_bound.ensures.0
    (stops_then (told_proof (at_bound current coming lines) lines (reads_bound_proof claims drawn current coming [] lines) answers.1)
    (c.in_err-put_bound.ensures.goes c.args.net.now c.args.wanted.budget c.args.wanted.cert basis drawn current coming lines c.args.extreme.pair of
    (answer_fact c.args.net.now c.args.wanted.budget c.args.wanted.cert basis current coming c.args.extreme.pair c.args.extreme.which (evidence answers.0 c.greatest_of.new.work) c.in_ok-answer.answer c.bound_of-value.result c.searched_pair.result found of
    c.searched_pair.ensures.pair answers.2.says needed c.in_ok-answer.ensures.count.within_budget c.bound_of-value.ensures.bound c.in_ok-answer.ensures.close)
    (subst (λ (v : Bound). IsWitness c.args.net.now c.args.extreme.pair c.args.extreme.which v c.keep.new.kept.times.items c.keep.new.kept.set.items) (sym c.bound_of-value.ensures.bound) c.keep.ensures.kept)))

pub returns-clause-goes : goal.returns-clause-goes
returns-clause-goes g c = λ basis drawn current coming known found of.
    let claims = sized c.args.net.now c.args.wanted.budget c.args.wanted.cert basis in
    let answers = c.in_ok-answer.ensures.answers in
    let lines = printed c.args.wanted.cert answers.0 in
    let pair = c.searched_pair.result in
    let within = pair_within c.args.extreme.which c.args.extreme.pair pair c.args.net.now.events c.searched_pair.ensures.pair c.requires.from c.requires.to in
    let apart = known_apart c.args.net.now c.args.work.now.known basis pair.from pair.to c.requires.known within.0 within.1 known in
    let needed = subst (λ (v : ℤ). AtEachSplit c.args.net.now (IsNeededToBound c.args.net.now pair.from pair.to v) answers.0) apart answers.2.needed in
    told_then (told_proof (at_bound current coming lines) lines (reads_bound_proof claims drawn current coming [] lines) answers.1)
    (c.in_ok-put_bound.ensures.goes c.args.net.now c.args.wanted.budget c.args.wanted.cert basis drawn current coming lines c.args.extreme.pair of
    (answer_fact c.args.net.now c.args.wanted.budget c.args.wanted.cert basis current coming c.args.extreme.pair c.args.extreme.which (evidence answers.0 c.greatest_of.new.work) c.in_ok-answer.answer c.bound_of-value.result c.searched_pair.result found of
    c.searched_pair.ensures.pair answers.2.says needed c.in_ok-answer.ensures.count.within_budget c.bound_of-value.ensures.bound c.in_ok-answer.ensures.close)
    (subst (λ (v : Bound). IsWitness c.args.net.now c.args.extreme.pair c.args.extreme.which v c.keep.new.kept.times.items c.keep.new.kept.set.items) (sym c.bound_of-value.ensures.bound) c.keep.ensures.kept))
