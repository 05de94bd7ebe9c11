use Rattle.std.proofs.Common.{◌≡◌, ◌∙◌, false, sym}
use Rattle.std.proofs.lemmas.Bool.{MatchBool-at_false}
use Rattle.diff_bounds.proofs.OneMore.{HasFollowed, followed_runs, followed_then_runs, followed_then_settled, followed_waits, rest_settled}
use Rattle.diff_bounds.proofs.Parts.{runs_running}
use Rattle.diff_bounds.proofs.adding.fall_over.Goals as goal
use Rattle.diff_bounds.proofs.adding.fall_over.Goals.{After-follow}

followed : (c : After-follow) → c.follow.result ≡ false → HasFollowed c.args.net.now c.args.run c.args.arc c.args.trail.now c.follow.new.trail c.args.pending.now c.clear.new.self c.follow.new.pending
followed c goes_on = record { marks = c.clear.ensures.marks; falls = c.follow.ensures.falls; done = MatchBool-at_false {b = c.follow.result} _ _ goes_on c.follow.ensures.done }

pub returns-in_err-near-clause-settled : goal.returns-in_err-near-clause-settled
returns-in_err-near-clause-settled c = rest_settled c.args.net.now c.args.run c.args.arc c.args.trail.now _ c.requires.rest (sym c.label_in.ensures ∙ c.in_err-near.was)

pub fall-requires-clause-running : goal.fall-requires-clause-running
fall-requires-clause-running c =
    let at = (goal.at.fall-requires-clause-running c).After-follow in
    runs_running c.args.net.now c.args.run _ _ _ _ c.requires.running (followed_runs _ _ _ _ _ _ _ _ (followed at c.if-follow.false))

pub fall-requires-clause-waits : goal.fall-requires-clause-waits
fall-requires-clause-waits c =
    let at = (goal.at.fall-requires-clause-waits c).After-follow in followed_waits _ _ _ _ _ _ _ _ (followed at c.if-follow.false) c.requires.rest

pub returns-clause-runs : goal.returns-clause-runs
returns-clause-runs c =
    let at = (goal.at.returns-clause-runs c).After-follow in followed_then_runs _ _ _ _ _ _ _ _ _ _ (followed at c.if-follow.false) c.fall.ensures.runs

pub returns-clause-settled : goal.returns-clause-settled
returns-clause-settled c =
    let at = (goal.at.returns-clause-settled c).After-follow in followed_then_settled _ _ _ _ _ c.fall.new.trail _ _ _ _ (followed at c.if-follow.false) c.fall.ensures.settled
