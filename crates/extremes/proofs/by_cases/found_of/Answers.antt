use Rattle.std.proofs.Common.{◌∙◌, subst}
use Rattle.branch.specs.Answers.{IsGreatestAnswer, evidence}
use Rattle.extremes.proofs.Separating.{closed_found, open_found}
use Rattle.extremes.proofs.by_cases.found_of.Goals as goal

pub returns-in_ok-times-in-Closed : goal.returns-in_ok-times-in-Closed
returns-in_ok-times-in-Closed c = record {
  found = λ search lines answer sat close.
      let left = evidence lines c.args.work.now in
      closed_found search c.in-Closed.value left c.in_ok-times-in-Closed.times (c.in_ok-times-in-Closed.ensures.items ∙ c.times.ensures)
      (subst (IsGreatestAnswer search left) c.in-Closed.is answer) sat close;
}

pub returns-in-Within : goal.returns-in-Within
returns-in-Within c = record {
  found = λ search lines answer sat close.
      let left = evidence lines c.args.work.now in
      open_found search c.in-Within.limit c.in-Within.attained left (subst (IsGreatestAnswer search left) c.in-Within.is answer) sat close;
}
