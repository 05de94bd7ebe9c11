-- What job bounds answers, and when its budget may leave a search open.
use Rattle.std.specs.Prelude.{◌≡◌, ◌<◌, ℕ, Bool, List}
use Rattle.event_graph.specs.Edges.{cause_choices}
use Rattle.job_base.specs.declared.answer.Answer.{Answer}
use Rattle.job_base.specs.declared.answer.Answer.TheVariants.{Undecided}
use Rattle.drawn_networks.specs.Drawn.{Drawn}
use Rattle.job_base.specs.Ending.{answer_of}
use Rattle.job_bounds.specs.Reports.{Reports}
use Rattle.job_bounds.specs.declared.summary.Summary.{Summary}

-- an answer is undecided only if the budget of a search is below the number of cause choices
abbrev pub DecidesWithin : Drawn → ℕ → Answer → Type 0
DecidesWithin drawn budget answer = answer ≡ Undecided → budget < cause_choices drawn.net.constraints

-- what job bounds answers and writes: a report, the answer that its end gives, and that this is undecided only if the budget is too low
pub record AnswersBounds (drawn : Drawn) (budget : ℕ) (cert : Bool) (answer : Answer) (text : List ℕ) : Type 0 where
  pub summary : Summary
  pub reports : Reports drawn budget cert summary text
  pub is_answer : answer ≡ answer_of summary.end
  pub decides : DecidesWithin drawn budget answer
