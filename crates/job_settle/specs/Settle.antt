-- What job settle answers and writes.
use Rattle.std.specs.Prelude.{◌≡◌, ℕ, Bool, List}
use Rattle.drawn_networks.specs.Drawn.{Drawn}
use Rattle.job_base.specs.Ending.{answer_of}
use Rattle.job_base.specs.declared.answer.Answer.{Answer}
use Rattle.job_settle.specs.declared.finding.Finding.{Finding}
use Rattle.job_settle.specs.declared.row.RowFound.{RowFound}
use Rattle.job_settle.specs.Answers.{AreFound, HaveLinesWithin, IsFinding}
use Rattle.job_settle.specs.Text.{ending_of, settle_text}
use Rattle.job_base.specs.JobWrote.{Answered}

-- The text reports what is found of the network and of each row, where each search may take so many turns. All of it is right, and it has proofs if
-- they are wanted. The answer is the answer for the word at the end.
pub record AnswersSettle (drawn : Drawn) (turns : ℕ) (cert : Bool) (answer : Answer) (text : List ℕ) : Type 0 where
  pub finding : Finding
  pub found : List RowFound
  pub is_finding : IsFinding cert drawn.net finding
  pub are_found : AreFound cert drawn.net drawn.rows finding found
  pub within : HaveLinesWithin turns finding found
  pub is_text : text ≡ settle_text drawn cert finding found
  pub is_answer : answer ≡ answer_of (ending_of drawn.rows finding found)

-- the text is a whole text of the job, for some number of turns
abbrev pub IsSettleText : Drawn → Bool → List ℕ → Type 0
IsSettleText drawn cert text = (turns : ℕ) × Answered (AnswersSettle drawn turns cert) text
