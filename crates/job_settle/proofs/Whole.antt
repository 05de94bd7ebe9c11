-- The whole text of the job.
use Rattle.std.proofs.Common.{◌≡◌, ℕ, Bool, List, refl}
use Rattle.std.specs.Prelude.{OnErr, Result, Ok, Err}
use Rattle.itv_base.specs.Outside.{CutShort, SinkState}
use Rattle.drawn_networks.specs.Drawn.{Drawn}
use Rattle.job_base.specs.Ending.{answer_of}
use Rattle.job_base.specs.declared.answer.Answer.{Answer}
use Rattle.job_settle.specs.declared.finding.Finding.{Finding}
use Rattle.job_settle.specs.declared.row.RowFound.{RowFound}
use Rattle.job_settle.specs.Answers.{AreFound, HaveLinesWithin, IsFinding}
use Rattle.job_settle.specs.Settle.{AnswersSettle}
use Rattle.job_settle.specs.Text.{ending_of, settle_text}
use Rattle.job_base.specs.JobWrote.{Answered}

module _ (drawn : Drawn) (turns : ℕ) (cert : Bool) (finding : Finding) (found : List RowFound) (f : IsFinding cert drawn.net finding)
    (a : AreFound cert drawn.net drawn.rows finding found) (w : HaveLinesWithin turns finding found) where
  -- the text reports what was found
  pub answers_settle : (answer : Answer) → answer ≡ answer_of (ending_of drawn.rows finding found) → AnswersSettle drawn turns cert answer (settle_text drawn cert finding found)
  answers_settle answer is = record { finding = finding; found = found; is_finding = f; are_found = a; within = w; is_text = refl; is_answer = is }

  -- and a front of the text begins it
  pub begins_settle : {B E : Type 0} (result : Result B E) (old new : SinkState) → CutShort old new (settle_text drawn cert finding found)
      → OnErr result ((text : List ℕ) × Answered (AnswersSettle drawn turns cert) text × CutShort old new text)
  begins_settle (Ok x) old new cut = tt
  begins_settle (Err e) old new cut = (settle_text drawn cert finding found, (answer_of (ending_of drawn.rows finding found), answers_settle _ refl), cut)
