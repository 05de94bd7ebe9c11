-- What the check of a report answers and writes.
use Rattle.std.specs.Prelude.{◌≡◌, ℕ, List, ◌++◌, codes}
use Rattle.std.specs.Prelude.{decimal}
use Rattle.job_base.specs.declared.answer.Answer.{Answer}
use Rattle.job_base.specs.declared.answer.Answer.TheVariants.{AllPass, SomeFail, Inconsistent, Undecided, CheckRefused, DesignRefused}
use Rattle.drawn_networks.specs.Drawn.{Drawn}
use Rattle.right_report.specs.Texts.{IsAcceptedText, IsRefusedText}
use Rattle.job_check.specs.declared.check.Checked.{Checked}
use Rattle.job_check.specs.declared.check.Checked.TheVariants.{Accepted, Refused}

-- the bytes are accepted, or refused at a line
abbrev pub IsCheckOf : Drawn → List ℕ → Checked → Type 0
IsCheckOf drawn bytes Accepted = IsAcceptedText drawn bytes
IsCheckOf drawn bytes (Refused line) = IsRefusedText drawn bytes line

-- the line that says so
abbrev pub accepted_text : List ℕ
accepted_text = codes "report accepted\n"

abbrev pub refused_text : ℕ → List ℕ
refused_text line = codes "report refused at line " ++ (decimal line ++ codes "\n")

-- what is answered and written for bytes that are accepted, or refused at a line
abbrev pub AnswersBy : Type 0 → (ℕ → Type 0) → Answer → List ℕ → Type 0
AnswersBy Accepts Refuses AllPass text = Accepts × (text ≡ accepted_text)
AnswersBy Accepts Refuses SomeFail text = ⊥
AnswersBy Accepts Refuses Inconsistent text = ⊥
AnswersBy Accepts Refuses Undecided text = ⊥
AnswersBy Accepts Refuses CheckRefused text = (line : ℕ) × Refuses line × (text ≡ refused_text line)
AnswersBy Accepts Refuses DesignRefused text = ⊥

-- what the job answers and writes
abbrev pub AnswersCheck : Drawn → List ℕ → Answer → List ℕ → Type 0
AnswersCheck drawn bytes answer text = AnswersBy (IsAcceptedText drawn bytes) (IsRefusedText drawn bytes) answer text
