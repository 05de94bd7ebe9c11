-- What job files answers and writes.
use Rattle.std.specs.Prelude.{◌≡◌, ℕ, List}
use Rattle.std.specs.List.{flat_map}
use Rattle.line_words.specs.Lines.{ended}
use Rattle.job_base.specs.declared.answer.Answer.{Answer}
use Rattle.job_base.specs.declared.answer.Answer.TheVariants.{AllPass}

-- a line for each name, in order
abbrev pub files_text : List (List ℕ) → List ℕ
files_text names = flat_map ended names

-- what the job answers and writes, given the names of the files
abbrev pub AnswersFiles : List (List ℕ) → Answer → List ℕ → Type 0
AnswersFiles names answer text = (answer ≡ AllPass) × (text ≡ files_text names)
