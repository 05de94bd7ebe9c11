-- Laws of the texts of job fall, over the definitions alone.
use Rattle.std.specs.Prelude.{◌<◌, ℕ, Bool, List}
use Rattle.event_graph.specs.Bounds.{IsInconsistent}
use Rattle.falling.specs.Cap.{enough_turns}
use Rattle.job_base.specs.declared.answer.Answer.TheVariants.{Inconsistent, Undecided}
use Rattle.drawn_networks.specs.Drawn.{Drawn}
use Rattle.job_fall.specs.Fall.{AnswersFall}

-- an answer is undecided only if there are fewer turns than are enough
abbrev pub UndecidedHasFewTurns : Type 0
UndecidedHasFewTurns = (drawn : Drawn) (turns : ℕ) (cert : Bool) (text : List ℕ) → AnswersFall drawn turns cert Undecided text → turns < enough_turns drawn.net

-- an answer is inconsistent only if no times satisfy the network
abbrev pub InconsistentHasNoTimes : Type 0
InconsistentHasNoTimes = (drawn : Drawn) (turns : ℕ) (cert : Bool) (text : List ℕ) → AnswersFall drawn turns cert Inconsistent text → IsInconsistent drawn.net
