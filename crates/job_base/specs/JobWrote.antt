-- What a job answers, and what it writes.
use Rattle.std.specs.Prelude.{◌≡◌, ℕ, List, Result, Ok, Err}
use Rattle.itv_base.specs.Outside.{CutShort, SinkState, grown}
use Rattle.job_base.specs.declared.unanswered.Unanswered.{Unanswered}
use Rattle.job_base.specs.declared.unanswered.Unanswered.TheVariants.{PutFailed, NoMemory}

-- some answer goes with a text
abbrev pub Answered : {A : Type 0} → (A → List ℕ → Type 0) → List ℕ → Type 0
Answered {A = A} Answers text = (answer : A) × Answers answer text

-- a job that has an answer wrote a text that goes with it; if a put failed, the job wrote a front of a text that it may begin; if memory ran out,
-- it wrote nothing
abbrev pub JobWrote : {A : Type 0} → (A → List ℕ → Type 0) → (List ℕ → Type 0) → SinkState → SinkState → Result A Unanswered → Type 0
JobWrote Answers Begins old new (Ok answer) = (text : List ℕ) × Answers answer text × (new ≡ grown old text)
JobWrote Answers Begins old new (Err PutFailed) = (text : List ℕ) × Begins text × CutShort old new text
JobWrote Answers Begins old new (Err NoMemory) = new ≡ old
