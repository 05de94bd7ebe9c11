-- What a job answers that goes on with the answer of another part.
use Rattle.std.proofs.Common.{◌≡◌, ℕ, List, Result, Ok, Err, IsErrAnd}
use Rattle.itv_base.specs.Outside.{SinkState}
use Rattle.job_base.specs.JobWrote.{JobWrote}
use Rattle.job_base.specs.declared.unanswered.Unanswered.{Unanswered}
use Rattle.job_base.specs.declared.unanswered.Unanswered.TheVariants.{PutFailed, NoMemory}

module _ {A B : Type 0} (Answers : A → List ℕ → Type 0) (Others : B → List ℕ → Type 0) (Begins : List ℕ → Type 0) where
  -- there is no answer
  stop_as : (old new : SinkState) (e : Unanswered) → JobWrote Answers Begins old new (Err e) → JobWrote Others Begins old new (Err e)
  stop_as old new PutFailed h = h
  stop_as old new NoMemory h = h

  pub works_up : (old new : SinkState) (e : Unanswered) (r : Result B Unanswered) → IsErrAnd r (λ x. x ≡ e) → JobWrote Answers Begins old new (Err e) → JobWrote Others Begins old new r
  works_up old new e (Ok y) is h = absurd is
  works_up old new e (Err x) is h = rw is (stop_as old new e h)

  -- each answer is also an answer of the other kind
  pub works_as : (old new : SinkState) (y : B) (x : A) → ((text : List ℕ) → Answers x text → Others y text) → JobWrote Answers Begins old new (Ok x) → JobWrote Others Begins old new (Ok y)
  works_as old new y x more h = (h.0, more h.0 h.1, h.2)

-- what goes with an answer also goes with it in the other way
pub works_also : {A : Type 0} (Answers Others : A → List ℕ → Type 0) (Begins : List ℕ → Type 0) (old new : SinkState) (r : Result A Unanswered) → ((x : A) (text : List ℕ) → Answers x text → Others x text)
    → JobWrote Answers Begins old new r → JobWrote Others Begins old new r
works_also Answers Others Begins old new (Ok x) more h = works_as Answers Others Begins old new x x (more x) h
works_also Answers Others Begins old new (Err e) more h = stop_as Answers Others Begins old new e h
