-- What the word at the end of a text says of its network.
use Rattle.std.proofs.Common.{◌≡◌, ◌<◌, ◌+◌, ◌||◌, ℕ, Bool, true, false, List, [], ◌∷◌, refl, sym, subst}
use Rattle.event_graph.specs.Bounds.{IsInconsistent}
use Rattle.falling.specs.Cap.{enough_turns}
use Rattle.falling.specs.declared.line.FallLine.{FallLine}
use Rattle.job_base.specs.declared.answer.Answer.TheVariants as answers
use Rattle.slack_report.specs.declared.words.EndWord.{EndWord}
use Rattle.slack_report.specs.declared.words.EndWord.TheVariants.{Fail, Inconsistent, Pass, Undecided}
use Rattle.slack_report.specs.declared.words.Which.{Which}
use Rattle.slack_report.specs.declared.words.Which.TheVariants.{Max, Min}
use Rattle.drawn_networks.specs.declared.row.Row.{Row}
use Rattle.job_base.specs.Ending.{answer_of}
use Rattle.job_fall.specs.Fall.{Job, PieceMayFollow, TextState, PiecesLead, FallRow, at_bound, at_end, at_finding, at_last, at_row, at_rows, before_rows, behind_bound, behind_finding, is_spent}
use Rattle.job_fall.specs.Shows.{IsFallBound, IsFinding}
use Rattle.job_fall.specs.Text.{FallBound, Finding, bound_spent, closed, consistent, finding_spent, inconsistent, unbounded}
use Rattle.job_fall.specs.Laws.{InconsistentHasNoTimes, UndecidedHasFewTurns}

abbrev Few : Job → Type 0
Few job = job.turns < enough_turns job.drawn.net

-- what the word at the end says
record IsEarned (job : Job) (word : EndWord) : Type 0 where
  few : word ≡ Undecided → Few job
  none : word ≡ Inconsistent → IsInconsistent job.drawn.net

-- what is known at a state: if the turns of a bound were spent, they were too few. At the end, what the word says of the network is true
abbrev IsKnown : Job → TextState → Type 0
IsKnown job at_finding = Unit {0}
IsKnown job at_rows = Unit {0}
IsKnown job (at_row current) = current.spent ≡ true → Few job
IsKnown job (at_bound current which) = current.spent ≡ true → Few job
IsKnown job (at_end word) = IsEarned job word
IsKnown job (at_last word) = IsEarned job word

known_finding : (job : Job) (lines : List FallLine) (found : Finding) → IsFinding job.view job.drawn.net job.turns lines found → IsKnown job (behind_finding found)
known_finding job lines (consistent list) shows = tt
known_finding job lines inconsistent shows = record { few = λ e. absurd (cc e); none = λ e. shows.none }
known_finding job lines finding_spent shows = record { few = λ e. shows.few; none = λ e. absurd (cc e) }

known_rows : (job : Job) (spent : Bool) (number : ℕ) (rows : List Row) → (spent ≡ true → Few job) → IsKnown job (before_rows spent number rows)
known_rows job true number [] few = record { few = λ e. few refl; none = λ e. absurd (cc e) }
known_rows job false number [] few = record { few = λ e. absurd (cc e); none = λ e. absurd (cc e) }
known_rows job spent number (r ∷ later) few = few

spent_bound : (job : Job) (which : Which) (r : Row) (lines : List FallLine) (value : FallBound) (spent : Bool) → IsFallBound job.view job.drawn.net job.turns which r lines value → (spent ≡ true → Few job)
    → (spent || is_spent value) ≡ true → Few job
spent_bound job which r lines value true shows few e = few refl
spent_bound job which r lines (closed number list) false shows few e = absurd (cc e)
spent_bound job which r lines (unbounded list set) false shows few e = absurd (cc e)
spent_bound job which r lines bound_spent false shows few e = shows.few

known_bound : (job : Job) (current : FallRow) (which : Which) (lines : List FallLine) (value : FallBound) → IsFallBound job.view job.drawn.net job.turns which current.row lines value → (current.spent ≡ true → Few job)
    → IsKnown job (behind_bound current which (is_spent value))
known_bound job current Max lines value shows few = spent_bound job Max current.row lines value current.spent shows few
known_bound job current Min lines value shows few = known_rows job (current.spent || is_spent value) (current.number + 1) current.later (spent_bound job Min current.row lines value current.spent shows few)

known_next : (job : Job) (here next : TextState) (piece : List ℕ) → IsKnown job here → PieceMayFollow job here piece next → IsKnown job next
known_next job at_finding next piece known (lines, few, found, shows, text, e) = subst (IsKnown job) (sym e) (known_finding job lines found shows)
known_next job at_rows next piece known (text, e) = subst (IsKnown job) (sym e) (known_rows job false 0 job.drawn.rows (λ e. absurd (cc e)))
known_next job (at_row current) next piece known (text, e) = subst (IsKnown job) (sym e) known
known_next job (at_bound current which) next piece known (lines, few, value, shows, text, e) = subst (IsKnown job) (sym e) (known_bound job current which lines value shows known)
known_next job (at_end word) next piece known (text, e) = subst (IsKnown job) (sym e) known
known_next job (at_last word) next piece known may = absurd may

known_last : (job : Job) (here last : TextState) (pieces : List (List ℕ)) → IsKnown job here → PiecesLead job here pieces last → IsKnown job last
known_last job here last [] known e = subst (IsKnown job) e known
known_last job here last (piece ∷ pieces) known (next, may, rest) = known_last job next last pieces (known_next job here next piece known may) rest

undecided_word : (word : EndWord) → answers.Undecided ≡ answer_of word → word ≡ Undecided
undecided_word Pass e = absurd (cc e)
undecided_word Fail e = absurd (cc e)
undecided_word Inconsistent e = absurd (cc e)
undecided_word Undecided e = refl

inconsistent_word : (word : EndWord) → answers.Inconsistent ≡ answer_of word → word ≡ Inconsistent
inconsistent_word Pass e = absurd (cc e)
inconsistent_word Fail e = absurd (cc e)
inconsistent_word Inconsistent e = refl
inconsistent_word Undecided e = absurd (cc e)

pub undecided_has_few_turns : UndecidedHasFewTurns
undecided_has_few_turns drawn turns cert text a =
    (known_last (record { drawn = drawn; view = a.view; turns = turns; cert = cert }) at_finding (at_last a.word) a.pieces tt a.reads).few (undecided_word a.word a.is_answer)

pub inconsistent_has_no_times : InconsistentHasNoTimes
inconsistent_has_no_times drawn turns cert text a =
    (known_last (record { drawn = drawn; view = a.view; turns = turns; cert = cert }) at_finding (at_last a.word) a.pieces tt a.reads).none (inconsistent_word a.word a.is_answer)
