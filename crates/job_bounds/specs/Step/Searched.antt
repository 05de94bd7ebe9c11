-- What a search for a bound of a pair shows.
use Rattle.std.specs.Prelude.{ℕ, ℤ, neg_ℤ, List, [], Bool, Option, unwrap_or}
use Rattle.branch.specs.Answers.{IsGreatestAnswer, Evidence, Finds, PairSearch}
use Rattle.branch.specs.Needed.{IsNeededToBound, IsNeededToFind}
use Rattle.requirements.specs.declared.bound.Bound.{Bound}
use Rattle.requirements.specs.declared.consistency.Consistency.{Consistency}
use Rattle.event_graph.specs.Network.{Net}
use Rattle.event_graph.specs.Proof.{ProofLine}
use Rattle.event_graph.specs.Reading.{AtEachSplit}
use Rattle.event_graph.specs.Times.{shifted, time_of}
use Rattle.certificate.specs.Scribing.{SinkGrew, SinkWasCut}
use Rattle.itv_base.specs.Outside.{SinkState}
use Rattle.requirements.specs.Bounds.{HasTimes, reversed}
use Rattle.slack_report.specs.declared.words.Which.{Which}
use Rattle.slack_report.specs.declared.words.Which.TheVariants as sorts
use Rattle.right_report.specs.Right.Following.{LineClaims}
use Rattle.job_bounds.specs.Written.{printed, written}
use Rattle.event_graph.specs.declared.pair.Pair.{Pair}

-- the line claims of job bounds, with one more that follows from them: each number of a bound, its limit too, is below 2^61 in absolute value
abbrev pub sized : Net → ℕ → Bool → List ℤ → LineClaims
sized net most cert known = record (written net most cert known) {
  bound = λ found r coming lines value. (written net most cert known).bound found r coming lines value × HasTimes value;
}

-- the known times in the form in which they are printed: with event 0 at 0
abbrev pub printed_known : Option (List ℤ) → List ℤ
printed_known known = shifted (unwrap_or known []) (neg_ℤ (time_of (unwrap_or known []) (record { 0 = 0 })))

-- the search for the greatest separation of a pair
abbrev pub search_of : Net → Pair → ℕ → PairSearch
search_of net pair budget = record { net = net; from = pair.from; to = pair.to; budget = budget }

-- the bound of a pair from the answer of the search on its searched pair
abbrev pub bound_of : Which → Bound → Bound
bound_of sorts.Max answer = answer
bound_of sorts.Min answer = reversed answer

-- what a finding says of a network, given the lines of its search; each split of these lines was needed
pub record FindsBy (net : Net) (budget : ℕ) (lines : List ProofLine) (leaves : ℕ) (known : Option (List ℤ)) (found : Consistency) : Type 0 where
  pub says : Finds net budget lines leaves known found
  pub needed : AtEachSplit net (IsNeededToFind net) lines

-- what an answer says of a pair, given the lines of its search; each split of these lines was needed after a known separation
pub record AnswersSearch (search : PairSearch) (known : ℤ) (left : Evidence) (answer : Bound) : Type 0 where
  pub says : IsGreatestAnswer search left answer
  pub needed : AtEachSplit search.net (IsNeededToBound search.net search.from search.to known) left.lines

-- a search put the lines of its proof into a sink, if `cert` asks for them; the lines show something
abbrev pub WroteProof : Bool → SinkState → SinkState → (List ProofLine → Type 0) → Type 0
WroteProof cert old new Shows = (lines : List ProofLine) × SinkGrew old (printed cert lines) new × Shows lines

-- a put failed while a search printed the lines of its proof
abbrev pub WasCut : SinkState → SinkState → Type 0
WasCut old new = (lines : List ProofLine) × SinkWasCut old lines new
