-- Where a checker of proofs stands.
use Rattle.std.specs.Prelude.{◌≡◌, ℕ, Bool, true, false, List, [], length, Option, Some, None, Result, Ok, Err}
use Rattle.event_graph.specs.Cases.{IsCase}
use Rattle.event_graph.specs.Cases as cases
use Rattle.event_graph.specs.Network.{Net}
use Rattle.event_graph.specs.Proof.{Bound, Case, Nothing, ProofGoal}
use Rattle.cert_checker.specs.declared.check_fault.CheckFault.{CheckFault}
use Rattle.cert_checker.specs.declared.goal.Goal.{Goal}
use Rattle.cert_checker.specs.declared.goal.Goal.TheVariants as goals

abbrev pub goal_view : Goal → ProofGoal
goal_view (goals.Bound from to value) = Bound from to value
goal_view goals.Nothing = Nothing

-- its goal, whether a case is open, the choices of the first open case, and how many choices it has room for
pub record CheckerView : Type 0 where
  pub goal : ProofGoal
  pub is_open : Bool
  pub chosen : Case
  pub room : ℕ

abbrev pub open_by : Net → Bool → Case → List Case
open_by net true chosen = cases.open_cases net chosen
open_by net false chosen = []

-- the cases that are open
abbrev pub open_cases : Net → CheckerView → List Case
open_cases net checking = open_by net checking.is_open checking.chosen

-- a checker stands in a proof for a network: its room and its choices fit the network
pub record IsProofCheckerFor (net : Net) (checking : CheckerView) : Type 0 where
  pub room : checking.room ≡ length net.constraints
  pub case : IsCase net checking.chosen

-- the result is this fault, or a value if there is no fault
abbrev pub AnswersFault : {A : Type 0} → Result A CheckFault → Option CheckFault → Type 0
AnswersFault (Ok x) fault = fault ≡ None
AnswersFault (Err e) fault = fault ≡ Some e
