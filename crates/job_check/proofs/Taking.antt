-- A checker that takes the proof lines of a report.
use Rattle.std.proofs.Common.{◌≡◌, ◌+◌, ◌≤◌, ℕ, Bool, true, false, IsTrue, List, [], ◌∷◌, ◌++◌, length, drop, Result, Ok, Err, Option, Some, None, slice_get, refl, sym, ap, subst, ◌∙◌, arith, append-nil, append_assoc, length-append}
use Rattle.std.proofs.Math.ListN.{drop_of_length-le}
use Rattle.std.specs.Bool.{⊤}
use Rattle.std.specs.Result.{OnOk, is_err}
use Rattle.event_graph.specs.declared.line.Line.{Line}
use Rattle.slack_report.specs.Items.{item_view}
use Rattle.slack_report.specs.declared.item.Item.{Item}
use Rattle.slack_report.specs.declared.item.Item.TheVariants as given
use Rattle.event_graph.specs.Network.{Net}
use Rattle.event_graph.specs.Proof.{Case, ProofGoal, ProofLine}
use Rattle.event_graph.specs.Proof as proofs
use Rattle.cert_checker.specs.Checking.{CheckerView, IsProofCheckerFor, AnswersFault, open_cases}
use Rattle.cert_checker.specs.declared.check_fault.CheckFault.{CheckFault}
use Rattle.cert_checker.specs.Faults.{behind_line, fault_of_line}
use Rattle.cert_checker.proofs.Reading.{no_fault_is_read}
use Rattle.itv_base.proofs.Lists.{drop-read}
use Rattle.slack_report.specs.Entry.{Entry, proof}
use Rattle.job_check.specs.Step.Groups.{AreTaken, IsOneRefused, proof_front}
use Rattle.job_check.specs.Step.Stages.{is_proof}

-- ---- the proof lines from a number on

front_one : (line : Entry) (rest : List Entry) → is_proof line ≡ true → length (proof_front (line ∷ rest)) ≡ length (proof_front rest) + 1
front_one (proof line) rest is = omega arith
front_one line rest is = absurd (cc is)

pub front_more : (lines : List Entry) (number : ℕ) (line : Entry) → slice_get lines number ≡ Some line → is_proof line ≡ true
    → number + length (proof_front (drop number lines)) ≡ (number + 1) + length (proof_front (drop (number + 1) lines))
front_more lines number line is one =
    let more : length (proof_front (drop number lines)) ≡ length (proof_front (drop (number + 1) lines)) + 1 =
    ap (λ xs. length (proof_front xs)) (drop-read lines number line is) ∙ front_one line (drop (number + 1) lines) one in
    omega arith

pub front_stops : (lines : List Entry) (number : ℕ) → proof_front (drop number lines) ≡ [] → number + length (proof_front (drop number lines)) ≡ number
front_stops lines number none = let empty : length (proof_front (drop number lines)) ≡ 0 = ap length none in omega arith

-- the lines from one number to another are taken
pub record IsTaking (net : Net) (goal : ProofGoal) (lines : List Entry) (start number room : ℕ) (checker : CheckerView) : Type 0 where
  pub before : List ProofLine
  pub parts : proof_front (drop start lines) ≡ before ++ proof_front (drop number lines)
  pub count : number ≡ start + length before
  pub reads : proofs.ProofLeaves net goal ([] ∷ []) before (open_cases net checker)
  pub stands : IsProofCheckerFor net checker
  pub same_goal : checker.goal ≡ goal
  pub same_room : checker.room ≡ room

pub taking_none : (net : Net) (goal : ProofGoal) (lines : List Entry) (start room : ℕ) (checker : CheckerView) → open_cases net checker ≡ [] ∷ [] → IsProofCheckerFor net checker → checker.goal ≡ goal
    → room ≡ length net.constraints → IsTaking net goal lines start start room checker
taking_none net goal lines start room checker opened stands is_goal is_room = record {
  before = [];
  parts = refl;
  count = omega arith;
  reads = sym opened;
  stands = stands;
  same_goal = is_goal;
  same_room = stands.room ∙ sym is_room;
}

front_proof : (lines : List Entry) (number : ℕ) (line : ProofLine) → slice_get lines number ≡ Some (proof line) → proof_front (drop number lines) ≡ line ∷ proof_front (drop (number + 1) lines)
front_proof lines number line is = ap proof_front (drop-read lines number (proof line) is)

front_none : (line : Entry) (rest : List Entry) → is_proof line ≡ false → proof_front (line ∷ rest) ≡ []
front_none (proof line) rest other = absurd (cc other)
front_none line rest other = refl

pub none_at_other : (lines : List Entry) (number : ℕ) (line : Entry) → slice_get lines number ≡ Some line → is_proof line ≡ false → proof_front (drop number lines) ≡ []
none_at_other lines number line is other = ap proof_front (drop-read lines number line is) ∙ front_none line (drop (number + 1) lines) other

pub none_at_end : (lines : List Entry) (number : ℕ) → length lines ≤ number → proof_front (drop number lines) ≡ []
none_at_end lines number past = ap proof_front (drop_of_length-le lines past)

module _ (net : Net) (goal : ProofGoal) (lines : List Entry) (start number room : ℕ) (checker : CheckerView) (t : IsTaking net goal lines start number room checker) where
  at_goal : (line : ProofLine) (o : Option CheckFault) → fault_of_line net checker.goal (open_cases net checker) line ≡ o → fault_of_line net goal (open_cases net checker) line ≡ o
  at_goal line o is = subst (λ g. fault_of_line net g (open_cases net checker) line ≡ o) t.same_goal is

  pub taking_more : (line : ProofLine) (new : CheckerView) → slice_get lines number ≡ Some (proof line) → fault_of_line net checker.goal (open_cases net checker) line ≡ None
      → open_cases net new ≡ behind_line net (open_cases net checker) line → IsProofCheckerFor net new → new.goal ≡ checker.goal → IsTaking net goal lines start (number + 1) room new
  taking_more line new is fine behind stands is_goal = record {
    before = t.before ++ line ∷ [];
    parts = t.parts ∙ (ap (λ xs. t.before ++ xs) (front_proof lines number line is) ∙ sym (append_assoc t.before (line ∷ []) (proof_front (drop (number + 1) lines))));
    count = (let sum : number ≡ start + length t.before = t.count in let more : length (t.before ++ line ∷ []) ≡ length t.before + 1 = length-append t.before (line ∷ []) in omega arith);
    reads = (no_fault_is_read net goal t.before (open_cases net checker) line (open_cases net new) t.reads).1 (at_goal line None fine, sym behind);
    stands = stands;
    same_goal = is_goal ∙ t.same_goal;
    same_room = stands.room ∙ (sym t.stands.room ∙ t.same_room);
  }

  pub taking_refused : (line : ProofLine) (fault : CheckFault) → slice_get lines number ≡ Some (proof line) → fault_of_line net checker.goal (open_cases net checker) line ≡ Some fault
      → IsOneRefused net goal (proof_front (drop start lines)) start number
  taking_refused line fault is wrong = record {
    before = t.before;
    refused = line;
    more = proof_front (drop (number + 1) lines);
    parts = t.parts ∙ ap (λ xs. t.before ++ xs) (front_proof lines number line is);
    is_number = t.count;
    taken = (open_cases net checker, t.reads);
    fails = λ takes.
        let fine : fault_of_line net goal (open_cases net checker) line ≡ None = ((no_fault_is_read net goal t.before (open_cases net checker) line takes.0 t.reads).0 takes.1).0 in
        let clash : Some fault ≡ None = sym (at_goal line (Some fault) wrong) ∙ fine in absurd (cc clash);
  }

  pub taking_done : (whole : Bool) → proof_front (drop number lines) ≡ [] → ((IsTrue whole → open_cases net checker ≡ []) × (open_cases net checker ≡ [] → IsTrue whole))
      → AreTaken net goal (proof_front (drop start lines)) whole
  taking_done whole none is_whole =
      let all : t.before ≡ proof_front (drop start lines) = sym (t.parts ∙ (ap (λ xs. t.before ++ xs) none ∙ append-nil t.before)) in
      record {
        cases = open_cases net checker;
        reads = subst (λ xs. proofs.ProofLeaves net goal ([] ∷ []) xs (open_cases net checker)) all t.reads;
        is_whole = is_whole;
      }

-- ---- what a call of the checker returned

pub tells_none : (r : Result ⊤ CheckFault) (fault : Option CheckFault) → is_err r ≡ false → AnswersFault r fault → fault ≡ None
tells_none (Ok x) fault is current = current
tells_none (Err e) fault is current = absurd (cc is)

pub tells_some : (r : Result ⊤ CheckFault) (fault : Option CheckFault) → is_err r ≡ true → AnswersFault r fault → (e : CheckFault) × (fault ≡ Some e)
tells_some (Ok x) fault is current = absurd (cc is)
tells_some (Err e) fault is current = (e, current)

pub when_ok : (r : Result ⊤ CheckFault) (P : Type 0) → is_err r ≡ false → OnOk r P → P
when_ok (Ok x) P is h = h
when_ok (Err e) P is h = absurd (cc is)

pub other_proof : (item : Item) → ((line : Line) → item ≡ given.Proof line → ⊥) → is_proof (item_view item) ≡ false
other_proof (given.Proof line) other = absurd (other line refl)
other_proof item other = refl
