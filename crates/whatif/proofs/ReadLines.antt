-- Lines of a proof that are read one after another.
use Rattle.std.proofs.Common.{◌≡◌, ◌+◌, ◌≤◌, ◌↔◌, ℕ, Bool, IsTrue, List, [], ◌∷◌, ◌++◌, length, take, drop, Option, Some, None, Result, Ok, Err, OnOk, slice_get, sym, ap, subst, ◌∙◌, append-nil}
use Rattle.std.specs.Prelude.{MatchBool, is_ok}
use Rattle.std.proofs.lemmas.List.{drop_more, take-append-drop, take_all}
use Rattle.std.proofs.lemmas.Option.{get_or_from_slice_get, slice_get_within}
use Rattle.event_graph.specs.Network.{Net}
use Rattle.event_graph.specs.Proof.{Case, IsProof, ProofGoal, ProofLine, ProofLeaves}
use Rattle.cert_checker.specs.Checking.{AnswersFault}
use Rattle.cert_checker.specs.Faults.{behind_line, fault_of_line}
use Rattle.cert_checker.specs.declared.check_fault.CheckFault.{CheckFault}
use Rattle.cert_checker.proofs.Reading.{lines_are_read_one_by_one, no_fault_is_read, reads_on}
use Rattle.itv_base.proofs.Lists.{take_get}

split_at : {A : Type 0} (xs : List A) (i : ℕ) (x : A) → slice_get xs i ≡ Some x → xs ≡ take i xs ++ x ∷ drop (i + 1) xs
split_at xs i x at =
    sym (take-append-drop i xs)
    ∙ ap (λ ys. take i xs ++ ys) (drop_more xs i x (slice_get_within xs i x at) ∙ ap (λ y. y ∷ drop (i + 1) xs) (get_or_from_slice_get xs i x x at))

-- a line without a fault is read
line_read : (net : Net) (goal : ProofGoal) (lines : List ProofLine) (k : ℕ) (line : ProofLine) (cases now : List Case) → slice_get lines k ≡ Some line
    → ProofLeaves net goal ([] ∷ []) (take k lines) cases → fault_of_line net goal cases line ≡ None → now ≡ behind_line net cases line
    → ProofLeaves net goal ([] ∷ []) (take (k + 1) lines) now
line_read net goal lines k line cases now at reads none behind =
    subst (λ ls. ProofLeaves net goal ([] ∷ []) ls now) (sym (take_get lines k line at)) ((no_fault_is_read net goal (take k lines) cases line now reads).1 (none, sym behind))

-- if a line has a fault, the lines are no proof
line_refused : (net : Net) (goal : ProofGoal) (lines : List ProofLine) (k : ℕ) (line : ProofLine) (cases : List Case) (fault : CheckFault) → slice_get lines k ≡ Some line
    → ProofLeaves net goal ([] ∷ []) (take k lines) cases → fault_of_line net goal cases line ≡ Some fault → IsProof net goal lines → ⊥
line_refused net goal lines k line cases fault at reads has proof =
    let whole : ProofLeaves net goal ([] ∷ []) (take k lines ++ line ∷ drop (k + 1) lines) [] = subst (λ ls. ProofLeaves net goal ([] ∷ []) ls []) (split_at lines k line at) proof in
    let rest : ProofLeaves net goal cases (line ∷ drop (k + 1) lines) [] = reads_on net goal (take k lines) (line ∷ drop (k + 1) lines) ([] ∷ []) cases [] reads whole in
    let none : fault_of_line net goal cases line ≡ None = ((lines_are_read_one_by_one net goal cases line (drop (k + 1) lines) []).0 rest).0 in
    absurd (none-and-some (fault_of_line net goal cases line) fault none has)
  where
    none-and-some : (o : Option CheckFault) (fault : CheckFault) → o ≡ None → o ≡ Some fault → ⊥
    none-and-some None fault none has = cc
    none-and-some (Some other) fault none has = cc

-- lines that are read are a proof if and only if they leave no case open
all_read : (net : Net) (goal : ProofGoal) (lines : List ProofLine) (cases : List Case) (result : Bool) → ProofLeaves net goal ([] ∷ []) lines cases
    → (IsTrue result ↔ (cases ≡ [])) → IsTrue result ↔ IsProof net goal lines
all_read net goal lines cases result reads done = (
  (λ yes. subst (λ cs. ProofLeaves net goal ([] ∷ []) lines cs) (done.0 yes) reads),
  (λ proof. done.1 (reads_on net goal lines [] ([] ∷ []) cases [] reads (subst (λ ls. ProofLeaves net goal ([] ∷ []) ls []) (sym (append-nil lines)) proof))),
)

-- one line is taken, or the lines are no proof
pub line_told : {A : Type 0} (net : Net) (goal : ProofGoal) (lines : List ProofLine) (k : ℕ) (line : ProofLine) (cases now : List Case) (result : Result A CheckFault) (b : Bool)
    → b ≡ is_ok result → slice_get lines k ≡ Some line → ProofLeaves net goal ([] ∷ []) (take k lines) cases → AnswersFault result (fault_of_line net goal cases line)
    → OnOk result (now ≡ behind_line net cases line)
    → MatchBool b (ProofLeaves net goal ([] ∷ []) (take (k + 1) lines) now) (IsProof net goal lines → ⊥)
line_told net goal lines k line cases now (Ok x) b is at reads tells behind = rw is (line_read net goal lines k line cases now at reads tells behind)
line_told net goal lines k line cases now (Err fault) b is at reads tells behind = rw is (line_refused net goal lines k line cases fault at reads tells)

pub all_taken : (net : Net) (goal : ProofGoal) (lines : List ProofLine) (k : ℕ) (cases : List Case) (result : Bool) → length lines ≤ k
    → ProofLeaves net goal ([] ∷ []) (take k lines) cases → (IsTrue result ↔ (cases ≡ [])) → IsTrue result ↔ IsProof net goal lines
all_taken net goal lines k cases result past reads done =
    all_read net goal lines cases result (subst (λ ls. ProofLeaves net goal ([] ∷ []) ls cases) (take_all k lines past) reads) done
