-- How many cases a proof closes.
use Rattle.std.proofs.Common.{◌≡◌, ◌+◌, ◌*◌, ◌<◌, ◌≤◌, ℕ, zero, suc, Bool, true, false, cond, List, [], ◌∷◌, ◌++◌, All, length, Option, Some, None, IsSomeAnd, slice_get, sym, ap, ◌∙◌, refl, arith}
use Rattle.std.proofs.Math.Nat.{mul_assoc, mul_comm, mul-le-mul_left}
use Rattle.std.proofs.lemmas.Option.{same_Some}
use Rattle.std.proofs.lemmas.List.Elements.{All-head, All-tail}
use Rattle.itv_base.specs.declared.names.RuleKind.{RuleKind}
use Rattle.itv_base.specs.declared.names.RuleKind.TheVariants.{Lin, Late, Early}
use Rattle.event_graph.specs.Network.{Constraint, IsConstraint, IsNet, Net}
use Rattle.event_graph.specs.Edges.{cause_choices, choices_of}
use Rattle.event_graph.specs.Proof.{Case, HasChoice, Loop, Path, ProofGoal, ProofLine, ProofLeaves, Split, cases_from, cases_of, closing_lines, count_causes}
use Rattle.event_graph.specs.Laws.{ProofIsWithinChoices, StoppedProofIsBelowChoices}
use Rattle.event_graph.specs.Cases.{is_split}
use Rattle.event_graph.proofs.Choices.{others_unsplit, split-other, split-same}
use Rattle.event_graph.proofs.Products.{choices_of-some}

-- the product of the numbers of causes of all constraints of which no cause is chosen; the constraints are numbered from `number` on
abbrev pub left_from : ℕ → List Constraint → Case → ℕ
left_from number [] chosen = 1
left_from number (k ∷ ks) chosen = cond (is_split chosen number) 1 (choices_of k.kind (length k.causes)) * left_from (number + 1) ks chosen

-- the choices left in all open cases
abbrev pub left_of_all : Net → List Case → ℕ
left_of_all net [] = 0
left_of_all net (chosen ∷ cases) = left_from 0 net.constraints chosen + left_of_all net cases

left_from-none : (number : ℕ) (ks : List Constraint) → left_from number ks [] ≡ cause_choices ks
left_from-none number [] = refl
left_from-none number (k ∷ ks) = ap (λ n. choices_of k.kind (length k.causes) * n) (left_from-none (number + 1) ks)

-- a choice of an earlier constraint changes nothing
left_from-earlier : (number : ℕ) (ks : List Constraint) (earlier cause : ℕ) (chosen : Case) → earlier < number
    → left_from number ks ((record { constraint = earlier; cause = cause }) ∷ chosen) ≡ left_from number ks chosen
left_from-earlier number [] earlier cause chosen below = refl
left_from-earlier number (k ∷ ks) earlier cause chosen below =
    let apart : earlier ≡ number → ⊥ = λ e. omega arith in
    rw (split-other number earlier cause chosen apart, left_from-earlier (number + 1) ks earlier cause chosen (omega arith)) refl

swapped : (a b n : ℕ) → a * (b * n) ≡ b * (a * n)
swapped a b n = sym (mul_assoc a b n) ∙ (ap (λ m. m * n) (mul_comm a b) ∙ mul_assoc b a n)

-- a choice divides what is left by the number of causes
left_from-choice : (number : ℕ) (ks : List Constraint) (place chosen_number cause : ℕ) (k : Constraint) (chosen : Case) → slice_get ks place ≡ Some k
    → chosen_number ≡ number + place → is_split chosen chosen_number ≡ false
    → choices_of k.kind (length k.causes) * left_from number ks ((record { constraint = chosen_number; cause = cause }) ∷ chosen) ≡ left_from number ks chosen
left_from-choice number [] place chosen_number cause k chosen at_k is_number fresh = absurd (cc)
left_from-choice number (x ∷ ks) zero chosen_number cause k chosen at_k is_number fresh =
    let same : x ≡ k = same_Some x k at_k in
    let here : chosen_number ≡ number = omega arith in
    let factor : choices_of x.kind (length x.causes) ≡ choices_of k.kind (length k.causes) = ap (λ (c : Constraint). choices_of c.kind (length c.causes)) same in
    let rest : left_from (number + 1) ks ((record { constraint = chosen_number; cause = cause }) ∷ chosen) ≡ left_from (number + 1) ks chosen =
    left_from-earlier (number + 1) ks chosen_number cause chosen (omega arith) in
    let fresh_here : is_split chosen number ≡ false = ap (λ n. is_split chosen n) (sym here) ∙ fresh in
    rw (split-same number chosen_number cause chosen here, rest, fresh_here, factor) (omega arith)
left_from-choice number (x ∷ ks) (suc place) chosen_number cause k chosen at_k is_number fresh =
    let apart : chosen_number ≡ number → ⊥ = λ e. omega arith in
    let rest : choices_of k.kind (length k.causes) * left_from (number + 1) ks ((record { constraint = chosen_number; cause = cause }) ∷ chosen) ≡ left_from (number + 1) ks chosen =
    left_from-choice (number + 1) ks place chosen_number cause k chosen at_k (omega arith) fresh in
    rw (split-other number chosen_number cause chosen apart)
    (swapped (choices_of k.kind (length k.causes)) (cond (is_split chosen number) 1 (choices_of x.kind (length x.causes))) _
    ∙ ap (λ n. cond (is_split chosen number) 1 (choices_of x.kind (length x.causes)) * n) rest)

-- which cause was chosen does not matter
left_from-same : (number : ℕ) (ks : List Constraint) (chosen_number cause other : ℕ) (chosen : Case)
    → left_from number ks ((record { constraint = chosen_number; cause = cause }) ∷ chosen) ≡ left_from number ks ((record { constraint = chosen_number; cause = other }) ∷ chosen)
left_from-same number [] chosen_number cause other chosen = refl
left_from-same number (k ∷ ks) chosen_number cause other chosen =
    ap (λ n. cond (is_split ((record { constraint = chosen_number; cause = cause }) ∷ chosen) number) 1 (choices_of k.kind (length k.causes)) * n)
    (left_from-same (number + 1) ks chosen_number cause other chosen)

left_of_all-append : (net : Net) (xs ys : List Case) → left_of_all net (xs ++ ys) ≡ left_of_all net xs + left_of_all net ys
left_of_all-append net [] ys = omega arith
left_of_all-append net (x ∷ xs) ys = omega (arith, left_of_all-append net xs ys)

-- if each case of a split has the same number of choices left, the product gives how many are left in all
left_of_all-cases : (net : Net) (chosen : Case) (number cause count each : ℕ)
    → ((other : ℕ) → left_from 0 net.constraints ((record { constraint = number; cause = other }) ∷ chosen) ≡ each)
    → left_of_all net (cases_from chosen number cause count) ≡ count * each
left_of_all-cases net chosen number cause zero each all = omega arith
left_of_all-cases net chosen number cause (suc count) each all =
    rw (all cause, left_of_all-cases net chosen number (cause + 1) count each all) (omega arith)

choices_of-choice : (kind : RuleKind) (count : ℕ) → HasChoice kind → choices_of kind count ≡ count
choices_of-choice Lin count has = absurd has
choices_of-choice Late count has = refl
choices_of-choice Early count has = refl

-- a split keeps what is left
split_keeps : (net : Net) (chosen : Case) (number : ℕ) (o : Option Constraint) → slice_get net.constraints number ≡ o → IsSomeAnd o (λ c. HasChoice c.kind)
    → is_split chosen number ≡ false → left_of_all net (cases_from chosen number 0 (count_causes o)) ≡ left_from 0 net.constraints chosen
split_keeps net chosen number None at_k has fresh = absurd has
split_keeps net chosen number (Some k) at_k has fresh =
    let each : (other : ℕ) → left_from 0 net.constraints ((record { constraint = number; cause = other }) ∷ chosen)
    ≡ left_from 0 net.constraints ((record { constraint = number; cause = 0 }) ∷ chosen) =
    λ other. left_from-same 0 net.constraints number other 0 chosen in
    let counted : choices_of k.kind (length k.causes) ≡ length k.causes = choices_of-choice k.kind (length k.causes) has in
    let whole : choices_of k.kind (length k.causes) * left_from 0 net.constraints ((record { constraint = number; cause = 0 }) ∷ chosen) ≡ left_from 0 net.constraints chosen =
    left_from-choice 0 net.constraints number number 0 k chosen at_k (omega arith) fresh in
    left_of_all-cases net chosen number 0 (length k.causes) _ each ∙ rw counted at whole

factor_some : (test : Bool) (n : ℕ) → 1 ≤ n → 1 ≤ cond test 1 n
factor_some true n some = omega arith
factor_some false n some = some

-- something is left in each case
left_from-some : (events number : ℕ) (ks : List Constraint) (chosen : Case) → All (IsConstraint events) ks → 1 ≤ left_from number ks chosen
left_from-some events number [] chosen all = omega arith
left_from-some events number (k ∷ ks) chosen all =
    let first : 1 ≤ cond (is_split chosen number) 1 (choices_of k.kind (length k.causes)) =
    factor_some (is_split chosen number) _ (choices_of-some k.kind (length k.causes) (All-head (IsConstraint events) k ks all).count) in
    let rest : 1 ≤ left_from (number + 1) ks chosen = left_from-some events (number + 1) ks chosen (All-tail (IsConstraint events) k ks all) in
    omega (arith, mul-le-mul_left (cond (is_split chosen number) 1 (choices_of k.kind (length k.causes))) rest)

-- each closing line takes at least one of the choices left
reads_count : (net : Net) (goal : ProofGoal) (lines : List ProofLine) (cases left : List Case) → IsNet net → ProofLeaves net goal cases lines left
    → closing_lines lines + left_of_all net left ≤ left_of_all net cases
reads_count net goal [] cases left is_net reads = omega (arith, ap (left_of_all net) reads)
reads_count net goal (line ∷ lines) [] left is_net reads = absurd reads
reads_count net goal (Split number ∷ lines) (chosen ∷ cases) left is_net reads =
    let kept : left_of_all net (cases_of net chosen number) ≡ left_from 0 net.constraints chosen =
    split_keeps net chosen number (slice_get net.constraints number) refl reads.0.0 (others_unsplit chosen number reads.0.1) in
    omega (arith, kept, left_of_all-append net (cases_of net chosen number) cases, reads_count net goal lines (cases_of net chosen number ++ cases) left is_net reads.1)
reads_count net goal (Path names ∷ lines) (chosen ∷ cases) left is_net reads =
    omega (arith, left_from-some net.events 0 net.constraints chosen is_net.constraints, reads_count net goal lines cases left is_net reads.1)
reads_count net goal (Loop names ∷ lines) (chosen ∷ cases) left is_net reads =
    omega (arith, left_from-some net.events 0 net.constraints chosen is_net.constraints, reads_count net goal lines cases left is_net reads.1)

pub proof_is_within_choices : ProofIsWithinChoices
proof_is_within_choices net goal lines is_net proof =
    omega (arith, left_from-none 0 net.constraints, reads_count net goal lines ([] ∷ []) [] is_net proof)

pub stopped_proof_is_below_choices : StoppedProofIsBelowChoices
stopped_proof_is_below_choices net goal lines count is_net stopped =
    let (chosen, cases, reads) = stopped.open_case in
    omega (
      arith,
      left_from-none 0 net.constraints,
      reads_count net goal lines ([] ∷ []) (chosen ∷ cases) is_net reads,
      left_from-some net.events 0 net.constraints chosen is_net.constraints,
      stopped.closed,
    )
