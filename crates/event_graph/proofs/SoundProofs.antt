-- What a proof shows of satisfying times.
use Rattle.std.proofs.Common.{◌≡◌, ◌+◌, ◌<◌, ◌≤◌, ℕ, zero, suc, ℤ, pos, ◌≤ℤ◌, ◌<ℤ◌, ◌⊎◌, inl, inr, List, [], ◌∷◌, ◌++◌, All, length, Some, slice_get, sym, ap, ◌∙◌, refl, subst, arith}
use Rattle.std.proofs.lemmas.Int.{ints, by_lt_z}
use Rattle.std.proofs.lemmas.Bool.{cases_eq}
use Rattle.std.proofs.lemmas.Option.{same_Some}
use Rattle.std.proofs.lemmas.List.Elements.{All-cons, All-contains, All-head, All-nil, All-tail}
use Rattle.itv_base.specs.declared.names.EdgeName.{EdgeName}
use Rattle.itv_base.specs.declared.names.EventId.{EventId}
use Rattle.itv_base.specs.declared.names.Side.{Side}
use Rattle.itv_base.proofs.Options.{some_and}
use Rattle.event_graph.specs.declared.edge.Edge.{Edge}
use Rattle.event_graph.specs.Network.{Constraint, Net}
use Rattle.event_graph.specs.Satisfying.{Holds, Satisfies}
use Rattle.event_graph.specs.Times.{separation, time_of}
use Rattle.event_graph.specs.Edges.{Meets, choice_side, edge}
use Rattle.event_graph.specs.Proof.{Bound, Case, Choice, ClosesByLoop, ClosesByPath, HasChoice, IsProof, IsUsable, IsWalk, Loop, MaySplit, Nothing, Path, ProofGoal, ProofLine, ProofLeaves, Split, cases_from, cases_of, count_causes, path_sum, weight_of}
use Rattle.event_graph.specs.Laws.{ProofBounds, ProofOfNothing}
use Rattle.event_graph.proofs.EdgesMet.{All-found, at_some}
use Rattle.event_graph.proofs.ByEdges.{choice_from_holding, satisfying_meets_always}

-- times that contradict a goal
abbrev pub Refutes : List ℤ → ProofGoal → Type 0
Refutes times (Bound from to value) = value <ℤ separation times from to
Refutes times Nothing = Unit {0}

-- the times meet the edge of a choice, if there is such an edge
abbrev pub MeetsChoice : List ℤ → Net → Choice → Type 0
MeetsChoice times net choice = (k : Constraint) (e : Edge) → slice_get net.constraints choice.constraint ≡ Some k
    → edge net (record { constraint = choice.constraint; cause = choice.cause; side = choice_side k.kind }) ≡ Some e → Meets times e

-- the times meet all that is chosen in a case
abbrev pub Covers : List ℤ → Net → Case → Type 0
Covers times net chosen = All (MeetsChoice times net) chosen

-- the times cover one of the cases
abbrev pub SomeCovers : List ℤ → Net → List Case → Type 0
SomeCovers times net [] = ⊥
SomeCovers times net (chosen ∷ cases) = Covers times net chosen ⊎ SomeCovers times net cases

some-append_left : (times : List ℤ) (net : Net) (xs ys : List Case) → SomeCovers times net xs → SomeCovers times net (xs ++ ys)
some-append_left times net [] ys h = absurd h
some-append_left times net (x ∷ xs) ys (inl h) = inl h
some-append_left times net (x ∷ xs) ys (inr h) = inr (some-append_left times net xs ys h)

some-append_right : (times : List ℤ) (net : Net) (xs ys : List Case) → SomeCovers times net ys → SomeCovers times net (xs ++ ys)
some-append_right times net [] ys h = h
some-append_right times net (x ∷ xs) ys h = inr (some-append_right times net xs ys h)

-- the choice that the times meet is among those that a split tries
cases_covered : (times : List ℤ) (net : Net) (chosen : Case) (number cause count met : ℕ) → cause ≤ met → met < cause + count
    → MeetsChoice times net (record { constraint = number; cause = met }) → Covers times net chosen → SomeCovers times net (cases_from chosen number cause count)
cases_covered times net chosen number cause zero met from below meets covers = absurd (omega arith)
cases_covered times net chosen number cause (suc count) met from below meets covers =
    elim (cases_eq met cause) [
      | inl same ↦
          let here : MeetsChoice times net (record { constraint = number; cause = cause }) =
          subst (λ n. MeetsChoice times net (record { constraint = number; cause = n })) same meets in
          inl (All-cons (MeetsChoice times net) (record { constraint = number; cause = cause }) chosen here covers)
      | inr other ↦ inr (cases_covered times net chosen number (cause + 1) count met (omega arith) (omega arith) meets covers)
    ]

-- satisfying times meet some choice of each constraint
choice_met : (times : List ℤ) (net : Net) (number : ℕ) (k : Constraint) → Satisfies times net → slice_get net.constraints number ≡ Some k → HasChoice k.kind
    → (cause : ℕ) × (cause < length k.causes) × MeetsChoice times net (record { constraint = number; cause = cause })
choice_met times net number k satisfies at_k has =
    let found = choice_from_holding k.kind net number k times refl at_k (All-found (Holds times) net.constraints number k at_k satisfies.each) has in
    let Named : Constraint → Edge → Type 0 =
    λ c e. edge net (record { constraint = number; cause = found.0; side = choice_side c.kind }) ≡ Some e in (
      found.0,
      found.1,
      λ other e at_other is_edge.
          let same : other ≡ k = same_Some other k (sym at_other ∙ at_k) in
          at_some (Meets times) (edge net (record { constraint = number; cause = found.0; side = choice_side k.kind })) e (subst (λ c. Named c e) same is_edge) found.2,
    )

-- a split of a covered case has a covered case
split_covered : (times : List ℤ) (net : Net) (chosen : Case) (number : ℕ) → Satisfies times net → MaySplit net chosen number → Covers times net chosen
    → SomeCovers times net (cases_of net chosen number)
split_covered times net chosen number satisfies may covers =
    let found = some_and (slice_get net.constraints number) (λ (c : Constraint). HasChoice c.kind) may.0 in
    let met = choice_met times net number found.0 satisfies found.1 found.2 in
    let counted : count_causes (slice_get net.constraints number) ≡ length found.0.causes = ap count_causes found.1 in
    cases_covered times net chosen number 0 (count_causes (slice_get net.constraints number)) met.0 (omega arith) (omega (arith, counted, met.1)) met.2 covers

-- ---- what closes a case

usable_met : (times : List ℤ) (net : Net) (chosen : Case) (name : EdgeName) (e : Edge) → Satisfies times net → Covers times net chosen → IsUsable net chosen name
    → edge net name ≡ Some e → Meets times e
usable_met times net chosen name e satisfies covers (inl always) is_edge = (satisfying_meets_always net times satisfies).each name e always is_edge
usable_met times net chosen name e satisfies covers (inr (is_chosen, on_side)) is_edge =
    let found = some_and (slice_get net.constraints name.constraint) (λ (c : Constraint). HasChoice c.kind × (name.side ≡ choice_side c.kind)) on_side in
    let Named : Side → Type 0 = λ side. edge net (record { constraint = name.constraint; cause = name.cause; side = side }) ≡ Some e in
    All-contains (MeetsChoice times net) chosen (record { constraint = name.constraint; cause = name.cause }) covers is_chosen found.0 e found.1
    (subst Named found.2.1 is_edge)

-- along usable edges the time rises by at most the sum
walk_rise : (times : List ℤ) (net : Net) (chosen : Case) (names : List EdgeName) (from to : EventId) → Satisfies times net → Covers times net chosen
    → All (IsUsable net chosen) names → IsWalk net from names to → separation times from to ≤ℤ path_sum net names
walk_rise times net chosen [] from to satisfies covers usable walk =
    let same : time_of times from ≡ time_of times to = ap (time_of times) walk in
    omega (arith, ints)
walk_rise times net chosen (name ∷ names) from to satisfies covers usable walk =
    let found = some_and (edge net name) (λ e. (e.from ≡ from) × IsWalk net e.to names to) walk in
    let step : Meets times found.0 = usable_met times net chosen name found.0 satisfies covers (All-head (IsUsable net chosen) name names usable) found.1 in
    let rest : separation times found.0.to to ≤ℤ path_sum net names =
    walk_rise times net chosen names found.0.to to satisfies covers (All-tail (IsUsable net chosen) name names usable) found.2.1 in
    let begins : time_of times found.0.from ≡ time_of times from = ap (time_of times) found.2.0 in
    let weight : weight_of (edge net name) ≡ found.0.weight = ap weight_of found.1 in
    rw weight (omega (arith, ints))

-- nothing closes a case that refuting times cover
path_uncovered : (times : List ℤ) (net : Net) (goal : ProofGoal) (chosen : Case) (names : List EdgeName) → Satisfies times net → Refutes times goal
    → Covers times net chosen → ClosesByPath net goal chosen names → ⊥
path_uncovered times net (Bound from to value) chosen names satisfies refutes covers closes =
    let rise : separation times from to ≤ℤ path_sum net names = walk_rise times net chosen names from to satisfies covers closes.1 closes.0 in
    let most : path_sum net names ≤ℤ value = closes.2 in
    omega (arith, ints)
path_uncovered times net Nothing chosen names satisfies refutes covers closes = closes

loop_uncovered : (times : List ℤ) (net : Net) (chosen : Case) (names : List EdgeName) → Satisfies times net → Covers times net chosen
    → ClosesByLoop net chosen names → ⊥
loop_uncovered times net chosen names satisfies covers closes =
    let event : EventId = closes.0.0 in
    let rise : separation times event event ≤ℤ path_sum net names = walk_rise times net chosen names event event satisfies covers closes.1 closes.0.1 in
    let negative : path_sum net names <ℤ pos 0 = closes.2 in
    omega (arith, ints)

-- if lines leave no case open, refuting times cover none of the cases from which the lines start
reads_uncovered : (times : List ℤ) (net : Net) (goal : ProofGoal) (lines : List ProofLine) (cases : List Case) → Satisfies times net → Refutes times goal
    → ProofLeaves net goal cases lines [] → SomeCovers times net cases → ⊥
reads_uncovered times net goal [] cases satisfies refutes reads covered = subst (SomeCovers times net) reads covered
reads_uncovered times net goal (line ∷ lines) [] satisfies refutes reads covered = covered
reads_uncovered times net goal (Split number ∷ lines) (chosen ∷ cases) satisfies refutes reads covered =
    reads_uncovered times net goal lines (cases_of net chosen number ++ cases) satisfies refutes reads.1
    (elim covered [
      | inl here ↦ some-append_left times net (cases_of net chosen number) cases (split_covered times net chosen number satisfies reads.0 here)
      | inr later ↦ some-append_right times net (cases_of net chosen number) cases later
    ])
reads_uncovered times net goal (Path names ∷ lines) (chosen ∷ cases) satisfies refutes reads covered =
    elim covered [
      | inl here ↦ path_uncovered times net goal chosen names satisfies refutes here reads.0
      | inr later ↦ reads_uncovered times net goal lines cases satisfies refutes reads.1 later
    ]
reads_uncovered times net goal (Loop names ∷ lines) (chosen ∷ cases) satisfies refutes reads covered =
    elim covered [
      | inl here ↦ loop_uncovered times net chosen names satisfies here reads.0
      | inr later ↦ reads_uncovered times net goal lines cases satisfies refutes reads.1 later
    ]

-- no satisfying times refute what a proof shows
pub proof_is_sound : (net : Net) (goal : ProofGoal) (lines : List ProofLine) (times : List ℤ) → IsProof net goal lines → Satisfies times net → Refutes times goal → ⊥
proof_is_sound net goal lines times proof satisfies refutes =
    reads_uncovered times net goal lines ([] ∷ []) satisfies refutes proof (inl (All-nil (MeetsChoice times net)))

pub proof_bounds : ProofBounds
proof_bounds net from to value lines times proof satisfies =
    by_lt_z value (separation times from to) (λ past. absurd (proof_is_sound net (Bound from to value) lines times proof satisfies past)) (λ within. within)

pub proof_of_nothing : ProofOfNothing
proof_of_nothing net lines proof times satisfies = proof_is_sound net Nothing lines times proof satisfies tt
