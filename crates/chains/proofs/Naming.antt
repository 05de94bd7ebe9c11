-- Proofs are read in the network that has only the constraints that they name.
use Rattle.std.proofs.Common.{◌≡◌, ◌<◌, ◌≤◌, ◌⊎◌, inl, inr, ℕ, zero, suc, ℤ, ◌+ℤ◌, Bool, true, false, IsTrue, List, [], ◌∷◌, ◌++◌, All, Contains, length, get_or, Option, Some, None, IsSome, IsSomeAnd, option_and_then, slice_get, sym, ap, ◌∙◌, refl, subst, arith}
use Rattle.std.proofs.lemmas.Bool.{cases_lt}
use Rattle.std.proofs.lemmas.Option.{get_or_from_slice_get, same_Some, slice_get-get_or, slice_get_within}
use Rattle.std.proofs.lemmas.List.Elements.{All-cons, All-head, All-nil, All-tail}
use Rattle.itv_base.specs.declared.names.EdgeName.{EdgeName}
use Rattle.itv_base.specs.declared.names.EventId.{EventId}
use Rattle.itv_base.proofs.Lists.{found_below}
use Rattle.itv_base.proofs.Options.{some_and}
use Rattle.event_graph.specs.declared.edge.Edge.{Edge}
use Rattle.event_graph.specs.Network.{Constraint, Net}
use Rattle.event_graph.specs.Satisfying.{Holds, IsAfter, IsBefore}
use Rattle.event_graph.specs.Edges.{choice_side, edge, holds_always, side_edge}
use Rattle.event_graph.specs.Proof.{Bound, Case, ClosesByLoop, ClosesByPath, HasChoice, IsProof, IsUsable, IsWalk, Loop, MaySplit, Nothing, Path, ProofGoal, ProofLine, ProofLeaves, Split, cases_from, cases_of, count_causes, path_sum, weight_of}
use Rattle.event_graph.proofs.SoundProofs.{proof_bounds, proof_of_nothing}
use Rattle.chains.specs.Laws.{NamedBound, NamedContradict, OnlyIsOf, OnlyIsWider}
use Rattle.chains.specs.Named.{HasEdgeOf, HasNames, IsIn, SomeNames}
use Rattle.chains.specs.Only.{free_constraint, only_constraint, only_constraints, only_net}

-- ---- the constraints of a set

-- a constraint that asks nothing holds at all times
free_holds : (times : List ℤ) (c : Constraint) → Holds times (free_constraint c)
free_holds times c = (
  All-cons (IsAfter times c.target) _ [] tt (All-nil (IsAfter times c.target)),
  All-cons (IsBefore times c.target) _ [] tt (All-nil (IsBefore times c.target)),
)

length-only : (set : List Bool) (cs : List Constraint) → length (only_constraints set cs) ≡ length cs
length-only set [] = refl
length-only [] (c ∷ cs) = ap suc (length-only [] cs)
length-only (is_in ∷ set) (c ∷ cs) = ap suc (length-only set cs)

-- what stands at a number, by its flag
at_only : (set : List Bool) (cs : List Constraint) (number : ℕ) (c : Constraint) → slice_get cs number ≡ Some c
    → slice_get (only_constraints set cs) number ≡ Some (only_constraint (get_or set number false) c)
at_only set [] number c at_c = absurd (cc)
at_only [] (k ∷ cs) zero c at_c = ap (λ x. Some (free_constraint x)) (same_Some k c at_c)
at_only [] (k ∷ cs) (suc number) c at_c = at_only [] cs number c at_c
at_only (is_in ∷ set) (k ∷ cs) zero c at_c = ap (λ x. Some (only_constraint is_in x)) (same_Some k c at_c)
at_only (is_in ∷ set) (k ∷ cs) (suc number) c at_c = at_only set cs number c at_c

none_past : {X : Type 0} (xs : List X) (number : ℕ) → length xs ≤ number → slice_get xs number ≡ None
none_past [] number past = refl
none_past (x ∷ xs) zero past = absurd (omega arith)
none_past (x ∷ xs) (suc number) past = none_past xs number (omega arith)

-- a constraint of the set is unchanged
in_only : (set : List Bool) (cs : List Constraint) (number : ℕ) (c : Constraint) → slice_get cs number ≡ Some c → IsIn set number
    → slice_get (only_constraints set cs) number ≡ Some c
in_only set cs number c at_c is_in = let here = at_only set cs number c at_c in rw is_in at here

only_holds : (flag : Bool) (times : List ℤ) (c : Constraint) → (flag ≡ true → Holds times c) → Holds times (only_constraint flag c)
only_holds true times c holds = holds refl
only_holds false times c holds = free_holds times c

some_there : (set : List Bool) (cs : List Constraint) (number : ℕ) (d : Constraint) → number < length (only_constraints set cs)
    → get_or (only_constraints set cs) number d ≡ only_constraint (get_or set number false) (get_or cs number d)
some_there set cs number d within =
    let here : number < length cs = omega (arith, length-only set cs) in
    get_or_from_slice_get (only_constraints set cs) number _ d (at_only set cs number (get_or cs number d) (slice_get-get_or cs number d here))

pub only_is_of : OnlyIsOf
only_is_of net set times = (
  (λ h. record {
    count = h.count;
    each = λ number c is_in at_c.
        let there : slice_get (only_constraints set net.constraints) number ≡ Some c = in_only set net.constraints number c at_c is_in in
        subst (Holds times) (get_or_from_slice_get (only_constraints set net.constraints) number c c there)
        (h.each number c (slice_get_within (only_constraints set net.constraints) number c there));
  }),
  (λ h. record {
    count = h.count;
    each = λ number d within.
        let here : number < length net.constraints = omega (arith, length-only set net.constraints) in
        subst (Holds times) (sym (some_there set net.constraints number d within))
        (only_holds (get_or set number false) times (get_or net.constraints number d)
        (λ is_in. h.each number (get_or net.constraints number d) is_in (slice_get-get_or net.constraints number d here)));
  }),
)

pub only_is_wider : OnlyIsWider
only_is_wider net set times h = (only_is_of net set times).1 (record {
  count = h.count;
  each = λ number c is_in at_c.
      subst (Holds times) (get_or_from_slice_get net.constraints number c c at_c) (h.each number c (slice_get_within net.constraints number c at_c));
})

-- ---- lines are read as before

-- the constraint of a number is the same in two networks, or neither has one
abbrev pub Agree : Net → Net → ℕ → Type 0
Agree other net number = slice_get other.constraints number ≡ slice_get net.constraints number

agree_within : (set : List Bool) (cs : List Constraint) (number : ℕ) (c : Constraint) → slice_get cs number ≡ Some c → IsIn set number
    → slice_get (only_constraints set cs) number ≡ slice_get cs number
agree_within set cs number c at_c is_in = in_only set cs number c at_c is_in ∙ sym at_c

-- the networks agree in each constraint that is in the set if it is there
agree : (net : Net) (set : List Bool) (number : ℕ) → length set ≡ length net.constraints → (number < length set → IsIn set number) → Agree (only_net set net) net number
agree net set number count is_in = elim (cases_lt number (length net.constraints)) [
  | inl below ↦
      let found = found_below net.constraints number below in
      agree_within set net.constraints number found.0 found.1 (is_in (omega arith))
  | inr past ↦ none_past (only_constraints set net.constraints) number (omega (arith, length-only set net.constraints)) ∙ sym (none_past net.constraints number past)
]

any_head : (name : EdgeName) (names : List EdgeName) → HasEdgeOf (name ∷ names) name.constraint
any_head name names = (0, name, omega arith, refl, refl)

any_tail : (name : EdgeName) (names : List EdgeName) (number : ℕ) → HasEdgeOf names number → HasEdgeOf (name ∷ names) number
any_tail name names number (k, x, within, here, is) = (suc k, x, omega arith, here, is)

module _ (other net : Net) (events : other.events ≡ net.events) where
  edge_agrees : (name : EdgeName) → Agree other net name.constraint → edge other name ≡ edge net name
  edge_agrees name agrees =
      ap (option_and_then (λ (c : Constraint). option_and_then (side_edge name.side c.target) (slice_get c.causes name.cause))) agrees

  usable_agrees : (chosen : Case) (name : EdgeName) → Agree other net name.constraint → IsUsable net chosen name → IsUsable other chosen name
  usable_agrees chosen name agrees usable =
      let f : Constraint → Option Edge = λ c. option_and_then (side_edge name.side c.target) (slice_get c.causes name.cause) in
      let Usable : Option Constraint → Type 0 =
      λ o. (IsSome (option_and_then f o) × IsSomeAnd o (λ c. IsTrue (holds_always c.kind (length c.causes) name.side)))
      ⊎ (Contains chosen (record { constraint = name.constraint; cause = name.cause }) × IsSomeAnd o (λ c. HasChoice c.kind × (name.side ≡ choice_side c.kind))) in
      subst Usable (sym agrees) usable

  all_usable : (chosen : Case) (names : List EdgeName) → ((number : ℕ) → HasEdgeOf names number → Agree other net number) → All (IsUsable net chosen) names
      → All (IsUsable other chosen) names
  all_usable chosen [] agrees usable = All-nil (IsUsable other chosen)
  all_usable chosen (name ∷ names) agrees usable =
      All-cons (IsUsable other chosen) name names
      (usable_agrees chosen name (agrees name.constraint (any_head name names)) (All-head (IsUsable net chosen) name names usable))
      (all_usable chosen names (λ number has. agrees number (any_tail name names number has)) (All-tail (IsUsable net chosen) name names usable))

  walk_agrees : (names : List EdgeName) (from to : EventId) → ((number : ℕ) → HasEdgeOf names number → Agree other net number) → IsWalk net from names to
      → IsWalk other from names to
  walk_agrees [] from to agrees walk = walk
  walk_agrees (name ∷ names) from to agrees walk =
      let found = some_and (edge net name) (λ e. (e.from ≡ from) × IsWalk net e.to names to) walk in
      let there : edge other name ≡ Some found.0 = edge_agrees name (agrees name.constraint (any_head name names)) ∙ found.1 in
      rw there (found.2.0, walk_agrees names found.0.to to (λ number has. agrees number (any_tail name names number has)) found.2.1)

  sum_agrees : (names : List EdgeName) → ((number : ℕ) → HasEdgeOf names number → Agree other net number) → path_sum other names ≡ path_sum net names
  sum_agrees [] agrees = refl
  sum_agrees (name ∷ names) agrees =
      ap (λ z. z +ℤ path_sum other names) (ap weight_of (edge_agrees name (agrees name.constraint (any_head name names))))
      ∙ ap (λ z. weight_of (edge net name) +ℤ z) (sum_agrees names (λ number has. agrees number (any_tail name names number has)))

  path_agrees : (goal : ProofGoal) (chosen : Case) (names : List EdgeName) → ((number : ℕ) → HasEdgeOf names number → Agree other net number)
      → ClosesByPath net goal chosen names → ClosesByPath other goal chosen names
  path_agrees (Bound from to value) chosen names agrees closes = (
    walk_agrees names from to agrees closes.0,
    all_usable chosen names agrees closes.1,
    rw (sum_agrees names agrees) closes.2,
    rw events closes.3,
  )
  path_agrees Nothing chosen names agrees closes = closes

  loop_agrees : (chosen : Case) (names : List EdgeName) → ((number : ℕ) → HasEdgeOf names number → Agree other net number) → ClosesByLoop net chosen names
      → ClosesByLoop other chosen names
  loop_agrees chosen names agrees closes = (
    (closes.0.0, walk_agrees names closes.0.0 closes.0.0 agrees closes.0.1),
    all_usable chosen names agrees closes.1,
    rw (sum_agrees names agrees) closes.2,
    rw events closes.3,
  )

  split_agrees : (chosen : Case) (number : ℕ) → Agree other net number → MaySplit net chosen number → MaySplit other chosen number
  split_agrees chosen number agrees may =
      let P : Option Constraint → Type 0 = λ o. IsSomeAnd o (λ c. HasChoice c.kind) in
      (subst P (sym agrees) may.0, may.1)

  cases_agree : (chosen : Case) (number : ℕ) → Agree other net number → cases_of other chosen number ≡ cases_of net chosen number
  cases_agree chosen number agrees = ap (λ o. cases_from chosen number 0 (count_causes o)) agrees

  -- lines are read alike in two networks that agree in each constraint that the lines name
  agree_reads : (goal : ProofGoal) (lines : List ProofLine) (cases left : List Case) → ((number : ℕ) → SomeNames lines number → Agree other net number)
      → ProofLeaves net goal cases lines left → ProofLeaves other goal cases lines left
  agree_reads goal [] cases left agrees reads = reads
  agree_reads goal (line ∷ lines) [] left agrees reads = reads
  agree_reads goal (Split number ∷ lines) (chosen ∷ cases) left agrees reads = (
    split_agrees chosen number (agrees number (inl refl)) reads.0,
    subst (λ (cs : List Case). ProofLeaves other goal (cs ++ cases) lines left) (sym (cases_agree chosen number (agrees number (inl refl))))
        (agree_reads goal lines (cases_of net chosen number ++ cases) left (λ n some. agrees n (inr some)) reads.1),
  )
  agree_reads goal (Path names ∷ lines) (chosen ∷ cases) left agrees reads =
      (path_agrees goal chosen names (λ n has. agrees n (inl has)) reads.0, agree_reads goal lines cases left (λ n some. agrees n (inr some)) reads.1)
  agree_reads goal (Loop names ∷ lines) (chosen ∷ cases) left agrees reads =
      (loop_agrees chosen names (λ n has. agrees n (inl has)) reads.0, agree_reads goal lines cases left (λ n some. agrees n (inr some)) reads.1)

-- a proof is also a proof in the network of the constraints that it names
named_proof : (net : Net) (set : List Bool) (goal : ProofGoal) (lines : List ProofLine) → length set ≡ length net.constraints → HasNames set lines → IsProof net goal lines
    → IsProof (only_net set net) goal lines
named_proof net set goal lines count has proof =
    agree_reads (only_net set net) net refl goal lines ([] ∷ []) [] (λ number some. agree net set number count (λ within. has number within some)) proof

pub named_contradict : NamedContradict
named_contradict net set lines count proof has times h =
    proof_of_nothing (only_net set net) lines (named_proof net set Nothing lines count has proof) times ((only_is_of net set times).1 h)

pub named_bound : NamedBound
named_bound net set from to value lines times count proof has h =
    proof_bounds (only_net set net) from to value lines times (named_proof net set (Bound from to value) lines count has proof) ((only_is_of net set times).1 h)
