-- Times that meet all always-edges satisfy a network where they meet each constraint with two or more causes.
use Rattle.std.proofs.Common.{◌≡◌, ◌+◌, ◌<◌, ◌≤◌, ℕ, ℤ, IsTrue, List, ◌∷◌, ◌++◌, [], length, get_or, All, Contains, Option, Some, None, IfSome, IsSomeAnd, MatchOption, option_map, slice_get, unwrap_or, ◌⊎◌, sym, ap, ◌∙◌, refl, subst, inl, inr, arith}
use Rattle.std.proofs.lemmas.Bool.{cases_lt}
use Rattle.std.proofs.lemmas.List.Quantifiers.{all_pairs_push}
use Rattle.std.proofs.lemmas.List.Elements.{All-contains, All-nil, All-push, Contains-append_left, Contains-push}
use Rattle.std.proofs.lemmas.Option.{same_Some, slice_get-get_or, slice_get_read, slice_get_within}
use Rattle.itv_base.specs.declared.names.EdgeName.{EdgeName}
use Rattle.itv_base.specs.declared.names.EventId.{EventId}
use Rattle.itv_base.specs.declared.names.RuleKind.{RuleKind}
use Rattle.itv_base.specs.declared.names.RuleKind.TheVariants.{Lin, Late, Early}
use Rattle.itv_base.proofs.Options.{if_some, some_and}
use Rattle.itv_base.proofs.Lists.{found_below}
use Rattle.event_graph.specs.declared.cause.Cause.{Cause}
use Rattle.event_graph.specs.declared.edge.Edge.{Edge}
use Rattle.event_graph.specs.Edges.{Meets, choice_side, edge, holds_always}
use Rattle.event_graph.specs.Laws.{MeetsAlwaysOf, MeetsSomeChoice}
use Rattle.event_graph.specs.Network.{Constraint, IsCauseCount, IsConstraint, IsNet, Net, cause_count_of, named_causes}
use Rattle.event_graph.specs.Proof.{Case, HasChoice}
use Rattle.event_graph.specs.RootBound.{MeetsAlways}
use Rattle.event_graph.specs.Satisfying.{Breaks, Holds, IsFirstBroken, Satisfies}
use Rattle.event_graph.proofs.ByEdges.{holds_by_edges}
use Rattle.event_graph.proofs.EdgesMet.{All-found, at_some}
use Rattle.branch.specs.declared.choice_edge.ChoiceEdge.{ChoiceEdge}
use Rattle.branch.specs.ChoiceEdges.{HasChoiceEnds, given_edge}
use Rattle.branch.specs.Step.Breaking.{IsBetween, IsEdgeBroken}
use Rattle.branch.specs.Splits.{AreAscending, AreSplits, HasChoiceEdges, HasNumber, IsSplitOf, SplittableView}
use Rattle.branch.specs.Step.Breaking.{AreBetween, BreaksEach, IsFirstBrokenSplit, IsMetAt, MeetsSome}
use Rattle.branch.specs.declared.distances.SearchTarget.TheVariants.{Open}
use Rattle.branch.specs.Step.Cases.{IsFree, IsSplittable}
use Rattle.branch.specs.Step.Edges.{choice_name, side_of}
use Rattle.branch.specs.Step.Looking.{IsTargetFound}
use Rattle.event_graph.proofs.Choices.{IsOther, free_others}
use Rattle.event_graph.proofs.Causes.{named_most}

one_cause : (kind : RuleKind) (count : ℕ) → IsCauseCount kind count → named_causes kind count < 2 → count ≡ 1
one_cause Lin count counted few = counted
one_cause Late count counted few = omega (arith, counted.0, few)
one_cause Early count counted few = omega (arith, counted.0, few)

single_always : (kind : RuleKind) (count : ℕ) → count ≡ 1 → IsTrue (holds_always kind count (choice_side kind))
single_always Lin count single = refl
single_always Late count single = grind arith
single_always Early count single = grind arith

-- a constraint holds where one of its choices is met
met_by_choice : (net : Net) (times : List ℤ) (number : ℕ) (k : Constraint) → IsNet net → MeetsAlways times net → slice_get net.constraints number ≡ Some k
    → MeetsSomeChoice times net number k → Holds times k
met_by_choice net times number k is_net meets at_k choice =
    let always : MeetsAlwaysOf times net number = λ name e _ always is_edge. meets.each name e always is_edge in
    (holds_by_edges net number k times is_net at_k).1 (always, λ _. choice)

-- a constraint with a single cause holds
met_alone : (net : Net) (times : List ℤ) (number : ℕ) (k : Constraint) → IsNet net → MeetsAlways times net → slice_get net.constraints number ≡ Some k
    → length k.causes ≡ 1 → Holds times k
met_alone net times number k is_net meets at_k single =
    let name : EdgeName = record { constraint = number; cause = 0; side = choice_side k.kind } in
    met_by_choice net times number k is_net meets at_k (
      0,
      omega (arith, single),
      if_some (edge net name) (Meets times)
          (λ e is_edge. meets.each name e (rw is_edge refl, rw at_k (single_always k.kind (length k.causes) single)) is_edge),
    )

-- ---- constraints by their choice edges

named_all : (kind : RuleKind) (count : ℕ) → 2 ≤ named_causes kind count → (named_causes kind count ≡ count) × HasChoice kind
named_all Lin count many = absurd (omega (arith, many))
named_all Late count many = (refl, tt)
named_all Early count many = (refl, tt)

-- the edge of a choice on the choice side of its constraint
name_is : (net : Net) (number cause : ℕ) (k : Constraint) → slice_get net.constraints number ≡ Some k
    → choice_name net (record { constraint = number; cause = cause }) ≡ record { constraint = number; cause = cause; side = choice_side k.kind }
name_is net number cause k at_k = ap (λ (o : Option Constraint). let name : EdgeName = record { constraint = number; cause = cause; side = side_of o } in name) at_k

-- a splitting has an edge for each cause
edges_count : (net : Net) (s : SplittableView) (k : Constraint) → HasChoiceEdges net s → slice_get net.constraints s.number ≡ Some k → cause_count_of k ≡ length s.edges
edges_count net s k has at_k = same_Some _ _ (sym (ap (option_map cause_count_of) at_k) ∙ has.count)

-- a choice is met where its edge is
choice_met : (net : Net) (times : List ℤ) (s : SplittableView) (k : Constraint) → HasChoiceEdges net s → slice_get net.constraints s.number ≡ Some k → MeetsSome times s → MeetsSomeChoice times net s.number k
choice_met net times s k has at_k (cause, c, within, here, met) =
    let count : cause_count_of k ≡ length s.edges = edges_count net s k has at_k in
    let most : cause_count_of k ≤ length k.causes = named_most k.kind (length k.causes) in
    let is = has.each cause c (slice_get_read s.edges (length s.edges) cause c refl within (sym here)) in
    let P : Option Edge → Type 0 = λ o. IfSome o (Meets times) in
    (cause, omega (arith, within, count, most), subst P (ap (edge net) (name_is net s.number cause k at_k)) (subst P (sym is.gives) met))

-- the times meet a constraint with two or more causes where they meet one of its choice edges
split_met : (net : Net) (times : List ℤ) (s : SplittableView) → IsNet net → MeetsAlways times net → IsSplitOf net s → MeetsSome times s → IsMetAt times net s.number
split_met net times s is_net meets split met =
    if_some (slice_get net.constraints s.number) (Holds times) (λ k at_k. met_by_choice net times s.number k is_net meets at_k (choice_met net times s k split.edges at_k met))

-- an edge is not both met and broken
both : (times : List ℤ) (o : Option Edge) → IfSome o (Meets times) → IsSomeAnd o (λ (e : Edge). Meets times e → ⊥) → ⊥
both times None met broken = broken
both times (Some e) met broken = broken met

-- the times break a constraint with two or more causes if they break all its choice edges
split_broken : (net : Net) (times : List ℤ) (s : SplittableView) → IsNet net → IsSplitOf net s → BreaksEach times s → Breaks times net s.number
split_broken net times s is_net split broken =
    let found = some_and (slice_get net.constraints s.number) (λ (k : Constraint). 2 ≤ cause_count_of k) split.causes in
    let k : Constraint = found.0 in
    let at_k : slice_get net.constraints s.number ≡ Some k = found.1 in
    let all = named_all k.kind (length k.causes) found.2 in
    let none : Holds times k → ⊥ = λ holds. unmet k at_k all.0 (((holds_by_edges net s.number k times is_net at_k).0 holds).1 all.1) in
    rw at_k none
  where
    unmet : (k : Constraint) → slice_get net.constraints s.number ≡ Some k → cause_count_of k ≡ length k.causes → MeetsSomeChoice times net s.number k → ⊥
    unmet k at_k all (cause, within, met) =
        let count : cause_count_of k ≡ length s.edges = edges_count net s k split.edges at_k in
        let below : cause < length s.edges = omega (arith, within, count, all) in
        let found = found_below s.edges cause below in
        let is = split.edges.each cause found.0 found.1 in
        let here : IsEdgeBroken times found.0 = All-found (IsEdgeBroken times) s.edges cause found.0 found.1 broken in
        let P : Option Edge → Type 0 = λ o. IfSome o (Meets times) in
        both times (given_edge found.0) (subst P is.gives (subst P (ap (edge net) (sym (name_is net s.number cause k at_k))) met)) here

-- the times break the constraint of a number if they break all choice edges of the splitting with that number
pub broken_among : (net : Net) (times : List ℤ) (splits : List SplittableView) (number : ℕ) (s : SplittableView) → IsNet net → AreSplits net splits → Contains splits s → s.number ≡ number
    → BreaksEach times s → Breaks times net number
broken_among net times splits number s is_net are among is broken =
    let P : ℕ → Type 0 = Breaks times net in
    subst P is (split_broken net times s is_net (All-contains (IsSplitOf net) splits s are.each among) broken)

-- a constraint without a chosen cause can be split
free_at : (net : Net) (chosen : Case) (s : SplittableView) → IsSplitOf net s → All (IsOther s.number) chosen → IsFree net chosen s.number
free_at net chosen s split none =
    let found = some_and (slice_get net.constraints s.number) (λ (k : Constraint). 2 ≤ cause_count_of k) split.causes in
    let has = (named_all found.0.kind (length found.0.causes) found.2).1 in
    record { may = (rw found.1 has, none); causes = split.causes }

free_among : (net : Net) (splits : List SplittableView) (chosen : Case) (number : ℕ) → AreSplits net splits → HasNumber splits number → All (IsOther number) chosen → IsFree net chosen number
free_among net splits chosen number are (s, among, is) none =
    let P : ℕ → Type 0 = IsFree net chosen in
    let Q : ℕ → Type 0 = λ (n : ℕ). All (IsOther n) chosen in
    subst P is (free_at net chosen s (All-contains (IsSplitOf net) splits s are.each among) (subst Q (sym is) none))

-- a constraint that the search found can be split; if it found none, the first one is broken
pub free_or_broken : (net : Net) (splits : List SplittableView) (chosen : Case) (times : List ℤ) (found : Option ℕ) (first : ℕ) → AreSplits net splits → IfSome found (IsTargetFound Open splits chosen) → Breaks times net first
    → Breaks times net (unwrap_or found first) ⊎ IsFree net chosen (unwrap_or found first)
free_or_broken net splits chosen times None first are is broken = inl broken
free_or_broken net splits chosen times (Some number) first are is broken = inr (free_among net splits chosen number are is.0 (free_others chosen number is.1))

-- the choice edges are between events of the network
ends_between : (net : Net) (kind : RuleKind) (target event : EventId) (c : ChoiceEdge) → HasChoiceEnds kind target event c → target.0 < net.events → event.0 < net.events → IsBetween net.events c
ends_between net Lin target event c ends to from = record { from = rw ends.0 from; to = rw ends.1 to }
ends_between net Late target event c ends to from = record { from = rw ends.0 from; to = rw ends.1 to }
ends_between net Early target event c ends to from = record { from = rw ends.0 to; to = rw ends.1 from }

edges_between : (net : Net) (s : SplittableView) → IsNet net → IsSplitOf net s → All (IsBetween net.events) s.edges
edges_between net s is_net split cause d within =
    let found = some_and (slice_get net.constraints s.number) (λ (k : Constraint). 2 ≤ cause_count_of k) split.causes in
    let k : Constraint = found.0 in
    let is_k : IsConstraint net.events k = All-found (IsConstraint net.events) net.constraints s.number k found.1 is_net.constraints in
    let count : cause_count_of k ≡ length s.edges = edges_count net s k split.edges found.1 in
    let most : cause_count_of k ≤ length k.causes = named_most k.kind (length k.causes) in
    let x = found_below k.causes cause (omega (arith, within, count, most)) in
    let is = split.edges.each cause (get_or s.edges cause d) (slice_get-get_or s.edges cause d within) in
    let from : x.0.event.0 < net.events = All-found (λ (c : Cause). c.event.0 < net.events) k.causes cause x.0 x.1 is_k.causes in
    ends_between net k.kind k.target x.0.event (get_or s.edges cause d) (is.ends k x.0 found.1 x.1) is_k.target from

splits_between : (net : Net) (splits : List SplittableView) → IsNet net → AreSplits net splits → AreBetween net.events splits
splits_between net splits is_net are k d within = edges_between net (get_or splits k d) is_net (are.each k d within)

-- the times meet a constraint of the network if it has a single cause, or if they meet it by its choice edges
met_there : (net : Net) (times : List ℤ) (i : ℕ) (k : Constraint) → IsNet net → MeetsAlways times net → slice_get net.constraints i ≡ Some k
    → (IsSplittable (slice_get net.constraints i) → IsMetAt times net i) → Holds times k
met_there net times i k is_net meets at_k split =
    let is_k : IsConstraint net.events k = All-found (IsConstraint net.events) net.constraints i k at_k is_net.constraints in
    elim (cases_lt (cause_count_of k) 2) [
      | inl few ↦ met_alone net times i k is_net meets at_k (one_cause k.kind (length k.causes) is_k.count few)
      | inr many ↦ at_some (Holds times) (slice_get net.constraints i) k at_k (split (rw at_k many))
    ]

-- times satisfy a network where they meet its always-edges and some choice edge of each constraint with two or more causes
satisfies : (net : Net) (times : List ℤ) (splits : List SplittableView) → IsNet net → MeetsAlways times net → AreSplits net splits → All (MeetsSome times) splits
    → Satisfies times net
satisfies net times splits is_net meets are met = record {
  count = meets.count;
  each = λ i d within.
      met_there net times i (get_or net.constraints i d) is_net meets (slice_get-get_or net.constraints i d within)
      (λ is.
      let has = are.all i is in
      let P : ℕ → Type 0 = IsMetAt times net in
      subst P has.2 (split_met net times has.0 is_net meets (All-contains (IsSplitOf net) splits has.0 are.each has.1) (All-contains (MeetsSome times) splits has.0 met has.1)));
}

-- the first constraint whose choice edges the times all break is the first constraint that they break
first_is_broken : (net : Net) (times : List ℤ) (splits : List SplittableView) (number : ℕ) → IsNet net → MeetsAlways times net → AreSplits net splits → IsFirstBrokenSplit times splits number
    → IsFirstBroken times net 0 number
first_is_broken net times splits number is_net meets are first = record {
  reached = omega arith;
  broken = broken;
  earlier = λ i d low high.
      let k : Constraint = get_or net.constraints i d in
      let within : number < length net.constraints = there in
      met_there net times i k is_net meets (slice_get-get_or net.constraints i d (omega (arith, within, high)))
      (λ is.
      let has = are.all i is in
      let P : ℕ → Type 0 = IsMetAt times net in
      subst P has.2 (split_met net times has.0 is_net meets (All-contains (IsSplitOf net) splits has.0 are.each has.1) (met_before has.0 has.1 (omega (arith, has.2, high)))));
}
  where
    -- any splitting will do as a default
    nothing : SplittableView
    nothing = record { number = 0; edges = [] }

    broken : Breaks times net number
    broken =
        let P : ℕ → Type 0 = Breaks times net in
        subst P (first.broken nothing).0 (split_broken net times (get_or splits first.place nothing) is_net (are.each first.place nothing first.within) (first.broken nothing).1)

    there : number < length net.constraints
    there =
        let found = some_and (slice_get net.constraints number) (λ (k : Constraint). Holds times k → ⊥) broken in
        slice_get_within net.constraints number found.0 found.1

    met_before : (s : SplittableView) → Contains splits s → s.number < number → MeetsSome times s
    met_before s (j, below, here) less =
        elim (cases_lt j first.place) [
          | inl earlier ↦ let P : SplittableView → Type 0 = MeetsSome times in subst P here (first.earlier j s (omega arith) earlier)
          | inr later ↦ absurd (not_before s j below here less later)
        ]
      where
        not_before : (s : SplittableView) (j : ℕ) → j < length splits → get_or splits j s ≡ s → s.number < number → first.place ≤ j → ⊥
        not_before s j below here less later =
            let is : (get_or splits first.place s).number ≡ number = (first.broken s).0 in
            let mine : (get_or splits j s).number ≡ s.number = ap (λ (x : SplittableView). x.number) here in
            elim (cases_lt first.place j) [
              | inl apart ↦ (let more = are.ascending first.place j s apart below in omega (arith, is, mine, less, more))
              | inr not ↦
                  (let same : first.place ≡ j = omega (arith, later, not) in
                  let equal : (get_or splits first.place s).number ≡ (get_or splits j s).number = ap (λ (n : ℕ). (get_or splits n s).number) same in
                  omega (arith, is, mine, less, equal))
            ]

-- the first constraint whose choice edges the times all break is the first that they break; if there is none, they satisfy the network
pub first_or_satisfies : (net : Net) (times : List ℤ) (splits : List SplittableView) (found : Option ℕ) → IsNet net → MeetsAlways times net → AreSplits net splits
    → MatchOption found (All (MeetsSome times) splits) (IsFirstBrokenSplit times splits) → MatchOption found (Satisfies times net) (IsFirstBroken times net 0)
first_or_satisfies net times splits None is_net meets are met = satisfies net times splits is_net meets are met
first_or_satisfies net times splits (Some number) is_net meets are first = first_is_broken net times splits number is_net meets are first

-- the choice edges can be read against times that meet the always-edges
pub can_look : (net : Net) (times : List ℤ) (splits : List SplittableView) → IsNet net → MeetsAlways times net → AreSplits net splits → AreBetween (length times) splits
can_look net times splits is_net meets are = rw meets.count (splits_between net splits is_net are)

-- ---- while they are listed

-- the list has the constraints with two or more causes among the first so many
pub record AreSplitsBelow (net : Net) (splits : List SplittableView) (count : ℕ) : Type 0 where
  pub each : All (IsSplitOf net) splits
  pub under : All (λ (s : SplittableView). s.number < count) splits
  pub below : (number : ℕ) → number < count → IsSplittable (slice_get net.constraints number) → HasNumber splits number
  pub ascending : AreAscending splits

pub no_splits : (net : Net) → AreSplitsBelow net [] 0
no_splits net = record {
  each = All-nil (IsSplitOf net);
  under = All-nil (λ (s : SplittableView). s.number < 0);
  below = λ number below is. absurd (omega (arith, below));
  ascending = λ i j d less within. absurd (omega (arith, within));
}

-- a constraint can be split if its count of causes is above 1
pub splits_counted : (o : Option Constraint) (count : ℕ) → option_map cause_count_of o ≡ Some count → 1 < count → IsSplittable o
splits_counted None count is many = absurd (cc)
splits_counted (Some k) count is many = omega (arith, same_Some _ _ is, many)

pub splits_not : (o : Option Constraint) (count : ℕ) → option_map cause_count_of o ≡ Some count → count ≤ 1 → IsSplittable o → ⊥
splits_not None count is few splits = splits
splits_not (Some k) count is few splits = absurd (omega (arith, same_Some _ _ is, few, splits))

-- the next constraint has two or more causes
pub splits_with : (net : Net) (splits : List SplittableView) (s : SplittableView) (count : ℕ) → AreSplitsBelow net splits count → IsSplitOf net s → s.number ≡ count
    → AreSplitsBelow net (splits ++ s ∷ []) (count + 1)
splits_with net splits s count are split is = record {
  each = All-push (IsSplitOf net) splits s are.each split;
  under = All-push (λ (x : SplittableView). x.number < count + 1) splits s (λ k d within. let less = are.under k d within in omega (arith, less)) (omega (arith, is));
  below = λ number below is_split.
      elim (cases_lt number count) [
        | inl earlier ↦ (let has = are.below number earlier is_split in (has.0, Contains-append_left splits (s ∷ []) has.0 has.1, has.2))
        | inr last ↦ (s, Contains-push splits s, omega (arith, is, below, last))
      ];
  ascending = all_pairs_push (λ (a b : SplittableView). a.number < b.number) splits s are.ascending (λ k d within. let less = are.under k d within in omega (arith, less, is));
}

-- the next constraint does not have two or more causes
pub splits_without : (net : Net) (splits : List SplittableView) (count : ℕ) → AreSplitsBelow net splits count → (IsSplittable (slice_get net.constraints count) → ⊥)
    → AreSplitsBelow net splits (count + 1)
splits_without net splits count are is_not = record {
  each = are.each;
  under = λ k d within. let less = are.under k d within in omega (arith, less);
  below = λ number below is.
      elim (cases_lt number count) [
        | inl earlier ↦ are.below number earlier is
        | inr last ↦ (let same : number ≡ count = omega (arith, below, last) in
            absurd (is_not (subst (λ (n : ℕ). IsSplittable (slice_get net.constraints n)) same is)))
      ];
  ascending = are.ascending;
}

-- the list has all constraints with two or more causes
pub all_splits : (net : Net) (splits : List SplittableView) (count : ℕ) → AreSplitsBelow net splits count → length net.constraints ≤ count → AreSplits net splits
all_splits net splits count are past = record {
  each = are.each;
  all = λ number is.
      let found = some_and (slice_get net.constraints number) (λ (k : Constraint). 2 ≤ cause_count_of k) is in
      let within : number < length net.constraints = slice_get_within net.constraints number found.0 found.1 in
      are.below number (omega (arith, within, past)) is;
  ascending = are.ascending;
}
