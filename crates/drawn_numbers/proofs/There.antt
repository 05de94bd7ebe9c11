-- The causes that a number draws are causes of the network.
use Rattle.std.proofs.Common.{◌≡◌, ◌<◌, ◌≤◌, ℕ, zero, suc, true, IsSome, List, [], ◌∷◌, length, get_or, map, All, Some, slice_get, refl, sym, ap, subst, ◌∙◌, arith}
use Rattle.std.specs.Prelude.{unwrap_or}
use Rattle.std.specs.Option.{option_and_then}
use Rattle.std.proofs.lemmas.List.Elements.{All-head, All-tail, Contains-get_or}
use Rattle.itv_base.specs.declared.limits.TheConstants.{MAX_CAUSES}
use Rattle.itv_base.proofs.Lists.{there_in}
use Rattle.origin.specs.declared.origin.Origin.{Origin}
use Rattle.event_graph.specs.Network.{Constraint, IsConstraint, IsNet, Net}
use Rattle.event_graph.proofs.Causes.{few_causes}
use Rattle.drawn_networks.specs.Drawn.{Drawn, OriginsFit}
use Rattle.drawn_numbers.specs.declared.cause_name.CauseName.{CauseName}
use Rattle.drawn_numbers.specs.declared.drawn_number.DrawnNumber.{DrawnNumber}
use Rattle.drawn_numbers.specs.Numbers.{IsCauseOf, causes_before, causes_of, draws, draws_cause, origins_of, part_of_target}
use Rattle.drawn_numbers.proofs.DrawnCauses.{before_takes, some_within}

module _ (events : ℕ) where
  -- what draws the causes of a constraint: as many as it has causes
  few_at : (origins : List (List Origin)) (cs : List Constraint) (k : ℕ) → map length origins ≡ map (λ (c : Constraint). length c.causes) cs
      → All (IsConstraint events) cs → length (unwrap_or (slice_get origins k) []) ≤ MAX_CAUSES
  few_at [] cs k fit all = omega arith
  few_at (own ∷ origins) [] k fit all = absurd (cc fit)
  few_at (own ∷ origins) (c ∷ cs) zero fit all =
      let same : length own ≡ length c.causes = cc fit in
      subst (λ n. n ≤ MAX_CAUSES) (sym same) (few_causes c.kind (length c.causes) (All-head (IsConstraint events) c cs all).count)
  few_at (own ∷ origins) (c ∷ cs) (suc k) fit all =
      let rest : map length origins ≡ map (λ (d : Constraint). length d.causes) cs = cc fit in
      few_at origins cs k rest (All-tail (IsConstraint events) c cs all)

there_at : (origins : List (List Origin)) (cs : List Constraint) (k i : ℕ) → map length origins ≡ map (λ (c : Constraint). length c.causes) cs
    → i < length (unwrap_or (slice_get origins k) []) → IsSome (option_and_then (λ (c : Constraint). slice_get c.causes i) (slice_get cs k))
there_at [] cs k i fit within = absurd (omega (arith, within))
there_at (own ∷ origins) [] k i fit within = absurd (cc fit)
there_at (own ∷ origins) (c ∷ cs) zero i fit within =
    let same : length own ≡ length c.causes = cc fit in
    there_in c.causes i (subst (λ n. i < n) same within)
there_at (own ∷ origins) (c ∷ cs) (suc k) i fit within =
    let rest : map length origins ≡ map (λ (d : Constraint). length d.causes) cs = cc fit in
    there_at origins cs k i rest within

-- a constraint has few causes
pub origins_few : (drawn : Drawn) (k : ℕ) → IsNet drawn.net → OriginsFit drawn.net drawn.origins → length (origins_of drawn k) ≤ MAX_CAUSES
origins_few drawn k is fit = few_at drawn.net.events drawn.origins drawn.net.constraints k fit is.constraints

-- the origins that are read are few
pub few_read : (drawn : Drawn) (k at : ℕ) (net : Net) (origins : List (List Origin)) (got given : List Origin) → net ≡ drawn.net → IsNet net → origins ≡ drawn.origins
    → OriginsFit drawn.net origins → at ≡ k → slice_get origins at ≡ Some got → given ≡ got → length given ≤ MAX_CAUSES
few_read drawn k at net origins got given same_net is same fits e found lent =
    let there : slice_get drawn.origins k ≡ Some got = subst (λ (os : List (List Origin)). slice_get os k ≡ Some got) same (subst (λ n. slice_get origins n ≡ Some got) e found) in
    let own : got ≡ origins_of drawn k = rw there refl in
    subst (λ (xs : List Origin). length xs ≤ MAX_CAUSES) (sym (lent ∙ own)) (origins_few drawn k (subst IsNet same_net is) (subst (OriginsFit drawn.net) same fits))

-- a cause that a number draws is there
pub drawn_there : (drawn : Drawn) (number : DrawnNumber) (name : CauseName) → OriginsFit drawn.net drawn.origins → draws_cause drawn number name ≡ true → IsCauseOf drawn.net name
drawn_there drawn number name fit is =
    there_at drawn.origins drawn.net.constraints name.constraint name.cause fit
    (some_within (draws number (part_of_target drawn name.constraint)) (origins_of drawn name.constraint) name.cause
    (slice_get (origins_of drawn name.constraint) name.cause) refl is)

pub causes_there : (drawn : Drawn) (number : DrawnNumber) → OriginsFit drawn.net drawn.origins → All (IsCauseOf drawn.net) (causes_of drawn number)
causes_there drawn number fit = λ k d within.
    drawn_there drawn number (get_or (causes_of drawn number) k d) fit
    (before_takes drawn number (length drawn.net.constraints) (get_or (causes_of drawn number) k d) (Contains-get_or (causes_of drawn number) k d within))

-- the causes that were gathered are there
pub gathered_there : (drawn : Drawn) (number : DrawnNumber) (n : ℕ) (items : List CauseName) (origins : List (List Origin)) → origins ≡ drawn.origins → OriginsFit drawn.net origins
    → items ≡ causes_before drawn number n → n ≡ length drawn.net.constraints → All (IsCauseOf drawn.net) items
gathered_there drawn number n items origins same fits is whole =
    subst (All (IsCauseOf drawn.net)) (sym (is ∙ ap (causes_before drawn number) whole)) (causes_there drawn number (subst (OriginsFit drawn.net) same fits))
