-- The numbers of a drawing are all.
use Rattle.std.proofs.Common.{◌≡◌, ◌∙◌, ◌||◌, ℕ, Bool, true, false, if◌then◌else◌, List, [], ◌∷◌, ◌++◌, All, map, fold, refl, eq-eqb}
use Rattle.std.specs.Prelude.{zip}
use Rattle.std.proofs.lemmas.List.Elements.{All-cons, All-nil, All-weaker}
use Rattle.std.proofs.lemmas.Slice.Eq.{bytes_eq-Decides}
use Rattle.origin.specs.declared.origin.Origin.{Origin}
use Rattle.origin.specs.declared.origin.Origin.TheVariants.{Edge, Lane, Pin, Wire}
use Rattle.event_graph.specs.Network.{Constraint}
use Rattle.event_graph.specs.declared.cause.Cause.{Cause}
use Rattle.itv_base.specs.Range.{Ends}
use Rattle.drawn_networks.specs.Drawn.{Drawn, name_of}
use Rattle.drawn_numbers.specs.Numbers.{draws}
use Rattle.moves.specs.Listed.{number_by, with_cause, with_causes}
use Rattle.moves.specs.Moving.{any_draws}
use Rattle.moves.specs.declared.number_seen.NumberSeen.{NumberSeen}
use Rattle.conformance.specs.Laws.{IsListed, NumbersAreAll}

-- ---- folds

fold_keeps : {A X : Type 0} (P : A → Type 0) (f : A → X → A) → ((a : A) (x : X) → P a → P (f a x)) → (a : A) (xs : List X) → P a → P (fold f a xs)
fold_keeps P f keeps a [] holds = holds
fold_keeps P f keeps a (x ∷ xs) holds = fold_keeps P f keeps (f a x) xs (keeps a x holds)

-- what the step of each element brings, and each step keeps, holds of all elements
fold_brings : {A X : Type 0} (R : X → A → Type 0) (f : A → X → A) → ((a : A) (x : X) → R x (f a x)) → ((y : X) (a : A) (x : X) → R y a → R y (f a x)) → (a : A) (xs : List X) → All (λ x. R x (fold f a xs)) xs
fold_brings R f brings keeps a [] = All-nil (λ x. R x (fold f a []))
fold_brings R f brings keeps a (x ∷ xs) =
    All-cons (λ y. R y (fold f a (x ∷ xs))) x xs (fold_keeps (R x) f (keeps x) (f a x) xs (brings a x)) (fold_brings R f brings keeps (f a x) xs)

-- ---- one cause

drawn_of_more : (seen more : List NumberSeen) (part : List ℕ) (origin : Origin)
    → any_draws (map (λ (s : NumberSeen). s.number) (seen ++ more)) part origin ≡ (any_draws (map (λ (s : NumberSeen). s.number) seen) part origin || any_draws (map (λ (s : NumberSeen). s.number) more) part origin)
drawn_of_more [] more part origin = refl
drawn_of_more (s ∷ seen) more part origin =
    by (draws s.number part origin) (any_draws (map (λ (s : NumberSeen). s.number) (seen ++ more)) part origin) (any_draws (map (λ (s : NumberSeen). s.number) seen) part origin)
    (any_draws (map (λ (s : NumberSeen). s.number) more) part origin) (drawn_of_more seen more part origin)
  where
    by : (t a b c : Bool) → a ≡ (b || c) → (t || a) ≡ ((t || b) || c)
    by true a b c is = refl
    by false a b c is = is

both : (a b : Bool) → a ≡ true → (a || b) ≡ true
both true b is = refl
both false b is = absurd (cc is)

other : (a b : Bool) → b ≡ true → (a || b) ≡ true
other true b is = refl
other false b is = is

listed_more : (seen more : List NumberSeen) (part : List ℕ) (origin : Origin) → IsListed seen part origin → IsListed (seen ++ more) part origin
listed_more seen more part (Lane lane) is = tt
listed_more seen more part (Edge edge) is = drawn_of_more seen more part (Edge edge) ∙ both _ _ is
listed_more seen more part (Pin net pin) is = drawn_of_more seen more part (Pin net pin) ∙ both _ _ is
listed_more seen more part (Wire wire) is = drawn_of_more seen more part (Wire wire) ∙ both _ _ is

-- the number that draws it does so
number_draws : (part : List ℕ) (origin : Origin) (range : Ends) → IsListed (number_by part origin range) part origin
number_draws part (Lane lane) range = tt
number_draws part (Edge edge) range = let same = eq-eqb edge edge refl in let own = (bytes_eq-Decides part part).1 refl in rw (same, own) refl
number_draws part (Pin net pin) range = let same = eq-eqb net net refl in rw same refl
number_draws part (Wire wire) range = let same = eq-eqb wire wire refl in rw same refl

brought : (seen more : List NumberSeen) (part : List ℕ) (origin : Origin) → IsListed more part origin → IsListed (seen ++ more) part origin
brought seen more part (Lane lane) is = tt
brought seen more part (Edge edge) is = drawn_of_more seen more part (Edge edge) ∙ other _ _ is
brought seen more part (Pin net pin) is = drawn_of_more seen more part (Pin net pin) ∙ other _ _ is
brought seen more part (Wire wire) is = drawn_of_more seen more part (Wire wire) ∙ other _ _ is

by_test : (test : Bool) (seen : List NumberSeen) (part : List ℕ) (origin : Origin) (range : Ends) → any_draws (map (λ (s : NumberSeen). s.number) seen) part origin ≡ test
    → IsListed (if test then seen else seen ++ number_by part origin range) part origin
by_test true seen part (Lane lane) range is = tt
by_test true seen part (Edge edge) range is = is
by_test true seen part (Pin net pin) range is = is
by_test true seen part (Wire wire) range is = is
by_test false seen part origin range is = brought seen (number_by part origin range) part origin (number_draws part origin range)

cause_brings : (part : List ℕ) (seen : List NumberSeen) (at : Cause × Origin) → IsListed (with_cause part seen at) part at.1
cause_brings part seen (cause, origin) = by_test (any_draws (map (λ (s : NumberSeen). s.number) seen) part origin) seen part origin cause.range refl

kept_by : (test : Bool) (seen more : List NumberSeen) (part : List ℕ) (origin : Origin) → IsListed seen part origin → IsListed (if test then seen else seen ++ more) part origin
kept_by true seen more part origin is = is
kept_by false seen more part origin is = listed_more seen more part origin is

cause_keeps : (part own : List ℕ) (origin : Origin) (seen : List NumberSeen) (at : Cause × Origin) → IsListed seen own origin → IsListed (with_cause part seen at) own origin
cause_keeps part own origin seen (cause, drew) is = kept_by (any_draws (map (λ (s : NumberSeen). s.number) seen) part drew) seen (number_by part drew cause.range) own origin is

-- ---- all causes

module _ (drawn : Drawn) where
  constraint_brings : (seen : List NumberSeen) (drew : Constraint × List Origin) → All (λ (at : Cause × Origin). IsListed (with_causes drawn seen drew) (name_of drawn drew.0.target).part at.1) (zip drew.0.causes drew.1)
  constraint_brings seen (c, drew) =
      let part : List ℕ = (name_of drawn c.target).part in
      fold_brings (λ (at : Cause × Origin) seen. IsListed seen part at.1) (with_cause part) (cause_brings part) (λ at seen next is. cause_keeps part part at.1 seen next is) seen (zip c.causes drew)

  one_keeps : (part : List ℕ) (origin : Origin) (seen : List NumberSeen) (drew : Constraint × List Origin) → IsListed seen part origin → IsListed (with_causes drawn seen drew) part origin
  one_keeps part origin seen (c, drew) is =
      fold_keeps (λ seen. IsListed seen part origin) (with_cause (name_of drawn c.target).part) (λ seen at listed. cause_keeps (name_of drawn c.target).part part origin seen at listed) seen (zip c.causes drew) is

pub numbers_are_all : NumbersAreAll
numbers_are_all drawn =
    fold_brings (λ (drew : Constraint × List Origin) seen. All (λ (at : Cause × Origin). IsListed seen (name_of drawn drew.0.target).part at.1) (zip drew.0.causes drew.1)) (with_causes drawn)
    (constraint_brings drawn)
    (λ drew seen next is. All-weaker (λ (at : Cause × Origin). IsListed seen (name_of drawn drew.0.target).part at.1)
    (λ (at : Cause × Origin). IsListed (with_causes drawn seen next) (name_of drawn drew.0.target).part at.1) (λ at listed. one_keeps drawn (name_of drawn drew.0.target).part at.1 seen next listed) (zip drew.0.causes drew.1) is)
    [] (zip drawn.net.constraints drawn.origins)
