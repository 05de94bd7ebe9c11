-- What a search of one edge finds.
use Rattle.std.proofs.Common.{◌≡◌, ◌^◌, ◌≤ℤ◌, ◌<ℤ◌, ◌-ℤ◌, ℕ, zero, suc, ℤ, pos, neg_ℤ, Bool, List, [], ◌∷◌, get_or, All, Option, Some, None, sym, subst, ◌⊎◌, inl, inr, arith, rules, to_z, of_z, w64}
use Rattle.std.specs.Prelude.{IfSome}
use Rattle.std.specs.Global.{Vec}
use Rattle.std.proofs.lemmas.Int.{ints, to_z-of_z}
use mir.Val.{SFits}
use Rattle.itv_base.specs.declared.names.EventId.{EventId}
use Rattle.event_graph.specs.declared.edge.Edge.{Edge}
use Rattle.event_graph.specs.Bounds.{IsGreatest}
use Rattle.event_graph.specs.Network.{Net}
use Rattle.event_graph.specs.Satisfying.{Satisfies}
use Rattle.event_graph.specs.Times.{IsTime, separation, time_of}
use Rattle.event_graph.proofs.Rays.{ray_is_unbounded}
use Rattle.extremes.specs.Found.{CanRise, IsAttainedBy, IsGreatestFound}
use Rattle.extremes.specs.Found.{Greatest}
use Rattle.requirements.specs.declared.separation.Separation.TheVariants.{Closed, Unbounded}
use Rattle.narrow_ends.specs.declared.end.EndFound.{EndFound}
use Rattle.narrow_ends.specs.declared.end.EndFound.TheVariants.{Narrow, Wide}
use Rattle.narrow_ends.specs.Narrow.{IsAttainable}
use Rattle.narrow_ends.specs.Step.{IsSearched}

-- a greatest separation of at least this reaches it
pub closed_reached : (net : Net) (e : Edge) (weight value : ℤ) → IsGreatest net e.from e.to value → weight ≤ℤ value → IsAttainable net weight e
closed_reached net e weight value greatest le =
    let at : separation greatest.attained.0 e.from e.to ≡ value = greatest.attained.2 in
    (greatest.attained.0, greatest.attained.1, subst (λ (z : ℤ). weight ≤ℤ z) (sym at) le)

-- separations without end reach each number
pub unbounded_reached : (net : Net) (e : Edge) (weight : ℤ) (set : List Bool) → CanRise net e.from e.to set → IsAttainable net weight e
unbounded_reached net e weight set found =
    let beyond = ray_is_unbounded net e.from e.to found.0 set found.2 weight in
    let less : weight <ℤ separation beyond.0 e.from e.to = beyond.2 in
    (beyond.0, beyond.1, omega (arith, ints, less))

below_weight : (weight value only : ℤ) (so_far : Option ℤ) → value <ℤ weight → (so_far ≡ Some only) ⊎ (only ≡ value) → IfSome so_far (λ z. z <ℤ weight) → only <ℤ weight
below_weight weight value only None less (inl same) before = absurd (cc same)
below_weight weight value only (Some z) less (inl same) before = subst (λ (y : ℤ). y <ℤ weight) (cc same) before
below_weight weight value only so_far less (inr same) before = subst (λ (y : ℤ). y <ℤ weight) (sym same) less

-- a greatest separation below the weight, after the greatest one so far
pub closed_narrow : (net : Net) (e : Edge) (weight value only : ℤ) (so_far : Option ℤ) → IsGreatest net e.from e.to value → value <ℤ weight → value ≤ℤ only
    → IfSome so_far (λ z. z ≤ℤ only) → (so_far ≡ Some only) ⊎ (only ≡ value) → IsSearched net e weight so_far (Narrow only)
closed_narrow net e weight value only so_far greatest less least before one = (
  (λ below. below_weight weight value only so_far less one below),
  before,
  (λ times sat. let most : separation times e.from e.to ≤ℤ value = greatest.most times sat in omega (arith, ints, most, least)),
  (elim one [
    | inl same ↦ inl same
    | inr same ↦ inr (closed_reached net e only value greatest (subst (λ (z : ℤ). z ≤ℤ value) (sym same) (omega (arith, ints))))
  ]),
)

-- ---- numbers of 64 bits

time_at : (times : List ℤ) (k : ℕ) → All IsTime times → IsTime (get_or times k (pos 0))
time_at [] k within = (omega (arith, ints), omega (arith, ints))
time_at (time ∷ times) zero within = within 0 (pos 0) (omega arith)
time_at (time ∷ times) (suc k) within = time_at times k (λ j d below. within (suc j) d (omega arith))

between_times : (a b : ℤ) → IsTime a → IsTime b → SFits w64 (b -ℤ a)
between_times a b h k =
    let low : neg_ℤ (pos (2 ^ 62)) ≤ℤ (b -ℤ a) = omega (arith, ints, h.0, h.1, k.0, k.1) in
    let high : (b -ℤ a) ≤ℤ pos (2 ^ 62) = omega (arith, ints, h.0, h.1, k.0, k.1) in
    search rules

-- a greatest separation has 64 bits
pub value_fits : (net : Net) (from to : EventId) (value : ℤ) (times : List ℤ) → IsAttainedBy net from to value times → SFits w64 value
value_fits net from to value times found =
    subst (λ (z : ℤ). SFits w64 z) found.attains (between_times (time_of times from) (time_of times to) (time_at times from.0 found.within) (time_at times to.0 found.within))

-- what is found of an end by a greatest separation
pub closed_found : (net : Net) (e : Edge) (weight passed value : ℤ) (so_far : Option ℤ) (greatest : Greatest) (times : Vec ℤ) (next last : EndFound) → passed ≡ weight
    → greatest ≡ Closed value times → (IsGreatest net e.from e.to (to_z w64 (of_z w64 value)) → IsSearched net e passed so_far next) → last ≡ next
    → IsGreatestFound net e.from e.to greatest → IsSearched net e weight so_far last
closed_found net e weight passed value so_far greatest times next last same_weight is searched same found =
    let attained : IsAttainedBy net e.from e.to value times.items = subst (IsGreatestFound net e.from e.to) is found in
    let kept : to_z w64 (of_z w64 value) ≡ value = to_z-of_z w64 value (value_fits net e.from e.to value times.items attained) in
    let here : IsSearched net e passed so_far next = searched (subst (IsGreatest net e.from e.to) (sym kept) attained.greatest) in
    subst (λ (z : ℤ). IsSearched net e z so_far last) same_weight (subst (IsSearched net e passed so_far) (sym same) here)

-- what is found of an end without a greatest separation
pub unbounded_found : (net : Net) (e : Edge) (weight : ℤ) (so_far : Option ℤ) (greatest : Greatest) (set : Vec Bool) (last : EndFound) → greatest ≡ Unbounded set → last ≡ Wide
    → IsGreatestFound net e.from e.to greatest → IsSearched net e weight so_far last
unbounded_found net e weight so_far greatest set last is same found =
    let without_end : CanRise net e.from e.to set.items = subst (IsGreatestFound net e.from e.to) is found in
    subst (IsSearched net e weight so_far) (sym same) (unbounded_reached net e weight set.items without_end)

-- the times of a greatest separation satisfy the network
pub closed_satisfies : (net : Net) (e : Edge) (greatest : Greatest) (value : ℤ) (times : Vec ℤ) → greatest ≡ Closed value times → IsGreatestFound net e.from e.to greatest → Satisfies times.items net
closed_satisfies net e greatest value times is found = let attained : IsAttainedBy net e.from e.to value times.items = subst (IsGreatestFound net e.from e.to) is found in attained.satisfies
