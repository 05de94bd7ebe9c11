-- Sessions: the bounds of pairs, and what they are after an edit.
use Rattle.std.proofs.Common.{◌≡◌, ◌<◌, ◌≤◌, ◌≤ℤ◌, ◌+◌, ℕ, ℤ, List, [], ◌∷◌, ◌++◌, length, get_or, take, map, All, Option, Some, None, slice_get, refl, sym, ap, subst, ◌∙◌, arith, append_assoc}
use Rattle.std.proofs.lemmas.List.{length-map, length-set, map-append, take_more}
use Rattle.std.proofs.lemmas.List.Elements.{All-append, All-cons, All-head, All-tail}
use Rattle.itv_base.specs.Range.{Ends}
use Rattle.event_graph.specs.Network.{Constraint, IsNet, Net, causes_with, constraints_with, with_range}
use Rattle.drawn_numbers.specs.Numbers.{with_ranges}
use Rattle.drawn_numbers.specs.declared.cause_name.CauseName.{CauseName}
use Rattle.event_graph.specs.Satisfying.{Satisfies}
use Rattle.event_graph.specs.Times.{separation}
use Rattle.requirements.specs.declared.bound.Bound.{Bound}
use Rattle.requirements.specs.declared.consistency.Consistency.{Consistency}
use Rattle.requirements.specs.declared.consistency.Consistency.TheVariants.{Consistent, Inconsistent, Open}
use Rattle.whatif.specs.declared.change.Change.{Change}
use Rattle.event_graph.specs.declared.pair.Pair.{Pair}
use Rattle.whatif.specs.declared.session.TheConstants.{MAX_PAIRS}
use Rattle.whatif.specs.Session.{AreUpdated, AttainsKnown, HasPlaces, IsPairOf, IsRight, IsRightBound, IsRightFinding, IsSearchedAnew, AreBoundsUpdated, IsSoundSession, KeptBound, MayKeepFrom, SessionView, both_ways}
use Rattle.whatif.specs.Step.Bounds.{IsCloseBound, IsPairIn}
use Rattle.whatif.proofs.Bounds.{kept_right}
use Rattle.whatif.proofs.Settled.{settled_all, settled_same}

length_with : (constraints : List Constraint) (number cause : ℕ) (range : Ends) (o : Option Constraint)
    → length (constraints_with constraints number cause range o) ≡ length constraints
length_with constraints number cause range None = refl
length_with constraints number cause range (Some c) =
    length-set constraints number (record c { causes = causes_with c.causes cause range (slice_get c.causes cause) })

length-with_range : (net : Net) (number cause : ℕ) (range : Ends) → length (with_range net number cause range).constraints ≡ length net.constraints
length-with_range net number cause range = length_with net.constraints number cause range (slice_get net.constraints number)

-- an edit leaves the number of constraints
pub length-with_ranges : (net : Net) (causes : List CauseName) (range : Ends) → length (with_ranges net causes range).constraints ≡ length net.constraints
length-with_ranges net [] range = refl
length-with_ranges net (name ∷ causes) range =
    length-with_ranges (with_range net name.constraint name.cause range) causes range ∙ length-with_range net name.constraint name.cause range

-- an edit leaves the number of events
pub events-with_ranges : (net : Net) (causes : List CauseName) (range : Ends) → (with_ranges net causes range).events ≡ net.events
events-with_ranges net [] range = refl
events-with_ranges net (name ∷ causes) range = events-with_ranges (with_range net name.constraint name.cause range) causes range

-- ---- pairs

length-both_ways : (pairs : List Pair) → length (both_ways pairs) ≡ length pairs + length pairs
length-both_ways [] = refl
length-both_ways (pair ∷ pairs) = omega (arith, length-both_ways pairs)

both_ways-append : (xs ys : List Pair) → both_ways (xs ++ ys) ≡ both_ways xs ++ both_ways ys
both_ways-append [] ys = refl
both_ways-append (pair ∷ xs) ys = ap (λ ps. pair ∷ (record { from = pair.to; to = pair.from }) ∷ ps) (both_ways-append xs ys)

all_both : (events : ℕ) (pairs : List Pair) → All (IsPairOf events) pairs → All (IsPairOf events) (both_ways pairs)
all_both events [] all = all_none
  where
    all_none : All (IsPairOf events) []
    all_none = λ k d within. absurd (omega arith)
all_both events (pair ∷ pairs) all =
    let here : IsPairOf events pair = All-head (IsPairOf events) pair pairs all in
    All-cons (IsPairOf events) pair ((record { from = pair.to; to = pair.from }) ∷ both_ways pairs) here
    (All-cons (IsPairOf events) (record { from = pair.to; to = pair.from }) (both_ways pairs) (here.1, here.0)
    (all_both events pairs (All-tail (IsPairOf events) pair pairs all)))

of_map : (events : ℕ) (bounds : List KeptBound) → All (IsPairOf events) (map (λ (b : KeptBound). b.pair) bounds) → All (IsPairIn events) bounds
of_map events [] all = λ k d within. absurd (omega arith)
of_map events (b ∷ bounds) all =
    All-cons (IsPairIn events) b bounds (All-head (IsPairOf events) b.pair (map (λ (d : KeptBound). d.pair) bounds) all)
    (of_map events bounds (All-tail (IsPairOf events) b.pair (map (λ (d : KeptBound). d.pair) bounds) all))

-- if pairs are of events of the network, so are the pairs of their bounds
pub pairs_in : (events : ℕ) (pairs : List Pair) (bounds : List KeptBound) → map (λ (b : KeptBound). b.pair) bounds ≡ both_ways pairs → All (IsPairOf events) pairs
    → All (IsPairIn events) bounds
pairs_in events pairs bounds same all = of_map events bounds (subst (All (IsPairOf events)) (sym same) (all_both events pairs all))

-- there are two bounds for each pair
pub count_bounds : (pairs : List Pair) (bounds : List KeptBound) → map (λ (b : KeptBound). b.pair) bounds ≡ both_ways pairs → length bounds ≡ length pairs + length pairs
count_bounds pairs bounds same = sym (length-map bounds (λ (b : KeptBound). b.pair)) ∙ (ap length same ∙ length-both_ways pairs)

-- ---- bounds that were settled

right_all : (old net : Net) (budget : ℕ) (was : Consistency) (known : List ℤ) (before now : List KeptBound) (kept searched : ℕ)
    → AreUpdated (MayKeepFrom was net) (IsSearchedAnew net budget known) before now kept searched
    → (was ≡ Consistent → All (IsRightBound old budget) before) → All (IsRightBound net budget) now
right_all old net budget Consistent known before now kept searched settled was_right =
    settled_all (MayKeepFrom Consistent net) (IsSearchedAnew net budget known) (IsRightBound old budget) (IsRightBound net budget) before now kept searched
    (λ a may right. kept_right old net budget a right may) (λ a b s. s.right) settled (was_right refl)
right_all old net budget Inconsistent known before now kept searched settled was_right =
    settled_all (MayKeepFrom Inconsistent net) (IsSearchedAnew net budget known) (λ a. Unit {0}) (IsRightBound net budget) before now kept searched
    (λ a may right. absurd may) (λ a b s. s.right) settled (λ k d within. tt)
right_all old net budget Open known before now kept searched settled was_right =
    settled_all (MayKeepFrom Open net) (IsSearchedAnew net budget known) (λ a. Unit {0}) (IsRightBound net budget) before now kept searched
    (λ a may right. absurd may) (λ a b s. s.right) settled (λ k d within. tt)

settled_right : (old net : Net) (budget : ℕ) (was found : Consistency) (before now : List KeptBound) (change : Change) → AreBoundsUpdated net budget was found before now change
    → (was ≡ Consistent → All (IsRightBound old budget) before) → found ≡ Consistent → All (IsRightBound net budget) now
settled_right old net budget was Consistent before now change settled was_right is =
    right_all old net budget was settled.0 before now change.kept change.searched settled.2 was_right
settled_right old net budget was Inconsistent before now change settled was_right is = absurd (cc)
settled_right old net budget was Open before now change settled was_right is = absurd (cc)

settled_pairs : (net : Net) (budget : ℕ) (was found : Consistency) (before now : List KeptBound) (change : Change) → AreBoundsUpdated net budget was found before now change
    → map (λ (b : KeptBound). b.pair) now ≡ map (λ (b : KeptBound). b.pair) before
settled_pairs net budget was Consistent before now change settled =
    settled_same (MayKeepFrom was net) (IsSearchedAnew net budget settled.0) (λ (b : KeptBound). b.pair) before now change.kept change.searched (λ a b s. s.pair) settled.2
settled_pairs net budget was Inconsistent before now change settled = ap (map (λ (b : KeptBound). b.pair)) settled.0
settled_pairs net budget was Open before now change settled = ap (map (λ (b : KeptBound). b.pair)) settled.0

attains : (net : Net) (budget : ℕ) (known : List ℤ) (a b : KeptBound) → IsSearchedAnew net budget known a b
    → separation known b.pair.from b.pair.to ≤ℤ separation b.times b.pair.from b.pair.to
attains net budget known a b s = subst (λ (p : Pair). separation known p.from p.to ≤ℤ separation b.times p.from p.to) (sym s.pair) s.least

settled_attains : (net : Net) (budget : ℕ) (found : Consistency) (before now : List KeptBound) (change : Change) → AreBoundsUpdated net budget Open found before now change → found ≡ Consistent
    → (known : List ℤ) × Satisfies known net × All (λ (b : KeptBound). separation known b.pair.from b.pair.to ≤ℤ separation b.times b.pair.from b.pair.to) now
settled_attains net budget Consistent before now change settled is = (
  settled.0,
  settled.1,
  settled_all (MayKeepFrom Open net) (IsSearchedAnew net budget settled.0) (λ a. Unit {0})
      (λ (b : KeptBound). separation settled.0 b.pair.from b.pair.to ≤ℤ separation b.times b.pair.from b.pair.to) before now change.kept change.searched
      (λ a may right. absurd may) (λ a b s. attains net budget settled.0 a b s) settled.2 (λ k d within. tt),
)
settled_attains net budget Inconsistent before now change settled is = absurd (cc)
settled_attains net budget Open before now change settled is = absurd (cc)

close_of : (net : Net) (budget : ℕ) (bounds : List KeptBound) → All (IsRightBound net budget) bounds → All IsCloseBound bounds
close_of net budget bounds right = λ k d within. (right k d within).close

pub close_before : (s : SessionView) → IsRight s → s.found ≡ Consistent → All IsCloseBound s.bounds
close_before s right is = close_of s.net s.budget s.bounds (right.bounds is)

-- ---- sessions that are begun

-- a new session is sound; its parts have several names
pub sound_begun : (own net : Net) (budget : ℕ) (given pairs : List Pair) (found : Consistency) (before begun now shown : List KeptBound) (room made : ℕ) → own ≡ net → pairs ≡ given
    → map (λ (b : KeptBound). b.pair) before ≡ both_ways given → begun ≡ before → shown ≡ now → All (IsPairOf net.events) given → length given ≤ MAX_PAIRS
    → IsNet own → IsRightFinding own budget found → ((change : Change) × AreBoundsUpdated own budget Open found begun now change) → All (HasPlaces own.events) now
    → room ≡ made → made ≡ length own.constraints → 0 < budget
    → IsSoundSession (record { net = own; budget = budget; pairs = pairs; found = found; bounds = shown }) room
sound_begun own net budget given pairs found before begun now shown room made is_own is_pairs same is_begun is_shown within few is_net finding settled places is_room is_made some =
    let pairs_now : map (λ (b : KeptBound). b.pair) shown ≡ both_ways pairs =
    ap (map (λ (b : KeptBound). b.pair)) is_shown
    ∙ (settled_pairs own budget Open found begun now settled.0 settled.1 ∙ (ap (map (λ (b : KeptBound). b.pair)) is_begun ∙ (same ∙ ap both_ways (sym is_pairs)))) in
    record {
      right = record {
        net = is_net;
        pairs = pairs_now;
        within = subst (All (IsPairOf own.events)) (sym is_pairs) (subst (λ (n : Net). All (IsPairOf n.events) given) (sym is_own) within);
        finding = finding;
        bounds = λ is. subst (All (IsRightBound own budget)) (sym is_shown)
            (settled_right own own budget Open found begun now settled.0 settled.1 (λ other. absurd (cc)) is);
      };
      room_is = is_room ∙ is_made;
      some_budget = some;
      places = subst (All (HasPlaces own.events)) (sym is_shown) places;
      count = subst (λ (ps : List Pair). length ps ≤ MAX_PAIRS) (sym is_pairs) few;
    }

pub attains_begun : (own : Net) (budget : ℕ) (pairs : List Pair) (found : Consistency) (begun now shown : List KeptBound) → shown ≡ now
    → ((change : Change) × AreBoundsUpdated own budget Open found begun now change)
    → AttainsKnown (record { net = own; budget = budget; pairs = pairs; found = found; bounds = shown })
attains_begun own budget pairs found begun now shown is_shown settled is = rw is_shown (settled_attains own budget found begun now settled.0 settled.1 is)

-- the bounds of one pair more
pub two_more : (events : ℕ) (pairs : List Pair) (k : ℕ) (bounds more : List KeptBound) (a b : KeptBound) (d : Pair) → map (λ (b : KeptBound). b.pair) bounds ≡ both_ways (take k pairs)
    → All (HasPlaces events) bounds → k < length pairs → a.pair ≡ get_or pairs k d → b.pair ≡ record { from = (get_or pairs k d).to; to = (get_or pairs k d).from } → HasPlaces events a → HasPlaces events b
    → more ≡ (bounds ++ a ∷ []) ++ b ∷ []
    → (map (λ (b : KeptBound). b.pair) more ≡ both_ways (take (k + 1) pairs)) × All (HasPlaces events) more
two_more events pairs k bounds more a b d same places within is_a is_b places_a places_b grows =
    let pair : Pair = get_or pairs k d in
    let whole : more ≡ bounds ++ (a ∷ b ∷ []) = grows ∙ append_assoc bounds (a ∷ []) (b ∷ []) in
    let two : map (λ (b : KeptBound). b.pair) (a ∷ b ∷ []) ≡ both_ways (pair ∷ []) = rw (is_a, is_b) refl in
    let pairs_now : map (λ (b : KeptBound). b.pair) more ≡ both_ways (take (k + 1) pairs) =
    ap (map (λ (b : KeptBound). b.pair)) whole
    ∙ (map-append (λ (b : KeptBound). b.pair) bounds (a ∷ b ∷ [])
    ∙ (ap (λ ps. ps ++ map (λ (b : KeptBound). b.pair) (a ∷ b ∷ [])) same ∙ (ap (λ ps. both_ways (take k pairs) ++ ps) two
    ∙ (sym (both_ways-append (take k pairs) (pair ∷ [])) ∙ ap both_ways (sym (take_more pairs k d within)))))) in
    let last : All (HasPlaces events) (b ∷ []) = All-cons (HasPlaces events) b [] places_b (λ k d within. absurd (omega arith)) in
    (pairs_now, subst (All (HasPlaces events)) (sym whole) (All-append (HasPlaces events) bounds (a ∷ b ∷ []) places (All-cons (HasPlaces events) a (b ∷ []) places_a last)))

-- ---- sessions that are edited

-- a session that was edited is sound; the bounds before and after the edit have other names
pub sound_behind : (old : SessionView) (causes : List CauseName) (range : Ends) (net : Net) (found : Consistency) (before now shown : List KeptBound) (change : Change) (room room_now : ℕ) → IsSoundSession old room
    → net ≡ with_ranges old.net causes range → IsNet net → IsRightFinding net old.budget found → AreBoundsUpdated net old.budget old.found found before now change
    → room_now ≡ room → All (HasPlaces net.events) now → before ≡ old.bounds → shown ≡ now
    → IsSoundSession (record { net = net; budget = old.budget; pairs = old.pairs; found = found; bounds = shown }) room_now
sound_behind old causes range net found before now shown change room room_now sound is is_net finding settled same_room places is_before is_shown =
    let events : net.events ≡ old.net.events = ap (λ (n : Net). n.events) is ∙ events-with_ranges old.net causes range in
    let count : length net.constraints ≡ length old.net.constraints = ap (λ (n : Net). length n.constraints) is ∙ length-with_ranges old.net causes range in
    let was_right : old.found ≡ Consistent → All (IsRightBound old.net old.budget) before =
    λ consistent. subst (All (IsRightBound old.net old.budget)) (sym is_before) (sound.right.bounds consistent) in
    let pairs_now : map (λ (b : KeptBound). b.pair) shown ≡ both_ways old.pairs =
    ap (map (λ (b : KeptBound). b.pair)) is_shown
    ∙ (settled_pairs net old.budget old.found found before now change settled ∙ (ap (map (λ (b : KeptBound). b.pair)) is_before ∙ sound.right.pairs)) in
    record {
      right = record {
        net = is_net;
        pairs = pairs_now;
        within = subst (λ n. All (IsPairOf n) old.pairs) (sym events) sound.right.within;
        finding = finding;
        bounds = λ consistent. subst (All (IsRightBound net old.budget)) (sym is_shown)
            (settled_right old.net net old.budget old.found found before now change settled was_right consistent);
      };
      room_is = same_room ∙ (sound.room_is ∙ sym count);
      some_budget = sound.some_budget;
      places = subst (All (HasPlaces net.events)) (sym is_shown) places;
      count = sound.count;
    }

-- ---- answers

pub answers_more : (bounds : List KeptBound) (k : ℕ) (answers more : List Bound) (a : Bound) (d : KeptBound) → k < length bounds → answers ≡ map (λ (b : KeptBound). b.answer) (take k bounds)
    → a ≡ (get_or bounds k d).answer → more ≡ answers ++ a ∷ [] → more ≡ map (λ (b : KeptBound). b.answer) (take (k + 1) bounds)
answers_more bounds k answers more a d within so_far is grows =
    grows ∙ (ap (λ x. answers ++ x ∷ []) is ∙ (ap (λ xs. xs ++ (get_or bounds k d).answer ∷ []) so_far
    ∙ (sym (map-append (λ (b : KeptBound). b.answer) (take k bounds) (get_or bounds k d ∷ [])) ∙ ap (map (λ (b : KeptBound). b.answer)) (sym (take_more bounds k d within)))))
