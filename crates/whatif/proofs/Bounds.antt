-- What is kept of a bound, and what a search leaves of it.
use Rattle.std.proofs.Common.{◌≡◌, inl, inr, ℕ, ℤ, pos, ◌≤ℤ◌, ◌<ℤ◌, ◌+ℤ◌, Bool, true, false, List, [], ◌∷◌, length, All, Option, Some, None, refl, sym, ap, subst, ◌∙◌, arith}
use Rattle.std.specs.Prelude.{IsSomeAnd, unwrap_or}
use Rattle.std.proofs.lemmas.Int.{ints}
use Rattle.itv_base.specs.declared.names.EventId.{EventId}
use Rattle.event_graph.specs.Bounds.{IsGreatest, IsRay}
use Rattle.event_graph.specs.Network.{Net}
use Rattle.event_graph.specs.Proof.{Bound as BoundGoal, IsProof, ProofLine, closing_lines}
use Rattle.event_graph.specs.Reading.{AtEachSplit}
use Rattle.event_graph.specs.Satisfying.{Satisfies}
use Rattle.event_graph.specs.Times.{IsTime, raised, separation}
use Rattle.event_graph.proofs.Rays.{ray_is_unbounded}
use Rattle.event_graph.proofs.SoundProofs.{proof_bounds}
use Rattle.branch.specs.Answers.{IsGreatestAnswer}
use Rattle.branch.specs.Needed.{IsNeededToBound}
use Rattle.branch.specs.Work.{IsClose}
use Rattle.requirements.specs.declared.bound.Bound.{Bound}
use Rattle.requirements.specs.declared.bound.Bound.TheVariants.{Closed, Unbounded, Within}
use Rattle.branch.proofs.Close.{time_close}
use Rattle.whatif.specs.declared.bound.TheConstants.{MAX_KEPT_EDGES, MAX_KEPT_LINES}
use Rattle.event_graph.specs.declared.pair.Pair.{Pair}
use Rattle.whatif.specs.Step.Keeping.{KeeperGrew, KeeperView, KeptOn}
use Rattle.whatif.specs.Laws.{IsSettledAnswer, SettledBoundsAgree}
use Rattle.whatif.specs.Session.{HasProof, IsRightBound, IsSearchedAnew, KeepsProof, KeptBound, MayKeep, MayKeepAs}
use Rattle.whatif.specs.Step.Bounds.{IsPairSearched, kept_of, pair_search, left_by}

-- ---- a bound that is kept

raised_none : (set : List Bool) (times : List ℤ) → raised set 0 times ≡ times
raised_none [] times = refl
raised_none (b ∷ set) [] = refl
raised_none (true ∷ set) (time ∷ times) =
    let here : time +ℤ pos 0 ≡ time = omega (arith, ints) in
    ap (λ t. t ∷ raised set 0 times) here ∙ ap (λ ts. time ∷ ts) (raised_none set times)
raised_none (false ∷ set) (time ∷ times) = ap (λ ts. time ∷ ts) (raised_none set times)

ray_satisfies : (net : Net) (from to : EventId) (times : List ℤ) (set : List Bool) → IsRay net from to times set → Satisfies times net
ray_satisfies net from to times set ray = subst (λ ts. Satisfies ts net) (raised_none set times) (ray.satisfies 0)

kept_answers : (old net : Net) (budget : ℕ) (pair : Pair) (times : List ℤ) (ray : List Bool) (proof : Option (List ProofLine)) (answer : Bound) (lines : List ProofLine)
    (leaves : ℕ) → IsGreatestAnswer (pair_search old pair budget) (left_by lines leaves times ray) answer → MayKeepAs net pair times ray proof answer
    → (others : List ProofLine) × (count : ℕ) × IsGreatestAnswer (pair_search net pair budget) (left_by others count times ray) answer
kept_answers old net budget pair times ray (Some kept) (Closed value) lines leaves was may = (
  kept,
  closing_lines kept,
  record {
    greatest = record { attained = (times, may.1, was.attained); most = λ other satisfies. proof_bounds net pair.from pair.to value kept other may.0 satisfies };
    attained = was.attained;
    proof = may.0;
    count = refl;
  },
)
kept_answers old net budget pair times ray None (Closed value) lines leaves was may = absurd may.0
kept_answers old net budget pair times ray proof Unbounded lines leaves was may =
    ([], 1, record { raised = may; stopped = (pos 0, 0, record { open_case = ([], [], refl); closed = refl }, refl) })
kept_answers old net budget pair times ray proof (Within limit attained) lines leaves was may = absurd may

kept_satisfies : (net : Net) (pair : Pair) (times : List ℤ) (ray : List Bool) (proof : Option (List ProofLine)) (answer : Bound) → MayKeepAs net pair times ray proof answer
    → Satisfies times net
kept_satisfies net pair times ray proof (Closed value) may = may.1
kept_satisfies net pair times ray proof Unbounded may = ray_satisfies net pair.from pair.to times ray may
kept_satisfies net pair times ray proof (Within limit attained) may = absurd may

kept_proof : (old net : Net) (pair : Pair) (times : List ℤ) (ray : List Bool) (proof : Option (List ProofLine)) (answer : Bound) → KeepsProof old pair proof answer
    → MayKeepAs net pair times ray proof answer → KeepsProof net pair proof answer
kept_proof old net pair times ray (Some lines) (Closed value) was may = may.0
kept_proof old net pair times ray None (Closed value) was may = absurd may.0
kept_proof old net pair times ray proof Unbounded was may = was
kept_proof old net pair times ray proof (Within limit attained) was may = was

-- a right bound that may be kept for another network is right for it
pub kept_right : (old net : Net) (budget : ℕ) (b : KeptBound) → IsRightBound old budget b → MayKeep net b → IsRightBound net budget b
kept_right old net budget b right may = record {
  answers = kept_answers old net budget b.pair b.times b.ray b.proof b.answer right.answers.0 right.answers.1 right.answers.2 may;
  satisfies = kept_satisfies net b.pair b.times b.ray b.proof b.answer may;
  close = right.close;
  proof = kept_proof old net b.pair b.times b.ray b.proof b.answer right.proof may;
}

-- ---- a bound that is searched

-- what is kept of the lines of a closed bound, by a search that started from some times
closed_keeps : (net : Net) (pair : Pair) (known : List ℤ) (value : ℤ) (lines : List ProofLine) (now : Option (List ProofLine))
    → KeptOn MAX_KEPT_LINES MAX_KEPT_EDGES (Some []) lines now → IsProof net (BoundGoal pair.from pair.to value) lines → Satisfies known net
    → AtEachSplit net (IsNeededToBound net pair.from pair.to (separation known pair.from pair.to)) lines → HasProof net pair value now
closed_keeps net pair known value lines now (inl kept) proof satisfies needed = rw kept proof
closed_keeps net pair known value lines now (inr full) proof satisfies needed =
    let many : HasProof net pair value None = (lines, record { accepted = (value, ([], proof)); needed = (known, satisfies, needed); full = full.1 }) in
    rw full.0 many

search_keeps : (net : Net) (budget : ℕ) (pair : Pair) (known times : List ℤ) (ray : List Bool) (answer : Bound) (lines : List ProofLine) (leaves : ℕ) (now : Option (List ProofLine))
    → KeptOn MAX_KEPT_LINES MAX_KEPT_EDGES (Some []) lines now → IsGreatestAnswer (pair_search net pair budget) (left_by lines leaves times ray) answer → Satisfies known net
    → AtEachSplit net (IsNeededToBound net pair.from pair.to (separation known pair.from pair.to)) lines → KeepsProof net pair (kept_of answer now) answer
search_keeps net budget pair known times ray (Closed value) lines leaves now kept is satisfies needed = closed_keeps net pair known value lines now kept is.proof satisfies needed
search_keeps net budget pair known times ray Unbounded lines leaves now kept is satisfies needed = refl
search_keeps net budget pair known times ray (Within limit attained) lines leaves now kept is satisfies needed = refl

-- only an unbounded answer says anything of the events to raise
answers_with : (net : Net) (budget : ℕ) (pair : Pair) (times : List ℤ) (ray other : List Bool) (answer : Bound) (lines : List ProofLine) (leaves : ℕ)
    → (answer ≡ Unbounded → other ≡ ray) → IsGreatestAnswer (pair_search net pair budget) (left_by lines leaves times ray) answer
    → IsGreatestAnswer (pair_search net pair budget) (left_by lines leaves times other) answer
answers_with net budget pair times ray other (Closed value) lines leaves same is = record { greatest = is.greatest; attained = is.attained; proof = is.proof; count = is.count }
answers_with net budget pair times ray other Unbounded lines leaves same is = rw (same refl) is
answers_with net budget pair times ray other (Within limit None) lines leaves same is = absurd is
answers_with net budget pair times ray other (Within limit (Some attained)) lines leaves same is = record {
  root = is.root;
  within = is.within;
  attains = is.attains;
  stopped = is.stopped;
  used = is.used;
  below_choices = is.below_choices;
}

-- there are as many flags of events to raise as events
pub ray_places : (net : Net) (budget : ℕ) (pair : Pair) (times : List ℤ) (ray : List Bool) (answer : Bound) (lines : List ProofLine) (leaves : ℕ)
    → IsGreatestAnswer (pair_search net pair budget) (left_by lines leaves times ray) answer → answer ≡ Unbounded → length ray ≡ net.events
ray_places net budget pair times ray (Closed value) lines leaves is same = absurd (cc)
ray_places net budget pair times ray Unbounded lines leaves is same = is.raised.count
ray_places net budget pair times ray (Within limit attained) lines leaves is same = absurd (cc)

pub known_satisfies : (net : Net) (known : Option (List ℤ)) → IsSomeAnd known (λ times. Satisfies times net) → Satisfies (unwrap_or known []) net
known_satisfies net None h = absurd h
known_satisfies net (Some times) h = h

-- what a bound is after a search whose lines a keeper took
pub searched_is : (net : Net) (budget leaves : ℕ) (old : KeptBound) (known times : List ℤ) (ray kept_ray : List Bool) (answer : Bound) (begun grown last : KeeperView)
    (lines : List ProofLine) → begun.lines ≡ Some [] → begun.line_room ≡ MAX_KEPT_LINES → begun.edge_room ≡ MAX_KEPT_EDGES → KeeperGrew begun lines grown
    → IsPairSearched net old.pair budget known (left_by lines leaves times ray) answer → (answer ≡ Unbounded → kept_ray ≡ ray)
    → last ≡ record grown { lines = kept_of answer grown.lines }
    → IsSearchedAnew net budget known old (record { pair = old.pair; answer = answer; times = times; ray = kept_ray; proof = last.lines })
searched_is net budget leaves old known times ray kept_ray answer begun grown last lines empty line_room edge_room grew is same is_last =
    let rooms : KeptOn MAX_KEPT_LINES MAX_KEPT_EDGES (Some []) lines grown.lines =
    subst (λ o. KeptOn MAX_KEPT_LINES MAX_KEPT_EDGES o lines grown.lines) empty
    (subst (λ n. KeptOn MAX_KEPT_LINES n begun.lines lines grown.lines) edge_room
    (subst (λ n. KeptOn n begun.edge_room begun.lines lines grown.lines) line_room grew.lines_now)) in
    let lines_are : last.lines ≡ kept_of answer grown.lines = ap (λ (k : KeeperView). k.lines) is_last in
    record {
      pair = refl;
      right = record {
        answers = (lines, leaves, answers_with net budget old.pair times ray kept_ray answer lines leaves same is.answers);
        satisfies = is.satisfies;
        close = is.close;
        proof = subst (λ o. KeepsProof net old.pair o answer) (sym lines_are)
            (search_keeps net budget old.pair is.start times ray answer lines leaves grown.lines rooms is.answers is.started is.needed);
      };
      least = is.least;
    }

pub times_close : (times : List ℤ) → All IsClose times → All IsTime times
times_close times close = λ k d within. time_close _ (close k d within)

-- ---- bounds of one pair

closed_same : (net : Net) (from to : EventId) (v w : ℤ) → IsGreatest net from to v → IsGreatest net from to w → v ≡ w
closed_same net from to v w a b =
    let low : v ≤ℤ w = subst (λ z. z ≤ℤ w) a.attained.2 (b.most a.attained.0 a.attained.1) in
    let high : w ≤ℤ v = subst (λ z. z ≤ℤ v) b.attained.2 (a.most b.attained.0 b.attained.1) in
    omega (arith, ints)

unbounded_above : (net : Net) (from to : EventId) (times : List ℤ) (set : List Bool) (value : ℤ) → IsRay net from to times set → IsGreatest net from to value → ⊥
unbounded_above net from to times set value ray greatest =
    let beyond = ray_is_unbounded net from to times set ray value in
    let above : value <ℤ separation beyond.0 from to = beyond.2 in
    let most : separation beyond.0 from to ≤ℤ value = greatest.most beyond.0 beyond.1 in
    omega (arith, ints)

agree : (net : Net) (budget other : ℕ) (pair : Pair) (times_a times_b : List ℤ) (ray_a ray_b : List Bool) (a b : Bound) (lines_a lines_b : List ProofLine) (leaves_a leaves_b : ℕ)
    → IsGreatestAnswer (pair_search net pair budget) (left_by lines_a leaves_a times_a ray_a) a → IsGreatestAnswer (pair_search net pair other) (left_by lines_b leaves_b times_b ray_b) b
    → IsSettledAnswer a → IsSettledAnswer b → a ≡ b
agree net budget other pair ta tb ra rb (Closed v) (Closed w) la lb na nb p q sa sb = ap (λ z. Closed z) (closed_same net pair.from pair.to v w p.greatest q.greatest)
agree net budget other pair ta tb ra rb (Closed v) Unbounded la lb na nb p q sa sb = absurd (unbounded_above net pair.from pair.to tb rb v q.raised p.greatest)
agree net budget other pair ta tb ra rb (Closed v) (Within limit attained) la lb na nb p q sa sb = absurd sb
agree net budget other pair ta tb ra rb Unbounded (Closed w) la lb na nb p q sa sb = absurd (unbounded_above net pair.from pair.to ta ra w p.raised q.greatest)
agree net budget other pair ta tb ra rb Unbounded Unbounded la lb na nb p q sa sb = refl
agree net budget other pair ta tb ra rb Unbounded (Within limit attained) la lb na nb p q sa sb = absurd sb
agree net budget other pair ta tb ra rb (Within limit attained) b la lb na nb p q sa sb = absurd sa

pub settled_bounds_agree : SettledBoundsAgree
settled_bounds_agree net budget other a b right_a right_b same settled_a settled_b =
    let moved : IsGreatestAnswer (pair_search net a.pair other) (left_by right_b.answers.0 right_b.answers.1 b.times b.ray) b.answer =
    subst (λ (p : Pair). IsGreatestAnswer (pair_search net p other) (left_by right_b.answers.0 right_b.answers.1 b.times b.ray) b.answer) (sym same) right_b.answers.2 in
    agree net budget other a.pair a.times b.times a.ray b.ray a.answer b.answer right_a.answers.0 right_b.answers.0 right_a.answers.1 right_b.answers.1 right_a.answers.2 moved
    settled_a settled_b
