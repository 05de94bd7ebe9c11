-- Root bounds.
use Rattle.std.proofs.Common.{◌≡◌, ◌↔◌, ◌<◌, ◌≤ℤ◌, ◌<ℤ◌, ℤ, neg_ℤ, pos, Bool, IsTrue, [], Option, Some, None, option_and_then, option_map, slice_get, refl, sym, ap, subst, ◌∙◌, arith}
use Rattle.std.proofs.lemmas.Int.{ints}
use Rattle.itv_base.specs.declared.names.EdgeName.{EdgeName}
use Rattle.itv_base.specs.declared.names.EventId.{EventId}
use Rattle.event_graph.specs.declared.edge.Edge.{Edge}
use Rattle.event_graph.specs.Edges.{edge, side_edge}
use Rattle.event_graph.specs.Network.{Constraint, IsConstraint, IsNet, Net}
use Rattle.event_graph.specs.RootBound.{IsRootBound}
use Rattle.event_graph.specs.Times.{separation}
use Rattle.event_graph.proofs.EdgesMet.{All-found}
use Rattle.branch.specs.Answers.{IsRoot}
use Rattle.branch.specs.declared.answer.Root.{Root}
use Rattle.branch.specs.declared.answer.Root.TheVariants as roots
use Rattle.requirements.specs.declared.bound.Bound.{Bound}
use Rattle.requirements.proofs.Judging.{map_twice}
use Rattle.drawn_networks.specs.declared.row.Row.{Row}
use Rattle.right_report.specs.Right.LineClaims.{IsLimit}
use Rattle.job_check.specs.declared.stage.NextBound.{NextBound}
use Rattle.job_check.specs.declared.stage.NextBound.TheVariants.{Greatest, LeastBy}
use Rattle.job_check.specs.Step.Bounds.{SomeMeet, reversed_root}
use Rattle.job_check.specs.Step.Stages.{next_in}

-- ---- networks without events

edge_there : (net : Net) (name : EdgeName) (e : Edge) → edge net name ≡ Some e → (c : Constraint) × (slice_get net.constraints name.constraint ≡ Some c)
edge_there net name e is = by_constraint (slice_get net.constraints name.constraint) refl is where
  by_constraint : (o : Option Constraint) → slice_get net.constraints name.constraint ≡ o
      → option_and_then (λ (c : Constraint). option_and_then (side_edge name.side c.target) (slice_get c.causes name.cause)) o ≡ Some e
      → (c : Constraint) × (slice_get net.constraints name.constraint ≡ Some c)
  by_constraint None there found = absurd (cc found)
  by_constraint (Some c) there found = (c, there)

pub no_events_meet : (net : Net) → IsNet net → net.events ≡ 0 → SomeMeet net
no_events_meet net is none = (
  [],
  record {
    count = sym none;
    each = λ name e always found.
        let there = edge_there net name e found in
        let fits : IsConstraint net.events there.0 = All-found (IsConstraint net.events) net.constraints name.constraint there.0 there.1 is.constraints in
        let below : there.0.target.0 < net.events = fits.target in
        absurd (omega (arith, below, none));
  },
)

-- ---- one root bound

pub root_times : (net : Net) (from to : EventId) (limit : Option ℤ) → IsRootBound net from to limit → SomeMeet net
root_times net from to None is = let some = is (pos 0) in (some.0, some.1)
root_times net from to (Some value) is = (is.attained.0, is.attained.1)

same_number : (net : Net) (from to : EventId) (a b : ℤ) → IsRootBound net from to (Some a) → IsRootBound net from to (Some b) → a ≡ b
same_number net from to a b x y =
    let up : separation x.attained.0 from to ≤ℤ b = y.most x.attained.0 x.attained.1 in
    let down : separation y.attained.0 from to ≤ℤ a = x.most y.attained.0 y.attained.1 in
    let is_a : separation x.attained.0 from to ≡ a = x.attained.2 in
    let is_b : separation y.attained.0 from to ≡ b = y.attained.2 in
    omega (arith, ints)

number_or_none : (net : Net) (from to : EventId) (a : ℤ) → IsRootBound net from to (Some a) → IsRootBound net from to None → ⊥
number_or_none net from to a x y =
    let beyond = y a in
    let most : separation beyond.0 from to ≤ℤ a = x.most beyond.0 beyond.1 in
    let more : a <ℤ separation beyond.0 from to = beyond.2 in
    absurd (omega (arith, ints))

one_root : (net : Net) (from to : EventId) (a b : Option ℤ) → IsRootBound net from to a → IsRootBound net from to b → a ≡ b
one_root net from to None None x y = refl
one_root net from to (Some a) (Some b) x y = ap (λ v. Some v) (same_number net from to a b x y)
one_root net from to (Some a) None x y = absurd (number_or_none net from to a x y)
one_root net from to None (Some b) x y = absurd (number_or_none net from to b y x)

same_root : (a b : Option ℤ) → roots.Bound a ≡ roots.Bound b → a ≡ b
same_root a b e = cc

pub root_is : (net : Net) (from to : EventId) (root : Root) (limit : Option ℤ) → IsRoot net from to root → ((root ≡ roots.Bound limit) ↔ IsRootBound net from to limit)
root_is net from to roots.NoTimes limit is = (
  λ e. absurd (cc e),
  λ bounded. let some = root_times net from to limit bounded in absurd (is some.0 some.1),
)
root_is net from to (roots.Bound upper) limit is = (
  λ e. subst (IsRootBound net from to) (same_root upper limit e) is,
  λ bounded. ap (λ o. roots.Bound o) (one_root net from to upper limit is bounded),
)

pub root_meets : (net : Net) (from to : EventId) (root : Root) → IsRoot net from to root → ((root ≡ roots.NoTimes → ⊥) ↔ SomeMeet net)
root_meets net from to roots.NoTimes is = (λ other. absurd (other refl), λ some e. is some.0 some.1)
root_meets net from to (roots.Bound upper) is = (λ other. root_times net from to upper is, λ some e. absurd (cc e))

-- ---- reversed

pub reversed_is : (root : Root) (limit : Option ℤ) → ((reversed_root root ≡ roots.Bound limit) ↔ (root ≡ roots.Bound (option_map neg_ℤ limit)))
reversed_is roots.NoTimes limit = (λ e. absurd (cc e), λ e. absurd (cc e))
reversed_is (roots.Bound upper) limit = (
  λ e. ap (λ o. roots.Bound o) (sym (map_twice upper) ∙ ap (option_map neg_ℤ) (same_root (option_map neg_ℤ upper) limit e)),
  λ e. ap (λ o. roots.Bound o) (ap (option_map neg_ℤ) (same_root upper (option_map neg_ℤ limit) e) ∙ map_twice limit),
)

-- ---- limits

pub limit_greatest : (net : Net) (r : Row) (coming : NextBound) (root : Root) (limit : Option ℤ) (test : Bool) → coming ≡ Greatest → IsRoot net r.from r.to root
    → (IsTrue test ↔ (root ≡ roots.Bound limit)) → (IsTrue test ↔ IsLimit net r (next_in coming) limit)
limit_greatest net r Greatest root limit test is rooted tells =
    let bounded = root_is net r.from r.to root limit rooted in
    (λ t. bounded.0 (tells.0 t), λ h. tells.1 (bounded.1 h))
limit_greatest net r (LeastBy most) root limit test is rooted tells = absurd (cc is)

pub limit_least : (net : Net) (r : Row) (coming : NextBound) (most : Bound) (root : Root) (limit : Option ℤ) (test : Bool) → coming ≡ LeastBy most → IsRoot net r.to r.from root
    → (IsTrue test ↔ (reversed_root root ≡ roots.Bound limit)) → (IsTrue test ↔ IsLimit net r (next_in coming) limit)
limit_least net r Greatest most root limit test is rooted tells = absurd (cc is)
limit_least net r (LeastBy other) most root limit test is rooted tells =
    let bounded = root_is net r.to r.from root (option_map neg_ℤ limit) rooted in
    let turned = reversed_is root limit in
    (λ t. bounded.0 (turned.0 (tells.0 t)), λ h. tells.1 (turned.1 (bounded.1 h)))
