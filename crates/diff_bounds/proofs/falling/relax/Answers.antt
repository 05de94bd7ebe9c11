use Rattle.std.proofs.Common.{◌≡◌, ◌∙◌, ◌+◌, ℤ, ◌+ℤ◌, Option, Some, ap, arith, of_z, refl, sym, to_z, w64}
use Rattle.std.proofs.lemmas.Bool.{MatchBool-at_false}
use Rattle.std.proofs.lemmas.Int.{ints}
use Rattle.trail.specs.Stack.{TrailView, with_stamp}
use Rattle.diff_bounds.specs.Labels.{is_lower, labels_from}
use Rattle.diff_bounds.specs.Step.Falling.{fallen_stamp}
use Rattle.diff_bounds.proofs.Forests.{followed_from_test}
use Rattle.diff_bounds.proofs.falling.relax.Goals as goal
use Rattle.diff_bounds.proofs.falling.relax.Goals.{After-lowers}

sum_is : (c : After-lowers) → to_z w64 (of_z w64 c.delayed-sum.result) ≡ c.args.near +ℤ c.args.arc.now.edge.weight
sum_is c = omega (arith, ints, c.delayed-sum.ensures)

test_is : (c : After-lowers) → c.lowers.result ≡ is_lower (Some (c.args.near +ℤ c.args.arc.now.edge.weight)) (labels_from c.args.trail.now.current.stamps c.args.run.base c.args.arc.now.edge.to.0)
test_is c =
    c.lowers.ensures ∙ ap (λ (z : ℤ). is_lower (Some z) c.label_in-standing.result) (sum_is c)
    ∙ ap (λ (o : Option ℤ). is_lower (Some (c.args.near +ℤ c.args.arc.now.edge.weight)) o) c.label_in-standing.ensures

pub returns-then-not-lowers : goal.returns-then-not-lowers
returns-then-not-lowers c =
    let at = (goal.at.returns-then-not-lowers c).After-lowers in
    (refl, followed_from_test (labels_from c.args.trail.now.current.stamps c.args.run.base) c.args.arc.now.edge c.args.near c.requires.near (sym (test_is at) ∙ c.if-not-lowers.true))

pub returns-then-is_stop : goal.returns-then-is_stop
returns-then-is_stop c =
    let at = (goal.at.returns-then-is_stop c).After-lowers in
    (refl, record { near = c.args.near; start = c.requires.near; lower = sym (test_is at) ∙ c.if-not-lowers.false }, c.if-is_stop.ensures)

pub returns : goal.returns
returns c =
    let at = (goal.at.returns c).After-lowers in
    let stack = λ (z : ℤ). let st : TrailView = record c.args.trail.now { current = with_stamp c.args.trail.now.current (c.args.run.base + c.args.arc.now.edge.to.0) (fallen_stamp c.args.arc.now.name z) } in st in (
      record { near = c.args.near; start = c.requires.near; lower = sym (test_is at) ∙ c.if-not-lowers.false },
      MatchBool-at_false {b = c.is_stop.result} _ _ c.if-is_stop.false c.is_stop.ensures,
      c.set_label.ensures ∙ ap stack (sum_is at),
    )
