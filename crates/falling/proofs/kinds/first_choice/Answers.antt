use Rattle.std.proofs.Common.{◌≡◌, Bool, IfSome, slice_get, sym, subst, ◌∙◌, arith}
use Rattle.event_graph.specs.Network.{Constraint}
use Rattle.falling.proofs.Choosing.{is_choice_of, met, none_left, passed}
use Rattle.falling.proofs.kinds.first_choice.Goals as goal

pub returns-then-is_choice : goal.returns-then-is_choice
returns-then-is_choice c =
    record {
      first = sym (c.loop-number.invariant ∙ met c.args.kind c.args.net.now.constraints c.loop-number.number (omega (arith, c.loop-number-test.true, c.len-number-end.ensures.count))
          (subst (λ (b : Bool). IfSome (slice_get c.args.net.now.constraints c.loop-number.number) (λ (k : Constraint). b ≡ is_choice_of c.args.kind k)) c.if-is_choice.true c.is_choice.ensures));
    }

pub loop-number-preserved : goal.loop-number-preserved
loop-number-preserved c =
    c.loop-number.invariant ∙ passed c.args.kind c.args.net.now.constraints c.loop-number.number (omega (arith, c.loop-number-test.true, c.len-number-end.ensures.count))
    (subst (λ (b : Bool). IfSome (slice_get c.args.net.now.constraints c.loop-number.number) (λ (k : Constraint). b ≡ is_choice_of c.args.kind k)) c.if-is_choice.false c.is_choice.ensures)

pub returns : goal.returns
returns c =
    record { first = sym (c.loop-number.invariant ∙ none_left c.args.kind c.args.net.now.constraints c.loop-number.number (omega (arith, c.loop-number-test.false, c.len-number-end.ensures.count))) }
