use Rattle.trail.specs.declared.trail.Trail.TheInside.{Inside}
use Rattle.trail.proofs.Steps.{stack_in-new_stack}
use Rattle.trail.proofs.trail.Trail.new.Goals as goal

pub returns : goal.returns
returns c =
    let made : Inside = record {
      levels = c.args.levels;
      edges = c.in_ok-with_capacity.field-0;
      slots = c.in_ok-vec.field-0;
      saved = c.in_ok-with_capacity-2.field-0;
      starts = c.in_ok-with_capacity-3.field-0;
    } in
    stack_in-new_stack made c.args.slots c.in_ok-with_capacity.ensures.items (c.in_ok-vec.ensures.items_if_clones_equal (λ y same. same)) c.in_ok-with_capacity-3.ensures.items
