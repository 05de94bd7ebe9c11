use Rattle.std.proofs.Common.{pos, ◌+ℤ◌, ◌≤ℤ◌}
use Rattle.margins.proofs.Deciding.{found_gap, not_less}
use Rattle.margins.proofs.falling_short.margin_past_contradiction.Goals as goal

pub returns-clause-found : goal.returns-clause-found
returns-clause-found c =
    let gap = c.loop-alloc.gap in
    let near : gap.breaks ≤ℤ (gap.contradicts +ℤ pos 1) =
    not_less (gap.contradicts +ℤ pos 1) gap.breaks (λ less. let wide = c.is_wide.ensures.wide.1 less in absurd (cc (wide, c.loop-alloc-test.false))) in
    found_gap c.args.sought.now gap c.loop-alloc.invariant.gap near
