use Rattle.std.proofs.Common.{◌≡◌, ℤ, ◌≤ℤ◌, IfSome}
use lib.IntN.{◌*ℤ◌}
use Rattle.itv_base.specs.Range.{Ends}
use Rattle.spans.specs.Step.{IsInside, IsWithinRange, range_at, times_by}
use Rattle.spans.proofs.Ends.{kept_range, range_covers}
use Rattle.spans.proofs.Multiples.{as_passed}
use Rattle.spans.proofs.framed_range.covering_range.Goals as goal

pub returns : goal.returns
returns c =
    let ends : Ends = record { low = c.low_end-low.result; high = c.high_end-high.result } in
    let times = c.times_of-times.result in
    let by : times ≡ times_by c.args.is_drawn c.args.apart = as_passed (λ a. times ≡ times_by c.args.is_drawn a) c.args.apart c.ranges.apart c.times_of-times.ensures.times in
    let least : IfSome c.least_multiple.result (λ a. (v : ℤ) → IsInside c.args.interval v → a ≤ℤ (times *ℤ v)) =
    as_passed (λ t. IfSome c.least_multiple.result (λ a. (v : ℤ) → IsInside c.args.interval v → a ≤ℤ (t *ℤ v))) times (record { sfits = c.times_of-times.type_inv }) c.least_multiple.ensures.least in
    let most : IfSome c.greatest_multiple.result (λ a. (v : ℤ) → IsInside c.args.interval v → (times *ℤ v) ≤ℤ a) =
    as_passed (λ t. IfSome c.greatest_multiple.result (λ a. (v : ℤ) → IsInside c.args.interval v → (t *ℤ v) ≤ℤ a)) times (record { sfits = c.times_of-times.type_inv })
    c.greatest_multiple.ensures.greatest in
    record {
      covers = kept_range c.new.result c.ok.result ends (λ wide. (value : ℤ) → IsInside c.args.interval value → IsWithinRange (range_at c.args.is_drawn c.args.apart value c.args.range) wide)
          c.ok.ensures.value c.new.ensures.ok
          (range_covers (IsInside c.args.interval) c.args.apart c.args.is_drawn times c.args.range ends c.least_multiple.result c.greatest_multiple.result by
          (rw c.low.ensures.end at c.low_end-low.ensures.low) (rw c.high.ensures.end at c.high_end-high.ensures.high) least most);
    }
