use Rattle.spans.specs.Step.{IsFramedRange, range_at}
use Rattle.spans.proofs.Ends.{ask_framed, kind_framed}
use Rattle.spans.proofs.Multiples.{as_passed}
use Rattle.spans.proofs.framed_range.framed_kind.Goals as goal

pub returns-in-Ask : goal.returns-in-Ask
returns-in-Ask c = record { frames = λ value within x. rw c.in-Ask.is (ask_framed c.args.frame c.args.is_drawn c.args.apart value x) }

pub returns-in-Some : goal.returns-in-Some
returns-in-Some c = record {
  frames = λ value within x.
      rw c.in-Req.is
      (kind_framed c.args.frame c.wanting.result c.args.is_drawn c.args.apart value c.in-Req.range c.in-Some.range x c.wanting.ensures
      (as_passed (λ a. IsFramedRange c.wanting.result (range_at c.args.is_drawn a value c.in-Req.range) c.in-Some.range) c.args.apart c.ranges.apart
      (c.in-Some.ensures.frames value within)));
}
