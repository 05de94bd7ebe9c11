use Rattle.std.proofs.Common.{◌≡◌, length, arith}
use Rattle.std.specs.Vec.{vec_len}
use Rattle.margins.specs.Ends.{AreBothFound}
use Rattle.margins.proofs.Standing.{pairs_next}
use Rattle.job_margin.specs.Margin.{IsNumberFound}
use Rattle.job_margin.proofs.Endings.{zip_at, zip_count}
use Rattle.job_margin.proofs.finding.each_found.Goals as goal

pub index-requires : goal.index-requires
index-requires c =
    let count : length c.in_ok-ends.ends.items ≡ length c.args.seen.now = zip_count (AreBothFound c.args.drawn.now c.args.budget) c.args.seen.now c.in_ok-ends.ends.items c.in_ok-ends.ensures.ends in
    let have : vec_len c.in_ok-ends.ends ≡ length c.in_ok-ends.ends.items = c.in_ok-ends.ends.ok.0 in
    omega (arith, count, have, c.loop-k-test.true)

pub loop-k-preserved : goal.loop-k-preserved
loop-k-preserved c =
    pairs_next (IsNumberFound c.args.drawn.now c.args.budget) c.args.seen.now c.loop-k.found.items c.push.new.self.items c.loop-k.k c.index-seen-k.result
    (record { ends = c.index.result.now; span = c.in_ok-span.span }) c.loop-k-test.true c.index-seen-k.is c.loop-k.invariant
    (record {
      ends = zip_at (AreBothFound c.args.drawn.now c.args.budget) c.args.seen.now c.in_ok-ends.ends.items c.loop-k.k c.index-seen-k.result c.index-seen-k.result c.index.result.now c.index.result.now
          c.in_ok-ends.ensures.ends c.loop-k-test.true c.index-seen-k.is c.index.ensures;
      span = c.in_ok-span.ensures.span;
      has_span = c.in_ok-span.ensures.has_span;
    }) c.in_ok-push.ensures.items
