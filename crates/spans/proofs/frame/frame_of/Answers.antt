use Rattle.moves.specs.Step.{lent}
use Rattle.spans.proofs.Framed.{frames_of}
use Rattle.spans.proofs.frame.frame_of.Goals as goal

pub returns-clause-frames : goal.returns-clause-frames
returns-clause-frames c = λ value within.
    let on_net = rw c.in-Some-2.is at c.in_ok-net.ensures.frames in
    let on_rows = rw c.in-Some.is at c.in_ok-rows.ensures.frames in
    frames_of c.args.kind c.args.counts.now c.args.drawn.now (lent c.args.numbers.now) c.in-Some-2.net c.in-Some.rows.items value c.requires.counts.number (on_net value within) (on_rows value within)
