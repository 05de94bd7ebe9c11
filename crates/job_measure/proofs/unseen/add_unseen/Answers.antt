use Rattle.std.proofs.Common.{◌<◌, length, arith}
use Rattle.job_measure.proofs.Gathering.{unseen_goes}
use Rattle.job_measure.proofs.unseen.add_unseen.Goals as goal

pub loop-number-preserved : goal.loop-number-preserved
loop-number-preserved c =
    let within : c.loop-number.number < length c.args.drawn.now.names = grind arith in
    unseen_goes c.args.drawn.now c.args.runs.now c.loop-number.number c.unseen_count.result _ c.loop-number.text.items c.add_event.new.text.items _ within c.loop-number.invariant
    c.name-name.ensures.name c.unseen_count.ensures c.in_ok-add_event.ensures
