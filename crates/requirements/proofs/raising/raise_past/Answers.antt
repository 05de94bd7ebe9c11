use Rattle.std.proofs.Common.{◌≡◌, ap, ◌∙◌, false, true}
use Rattle.event_graph.specs.Times.{raised, separation}
use Rattle.event_graph.proofs.MovingOn.{read_time}
use Rattle.requirements.specs.Step.Raising.{rise_past}
use Rattle.requirements.proofs.Rising.{flag_there, raises_past, time_read, time_there}
use Rattle.requirements.proofs.raising.raise_past.Goals as goal

pub rise-by-requires-clause-from : goal.rise-by-requires-clause-from
rise-by-requires-clause-from c =
    time_read c.time_of.result (time_there c.args.times.now c.args.from c.time_of.result c.requires.times (flag_there c.args.times.now c.args.ray.now c.args.from false c.requires.count c.requires.lacks) c.time_of.ensures.time)

pub rise-by-requires-clause-to : goal.rise-by-requires-clause-to
rise-by-requires-clause-to c =
    time_read c.time_of-2.result (time_there c.args.times.now c.args.to c.time_of-2.result c.requires.times (flag_there c.args.times.now c.args.ray.now c.args.to true c.requires.count c.requires.holds) c.time_of-2.ensures.time)

pub returns : goal.returns
returns c =
    let from = time_there c.args.times.now c.args.from c.time_of.result c.requires.times (flag_there c.args.times.now c.args.ray.now c.args.from false c.requires.count c.requires.lacks) c.time_of.ensures.time in
    let to = time_there c.args.times.now c.args.to c.time_of-2.result c.requires.times (flag_there c.args.times.now c.args.ray.now c.args.to true c.requires.count c.requires.holds) c.time_of-2.ensures.time in
    let rise : c.rise-by.result ≡ rise_past (separation c.args.times.now c.args.from c.args.to) c.args.limit =
    rw (read_time c.time_of.result from, read_time c.time_of-2.result to, read_time c.args.limit c.requires.limit, c.time_of.ensures.time, c.time_of-2.ensures.time) at c.rise-by.ensures.value in
    raises_past c.args.times.now c.args.ray.now c.args.from c.args.to c.args.limit _ c.requires.count c.requires.holds c.requires.lacks (c.raise.ensures ∙ ap (λ by. raised c.args.ray.now by c.args.times.now) rise)
