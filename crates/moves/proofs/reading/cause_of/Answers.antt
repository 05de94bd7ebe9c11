use Rattle.moves.proofs.Drew.{cause_found, cause_there, cause_within}
use Rattle.moves.proofs.reading.cause_of.Goals as goal

pub cause-requires : goal.cause-requires
cause-requires c = record {
  there = cause_there c.args.drawn.now c.network.result.now c.args.constraint c.args.cause c.network.ensures.network c.read_drawn.ensures.fit c.requires.there;
}

pub returns : goal.returns
returns c = record {
  cause = cause_found c.args.drawn.now c.network.result.now c.args.constraint c.args.cause c.cause.result c.network.ensures.network c.cause.ensures.cause;
  within = cause_within c.args.drawn.now c.network.result.now c.args.constraint c.args.cause c.cause.result c.network.ensures.network c.cause.ensures.cause c.read_drawn.ensures.net;
}
