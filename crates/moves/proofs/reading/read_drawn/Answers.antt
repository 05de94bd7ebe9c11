use Rattle.std.proofs.Common.{subst}
use Rattle.event_graph.specs.Network.{IsNet}
use Rattle.drawn_networks.specs.Drawn.{OriginsFit}
use Rattle.moves.proofs.reading.read_drawn.Goals as goal

pub returns : goal.returns
returns c = record {
  net = subst IsNet c.network.ensures.network c.is_whole.ensures.net;
  fit = subst (OriginsFit c.args.drawn.now.net) c.origins.ensures.origins c.origins.ensures.fit;
}
