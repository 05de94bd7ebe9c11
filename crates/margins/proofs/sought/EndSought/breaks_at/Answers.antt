use Rattle.std.proofs.Common.{subst, w64}
use Rattle.std.proofs.lemmas.Int.{to_z-of_z}
use Rattle.event_graph.specs.Network.{Net}
use Rattle.moves.specs.Passing.{BreaksRow}
use Rattle.margins.proofs.Opening.{net_here}
use Rattle.margins.proofs.sought.EndSought.breaks_at.Goals as goal

pub returns-in-Some-2 : goal.returns-in-Some-2
returns-in-Some-2 c =
    let drawn = c.args.self.now.drawn.now in
    record {
      breaks = λ is. subst (λ (m : Net). BreaksRow (record drawn { net = m }) c.args.row)
          (net_here c.args.self.now.side drawn c.args.self.now.number.now c.args.by _ c.in_ok-network_at-in-Some.field-0 c.in-Some-2.net c.in-Some-2.is
          (to_z-of_z w64 c.args.by c.ranges.by) c.in_ok-network_at-in-Some.ensures.net) (c.times_break.ensures.breaks is);
    }
