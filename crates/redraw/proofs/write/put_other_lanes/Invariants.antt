use Rattle.std.proofs.Common.{drop, map}
use Rattle.itv_base.proofs.Written.{Left}
use Rattle.drawn_networks.specs.Drawn.{name_of}
use Rattle.redraw.specs.declared.drawn_event.DrawnEvent.{DrawnEvent}
use Rattle.redraw.specs.Drawing.{lane_of}
use Rattle.redraw.specs.Text.{after_commas, lane_text}
use Rattle.redraw.proofs.write.put_other_lanes.Given as goal

-- some lanes are put
abbrev pub invariant-loop-stand : goal.invariant-loop-stand
invariant-loop-stand g l =
    Left (g.K.Sink.state l.fn.sink) (g.K.Sink.state l.sink) (after_commas (map (λ (s : DrawnEvent). lane_text (lane_of (name_of l.names) s)) (drop l.stand-index l.stands)))
    (after_commas (map (λ (s : DrawnEvent). lane_text (lane_of (name_of l.names) s)) l.stands))
