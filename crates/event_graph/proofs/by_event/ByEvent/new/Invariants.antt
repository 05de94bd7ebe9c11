use Rattle.std.proofs.Common.{◌≡◌, [], replicate}
use Rattle.event_graph.specs.EventLists.{lists_of}
use Rattle.event_graph.proofs.by_event.ByEvent.new.Given as goal

-- the lists so far are empty
abbrev pub invariant-loop-event : goal.invariant-loop-event
invariant-loop-event g l = lists_of l.lists.items ≡ replicate l._event []
