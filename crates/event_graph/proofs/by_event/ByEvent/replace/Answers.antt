use Rattle.std.proofs.Common.{refl, set}
use Rattle.event_graph.proofs.EventLists.{vector_set}
use Rattle.event_graph.proofs.by_event.ByEvent.replace.Goals as goal

pub returns : goal.returns
returns g c =
    vector_set c.self.inside.lists.items c.args.self.now c.args.event.0 c.index_mut.result.now _ (λ list. set list c.args.place c.args.value) c.self.view_is c.requires.event
    c.index_mut.ensures.value refl
