use Rattle.std.proofs.Common.{◌++◌, ◌∷◌, []}
use Rattle.event_graph.proofs.EventLists.{on_err_of, vector_kept, vector_set}
use Rattle.event_graph.proofs.by_event.ByEvent.push.Goals as goal

pub returns-in_err-push-clause-err : goal.returns-in_err-push-clause-err
returns-in_err-push-clause-err g c =
    on_err_of c.from_residual.result
    (vector_kept c.self.inside.lists.items c.args.self.now c.args.event.0 c.index_mut.result.now c.push.new.self c.self.view_is c.requires c.index_mut.ensures.value
    c.in_err-push.ensures.items)

pub returns-clause-ok : goal.returns-clause-ok
returns-clause-ok g c =
    vector_set c.self.inside.lists.items c.args.self.now c.args.event.0 c.index_mut.result.now c.push.new.self (λ list. list ++ c.args.value ∷ []) c.self.view_is c.requires
    c.index_mut.ensures.value c.in_ok-push.ensures.items
