use Rattle.falling.proofs.Flags.{start_kept}
use Rattle.falling.proofs.pending_flags.PendingFlags.insert.Goals as goal

pub invariant_of-self : goal.invariant_of-self
invariant_of-self c =
    let set = rw c.deref_mut.ensures.value at c.set_bit.ensures in
    start_kept c.self.inside c.set_bit.new.words c.args.number c.min-self-inside.result c.self.invariant set.count set.empty c.min-self-inside.ensures
