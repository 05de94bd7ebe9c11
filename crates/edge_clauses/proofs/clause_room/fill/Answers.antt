use Rattle.edge_clauses.specs.declared.basis.Basis.TheVariants.{ByChoice, ByEdge, ByKept, Either}
use Rattle.edge_clauses.proofs.Filling.{of_basis}
use Rattle.edge_clauses.proofs.clause_room.fill.Goals as goal

pub returns-in-ByEdge-clause-clause : goal.returns-in-ByEdge-clause-clause
returns-in-ByEdge-clause-clause c =
    of_basis c.args.net.now c.args.kept.now c.args.basis (ByEdge c.in-ByEdge.name) c.fill_edge.result c.fill_edge.new.room.items c.in-ByEdge.is
    (c.fill_edge.ensures.clause c.args.kept.now)

pub returns-in-Either-clause-clause : goal.returns-in-Either-clause-clause
returns-in-Either-clause-clause c =
    of_basis c.args.net.now c.args.kept.now c.args.basis (Either c.in-Either.edge) c.fill_either.result c.fill_either.new.room.items c.in-Either.is
    (c.fill_either.ensures.clause c.args.net.now c.args.kept.now)

pub returns-in-ByChoice-clause-clause : goal.returns-in-ByChoice-clause-clause
returns-in-ByChoice-clause-clause c =
    of_basis c.args.net.now c.args.kept.now c.args.basis (ByChoice c.in-ByChoice.number) c.fill_choice.result c.fill_choice.new.room.items c.in-ByChoice.is
    (c.fill_choice.ensures.clause c.args.kept.now)

pub returns-in-ByKept-clause-clause : goal.returns-in-ByKept-clause-clause
returns-in-ByKept-clause-clause c =
    of_basis c.args.net.now c.args.kept.now c.args.basis (ByKept c.in-ByKept.number) c.fill_kept.result c.fill_kept.new.room.items c.in-ByKept.is
    (c.fill_kept.ensures.clause c.args.net.now)
