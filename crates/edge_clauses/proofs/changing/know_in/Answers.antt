use Rattle.std.proofs.Common.{◌≡◌, false, true, sym, subst}
use Rattle.edge_clauses.specs.Clauses.{IsClause}
use Rattle.edge_clauses.specs.Lines.{Forces}
use Rattle.edge_clauses.specs.Step.Standing.{frame_now, goal_of}
use Rattle.edge_clauses.proofs.Judging.{refused_by}
use Rattle.edge_clauses.proofs.changing.know_in.Goals as goal

pub returns-then-not-forces-clause-refused : goal.returns-then-not-forces-clause-refused
returns-then-not-forces-clause-refused c f some =
    refused_by c.args.net.now c.args.kept.now c.args.known.basis c.deref.result.now (Forces (goal_of c.args.terms) (frame_now c.args.frames.now) c.args.known.edge)
    (subst (IsClause c.args.net.now c.args.kept.now c.args.known.basis) (sym c.deref.ensures.value) (c.in_ok-fill.ensures.clause c.if-not-branch.false))
    (λ h. let t : false ≡ true = c.if-not-forces.ensures.forces.1 h in absurd (cc)) some
