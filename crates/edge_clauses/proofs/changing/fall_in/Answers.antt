use Rattle.std.proofs.Common.{◌≡◌, false, true, sym, subst}
use Rattle.edge_clauses.specs.Clauses.{IsClause}
use Rattle.edge_clauses.specs.Lines.{LetsFall}
use Rattle.edge_clauses.specs.Step.Standing.{frame_now, goal_of}
use Rattle.edge_clauses.proofs.Judging.{refused_by}
use Rattle.edge_clauses.proofs.changing.fall_in.Goals as goal

pub returns-then-not-lets_fall-clause-refused : goal.returns-then-not-lets_fall-clause-refused
returns-then-not-lets_fall-clause-refused c f some =
    refused_by c.args.net.now c.args.kept.now c.args.bound.basis c.deref.result.now (LetsFall c.args.net.now (goal_of c.args.terms) (frame_now c.args.frames.now) c.args.bound.event c.args.bound.value)
    (subst (IsClause c.args.net.now c.args.kept.now c.args.bound.basis) (sym c.deref.ensures.value) (c.in_ok-fill.ensures.clause c.if-not-branch.false))
    (λ h. let t : false ≡ true = (c.if-not-lets_fall.ensures.falls c.args.net.now c.requires.limits).1 h in absurd (cc)) some
