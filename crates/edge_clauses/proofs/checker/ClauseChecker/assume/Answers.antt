use Rattle.std.proofs.Common.{◌≡◌, false, true, refl, subst}
use Rattle.std.proofs.lemmas.List.Elements.{All-map}
use Rattle.edge_clauses.specs.Checking.{ClauseCheckerView, TakesLine}
use Rattle.edge_clauses.specs.Clauses.{IsAddable, unmet}
use Rattle.edge_clauses.specs.Lines.{Assume}
use Rattle.edge_clauses.specs.Step.Standing.{check_of}
use Rattle.event_graph.specs.declared.edge.Edge.{Edge}
use Rattle.edge_clauses.proofs.Edges.{each_opposite}
use Rattle.edge_clauses.proofs.Taking.{assume_taken}
use Rattle.edge_clauses.proofs.checker.ClauseChecker.assume.Goals as goal

pub returns-then-not-are_opposites_addable-clause-refused : goal.returns-then-not-are_opposites_addable-clause-refused
returns-then-not-are_opposites_addable-clause-refused c f next is_line =
    let t : false ≡ true = c.if-not-are_opposites_addable.ensures.1 (each_opposite (λ (e : Edge). IsAddable e.weight) c.args.edges.now is_line.1) in absurd (cc)

pub returns-clause-taken : goal.returns-clause-taken
returns-clause-taken c t =
    subst (λ (k : ClauseCheckerView). TakesLine c.args.net.now k (Assume c.args.edges.now) (check_of c.self.inside.terms c.open.new.self c.self.inside.kept.items)) c.self.view_is
    (assume_taken c.args.net.now c.self.inside.terms c.self.inside.frames c.open.new.self c.self.inside.kept.items c.args.edges.now (c.if-not-are_addable.ensures.0 refl)
    (All-map (λ (e : Edge). IsAddable e.weight) unmet c.args.edges.now (c.if-not-are_opposites_addable.ensures.0 refl)) c.in_ok-open.ensures.assumed c.in_ok-open.ensures.outside
    c.in_ok-open.ensures.now)
