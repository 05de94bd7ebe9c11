use Rattle.std.proofs.Common.{◌≡◌, Some, option_map, slice_get, subst}
use Rattle.itv_base.specs.declared.names.RuleKind.{RuleKind}
use Rattle.itv_base.specs.declared.names.RuleKind.TheVariants.{Early, Late}
use Rattle.event_graph.specs.Network.{Constraint}
use Rattle.edge_clauses.proofs.Filling.{choice_found, choice_not_found}
use Rattle.edge_clauses.proofs.clause_room.fill_choice.Goals as goal

pub returns-in-Late-clause-clause : goal.returns-in-Late-clause-clause
returns-in-Late-clause-clause c kept =
    choice_found c.args.net.now kept c.args.number Late c.fill_sides.result c.fill_sides.new.room.items
    (subst (λ (kind : RuleKind). option_map (λ (k : Constraint). k.kind) (slice_get c.args.net.now.constraints c.args.number) ≡ Some kind) c.in-Late.is c.kind.ensures.kind) tt
    c.fill_sides.ensures.edges

pub returns-in-Late-clause-none : goal.returns-in-Late-clause-none
returns-in-Late-clause-none c kept =
    choice_not_found c.args.net.now kept c.args.number Late c.fill_sides.result
    (subst (λ (kind : RuleKind). option_map (λ (k : Constraint). k.kind) (slice_get c.args.net.now.constraints c.args.number) ≡ Some kind) c.in-Late.is c.kind.ensures.kind)
    c.fill_sides.ensures.open

pub returns-in-Early-clause-clause : goal.returns-in-Early-clause-clause
returns-in-Early-clause-clause c kept =
    choice_found c.args.net.now kept c.args.number Early c.fill_sides-in-Early.result c.fill_sides-in-Early.new.room.items
    (subst (λ (kind : RuleKind). option_map (λ (k : Constraint). k.kind) (slice_get c.args.net.now.constraints c.args.number) ≡ Some kind) c.in-Early.is c.kind.ensures.kind) tt
    c.fill_sides-in-Early.ensures.edges

pub returns-in-Early-clause-none : goal.returns-in-Early-clause-none
returns-in-Early-clause-none c kept =
    choice_not_found c.args.net.now kept c.args.number Early c.fill_sides-in-Early.result
    (subst (λ (kind : RuleKind). option_map (λ (k : Constraint). k.kind) (slice_get c.args.net.now.constraints c.args.number) ≡ Some kind) c.in-Early.is c.kind.ensures.kind)
    c.fill_sides-in-Early.ensures.open
