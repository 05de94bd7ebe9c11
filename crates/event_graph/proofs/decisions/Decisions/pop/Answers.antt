use Rattle.std.proofs.Common.{◌≡◌, ◌∷◌, [], None, reverse, set, sym, ap, ◌∙◌, subst, arith, length-set}
use Rattle.std.proofs.lemmas.List.{reverse-append}
use Rattle.event_graph.specs.Proof.{Choice}
use Rattle.event_graph.specs.Step.Noted.{IsTable}
use Rattle.event_graph.proofs.Choosing.{table_pop}
use Rattle.event_graph.proofs.decisions.Decisions.pop.Goals as goal

pub invariant_of-self-2 : goal.invariant_of-self-2
invariant_of-self-2 c =
    let causes = c.self.inside.causes.items in
    let choice : Choice = c.in_ok-choice.choice in
    let rest = c.pop.new.self.items in
    let own : c.choice.inside.constraint ≡ choice.constraint = ap (λ (x : Choice). x.constraint) c.choice.view_is in
    let seen : reverse c.self.inside.choices.items ≡ choice ∷ reverse rest = ap reverse c.in_ok-choice.ensures.items ∙ reverse-append rest (choice ∷ []) in
    let table : IsTable (set causes choice.constraint None) (reverse rest) =
    table_pop causes (reverse rest) choice (subst (IsTable causes) seen c.self.invariant.table) in
    record {
      room = omega (arith, length-set causes c.choice.inside.constraint None, c.pop.ensures.capacity, c.self.invariant.room);
      table = subst (λ n. IsTable (set causes n None) (reverse rest)) (sym own) table;
    }
