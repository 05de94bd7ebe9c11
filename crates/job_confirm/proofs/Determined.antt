-- A line leads from a state to at most one state.
use Rattle.std.proofs.Common.{◌≡◌, List, [], ◌∷◌, ◌++◌, None, sym, ap, ◌∙◌, subst}
use Rattle.std.proofs.lemmas.Option.{same_Some}
use Rattle.event_graph.specs.Network.{Net}
use Rattle.edge_clauses.specs.Lines.{Assume, Block, ClauseLine, Close, Fall, Goal, IsLine, Know, Loop, ProofLeads, Rise, State, refuting}
use Rattle.itv_base.proofs.Options.{some_and}

pub one_line : (net : Net) (goal : Goal) (state : State) (line : ClauseLine) (a b : State) → IsLine net goal state line a → IsLine net goal state line b → a ≡ b
one_line net goal state (Fall event value basis) a b p q = p.1 ∙ sym q.1
one_line net goal state (Rise event value basis) a b p q = p.1 ∙ sym q.1
one_line net goal state (Know e basis) a b p q = p.1 ∙ sym q.1
one_line net goal state (Loop event steps result) a b p q = p.1 ∙ sym q.1
one_line net goal state (Assume edges) a b p q = p.2 ∙ sym q.2
one_line net goal state Close a b p q =
    let (block, at_a, (ended_a, is_a)) = some_and state.block _ p in
    let (other, at_b, (ended_b, is_b)) = some_and state.block _ q in
    let same : block ≡ other = same_Some block other (sym at_a ∙ at_b) in
    is_a ∙ (ap (λ (x : Block). record { frame = state.frame; kept = state.kept ++ refuting x.assumed ∷ []; block = None }) same ∙ sym is_b)

-- where lines lead on, those after the first ones lead on from the state to which the first ones lead
pub rest_leads : (net : Net) (goal : Goal) (start : State) (front rest : List ClauseLine) (between after : State) → ProofLeads net goal start front between
    → ProofLeads net goal start (front ++ rest) after → ProofLeads net goal between rest after
rest_leads net goal start [] rest between after p q = subst (λ (s : State). ProofLeads net goal s rest after) p q
rest_leads net goal start (line ∷ front) rest between after (next, is, leads) (other, also, more) =
    let same : next ≡ other = one_line net goal start line next other is also in
    rest_leads net goal next front rest between after leads (subst (λ (s : State). ProofLeads net goal s (front ++ rest) after) (sym same) more)
