-- Stored lines lead to the state of a checker.
use Rattle.std.proofs.Common.{◌≡◌, ◌<◌, ℤ, ◌≤ℤ◌, List, [], ◌∷◌, ◌++◌, sym, subst}
use Rattle.std.proofs.lemmas.List.{map-append}
use Rattle.itv_base.specs.declared.names.EventId.{EventId}
use Rattle.event_graph.specs.Network.{Net}
use Rattle.falling.specs.DerivationEnds.{AreLimits}
use Rattle.edge_clauses.specs.Checking.{ClauseCheckerView, TakesLine}
use Rattle.edge_clauses.specs.Lines.{ClauseLine, Goal, ProofLeads, State, claiming, starting}
use Rattle.edge_clauses.proofs.Checked.{leads_more, raised_keeps_checking, start_is_checking, taken_line_keeps_checking, led_in}
use Rattle.edge_clauses.proofs.Proving.{claim_can_rise}
use Rattle.edge_clauses.specs.declared.line.StoredLine.{StoredLine}
use Rattle.edge_clauses.specs.Proofs.{IsProving, line_of, lines_of}

-- the empty list of lines leads to the start
pub start_proving : (net : Net) (check : ClauseCheckerView) (lines : List StoredLine) (from to : EventId) (claim : ℤ) → AreLimits net check.limits
    → check.goal ≡ record { from = from; to = to; claim = claim } → check.state ≡ starting net from → from.0 < net.events → to.0 < net.events → lines ≡ []
    → IsProving net (record { check = check; lines = lines })
start_proving net check lines from to claim are_limits is_goal is_start in_from in_to none =
    let at_start : check.state ≡ starting net check.goal.from = subst (λ (g : Goal). check.state ≡ starting net g.from) (sym is_goal) is_start in
    let from_in : check.goal.from.0 < net.events = subst (λ (g : Goal). g.from.0 < net.events) (sym is_goal) in_from in
    let to_in : check.goal.to.0 < net.events = subst (λ (g : Goal). g.to.0 < net.events) (sym is_goal) in_to in
    subst (λ (ls : List StoredLine). IsProving net (record { check = check; lines = ls })) (sym none) (record {
      checking = start_is_checking net check are_limits from_in to_in at_start;
      lines = sym at_start;
    })

-- a line that is taken comes after the others
pub taken_proving : (net : Net) (check next : ClauseCheckerView) (lines : List StoredLine) (line : StoredLine) → IsProving net (record { check = check; lines = lines })
    → TakesLine net check (line_of line) next → IsProving net (record { check = next; lines = lines ++ line ∷ [] })
taken_proving net check next lines line proving takes = record {
  checking = taken_line_keeps_checking net check next (line_of line) proving.checking takes;
  lines = subst (λ (ls : List ClauseLine). ProofLeads net next.goal (starting net next.goal.from) ls next.state) (sym (map-append line_of lines (line ∷ [])))
      (led_in net check.goal next.goal (lines_of lines ++ line_of line ∷ []) next.state takes.goal
      (leads_more net check.goal (starting net check.goal.from) (lines_of lines) check.state (line_of line) next.state proving.lines takes.line));
}

-- the lines still lead to the checker's state where the claim is raised
pub raised_proving : (net : Net) (old new : ClauseCheckerView) (lines : List StoredLine) (claim : ℤ) → IsProving net (record { check = old; lines = lines })
    → old.goal.claim ≤ℤ claim → new.limits ≡ old.limits → new.goal ≡ claiming old.goal claim → new.state ≡ old.state
    → IsProving net (record { check = new; lines = lines })
raised_proving net old new lines claim proving more same_limits is_goal same_state = record {
  checking = raised_keeps_checking net old new claim proving.checking more same_limits is_goal same_state;
  lines = subst (λ (s : State). ProofLeads net new.goal (starting net new.goal.from) (lines_of lines) s) (sym same_state)
      (led_in net (claiming old.goal claim) new.goal (lines_of lines) old.state is_goal
      (claim_can_rise net old.goal claim (starting net old.goal.from) (lines_of lines) old.state more proving.lines));
}
