-- Lines can follow lines.
use Rattle.std.proofs.Common.{◌≡◌, ◌<◌, Bool, true, false, IsTrue, IsFalse, List, [], ◌∷◌, ◌++◌, Result, Ok, Err, IfOk, OnErr, sym, refl, subst}
use Rattle.itv_base.specs.declared.text.NoMemory.{NoMemory}
use Rattle.event_graph.specs.Network.{Net}
use Rattle.falling.specs.DerivationEnds.{AreLimits}
use Rattle.edge_clauses.specs.Lines.{ClauseLine, Goal, IsLine, ProofLeads, State, claiming, starting}
use Rattle.edge_clauses.specs.Checking.{ClauseCheckerView, IsChecking, TakesLine}
use Rattle.edge_clauses.specs.Laws.{RaisedKeepsChecking, StartIsChecking, TakenLineKeepsChecking}
use Rattle.edge_clauses.proofs.Proving.{claim_can_rise}

-- a line after lines
pub leads_more : (net : Net) (goal : Goal) (state : State) (lines : List ClauseLine) (after : State) (line : ClauseLine) (next : State) → ProofLeads net goal state lines after
    → IsLine net goal after line next → ProofLeads net goal state (lines ++ line ∷ []) next
leads_more net goal state [] after line next leads is = (next, subst (λ (s : State). IsLine net goal s line next) (sym leads) is, refl)
leads_more net goal state (first ∷ lines) after line next (between, is_first, rest) is = (between, is_first, leads_more net goal between lines after line next rest is)

pub start_is_checking : StartIsChecking
start_is_checking net check are_limits in_from in_to is_start = record {
  limits = are_limits;
  from = in_from;
  to = in_to;
  lines = ([], sym is_start);
}

pub led_in : (net : Net) (goal other : Goal) (lines : List ClauseLine) (after : State) → other ≡ goal → ProofLeads net goal (starting net goal.from) lines after
    → ProofLeads net other (starting net other.from) lines after
led_in net goal other lines after same leads = subst (λ (g : Goal). ProofLeads net g (starting net g.from) lines after) (sym same) leads

pub taken_line_keeps_checking : TakenLineKeepsChecking
taken_line_keeps_checking net old new line checking takes =
    let (lines, leads) = checking.lines in
    record {
      limits = subst (λ limits. AreLimits net limits) (sym takes.limits) checking.limits;
      from = subst (λ (g : Goal). g.from.0 < net.events) (sym takes.goal) checking.from;
      to = subst (λ (g : Goal). g.to.0 < net.events) (sym takes.goal) checking.to;
      lines = (
        lines ++ line ∷ [],
        led_in net old.goal new.goal (lines ++ line ∷ []) new.state takes.goal
            (leads_more net old.goal (starting net old.goal.from) lines old.state line new.state leads takes.line),
      );
    }

pub raised_keeps_checking : RaisedKeepsChecking
raised_keeps_checking net old new claim checking more same_limits is_goal same_state =
    let (lines, leads) = checking.lines in
    record {
      limits = subst (λ limits. AreLimits net limits) (sym same_limits) checking.limits;
      from = subst (λ (g : Goal). g.from.0 < net.events) (sym is_goal) checking.from;
      to = subst (λ (g : Goal). g.to.0 < net.events) (sym is_goal) checking.to;
      lines = (
        lines,
        subst (λ (s : State). ProofLeads net new.goal (starting net new.goal.from) lines s) (sym same_state)
            (led_in net (claiming old.goal claim) new.goal lines old.state is_goal (claim_can_rise net old.goal claim (starting net old.goal.from) lines old.state more leads)),
      );
    }

-- `IsChecking` holds after a line, whether it was taken, refused, or memory was lacking
pub still_checking : (net : Net) (old new : ClauseCheckerView) (line : ClauseLine) (r : Result Bool NoMemory) → IsChecking net old → IfOk r (λ taken. IsTrue taken → TakesLine net old line new)
    → IfOk r (λ taken. IsFalse taken → new ≡ old) → OnErr r (new ≡ old) → IsChecking net new
still_checking net old new line (Ok true) checking takes refused lacking = taken_line_keeps_checking net old new line checking (takes refl)
still_checking net old new line (Ok false) checking takes refused lacking = subst (IsChecking net) (sym (refused refl)) checking
still_checking net old new line (Err e) checking takes refused lacking = subst (IsChecking net) (sym lacking) checking
