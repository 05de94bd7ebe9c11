-- Lists of lines, and what they prove in a network or in its negation.
use Rattle.std.specs.Prelude.{ℤ, List, map}
use Rattle.itv_base.specs.declared.names.EventId.{EventId}
use Rattle.event_graph.specs.Network.{Net}
use Rattle.falling.specs.declared.view.View.{View}
use Rattle.falling.specs.declared.view.View.TheVariants.{Plain, Negated}
use Rattle.falling.specs.Kinds.{negated}
use Rattle.edge_clauses.specs.declared.line.StoredLine.{StoredLine}
use Rattle.edge_clauses.specs.declared.line.StoredLine.TheVariants.{Fall as FallTo, Rise as RiseTo, Know as KnowBy, Loop as LoopBack, Assume as AssumeAll, Close as CloseBlock}
use Rattle.edge_clauses.specs.Checking.{ClauseCheckerView, IsChecking}
use Rattle.edge_clauses.specs.Lines.{Assume, ClauseLine, Close, Fall, IsClauseProof, Know, Loop, ProofLeads, Rise, starting}

-- the line of a proof that is stored
abbrev pub line_of : StoredLine → ClauseLine
line_of (FallTo bound) = Fall bound.event bound.value bound.basis
line_of (RiseTo bound) = Rise bound.event bound.value bound.basis
line_of (KnowBy e basis) = Know e basis
line_of (LoopBack event steps result) = Loop event steps.items result.items
line_of (AssumeAll edges) = Assume edges.items
line_of CloseBlock = Close

abbrev pub lines_of : List StoredLine → List ClauseLine
lines_of lines = map line_of lines

-- the lines are a proof that no satisfying times have a separation of the pair above the claim. The proof is in the network itself, or in its negation
-- for the reversed pair
abbrev pub IsProofAs : View → Net → EventId → EventId → ℤ → List StoredLine → Type 0
IsProofAs Plain net from to claim lines = IsClauseProof net (record { from = from; to = to; claim = claim }) (lines_of lines)
IsProofAs Negated net from to claim lines = IsClauseProof (negated net) (record { from = to; to = from; claim = claim }) (lines_of lines)

-- a checker, and the lines that it has taken
pub record ProverView : Type 0 where
  pub check : ClauseCheckerView
  pub lines : List StoredLine

-- the lines lead from the start to the state of the checker
pub record IsProving (net : Net) (proving : ProverView) : Type 0 where
  pub checking : IsChecking net proving.check
  pub lines : ProofLeads net proving.check.goal (starting net proving.check.goal.from) (lines_of proving.lines) proving.check.state
