use Rattle.std.proofs.Common.{arith}
use Rattle.std.proofs.lemmas.List.Elements.{All-map}
use Rattle.edge_clauses.specs.Proofs.{line_of}
use Rattle.clause_texts.specs.Text.{IsClauseLine}
use Rattle.clause_texts.proofs.OneMore.{one_more}
use Rattle.clause_texts.proofs.fitting.have_texts.Goals as goal

pub loop-line-preserved : goal.loop-line-preserved
loop-line-preserved c = one_more (λ line. IsClauseLine (line_of line)) c.args.lines.now c.loop-line.line-index _ _ c.loop-line-test.true c.loop-line.invariant c.line-item.is c.has_text.ensures

pub returns : goal.returns
returns c = record {
  lines = All-map IsClauseLine line_of c.args.lines.now (λ k d within. c.loop-line.invariant k d (omega arith) (omega (arith, c.loop-line-test.false, within)));
}
