use Rattle.std.proofs.Common.{All, ap, refl, subst}
use Rattle.edge_clauses.specs.Proofs.{lines_of}
use Rattle.clause_texts.specs.Text.{IsClauseLine}
use Rattle.job_confirm.proofs.Proved.{is_refuted}
use Rattle.job_confirm.proofs.finding.refuted_by.Goals as goal

pub returns : goal.returns
returns c = record {
  finding = is_refuted c.args.net.now c.args.proof c.is_whole.ensures.net c.requires.some c.requires.low c.requires.fits c.requires.proof
      (subst (All IsClauseLine) (ap lines_of c.deref.ensures.value) c.have_texts.ensures.lines);
  is = refl;
}
