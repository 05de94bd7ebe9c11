use Rattle.std.proofs.Common.{All, ap, subst, w64}
use Rattle.std.proofs.lemmas.Int.{to_z-of_z}
use Rattle.edge_clauses.specs.Proofs.{lines_of}
use Rattle.clause_texts.specs.Text.{IsClauseLine}
use Rattle.job_confirm.proofs.Proved.{is_number}
use Rattle.job_confirm.proofs.bound.number_of.Goals as goal

pub returns-clause-bound : goal.returns-clause-bound
returns-clause-bound c =
    rw (to_z-of_z w64 c.args.value c.ranges.value)
    (is_number c.args.net.now c.args.which c.args.row.now c.args.value c.args.times.items c.args.proof c.is_whole.ensures.net c.requires.row c.requires.times
    c.requires.attained c.requires.claim c.requires.near c.requires.proof (subst (All IsClauseLine) (ap lines_of c.deref.ensures.value) c.have_texts.ensures.lines))
