use Rattle.job_whatif.proofs.Texts.{row_is}
use Rattle.job_whatif.proofs.rows.add_row.Goals as goal

pub returns : goal.returns
returns c =
    row_is c.args.number c.args.kind c.args.both.now.least c.args.both.now.greatest c.args.text.now.items _ _ _ _ _ _ c.in_ok-add_piece.ensures.added c.in_ok-add_number.ensures.added
    c.in_ok-add_side.ensures c.in_ok-add_side-2.ensures c.in_ok-add_judged.ensures c.in_ok-add_piece-2.ensures.added
