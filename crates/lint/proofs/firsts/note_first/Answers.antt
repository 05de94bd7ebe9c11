use Rattle.std.proofs.Common.{sym}
use Rattle.lint.specs.Step.{first_at}
use Rattle.lint.proofs.FirstLists.{note_fresh}
use Rattle.lint.proofs.firsts.note_first.Goals as goal

pub returns-in_ok-insert : goal.returns-in_ok-insert
returns-in_ok-insert c = record {
  noted = λ mark.
      note_fresh (first_at c.args.firsts.now) c.args.lead.now mark c.args.given (first_at c.insert.new.self mark) c.if-given.true (sym c.if-not-has_first.ensures)
      (c.in_ok-insert.ensures.updates.0 (mark.part, mark.mark));
}
