use Rattle.std.proofs.lemmas.Result.{on_ok_weaker}
use Rattle.lint.specs.declared.first_two.FirstTwo.{FirstTwo}
use Rattle.lint.proofs.FirstTwoLists.{lead_noted}
use Rattle.lint.proofs.first_two.note_lead.Goals as goal

pub returns : goal.returns
returns c =
    let tables : FirstTwo = record { firsts = c.note_first-2.new.firsts; seconds = c.note_first.new.firsts } in
    record {
      noted = on_ok_weaker c.note_first-2.result
          (λ noted leads are. lead_noted c.args.tables.now tables leads c.args.lead.now are noted (rw (c.differs-second.ensures, c.first_at.ensures) at c.in_ok-note_first.ensures.noted)) c.note_first-2.ensures.noted;
    }
