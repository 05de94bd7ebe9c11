use Rattle.std.proofs.Common.{◌∙◌, ap}
use Rattle.job_base.specs.Ending.{answer_of}
use Rattle.job_margin.specs.Text.{end_of}
use Rattle.job_margin.proofs.Endings.{found_length}
use Rattle.job_margin.proofs.Whole.{answers_margin}
use Rattle.job_margin.proofs.write.decide_on.Goals as goal

pub text_of-requires : goal.text_of-requires
text_of-requires g c = record {
  count = found_length c.args.drawn.now c.args.budget c.args.seen.now c.args.as_one c.in_ok-found.found.word c.in_ok-found.found.numbers.items c.in_ok-found.ensures.ending;
}

pub returns : goal.returns
returns g c = λ list of.
    answers_margin (g.N.Notes.noted c.args.notes.now) c.args.drawn.now c.args.budget c.args.seen.now c.args.as_one list c.in_ok-found.found.word c.in_ok-found.found.numbers.items c.answer_of.result
    c.in_ok-text.text.items c.in_ok-found.ensures.ending c.in_ok-text.ensures
    (c.answer_of.ensures ∙ ap answer_of (c.end_of.ensures.word ∙ ap (end_of c.in_ok-found.found.word) (rw c.deref.ensures.value at c.are_left_open.ensures.spent))) of
