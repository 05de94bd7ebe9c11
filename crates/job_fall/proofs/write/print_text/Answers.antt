use Rattle.job_fall.proofs.Whole.{answers_fall, begins_front, begins_rest}
use Rattle.itv_base.proofs.Options.{on_err}
use Rattle.job_fall.proofs.write.print_text.Goals as goal

pub returns-in_err-put_front-clause-begins : goal.returns-in_err-put_front-clause-begins
returns-in_err-put_front-clause-begins g c =
    on_err _ c.from_residual.result (begins_front c.args.drawn.now c.args.view c.args.wanted.turns c.args.wanted.cert c.requires.view _ _ c.in_err-put_front.ensures)

pub returns-in_err-word-clause-begins : goal.returns-in_err-word-clause-begins
returns-in_err-word-clause-begins g c =
    on_err _ c.from_residual-in_err-word.result
    (begins_rest c.args.drawn.now c.args.view c.args.wanted.turns c.args.wanted.cert c.requires.view _ _ _ c.in_ok-put_front.ensures (c.in_err-word.ensures.goes c.args.view c.requires.view))

pub returns-clause-answers : goal.returns-clause-answers
returns-clause-answers g c =
    answers_fall c.args.drawn.now c.args.view c.args.wanted.turns c.args.wanted.cert c.requires.view _ _ _ c.in_ok-word.word c.answer_of.result c.in_ok-put_front.ensures
    (c.in_ok-word.ensures.goes c.args.view c.requires.view) c.answer_of.ensures
