use Rattle.std.proofs.Common.{◌∷◌, ◌++◌, ◌∙◌, ap}
use Rattle.line_words.specs.Lines.{ended, line_of}
use Rattle.drawn_numbers.specs.Numbers.{drawn_number_text}
use Rattle.slack_report.specs.Text.{range_word}
use Rattle.job_why.specs.Text.{some_word}
use Rattle.job_margin.specs.Text.{how_far}
use Rattle.job_margin.proofs.Lining.{line_is}
use Rattle.job_margin.proofs.lines.add_line.Goals as goal

pub returns : goal.returns
returns g c =
    line_is c.args.which.now (how_far c.args.margin).0 (drawn_number_text c.args.seen.now.number) (range_word c.args.seen.now.range) (how_far c.args.margin).1 (some_word c.note_of.result.now)
    c.args.text.now.items _ _ _ _ _ _ (c.in_ok-add_piece.ensures.added ∙ ap (λ w. c.args.text.now.items ++ w) c.as_bytes.ensures.value) c.in_ok-add_amount.ensures c.in_ok-add_seen.ensures c.in_ok-add_row.ensures
    c.in_ok-add_some.ensures.added c.in_ok-add_piece-2.ensures.added
    ∙ ap (λ note. c.args.text.now.items ++ ended (line_of (c.args.which.now ∷ (how_far c.args.margin).0 ∷ drawn_number_text c.args.seen.now.number ∷ range_word c.args.seen.now.range
    ∷ ((how_far c.args.margin).1 ++ some_word note)))) c.note_of.ensures
