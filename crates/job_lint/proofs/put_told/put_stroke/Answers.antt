use Rattle.std.proofs.Common.{List, ◌≡◌, ◌∙◌, ap, sym, true, false}
use Rattle.std.specs.List.{flat_map, list_any}
use Rattle.itv_base.specs.Outside.{grown}
use Rattle.itv_base.proofs.Written.{grown-nil, puts_same}
use Rattle.line_words.specs.Lines.{spaced}
use Rattle.line_words.specs.Words.{Word}
use Rattle.design_plan.specs.Notes.{is_printed_byte}
use Rattle.job_lint.proofs.Texting.{stroke_both, stroke_first, stroke_other}
use Rattle.job_lint.proofs.put_told.put_stroke.Goals as goal

pub returns-then-not-is_any_printed : goal.returns-then-not-is_any_printed
returns-then-not-is_any_printed g c =
    let none : list_any is_printed_byte c.args.first.now ≡ false = sym c.is_any_printed.ensures.any ∙ c.if-not-is_any_printed.true in
    grown-nil (g.K.Sink.state c.args.sink.now)
    ∙ ap (λ (words : List Word). grown (g.K.Sink.state c.args.sink.now) (flat_map spaced words)) (sym (stroke_first is_printed_byte c.args.first.now c.args.other.now none))

pub returns-then-not-is_any_printed-2 : goal.returns-then-not-is_any_printed-2
returns-then-not-is_any_printed-2 g c =
    let none : list_any is_printed_byte c.args.other.now ≡ false = sym c.is_any_printed-2.ensures.any ∙ c.if-not-is_any_printed-2.true in
    grown-nil (g.K.Sink.state c.args.sink.now)
    ∙ ap (λ (words : List Word). grown (g.K.Sink.state c.args.sink.now) (flat_map spaced words)) (sym (stroke_other is_printed_byte c.args.first.now c.args.other.now none))

pub returns : goal.returns
returns g c =
    let first : list_any is_printed_byte c.args.first.now ≡ true = sym c.is_any_printed.ensures.any ∙ c.if-not-is_any_printed.false in
    let other : list_any is_printed_byte c.args.other.now ≡ true = sym c.is_any_printed-2.ensures.any ∙ c.if-not-is_any_printed-2.false in
    puts_same _ _ _ _ c.put.result (ap (λ (words : List Word). flat_map spaced words) (sym (stroke_both is_printed_byte c.args.first.now c.args.other.now first other))) c.put.ensures.puts
