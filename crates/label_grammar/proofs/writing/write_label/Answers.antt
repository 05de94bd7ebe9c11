use Rattle.std.proofs.Common.{◌∙◌, refl}
use Rattle.std.proofs.lemmas.Result.{err_from_is_err_and}
use Rattle.itv_base.proofs.Written.{left_cut, left_last}
use Rattle.label_grammar.specs.Label.{label_view}
use Rattle.label_grammar.proofs.Sequence.{kind_put, shift_put, tag_put, ends_put}
use Rattle.label_grammar.proofs.writing.write_label.Goals as goal

pub returns-in_err-write_shift : goal.returns-in_err-write_shift
returns-in_err-write_shift g c =
    let fault = err_from_is_err_and c.from_residual-in_err-write_shift.result c.from_residual-in_err-write_shift.ensures.1 in
    let at_shift = kind_put _ (label_view c.args.label.now) _ _ (c.as_bytes.ensures.value ∙ c.word.ensures) c.in_ok-put.ensures.puts in
    rw fault.1 (record { puts = left_cut _ _ _ _ _ _ _ at_shift refl c.in_err-write_shift.ensures })

pub returns-in_err-write_tag : goal.returns-in_err-write_tag
returns-in_err-write_tag g c =
    let fault = err_from_is_err_and c.from_residual-in_err-write_tag.result c.from_residual-in_err-write_tag.ensures.1 in
    let at_shift = kind_put _ (label_view c.args.label.now) _ _ (c.as_bytes.ensures.value ∙ c.word.ensures) c.in_ok-put.ensures.puts in
    let at_tag = shift_put _ (label_view c.args.label.now) _ _ at_shift c.in_ok-write_shift.ensures in
    rw fault.1 (record { puts = left_cut _ _ _ _ _ _ _ at_tag refl c.in_err-write_tag.ensures })

pub returns-in_err-write_range : goal.returns-in_err-write_range
returns-in_err-write_range g c =
    let fault = err_from_is_err_and c.from_residual-in_err-write_range.result c.from_residual-in_err-write_range.ensures.1 in
    let at_shift = kind_put _ (label_view c.args.label.now) _ _ (c.as_bytes.ensures.value ∙ c.word.ensures) c.in_ok-put.ensures.puts in
    let at_tag = shift_put _ (label_view c.args.label.now) _ _ at_shift c.in_ok-write_shift.ensures in
    let at_ends = tag_put _ (label_view c.args.label.now) _ _ at_tag c.in_ok-write_tag.ensures in
    rw fault.1 (record { puts = left_cut _ _ _ _ _ _ _ at_ends refl c.in_err-write_range.ensures })

pub returns : goal.returns
returns g c =
    let at_shift = kind_put _ (label_view c.args.label.now) _ _ (c.as_bytes.ensures.value ∙ c.word.ensures) c.in_ok-put.ensures.puts in
    let at_tag = shift_put _ (label_view c.args.label.now) _ _ at_shift c.in_ok-write_shift.ensures in
    let at_ends = tag_put _ (label_view c.args.label.now) _ _ at_tag c.in_ok-write_tag.ensures in
    let at_note = ends_put _ (label_view c.args.label.now) _ _ at_ends c.in_ok-write_range.ensures in
    record { puts = left_last _ _ _ _ _ _ at_note c.write_note.ensures }
