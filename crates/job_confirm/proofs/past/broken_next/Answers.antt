use Rattle.std.proofs.Common.{ℤ, List, refl, sym, subst, ◌∙◌}
use Rattle.right_report.specs.Right.LineClaims.{BreaksEnd}
use Rattle.job_confirm.proofs.Judged.{broken_stands, no_fail}
use Rattle.job_confirm.proofs.Whole.{want_on}
use Rattle.job_confirm.proofs.past.broken_next.Goals as goal

pub returns-then-not-is_fail-clause-read : goal.returns-then-not-is_fail-clause-read
returns-then-not-is_fail-clause-read c past more is stands =
    c.new.ensures.items ∙ sym (no_fail c.args.net.now c.args.row.now c.args.range c.args.word past (sym c.if-not-is_fail.ensures) is)

pub returns-then-not-passes-clause-read : goal.returns-then-not-passes-clause-read
returns-then-not-passes-clause-read c past more is stands =
    let b = broken_stands c.args.net.now c.args.row.now c.args.range c.args.word c.fail_line.result.now past c.args.reader.now.rest.now more (sym c.if-not-is_fail.ensures) c.fail_line.ensures.low
    c.fail_line.ensures.high is stands in
    absurd (cc ((c.if-not-passes.ensures.stands _ _ b.begins).1 refl))

pub returns-in_err-times-clause-read : goal.returns-in_err-times-clause-read
returns-in_err-times-clause-read c past more is stands =
    let b = broken_stands c.args.net.now c.args.row.now c.args.range c.args.word c.fail_line.result.now past c.args.reader.now.rest.now more (sym c.if-not-is_fail.ensures) c.fail_line.ensures.low
    c.fail_line.ensures.high is stands in
    want_on _ c.from_residual.result _ c.from_residual.ensures.1
    (c.in_err-times.ensures.read past more b.printed (c.if-not-passes.ensures.passed _ _ b.begins refl))

pub returns-then-not-break_end-clause-read : goal.returns-then-not-break_end-clause-read
returns-then-not-break_end-clause-read c past more is stands =
    let b = broken_stands c.args.net.now c.args.row.now c.args.range c.args.word c.fail_line.result.now past c.args.reader.now.rest.now more (sym c.if-not-is_fail.ensures) c.fail_line.ensures.low
    c.fail_line.ensures.high is stands in
    let same = c.in_ok-times.ensures.read past more b.printed (c.if-not-passes.ensures.passed _ _ b.begins refl) in
    absurd (cc (c.if-not-break_end.ensures.breaks.1
    (subst (λ (ts : List ℤ). BreaksEnd c.args.row.now c.args.range c.args.word ts) (sym (c.deref.ensures.value ∙ same)) b.breaks)))

pub returns-clause-read : goal.returns-clause-read
returns-clause-read c past more is stands =
    let b = broken_stands c.args.net.now c.args.row.now c.args.range c.args.word c.fail_line.result.now past c.args.reader.now.rest.now more (sym c.if-not-is_fail.ensures) c.fail_line.ensures.low
    c.fail_line.ensures.high is stands in
    c.in_ok-times.ensures.read past more b.printed (c.if-not-passes.ensures.passed _ _ b.begins refl)
