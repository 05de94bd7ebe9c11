use Rattle.std.proofs.Common.{sym, ◌∙◌}
use Rattle.job_confirm.proofs.Values.{can_rise_as, set_count}
use Rattle.job_confirm.proofs.Lines.{set_stands, times_stand}
use Rattle.job_confirm.proofs.Whole.{want_on}
use Rattle.job_confirm.proofs.bound.endless_next.Goals as goal

pub returns-in_err-times-clause-read : goal.returns-in_err-times-clause-read
returns-in_err-times-clause-read c times ray more endless stands =
    want_on _ c.from_residual.result _ c.from_residual.ensures.1 (c.in_err-times.ensures.read times.items _ endless.are_times stands)

pub returns-in_err-set-clause-read : goal.returns-in_err-set-clause-read
returns-in_err-set-clause-read c times ray more endless stands =
    let next = c.pass.ensures.passed _ _ (times_stand _ times.items _ stands).begins in
    want_on _ c.from_residual-in_err-set.result _ c.from_residual-in_err-set.ensures.1
    (c.in_err-set.ensures.read ray.items more (set_stands _ ray.items more next) (set_count c.args.net.now c.args.which c.args.row.now times.items ray.items _ endless c.events.ensures.count))

pub returns-then-not-can_rise-clause-read : goal.returns-then-not-can_rise-clause-read
returns-then-not-can_rise-clause-read c times ray more endless stands =
    let next = c.pass.ensures.passed _ _ (times_stand _ times.items _ stands).begins in
    let same = c.in_ok-times.ensures.read times.items _ endless.are_times stands in
    let set = c.in_ok-set.ensures.read ray.items more (set_stands _ ray.items more next)
    (set_count c.args.net.now c.args.which c.args.row.now times.items ray.items _ endless c.events.ensures.count) in
    absurd (cc (c.if-not-can_rise.ensures.raised.1
    (can_rise_as c.args.which c.args.net.now c.args.row.now times.items ray.items _ _ (c.deref.ensures.value ∙ same) (c.deref-2.ensures.value ∙ set) endless.raised)))

pub returns-clause-read : goal.returns-clause-read
returns-clause-read c times ray more endless stands =
    let next = c.pass.ensures.passed _ _ (times_stand _ times.items _ stands).begins in (
      sym (c.in_ok-times.ensures.read times.items _ endless.are_times stands),
      sym (c.in_ok-set.ensures.read ray.items more (set_stands _ ray.items more next)
          (set_count c.args.net.now c.args.which c.args.row.now times.items ray.items _ endless c.events.ensures.count)),
    )
