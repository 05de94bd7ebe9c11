use Rattle.std.proofs.Common.{ℤ, List, pos, ◌<ℤ◌, w64, sym, subst, ap, ◌∙◌}
use Rattle.std.proofs.lemmas.Int.{to_z-of_z}
use Rattle.line_words.specs.Numbers.{IsLong}
use Rattle.event_graph.specs.Times.{separation}
use Rattle.falling.specs.Cap.{far_line}
use Rattle.job_confirm.specs.Step.{claim_of}
use Rattle.job_confirm.proofs.Lines.{number_stands}
use Rattle.job_confirm.proofs.Taken.{number_other}
use Rattle.job_confirm.proofs.Values.{number_claimed, number_long, number_near, number_shown}
use Rattle.job_confirm.proofs.Whole.{want_on}
use Rattle.job_confirm.proofs.bound.number_next.Goals as goal

pub returns-in_err-proof-clause-read : goal.returns-in_err-proof-clause-read
returns-in_err-proof-clause-read c value times proof more number stands =
    let shown = number_shown c.args.net.now c.args.which c.args.row.now value times.items proof _ c.pair_of.ensures.pair c.requires.row number in
    want_on _ c.from_residual.result _ c.from_residual.ensures.1 (c.in_err-proof.ensures.read proof _ shown (number_other c.args.which value _) stands)

pub returns-in_err-value-clause-read : goal.returns-in_err-value-clause-read
returns-in_err-value-clause-read c value times proof more number stands =
    let shown = number_shown c.args.net.now c.args.which c.args.row.now value times.items proof _ c.pair_of.ensures.pair c.requires.row number in
    let (same, next) = c.in_ok-proof.ensures.read proof _ shown (number_other c.args.which value _) stands in
    want_on _ c.from_residual-in_err-value.result _ c.from_residual-in_err-value.ensures.1
    (c.in_err-value.ensures.read value _ (number_stands _ c.args.which value _ next)
    (number_long c.args.net.now c.args.which c.args.row.now value times.items proof c.requires.row number))

pub returns-then-not-is_claimed-clause-read : goal.returns-then-not-is_claimed-clause-read
returns-then-not-is_claimed-clause-read c value times proof more number stands =
    let shown = number_shown c.args.net.now c.args.which c.args.row.now value times.items proof _ c.pair_of.ensures.pair c.requires.row number in
    let (same, next) = c.in_ok-proof.ensures.read proof _ shown (number_other c.args.which value _) stands in
    let found = c.in_ok-value.ensures.read value _ (number_stands _ c.args.which value _ next)
    (number_long c.args.net.now c.args.which c.args.row.now value times.items proof c.requires.row number) in
    let value_is = to_z-of_z w64 c.in_ok-value.value (subst IsLong (sym found) (number_long c.args.net.now c.args.which c.args.row.now value times.items proof c.requires.row number)) in
    absurd (cc (c.if-not-is_claimed.ensures.given
    (rw (to_z-of_z w64 c.in_ok-proof.proof.claim c.in_ok-proof.ensures.fits, value_is) (sym same.claim ∙ (number_claimed c.args.net.now c.args.which c.args.row.now value times.items proof number ∙ ap (claim_of c.args.which) (sym found))))))

pub returns-then-not-is_near-clause-read : goal.returns-then-not-is_near-clause-read
returns-then-not-is_near-clause-read c value times proof more number stands =
    let shown = number_shown c.args.net.now c.args.which c.args.row.now value times.items proof _ c.pair_of.ensures.pair c.requires.row number in
    let (same, next) = c.in_ok-proof.ensures.read proof _ shown (number_other c.args.which value _) stands in
    absurd (cc ((c.if-not-is_near.ensures.near c.args.net.now c.requires.views).1
    (rw (to_z-of_z w64 c.in_ok-proof.proof.claim c.in_ok-proof.ensures.fits) (subst (λ (claim : ℤ). claim <ℤ pos (far_line c.args.net.now)) same.claim
    (number_near c.args.net.now c.args.which c.args.row.now value times.items proof c.is_whole.ensures.net c.requires.row number)))))

pub returns-in_err-times-clause-read : goal.returns-in_err-times-clause-read
returns-in_err-times-clause-read c value times proof more number stands =
    let shown = number_shown c.args.net.now c.args.which c.args.row.now value times.items proof _ c.pair_of.ensures.pair c.requires.row number in
    let (same, next) = c.in_ok-proof.ensures.read proof _ shown (number_other c.args.which value _) stands in
    let behind = c.pass.ensures.passed _ _ (number_stands _ c.args.which value _ next).begins in
    want_on _ c.from_residual-in_err-times.result _ c.from_residual-in_err-times.ensures.1
    (c.in_err-times.ensures.read times.items more number.are_times behind)

pub returns-then-not-attain-clause-read : goal.returns-then-not-attain-clause-read
returns-then-not-attain-clause-read c value times proof more number stands =
    let shown = number_shown c.args.net.now c.args.which c.args.row.now value times.items proof _ c.pair_of.ensures.pair c.requires.row number in
    let (same, next) = c.in_ok-proof.ensures.read proof _ shown (number_other c.args.which value _) stands in
    let found = c.in_ok-value.ensures.read value _ (number_stands _ c.args.which value _ next)
    (number_long c.args.net.now c.args.which c.args.row.now value times.items proof c.requires.row number) in
    let behind = c.pass.ensures.passed _ _ (number_stands _ c.args.which value _ next).begins in
    let read = c.in_ok-times.ensures.read times.items more number.are_times behind in
    let value_is = to_z-of_z w64 c.in_ok-value.value (subst IsLong (sym found) (number_long c.args.net.now c.args.which c.args.row.now value times.items proof c.requires.row number)) in
    absurd (cc (c.if-not-attain.ensures.attained.1
    (ap (λ (ts : List ℤ). separation ts c.args.row.now.from c.args.row.now.to) (c.deref.ensures.value ∙ read) ∙ (number.attained ∙ (sym found ∙ sym value_is)))))

pub returns-clause-read : goal.returns-clause-read
returns-clause-read c value times proof more number stands =
    let shown = number_shown c.args.net.now c.args.which c.args.row.now value times.items proof _ c.pair_of.ensures.pair c.requires.row number in
    let (same, next) = c.in_ok-proof.ensures.read proof _ shown (number_other c.args.which value _) stands in
    let found = c.in_ok-value.ensures.read value _ (number_stands _ c.args.which value _ next)
    (number_long c.args.net.now c.args.which c.args.row.now value times.items proof c.requires.row number) in
    let behind = c.pass.ensures.passed _ _ (number_stands _ c.args.which value _ next).begins in
    let value_is = to_z-of_z w64 c.in_ok-value.value (subst IsLong (sym found) (number_long c.args.net.now c.args.which c.args.row.now value times.items proof c.requires.row number)) in
    rw c.number_of.ensures.is (sym found ∙ sym value_is, sym (c.in_ok-times.ensures.read times.items more number.are_times behind), same)
