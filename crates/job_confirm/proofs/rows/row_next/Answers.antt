use Rattle.job_confirm.specs.declared.rows.RowRead.{RowRead}
use Rattle.job_confirm.proofs.Parts.{row_parts}
use Rattle.job_confirm.proofs.Settled.{row_behind, row_found}
use Rattle.job_confirm.proofs.Whole.{want_on}
use Rattle.job_confirm.proofs.rows.row_next.Goals as goal

pub returns-clause-found : goal.returns-clause-found
returns-clause-found c =
    row_found (λ (read : RowRead). read.found) (λ (read : RowRead). read.place) c.args.drawn.now c.args.text.now c.args.number c.row_at-row.result.now c.in_ok-greatest.greatest.found
    c.in_ok-least.least.found c.row_at-row.ensures.row c.network-net.result.now c.judged_read.result c.network-net.ensures.network c.in_ok-greatest.ensures.bound c.in_ok-least.ensures.bound
    c.judged_read.ensures.greatest c.judged_read.ensures.least c.judged_read.ensures.past

pub returns-clause-behind : goal.returns-clause-behind
returns-clause-behind c =
    row_behind (λ (read : RowRead). read.found) (λ (read : RowRead). read.place) c.args.drawn.now c.args.text.now c.args.number c.row_at-row.result.now c.in_ok-greatest.greatest.found
    c.in_ok-least.least.found c.row_at-row.ensures.row c.args.place c.in_ok-place.place c.in_ok-greatest.greatest.place c.in_ok-least.least.place c.judged_read.result
    c.in_ok-place.ensures.behind c.in_ok-greatest.ensures.behind c.in_ok-least.ensures.behind c.judged_read.ensures.greatest c.judged_read.ensures.least c.judged_read.ensures.behind

pub returns-in_err-place-clause-read : goal.returns-in_err-place-clause-read
returns-in_err-place-clause-read c row shown more at is stands =
    let p = row_parts c.args.drawn.now c.network-net.result.now c.args.text.now c.args.place c.args.number c.row_at-row.result.now row shown more c.network-net.ensures.network
    c.row_at-row.ensures.row at is stands in
    want_on _ c.from_residual.result _ c.from_residual.ensures.1 (c.in_err-place.ensures.whole _ p.stands)

pub returns-in_err-greatest-clause-read : goal.returns-in_err-greatest-clause-read
returns-in_err-greatest-clause-read c row shown more at is stands =
    let p = row_parts c.args.drawn.now c.network-net.result.now c.args.text.now c.args.place c.args.number c.row_at-row.result.now row shown more c.network-net.ensures.network
    c.row_at-row.ensures.row at is stands in
    let next = c.in_ok-place.ensures.whole _ p.stands in
    want_on _ c.from_residual-in_err-greatest.result _ c.from_residual-in_err-greatest.ensures.1
    (c.in_err-greatest.ensures.read shown.greatest _ p.greatest next)

pub returns-in_err-least-clause-read : goal.returns-in_err-least-clause-read
returns-in_err-least-clause-read c row shown more at is stands =
    let p = row_parts c.args.drawn.now c.network-net.result.now c.args.text.now c.args.place c.args.number c.row_at-row.result.now row shown more c.network-net.ensures.network
    c.row_at-row.ensures.row at is stands in
    let (greatest, next) = c.in_ok-greatest.ensures.read shown.greatest _ p.greatest (c.in_ok-place.ensures.whole _ p.stands) in
    want_on _ c.from_residual-in_err-least.result _ c.from_residual-in_err-least.ensures.1
    (c.in_err-least.ensures.read shown.least _ p.least next)

pub returns-clause-read : goal.returns-clause-read
returns-clause-read c row shown more at is stands =
    let p = row_parts c.args.drawn.now c.network-net.result.now c.args.text.now c.args.place c.args.number c.row_at-row.result.now row shown more c.network-net.ensures.network
    c.row_at-row.ensures.row at is stands in
    let (greatest, next) = c.in_ok-greatest.ensures.read shown.greatest _ p.greatest (c.in_ok-place.ensures.whole _ p.stands) in
    let (least, behind) = c.in_ok-least.ensures.read shown.least _ p.least next in
    c.judged_read.ensures.read shown more p.past greatest least behind
