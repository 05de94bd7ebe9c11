use Rattle.std.proofs.Common.{◌≡◌, ◌∙◌, List, [], true, ap, subst, sym}
use Rattle.event_graph.specs.Network.{Net}
use Rattle.slack_report.specs.Entry.{ending}
use Rattle.slack_report.specs.Text.{entry_text}
use Rattle.job_settle.specs.declared.row.RowFound.{RowFound}
use Rattle.job_settle.specs.Answers.{AreFound, IsFinding}
use Rattle.job_settle.specs.Text.{ending_of}
use Rattle.job_confirm.specs.Confirm.{IsSettledTo}
use Rattle.job_confirm.specs.Step.{IsPieceAt}
use Rattle.job_confirm.proofs.Parts.{ending_stands, none_left_over, text_parts}
use Rattle.job_confirm.proofs.Settled.{settled_text}
use Rattle.job_confirm.proofs.Whole.{want_on}
use Rattle.job_confirm.proofs.confirm.confirm_by.Goals as goal

pub returns-in_err-place-clause-whole : goal.returns-in_err-place-clause-whole
returns-in_err-place-clause-whole c settled =
    let p = text_parts c.args.drawn.now c.network-net.result.now c.args.text.now c.network-net.ensures.network settled in
    want_on _ c.from_residual.result _ c.from_residual.ensures.1 (c.in_err-place.ensures.whole _ p.stands)

pub returns-in_err-read-clause-whole : goal.returns-in_err-read-clause-whole
returns-in_err-read-clause-whole c settled =
    let p = text_parts c.args.drawn.now c.network-net.result.now c.args.text.now c.network-net.ensures.network settled in
    want_on _ c.from_residual-in_err-read.result _ c.from_residual-in_err-read.ensures.1
    (c.in_err-read.ensures.read p.finding _ p.is_finding (c.in_ok-place.ensures.whole _ p.stands))

pub returns-in_err-rows-clause-whole : goal.returns-in_err-rows-clause-whole
returns-in_err-rows-clause-whole c settled =
    let p = text_parts c.args.drawn.now c.network-net.result.now c.args.text.now c.network-net.ensures.network settled in
    let (same, next) = c.in_ok-read.ensures.read p.finding _ p.is_finding (c.in_ok-place.ensures.whole _ p.stands) in
    want_on _ c.from_residual-in_err-rows.result _ c.from_residual-in_err-rows.ensures.1
    (c.in_err-rows.ensures.read p.finding p.found _ same p.are_found next)

pub returns-in_err-place-2-clause-whole : goal.returns-in_err-place-2-clause-whole
returns-in_err-place-2-clause-whole c settled =
    let p = text_parts c.args.drawn.now c.network-net.result.now c.args.text.now c.network-net.ensures.network settled in
    let (same, next) = c.in_ok-read.ensures.read p.finding _ p.is_finding (c.in_ok-place.ensures.whole _ p.stands) in
    let (rows, behind) = c.in_ok-rows.ensures.read p.finding p.found _ same p.are_found next in
    want_on _ c.from_residual-in_err-place-2.result _ c.from_residual-in_err-place-2.ensures.1
    (c.in_err-place-2.ensures.whole [] (ending_stands c.args.drawn.now.rows p.finding c.in_ok-read.read.finding p.found c.in_ok-rows.rows.found.items _ _ same rows c.deref.ensures.value behind))

pub returns-then-place-text-clause-whole : goal.returns-then-place-text-clause-whole
returns-then-place-text-clause-whole c settled =
    let p = text_parts c.args.drawn.now c.network-net.result.now c.args.text.now c.network-net.ensures.network settled in
    let (same, next) = c.in_ok-read.ensures.read p.finding _ p.is_finding (c.in_ok-place.ensures.whole _ p.stands) in
    let (rows, behind) = c.in_ok-rows.ensures.read p.finding p.found _ same p.are_found next in
    let last = c.in_ok-place-2.ensures.whole [] (ending_stands c.args.drawn.now.rows p.finding c.in_ok-read.read.finding p.found c.in_ok-rows.rows.found.items _ _ same rows c.deref.ensures.value behind) in
    absurd (none_left_over c.args.text.now c.in_ok-place-2.place last c.if-place-text.true)

pub ending_of-requires : goal.ending_of-requires
ending_of-requires c = record {
  found = (
    true,
    subst (λ (found : List RowFound). AreFound true c.args.drawn.now.net c.args.drawn.now.rows c.in_ok-read.read.finding found) (sym c.deref-2.ensures.value) c.in_ok-rows.ensures.found,
  );
}

pub returns-clause-confirmed : goal.returns-clause-confirmed
returns-clause-confirmed c =
    let word : c.ending_of.result ≡ ending_of c.args.drawn.now.rows c.in_ok-read.read.finding c.in_ok-rows.rows.found.items =
    c.ending_of.ensures.word ∙ ap (ending_of c.args.drawn.now.rows c.in_ok-read.read.finding) c.deref-2.ensures.value in
    subst (IsSettledTo c.args.drawn.now c.args.text.now) (sym word)
    (settled_text c.args.drawn.now c.args.text.now c.in_ok-read.read.finding c.in_ok-rows.rows.found.items c.in_ok-place.place c.in_ok-read.read.place c.in_ok-rows.rows.place
    c.in_ok-place-2.place (subst (λ (net : Net). IsFinding true net c.in_ok-read.read.finding) c.network-net.ensures.network c.in_ok-read.ensures.finding)
    c.in_ok-rows.ensures.found c.in_ok-place.ensures.behind c.in_ok-read.ensures.behind c.in_ok-rows.ensures.behind
    (subst (λ (found : List RowFound).
    IsPieceAt c.args.text.now c.in_ok-rows.rows.place (entry_text (ending (ending_of c.args.drawn.now.rows c.in_ok-read.read.finding found))) c.in_ok-place-2.place)
    c.deref.ensures.value c.in_ok-place-2.ensures.behind) c.if-place-text.false)
