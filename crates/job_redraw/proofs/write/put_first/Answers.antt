use Rattle.std.proofs.Common.{◌∙◌, refl, sym, ap}
use Rattle.event_graph.specs.Network.{Net}
use Rattle.job_base.specs.declared.answer.Answer.TheVariants.{DesignRefused, SomeFail}
use Rattle.design_reading.specs.declared.refusal_place.RefusalPlace.TheVariants.{Design}
use Rattle.design_reading.specs.declared.refusal.Refusal.TheVariants.{Wide}
use Rattle.design_reading.specs.Refusal.{refusal_text}
use Rattle.redraw.specs.Text.{redrawn}
use Rattle.job_redraw.specs.Failed.{first_failed}
use Rattle.job_redraw.specs.Step.{fail_view}
use Rattle.job_redraw.proofs.Answering.{draws_row, draws_wide, found_broken, if_ok, on_err}
use Rattle.job_redraw.proofs.write.put_first.Goals as goal

pub returns-then-is_wide-clause-answers : goal.returns-then-is_wide-clause-answers
returns-then-is_wide-clause-answers g c =
    if_ok c.put_wide.result _ _
    (λ answer h. (
      refusal_text Design (Wide c.in-Some.fail.row),
      draws_wide c.args.drawn.now c.args.items.now (fail_view c.in-Some.fail) c.row_at-row.result.now (sym c.in-Some.ensures.found)
          (found_broken c.args.drawn.now (first_failed c.args.items.now) c.in-Some.fail c.requires.fail c.in-Some.ensures.found) c.row_at-row.ensures.row c.row_at-row.ensures.within
          (c.network-network.ensures.names ∙ ap (λ (n : Net). n.events) c.network-network.ensures.network) answer _ (sym c.is_wide.ensures ∙ c.if-is_wide.true) h.0 refl,
      h.1,
    )) c.put_wide.ensures.answer

pub returns-then-is_wide-clause-begins : goal.returns-then-is_wide-clause-begins
returns-then-is_wide-clause-begins g c =
    on_err c.put_wide.result _ _
    (λ cut. (
      DesignRefused,
      refusal_text Design (Wide c.in-Some.fail.row),
      draws_wide c.args.drawn.now c.args.items.now (fail_view c.in-Some.fail) c.row_at-row.result.now (sym c.in-Some.ensures.found)
          (found_broken c.args.drawn.now (first_failed c.args.items.now) c.in-Some.fail c.requires.fail c.in-Some.ensures.found) c.row_at-row.ensures.row c.row_at-row.ensures.within
          (c.network-network.ensures.names ∙ ap (λ (n : Net). n.events) c.network-network.ensures.network) DesignRefused _ (sym c.is_wide.ensures ∙ c.if-is_wide.true) refl refl,
      cut,
    )) c.put_wide.ensures.cut

pub returns-else-is_wide-clause-answers : goal.returns-else-is_wide-clause-answers
returns-else-is_wide-clause-answers g c =
    if_ok c.put_drawing.result _ _
    (λ answer h. (
      redrawn c.args.drawn.now c.in-Some.fail.row c.in-Some.fail.times.now,
      draws_row c.args.drawn.now c.args.items.now (fail_view c.in-Some.fail) c.row_at-row.result.now (sym c.in-Some.ensures.found)
          (found_broken c.args.drawn.now (first_failed c.args.items.now) c.in-Some.fail c.requires.fail c.in-Some.ensures.found) c.row_at-row.ensures.row c.row_at-row.ensures.within
          (c.network-network.ensures.names ∙ ap (λ (n : Net). n.events) c.network-network.ensures.network) answer _ (sym c.is_wide.ensures ∙ c.if-is_wide.false) h.0 refl,
      h.1,
    )) c.put_drawing.ensures.answer

pub returns-else-is_wide-clause-begins : goal.returns-else-is_wide-clause-begins
returns-else-is_wide-clause-begins g c =
    on_err c.put_drawing.result _ _
    (λ cut. (
      SomeFail,
      redrawn c.args.drawn.now c.in-Some.fail.row c.in-Some.fail.times.now,
      draws_row c.args.drawn.now c.args.items.now (fail_view c.in-Some.fail) c.row_at-row.result.now (sym c.in-Some.ensures.found)
          (found_broken c.args.drawn.now (first_failed c.args.items.now) c.in-Some.fail c.requires.fail c.in-Some.ensures.found) c.row_at-row.ensures.row c.row_at-row.ensures.within
          (c.network-network.ensures.names ∙ ap (λ (n : Net). n.events) c.network-network.ensures.network) SomeFail _ (sym c.is_wide.ensures ∙ c.if-is_wide.false) refl refl,
      cut,
    )) c.put_drawing.ensures.cut
