use Rattle.std.proofs.Common.{◌+◌, ℕ, ℤ, All, List, length, refl, sym, ap, subst, ◌∙◌, arith}
use Rattle.std.proofs.lemmas.List.{length_push}
use Rattle.std.proofs.lemmas.List.Elements.{All-push}
use Rattle.itv_base.specs.Names.{Name}
use Rattle.event_graph.proofs.EdgesMet.{All-found}
use Rattle.drawn_networks.specs.Drawn.{IsRowOf}
use Rattle.drawn_networks.specs.declared.row.Row.{Row}
use Rattle.moves.specs.Step.{lent}
use Rattle.spans.specs.Step.{IsFramedKind, kind_at}
use Rattle.spans.proofs.Framed.{rows_more, rows_whole}
use Rattle.spans.proofs.Multiples.{as_passed}
use Rattle.spans.proofs.frame.framed_rows.Goals as goal

pub loop-k-preserved : goal.loop-k-preserved
loop-k-preserved c =
    let row : Row = c.get-row.result.now in
    let framed : Row = record { kind = c.in-Some.kind; from = row.from; to = row.to; origin = row.origin } in
    let own : IsRowOf c.args.drawn.now.net row = All-found (IsRowOf c.args.drawn.now.net) c.rows-drawn_rows.result.now c.loop-k.k row c.get-row.ensures.item c.rows-drawn_rows.ensures.within in
    record {
      frames = λ value within.
          rows_more c.args.frame c.args.counts.now c.args.drawn.now (lent c.args.numbers.now) c.rows-drawn_rows.result.now c.loop-k.k row framed c.name.result.part.now c.any_draws-is_drawn.result c.apart-apart.result
          value c.loop-k.rows.items c.push.new.self.items c.rows-drawn_rows.ensures.rows c.get-row.ensures.item (ap (λ (n : Name). n.part) c.name.ensures.name) c.any_draws-is_drawn.ensures.any_draws
          c.apart-apart.ensures.apart refl refl
          (as_passed (λ a. (x : ℤ) → IsFramedKind c.args.frame (kind_at c.any_draws-is_drawn.result a value row.kind) c.in-Some.kind x) c.apart-apart.result (record { sfits = c.apart-apart.type_inv })
          (c.in-Some.ensures.frames value within)) (c.loop-k.invariant.frames value within) c.in_ok-push-in-Some.ensures.items;
      within = subst (All (IsRowOf c.args.drawn.now.net)) (sym c.in_ok-push-in-Some.ensures.items)
          (All-push (IsRowOf c.args.drawn.now.net) c.loop-k.rows.items framed c.loop-k.invariant.within own);
      count = ap length c.in_ok-push-in-Some.ensures.items ∙ (length_push c.loop-k.rows.items framed ∙ ap (λ (n : ℕ). n + 1) c.loop-k.invariant.count);
    }

pub returns-clause-frames : goal.returns-clause-frames
returns-clause-frames c = λ value within.
    let same = ap (λ (rs : List Row). length rs) c.rows-drawn_rows.ensures.rows in
    rows_whole c.args.frame c.args.counts.now c.args.drawn.now (lent c.args.numbers.now) c.loop-k.k c.loop-k.rows.items value
    (omega (arith, c.loop-k-test.false, c.len-k-end.ensures.count, same)) (c.loop-k.invariant.frames value within)
