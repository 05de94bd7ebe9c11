use Rattle.std.proofs.Common.{◌≡◌, List, Some, length, get_or, slice_get, sym, ap, subst, ◌∙◌, arith, below_more}
use Rattle.std.proofs.lemmas.Option.{same_Some, slice_get-get_or}
use Rattle.drawn_networks.specs.declared.row.Row.{Row}
use Rattle.moves.specs.Step.{AreKindEnds}
use Rattle.moves.proofs.reading.read_rows.Goals as goal

pub loop-k-preserved : goal.loop-k-preserved
loop-k-preserved c =
    let own : slice_get c.args.drawn.now.rows c.loop-k.k ≡ Some c.get.result.now =
    subst (λ (xs : List Row). slice_get xs c.loop-k.k ≡ Some c.get.result.now) c.rows-in-loop-k.ensures.rows c.get.ensures.item in
    below_more (λ j. (r : Row) → slice_get c.args.drawn.now.rows j ≡ Some r → AreKindEnds r.kind) c.loop-k.k c.loop-k.invariant
    (λ r at. subst (λ (x : Row). AreKindEnds x.kind) (same_Some c.get.result.now r (sym own ∙ at)) c.read_kind.ensures)

pub returns : goal.returns
returns c =
    let same = ap (λ (rs : List Row). length rs) c.rows.ensures.rows in
    record {
      ends = λ k d within.
          c.loop-k.invariant k (omega (arith, within, same, c.len-k-end.ensures.count, c.loop-k-test.false)) (get_or c.args.drawn.now.rows k d) (slice_get-get_or c.args.drawn.now.rows k d within);
    }
