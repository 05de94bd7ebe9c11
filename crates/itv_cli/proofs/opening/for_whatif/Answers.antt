use Rattle.std.proofs.Common.{◌≡◌, ◌≤◌, ◌∙◌, ℕ, nat_lt, List, length, Result, false, sym, ap, rules}
use Rattle.itv_base.specs.Outside.{ShelfState}
use Rattle.drawn_networks.specs.Drawn.{Drawn}
use Rattle.unroll.specs.declared.limit.TheConstants.{MAX_SESSION_ROWS}
use Rattle.design_reading.specs.Step.{Opens}
use Rattle.design_reading.specs.declared.stop.Stop.{Stop}
use Rattle.itv_cli.specs.Job.{edits_at, whatif_at}
use Rattle.itv_cli.specs.declared.ready.Ready.{Ready}
use Rattle.itv_cli.proofs.opening.for_whatif.Goals as goal

not_above : (limit n : ℕ) → n ≤ limit → nat_lt limit n ≡ false
not_above limit n h = search rules

-- where there are few rows the edits are read
few_rows : (standing told' : ShelfState) (edits : List ℕ) (budget count : ℕ) (drawn : Drawn) (result : Result Ready Stop) → count ≡ length drawn.rows → count ≤ MAX_SESSION_ROWS
    → Opens (λ (given : Ready). given) standing told' (edits_at edits budget drawn) result → Opens (λ (given : Ready). given) standing told' (whatif_at edits budget drawn) result
few_rows standing told' edits budget count drawn result is few h = rw (sym is, not_above MAX_SESSION_ROWS count few) h

pub returns-clause-opens : goal.returns-clause-opens
returns-clause-opens g c =
    few_rows (g.H.Shelf.state c.args.shelf.now) (g.H.Shelf.state c.with_edits.new.shelf) c.args.edits.now c.args.budget c.len-rows.result c.args.drawn c.with_edits.result
    (c.len-rows.ensures.count ∙ ap length c.rows.ensures.rows) (rw c.from.ensures at c.if-rows-from.false) c.with_edits.ensures.opens
