use Rattle.std.proofs.Common.{◌≡◌, ◌≤◌, ℕ, nat_lt, List, length, Option, Result, false, option_map, sym, rules}
use Rattle.itv_base.specs.Outside.{ShelfState}
use Rattle.drawn_networks.specs.Drawn.{Drawn}
use Rattle.moves.specs.Listed.{numbers_of}
use Rattle.moves.specs.declared.number_seen.NumberSeen.{NumberSeen}
use Rattle.unroll.specs.declared.limit.TheConstants.{MAX_NUMBERS}
use Rattle.design_reading.specs.Step.{Opens}
use Rattle.design_reading.specs.declared.stop.Stop.{Stop}
use Rattle.itv_cli.specs.Job.{list_at}
use Rattle.itv_cli.specs.Step.{list_in}
use Rattle.itv_cli.proofs.opening.list_at.Goals as goal

not_above : (limit n : ℕ) → n ≤ limit → nat_lt limit n ≡ false
not_above limit n h = search rules

-- where there are few enough numbers the list is read
few_numbers : (state : ShelfState) (drawn : Drawn) (list : Option (List ℕ)) (count : ℕ) (result : Result (Option (List NumberSeen)) Stop) → count ≡ length (numbers_of drawn) → count ≤ MAX_NUMBERS
    → Opens (λ (numbers : Option (List NumberSeen)). numbers) state state (list_in drawn list) result → Opens (λ (numbers : Option (List NumberSeen)). numbers) state state (list_at drawn list) result
few_numbers state drawn list count result is few h = rw (sym is, not_above MAX_NUMBERS count few) h

pub returns : goal.returns
returns c = record {
  reads = λ state. few_numbers state c.args.drawn.now (option_map (λ text. text.now) c.args.list) c.in_ok-count.count c.list_in.result c.in_ok-count.ensures (rw c.from.ensures at c.if-count-from.false)
      (c.list_in.ensures.reads state);
}
