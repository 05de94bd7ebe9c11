-- A run that is drawn of a design.
use Rattle.std.proofs.Common.{◌≡◌, ℕ, ◌+◌, ◌*◌, ◌<◌, ◌≤◌, List, All, Option, Some, None, Ok, ap, sym, ◌∙◌, subst, arith}
use Rattle.itv_base.specs.declared.limits.TheConstants.{MAX_CYCLES, MAX_EVENTS}
use Rattle.drawn_networks.specs.Drawn.{Drawn}
use Rattle.sheet.specs.declared.row.SheetRow.{SheetRow}
use Rattle.compose.specs.Design.{DesignView, IsDesign}
use Rattle.compose.specs.Numbers.{mark_count}
use Rattle.unroll.specs.Cycle.{rows_of, rules_of}
use Rattle.unroll.specs.Drawn.{drawn_of}
use Rattle.unroll.specs.Limits.{counts_of, first_passed, unrolled, within}
use Rattle.unroll.specs.declared.counted.Counted.{Counted}
use Rattle.unroll.specs.Step.Between.{IsRowBetween, IsRuleBetween}
use Rattle.longer_runs.specs.Windows.{over}
use Rattle.steady.specs.Cycles.{cycles_for}
use Rattle.steady.specs.Found.{IsRunOf}
use Rattle.steady.specs.Step.{IsWholeRun}
use Rattle.steady.specs.declared.design_run.DesignRun.{DesignRun}

-- a drawn network that passes no limit is what was drawn
within_is : (d : Drawn) (o : Option Counted) (drawn : Drawn) → within d o ≡ Ok drawn → drawn ≡ d
within_is d None drawn is = cc is
within_is d (Some passed) drawn is = absurd (cc is)

pub unrolled_is : (d : DesignView) (drawn : Drawn) → unrolled d ≡ Ok drawn → drawn ≡ drawn_of d
unfolding unrolled
unrolled_is d drawn is = within_is (drawn_of d) (first_passed (counts_of (drawn_of d))) drawn is

-- the network of a design over some cycles, and then over others
over_again : (d all again : DesignView) (many cycles : ℕ) (drawn : Drawn) → all ≡ over many d → again ≡ over cycles all → unrolled again ≡ Ok drawn → drawn ≡ drawn_of (over cycles d)
over_again d all again many cycles drawn one two is = unrolled_is again drawn is ∙ ap drawn_of (two ∙ ap (over cycles) one)

enough_cycles : (from drawn cycles : ℕ) (rows : List SheetRow) → cycles ≡ cycles_for from drawn rows → drawn ≤ cycles
enough_cycles from drawn cycles rows is = omega (arith, is)

pub run_of : (d : DesignView) (from : ℕ) (run : DesignRun) (drawn_cycles : ℕ) (rows : List SheetRow) (all again : DesignView) → IsDesign d → drawn_cycles ≡ d.cycles → run.from ≡ from
    → run.marks ≡ mark_count d.sheets → run.rules.items ≡ rules_of d → run.rows.items ≡ rows_of d → rows ≡ run.rows.items → all ≡ over MAX_CYCLES d → again ≡ over run.cycles all
    → unrolled again ≡ Ok run.drawn → run.cycles ≡ cycles_for from drawn_cycles rows → All (λ (row : SheetRow). from + row.shift < run.cycles) rows → IsRunOf d from run
run_of d from run drawn_cycles rows all again design cycles first marks rules is same one two drawn count reach = record {
  design = design;
  first = first;
  marks = marks;
  rules = rules;
  rows = is;
  drawn = over_again d all again MAX_CYCLES run.cycles run.drawn one two drawn;
  drawn_cycles = subst (λ (n : ℕ). n ≤ run.cycles) cycles (enough_cycles from drawn_cycles run.cycles rows count);
  reach = subst (All (λ (row : SheetRow). from + row.shift < run.cycles)) same reach;
}

pub whole_run : (d : DesignView) (from : ℕ) (run : DesignRun) → IsRunOf d from run → mark_count d.sheets ≤ MAX_EVENTS → All (IsRuleBetween (mark_count d.sheets)) run.rules.items
    → All (IsRowBetween (mark_count d.sheets)) run.rows.items → IsWholeRun run
whole_run d from run is few rules rows =
    let marks : run.marks ≡ mark_count d.sheets = is.marks in
    record {
      few = rw marks few;
      rules = subst (λ (m : ℕ). All (IsRuleBetween m) run.rules.items) (sym marks) rules;
      rows = subst (λ (m : ℕ). All (IsRowBetween m) run.rows.items) (sym marks) rows;
      reach = subst (λ (n : ℕ). All (λ (row : SheetRow). n + row.shift < run.cycles) run.rows.items) (sym is.first) is.reach;
      events = ap (λ (drawn : Drawn). drawn.net.events) is.drawn ∙ ap (λ (m : ℕ). run.cycles * m) (sym marks);
    }
