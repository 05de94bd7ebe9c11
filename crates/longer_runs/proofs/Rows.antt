-- What holds of a row over some cycles holds over every greater number of cycles.
use Rattle.std.proofs.Common.{inl, inr, ◌⊎◌, ◌≡◌, ℕ, ◌+◌, ◌-◌, ◌<◌, ◌≤◌, ℤ, ◌-ℤ◌, true, List, [], ◌∷◌, get_or, All, refl, ap, sym, ◌∙◌, subst, arith}
use Rattle.std.specs.Prelude.{nat_le}
use Rattle.std.specs.List.{filter_map}
use Rattle.std.proofs.lemmas.Bool.{cases_lt, leb-true, le-leb}
use Rattle.std.proofs.lemmas.List.Elements.{All-head, All-nil, All-tail}
use Rattle.std.proofs.lemmas.Option.{slice_get-get_or}
use Rattle.itv_base.specs.Range.{Allows, Ends}
use Rattle.itv_base.specs.declared.row_kind.RowKind.TheVariants.{Req}
use Rattle.event_graph.specs.Network.{Net}
use Rattle.event_graph.specs.Times.{separation, time_of}
use Rattle.requirements.specs.Laws.{IsMet}
use Rattle.right_report.specs.Laws.{AllMet}
use Rattle.sheet.specs.declared.row.SheetRow.{SheetRow}
use Rattle.compose.specs.Design.{DesignView, IsDesign}
use Rattle.compose.specs.Numbers.{mark_count}
use Rattle.compose.proofs.WholeDesigns.{All-slice_get}
use Rattle.drawn_networks.specs.Drawn.{Drawn}
use Rattle.drawn_networks.specs.declared.row.Row.{Row}
use Rattle.unroll.specs.Cycle.{rows_of}
use Rattle.unroll.specs.Cycles.{event_in, row_exists, row_in, rows_in}
use Rattle.unroll.specs.Drawn.{drawn_of}
use Rattle.unroll.specs.Step.Between.{IsRowBetween}
use Rattle.unroll.proofs.BetweenLists.{all_rows_between}
use Rattle.unroll.proofs.NameLists.{All-in_cycles}
use Rattle.longer_runs.specs.WindowLaws.{HoldsFrom, HoldsFromStays, HoldsInEachWindow, PassesStay}
use Rattle.longer_runs.specs.Windows.{EveryInCycle, from_in, net_over, over, to_in, window}
use Rattle.longer_runs.proofs.Lists.{all_in_cycle, one_more}
use Rattle.longer_runs.proofs.Windows.{time_in_window, windows_satisfy}

-- ---- a row

separation_same : (marks first cycles cycle : ℕ) (row : SheetRow) (times : List ℤ) → IsRowBetween marks row → row.shift ≤ cycle → cycle < cycles
    → separation (window marks first cycles times) (from_in marks cycle row) (to_in marks cycle row) ≡ separation times (from_in marks (first + cycle) row) (to_in marks (first + cycle) row)
separation_same marks first cycles cycle row times between back less =
    let same : (first + cycle) - row.shift ≡ first + (cycle - row.shift) = omega (arith, back) in
    let from = ap (λ k. time_of times (event_in marks k row.from)) same ∙ time_in_window marks first cycles (cycle - row.shift) row.from times (omega (arith, less)) between.from in
    let to = time_in_window marks first cycles cycle row.to times less between.to in
    sym (ap (λ x. x -ℤ time_of times (from_in marks (first + cycle) row)) to ∙ ap (λ x. time_of (window marks first cycles times) (to_in marks cycle row) -ℤ x) from)

pub every_later : (Is : ℤ → Type 0) (d : DesignView) (row : SheetRow) (cycles first more cycle : ℕ) → IsDesign d → IsRowBetween (mark_count d.sheets) row
    → row.shift ≤ cycle → cycle < cycles → EveryInCycle Is d row cycles cycle → EveryInCycle Is d row (first + cycles + more) (first + cycle)
every_later Is d row cycles first more cycle is_design row_between back less every times h =
    subst Is (separation_same (mark_count d.sheets) first cycles cycle row times row_between back less)
    (every (window (mark_count d.sheets) first cycles times) (windows_satisfy d cycles first more times is_design h))

pub holds_in_each_window : HoldsInEachWindow
holds_in_each_window range = every_later (Allows range)

-- ---- all requirements

-- the requirement of a row, if it is one, is met
abbrev IsMetIn : Net → Row → Type 0
IsMetIn net row = (range : Ends) → row.kind ≡ Req range → IsMet net row.from row.to range

each_met : (drawn : Drawn) → AllMet drawn → All (IsMetIn drawn.net) drawn.rows
each_met drawn met = λ k row within range kind. met k (get_or drawn.rows k row) range (slice_get-get_or drawn.rows k row within) kind

all_met : (drawn : Drawn) → All (IsMetIn drawn.net) drawn.rows → AllMet drawn
all_met drawn met = λ number row range there kind. All-slice_get (IsMetIn drawn.net) drawn.rows number row met there range kind

-- the rows of a cycle are met in the longer run, so many cycles later
cycle_met : (d : DesignView) (cycles first more cycle : ℕ) (rows : List SheetRow) → IsDesign d → cycle < cycles → All (IsRowBetween (mark_count d.sheets)) rows
    → All (λ (row : SheetRow). nat_le row.shift (first + cycle) ≡ true → nat_le row.shift cycle ≡ true) rows
    → All (IsMetIn (net_over cycles d)) (filter_map (row_in (mark_count d.sheets) cycle) rows)
    → All (IsMetIn (net_over (first + cycles + more) d)) (filter_map (row_in (mark_count d.sheets) (first + cycle)) rows)
cycle_met d cycles first more cycle [] is_design less rows_between exist all = All-nil (IsMetIn (net_over (first + cycles + more) d))
cycle_met d cycles first more cycle (row ∷ rows) is_design less rows_between exist all =
    let marks : ℕ = mark_count d.sheets in
    let Exists : SheetRow → Type 0 = λ row. nat_le row.shift (first + cycle) ≡ true → nat_le row.shift cycle ≡ true in
    let here = All-head (IsRowBetween marks) row rows rows_between in
    let exists = All-head Exists row rows exist in
    one_more (row_exists cycle row) (row_exists (first + cycle) row) (IsMetIn (net_over cycles d)) (IsMetIn (net_over (first + cycles + more) d))
    (record { kind = row.kind; from = event_in marks (cycle - row.shift) row.from; to = event_in marks cycle row.to; origin = row.origin })
    (record { kind = row.kind; from = event_in marks ((first + cycle) - row.shift) row.from; to = event_in marks (first + cycle) row.to; origin = row.origin })
    (filter_map (row_in marks cycle) rows) (filter_map (row_in marks (first + cycle)) rows)
    exists
    (λ is met range kind. every_later (Allows range) d row cycles first more cycle is_design here (leb-true row.shift cycle (exists is)) less (met range kind))
    (cycle_met d cycles first more cycle rows is_design less (All-tail (IsRowBetween marks) row rows rows_between) (All-tail Exists row rows exist))
    all

-- a cycle of the longer run that is beyond the first ones is the last one of a window; an earlier one is itself
record IsPlaced (cycles more cycle : ℕ) : Type 0 where
  first : ℕ
  rest : ℕ
  inside : ℕ
  sum : first + cycles + rest ≡ cycles + more
  is : first + inside ≡ cycle
  less : inside < cycles
  same : (shift : ℕ) → shift < cycles → shift ≤ cycle → shift ≤ inside

placed : (cycles more cycle : ℕ) → 1 ≤ cycles → cycle < cycles + more → IsPlaced cycles more cycle
placed cycles more cycle some less =
    elim (cases_lt cycle cycles) [
      | inl before ↦ record { first = 0; rest = more; inside = cycle; sum = omega arith; is = omega arith; less = before; same = λ shift few le. le }
      | inr past ↦ record { first = cycle - (cycles - 1); rest = (cycles + more) - (cycle + 1); inside = cycles - 1; sum = omega (arith, past, less, some); is = omega (arith, past, some); less = omega (arith, some); same = λ shift few le. omega (arith, few) }
    ]

exist_before : (cycles more cycle : ℕ) (p : IsPlaced cycles more cycle) (rows : List SheetRow) → All (λ (row : SheetRow). row.shift < cycles) rows
    → All (λ (row : SheetRow). nat_le row.shift (p.first + p.inside) ≡ true → nat_le row.shift p.inside ≡ true) rows
exist_before cycles more cycle p rows few = λ k row within is.
    let back : (get_or rows k row).shift ≤ p.first + p.inside = leb-true (get_or rows k row).shift (p.first + p.inside) is in
    le-leb (get_or rows k row).shift p.inside (p.same (get_or rows k row).shift (few k row within) (omega (arith, back, p.is)))

some_cycles : (rows : List SheetRow) (cycles : ℕ) → All (λ (row : SheetRow). row.shift < cycles) rows → (1 ≤ cycles) ⊎ (rows ≡ [])
some_cycles [] cycles few = inr refl
some_cycles (row ∷ rows) cycles few = inl (let less = All-head (λ (row : SheetRow). row.shift < cycles) row rows few in omega (arith, less))

none_met : (net : Net) (marks cycle : ℕ) (rows : List SheetRow) → rows ≡ [] → All (IsMetIn net) (filter_map (row_in marks cycle) rows)
none_met net marks cycle rows none = subst (λ (list : List SheetRow). All (IsMetIn net) (filter_map (row_in marks cycle) list)) (sym none) (All-nil (IsMetIn net))

pub passes_stay : PassesStay
passes_stay d cycles more is_design few all =
    let marks : ℕ = mark_count d.sheets in
    let net : Net = net_over (cycles + more) d in
    let met : All (IsMetIn (net_over cycles d)) (rows_in marks (rows_of d) cycles) = each_met (drawn_of (over cycles d)) all in
    all_met (drawn_of (over (cycles + more) d)) (All-in_cycles (IsMetIn net) (λ cycle. filter_map (row_in marks cycle) (rows_of d)) (cycles + more) (λ cycle less.
    elim (some_cycles (rows_of d) cycles few) [
      | inl some ↦
          let p = placed cycles more cycle some less in
          let before = all_in_cycle (IsMetIn (net_over cycles d)) (λ k. filter_map (row_in marks k) (rows_of d)) cycles p.inside p.less met in
          let after = cycle_met d cycles p.first p.rest p.inside (rows_of d) is_design p.less (all_rows_between d is_design) (exist_before cycles more cycle p (rows_of d) few) before in
          subst (λ n. All (IsMetIn (net_over n d)) (filter_map (row_in marks cycle) (rows_of d))) p.sum
          (subst (λ k. All (IsMetIn (net_over (p.first + cycles + p.rest) d)) (filter_map (row_in marks k) (rows_of d))) p.is after)
      | inr none ↦ none_met net marks cycle (rows_of d) none
    ]))

-- ---- from a cycle on

pub from_stays : (Is : ℤ → Type 0) (d : DesignView) (row : SheetRow) (start cycles more : ℕ) → IsDesign d → IsRowBetween (mark_count d.sheets) row → row.shift < cycles → start < cycles
    → HoldsFrom Is d row start cycles → HoldsFrom Is d row start (cycles + more)
from_stays Is d row start cycles more is_design row_between few some holds cycle from back less =
    let p = placed cycles more cycle (omega (arith, some)) less in
    let late : start ≤ p.inside = p.same start some from in
    let here = holds p.inside late (p.same row.shift few back) p.less in
    let after = every_later Is d row cycles p.first p.rest p.inside is_design row_between (p.same row.shift few back) p.less here in
    subst (λ n. EveryInCycle Is d row n cycle) p.sum
    (subst (λ k. EveryInCycle Is d row (p.first + cycles + p.rest) k) p.is after)

pub holds_from_stays : HoldsFromStays
holds_from_stays range = from_stays (Allows range)
