-- A drawing is a lone sheet. Its network is the chain of the drawn times.
use Rattle.std.proofs.Common.{◌≡◌, ◌+◌, ◌-◌, ◌*◌, ◌≤◌, ℕ, suc, ℤ, ◌-ℤ◌, false, nat_lt, List, [], ◌∷◌, ◌++◌, length, map, filter_map, codes, Option, None, Some, Ok, ◌∙◌, refl, sym, ap, subst, append-nil, arith, rules}
use Rattle.std.specs.List.{cons_option}
use Rattle.std.proofs.lemmas.List.{length-map, map-append}
use Rattle.std.proofs.lemmas.List.Elements.{filter_map-append}
use Rattle.itv_base.specs.Names.{Name}
use Rattle.itv_base.specs.Range.{Ends}
use Rattle.itv_base.specs.declared.limits.TheConstants.{MAX_CELLS, MAX_CONSTRAINTS, MAX_EVENTS, MAX_SEARCH_CELLS}
use Rattle.itv_base.specs.declared.names.EventId.{EventId}
use Rattle.itv_base.specs.declared.row_kind.RowKind.TheVariants as asked
use Rattle.origin.specs.declared.origin.Origin.TheVariants.{Edge}
use Rattle.event_graph.specs.Edges.{cause_choices}
use Rattle.event_graph.specs.Network.{Constraint, Net, linear, splittable_count}
use Rattle.sheet.specs.SheetContents.{SheetView}
use Rattle.netlist.specs.Netlist.{lone_netlist}
use Rattle.compose.specs.Compose.{composed_on}
use Rattle.compose.specs.Design.{DesignView}
use Rattle.drawn_networks.specs.Drawn.{Drawn}
use Rattle.drawn_networks.specs.declared.row.Row.{Row}
use Rattle.unroll.specs.Cycle.{rule_behind}
use Rattle.unroll.specs.Cycles.{constraint_in}
use Rattle.unroll.specs.Drawn.{drawn_of}
use Rattle.unroll.specs.Limits.{counts_by, first_passed, unrolled, within}
use Rattle.redraw.specs.declared.drawn_event.DrawnEvent.{DrawnEvent}
use Rattle.redraw.specs.declared.drawn_event.TheConstants.{MOST_DRAWN}
use Rattle.redraw.specs.Drawing.{drawn_times, exactly, number_in}
use Rattle.redraw.specs.Order.{event}
use Rattle.redraw.proofs.Ordered.{AreNumbered}
use Rattle.redraw_laws.specs.Chain.{chain, chain_from, chain_net}
use Rattle.redraw_laws.proofs.Chain.{length-chain}
use Rattle.redraw_laws.proofs.Linked.{lin_rule, links_by, read_from, read_of, step_link, step_links}
use Rattle.redraw_laws.proofs.Marks.{marks_from}
use Rattle.redraw_laws.proofs.Read.{orders_from}
use Rattle.redraw_laws.proofs.Sheets.{sheet_drawn}

-- ---- the design

abbrev pub design_drawn : SheetView → DesignView
design_drawn sheet = record { cycles = 1; parts = codes "U" ∷ []; sheets = sheet ∷ []; joins = []; rules = []; rows = [] }

pub design_is : (file : List ℕ) (sheet : SheetView) → composed_on (lone_netlist file) (sheet ∷ []) ≡ Ok (design_drawn sheet)
unfolding composed_on
design_is file sheet = refl

-- ---- the network

first_cycle : (m k : ℕ) → 0 * m + (0 + k) ≡ k
first_cycle m k = omega arith

-- the order of a lane needs a cycle before, and there is none
no_orders : (m k : ℕ) (ss : List DrawnEvent) → filter_map (constraint_in m 0) (map (rule_behind 0) (orders_from k ss)) ≡ []
no_orders m k [] = refl
no_orders m k (s ∷ ss) = no_orders m (k + 1) ss

-- the constraint of a step
stepped : (m n : ℕ) (before s : DrawnEvent) → s.number ≡ before.number + 1
    → constraint_in m 0 (rule_behind 0 (lin_rule (read_of n (step_link before s)))) ≡ Some (linear (event before.number) (event (before.number + 1)) (exactly (s.time -ℤ before.time)))
stepped m n before s e =
    ap (λ (from : ℕ). Some (linear (event from) (event (0 * m + (0 + s.number))) (exactly (s.time -ℤ before.time)))) (first_cycle m before.number)
    ∙ ap (λ (to : ℕ). Some (linear (event before.number) (event to) (exactly (s.time -ℤ before.time)))) (first_cycle m s.number ∙ e)

chained : (m n : ℕ) (before : DrawnEvent) (ss : List DrawnEvent) → AreNumbered (before.number + 1) ss
    → filter_map (constraint_in m 0) (map (rule_behind 0) (map lin_rule (read_from n (step_links before ss)))) ≡ chain_from before.number before.time (drawn_times ss)
chained m n before [] h = refl
chained m n before (s ∷ ss) h =
    ap (λ (o : Option Constraint). cons_option o (filter_map (constraint_in m 0) (map (rule_behind 0) (map lin_rule (read_from (n + 1) (step_links s ss)))))) (stepped m n before s h.0)
    ∙ ap (λ l. linear (event before.number) (event (before.number + 1)) (exactly (s.time -ℤ before.time)) ∷ l)
    (chained m (n + 1) s ss (subst (λ k. AreNumbered (k + 1) ss) (sym h.0) h.1) ∙ ap (λ k. chain_from k s.time (drawn_times ss)) h.0)

all_chained : (m : ℕ) (ss : List DrawnEvent) → AreNumbered 0 ss → filter_map (constraint_in m 0) (map (rule_behind 0) (map lin_rule (read_from 0 (links_by ss)))) ≡ chain (drawn_times ss)
all_chained m [] h = refl
all_chained m (s ∷ ss) h = chained m 0 s ss (subst (λ k. AreNumbered (k + 1) ss) (sym h.0) h.1) ∙ ap (λ k. chain_from k s.time (drawn_times ss)) h.0

all_constraints : (m : ℕ) (ss : List DrawnEvent) → AreNumbered 0 ss
    → filter_map (constraint_in m 0) ((map (rule_behind 0) (orders_from 0 ss ++ map lin_rule (read_from 0 (links_by ss))) ++ []) ++ []) ≡ chain (drawn_times ss)
all_constraints m ss h =
    ap (filter_map (constraint_in m 0)) (append-nil (map (rule_behind 0) (orders_from 0 ss ++ map lin_rule (read_from 0 (links_by ss))) ++ []) ∙ append-nil (map (rule_behind 0) (orders_from 0 ss ++ map lin_rule (read_from 0 (links_by ss)))) ∙ map-append (rule_behind 0) (orders_from 0 ss) (map lin_rule (read_from 0 (links_by ss))))
    ∙ filter_map-append (constraint_in m 0) (map (rule_behind 0) (orders_from 0 ss)) (map (rule_behind 0) (map lin_rule (read_from 0 (links_by ss))))
    ∙ ap (λ l. l ++ filter_map (constraint_in m 0) (map (rule_behind 0) (map lin_rule (read_from 0 (links_by ss))))) (no_orders m 0 ss)
    ∙ all_chained m ss h

length-marked : (name : EventId → Name) (k : ℕ) (ss : List DrawnEvent) → length (marks_from name k ss) ≡ length (drawn_times ss)
length-marked name k [] = refl
length-marked name k (s ∷ ss) = ap suc (length-marked name (k + 1) ss)

one_sheet : (n m : ℕ) → n ≡ m → 1 * (0 + n) ≡ m
one_sheet n m e = omega (arith, e)

pub net_is : (name : EventId → Name) (from to : EventId) (ends : Ends) (ss : List DrawnEvent) → AreNumbered 0 ss
    → (drawn_of (design_drawn (sheet_drawn name from to ends ss))).net ≡ chain_net (drawn_times ss)
net_is name from to ends ss h =
    ap (λ (n : ℕ). record { events = n; constraints = filter_map (constraint_in (0 + length (marks_from name 0 ss)) 0) ((map (rule_behind 0) (orders_from 0 ss ++ map lin_rule (read_from 0 (links_by ss))) ++ []) ++ []) })
    (one_sheet (length (marks_from name 0 ss)) (length (drawn_times ss)) (length-marked name 0 ss))
    ∙ ap (λ (l : List Constraint). record { events = length (drawn_times ss); constraints = l }) (all_constraints (0 + length (marks_from name 0 ss)) ss h)

-- the row
abbrev pub row_between : ℕ → ℕ → Ends → ℕ → Row
row_between from to ends edge = record { kind = asked.Req ends; from = event from; to = event to; origin = Edge edge }

row_of : (m from to : ℕ) (ends : Ends) (edge : ℕ) → row_between (0 * m + (0 + from)) (0 * m + (0 + to)) ends edge ≡ row_between from to ends edge
row_of m from to ends edge = ap (λ n. row_between n (0 * m + (0 + to)) ends edge) (first_cycle m from) ∙ ap (λ n. row_between from n ends edge) (first_cycle m to)

pub rows_are : (name : EventId → Name) (from to : EventId) (ends : Ends) (ss : List DrawnEvent)
    → (drawn_of (design_drawn (sheet_drawn name from to ends ss))).rows ≡ row_between (number_in ss from) (number_in ss to) ends (length ss - 1) ∷ []
rows_are name from to ends ss = ap (λ r. r ∷ []) (row_of (0 + length (marks_from name 0 ss)) (number_in ss from) (number_in ss to) ends (length ss - 1))

-- ---- within the limits

pub not_passed : (a b : ℕ) → b ≤ a → nat_lt a b ≡ false
not_passed a b h = search rules

none_passed : (e c : ℕ) → e ≤ MOST_DRAWN → c ≤ MOST_DRAWN → first_passed (counts_by e c 1 0) ≡ None
none_passed e c events constraints =
    rw (
      not_passed MAX_EVENTS e (omega arith),
      not_passed MAX_CONSTRAINTS c (omega arith),
      not_passed MAX_CELLS (e * 1) (omega arith),
      not_passed MAX_SEARCH_CELLS (e * (0 + 1)) (omega arith),
    ) refl

no_choices : (k : ℕ) (before : ℤ) (times : List ℤ) (events : ℕ) → splittable_count (record { events = events; constraints = chain_from k before times }) ≡ 0
no_choices k before [] events = refl
no_choices k before (time ∷ times) events = no_choices (k + 1) time times events

chain_splits : (times : List ℤ) → splittable_count (chain_net times) ≡ 0
chain_splits [] = refl
chain_splits (time ∷ times) = no_choices 0 time times (length (time ∷ times))

-- there is one choice of causes, as no constraint has two
choices_from : (k : ℕ) (before : ℤ) (times : List ℤ) → cause_choices (chain_from k before times) ≡ 1
choices_from k before [] = refl
choices_from k before (time ∷ times) = ap (λ n. 1 * n) (choices_from (k + 1) time times)

pub chain_choices : (times : List ℤ) → cause_choices (chain times) ≡ 1
chain_choices [] = refl
chain_choices (time ∷ times) = choices_from 0 time times

short_chain : (times : List ℤ) → length (chain times) ≤ length times
short_chain [] = omega arith
short_chain (time ∷ times) = omega (arith, length-chain 0 time times)

within_limits : (drawn : Drawn) (times : List ℤ) (asked : Row) → drawn.net ≡ chain_net times → drawn.rows ≡ asked ∷ [] → length times ≤ MOST_DRAWN
    → first_passed (counts_by drawn.net.events (length drawn.net.constraints) (length drawn.rows) (splittable_count drawn.net)) ≡ None
within_limits drawn times asked net rows few =
    ap (λ (n : Net). first_passed (counts_by n.events (length n.constraints) (length drawn.rows) (splittable_count n))) net
    ∙ ap (λ (l : List Row). first_passed (counts_by (length times) (length (chain times)) (length l) (splittable_count (chain_net times)))) rows
    ∙ ap (λ (s : ℕ). first_passed (counts_by (length times) (length (chain times)) 1 s)) (chain_splits times)
    ∙ none_passed (length times) (length (chain times)) few (omega (arith, short_chain times, few))

pub unrolled_is : (name : EventId → Name) (from to : EventId) (ends : Ends) (ss : List DrawnEvent) → AreNumbered 0 ss → length ss ≤ MOST_DRAWN
    → unrolled (design_drawn (sheet_drawn name from to ends ss)) ≡ Ok (drawn_of (design_drawn (sheet_drawn name from to ends ss)))
unfolding unrolled
unrolled_is name from to ends ss numbered few =
    let drawn : Drawn = drawn_of (design_drawn (sheet_drawn name from to ends ss)) in
    ap (within (drawn_of (design_drawn (sheet_drawn name from to ends ss))))
    (within_limits (drawn_of (design_drawn (sheet_drawn name from to ends ss))) (drawn_times ss) (row_between (number_in ss from) (number_in ss to) ends (length ss - 1))
    (net_is name from to ends ss numbered) (rows_are name from to ends ss) (omega (arith, few, length-map ss (λ (s : DrawnEvent). s.time))))
