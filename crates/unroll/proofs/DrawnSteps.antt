-- What the steps make is what a design draws, and the counts are the counts of what it draws.
use Rattle.std.proofs.Common.{◌≡◌, ℕ, ◌-◌, ◌*◌, ◌<◌, ◌≤◌, Bool, true, false, cond, List, [], ◌∷◌, length, All, Option, Some, None, IfSome, Ok, Err, refl, ap, sym, ◌∙◌, arith}
use Rattle.std.specs.List.{filter_map}
use Rattle.std.proofs.lemmas.Bool.{ltb-false}
use Rattle.std.proofs.lemmas.Nat.{mul-add-lt}
use Rattle.std.proofs.lemmas.List.Elements.{All-head, All-nil, All-tail}
use Rattle.itv_base.specs.declared.limits.TheConstants.{MAX_CONSTRAINTS, MAX_EVENTS, MAX_ROWS}
use Rattle.origin.specs.declared.origin.Origin.{Origin}
use Rattle.event_graph.specs.Network.{Net}
use Rattle.sheet.specs.declared.row.SheetRow.{SheetRow}
use Rattle.sheet.specs.Rule.{RuleView}
use Rattle.sheet.proofs.WholeSheets.{cond_none, more_hold}
use Rattle.compose.specs.Design.{DesignView, IsDesign}
use Rattle.compose.specs.Numbers.{mark_count}
use Rattle.unroll.specs.declared.counted.Counted.{Counted}
use Rattle.unroll.specs.declared.counts.Counts.{Counts}
use Rattle.unroll.specs.declared.fault.UnrollFault.TheVariants.{TooMany}
use Rattle.drawn_networks.specs.declared.event_label.EventLabel.{EventLabel}
use Rattle.drawn_networks.specs.declared.row.Row.{Row}
use Rattle.unroll.specs.Cycle.{rows_of, rules_of}
use Rattle.unroll.specs.Cycles.{constraints_of, event_in, in_cycles, origins_of, row_exists, row_in, rows_in}
use Rattle.drawn_networks.specs.Drawn.{IsRowOf}
use Rattle.unroll.specs.Drawn.{drawn_of}
use Rattle.unroll.specs.Limits.{counts_by, counts_of, first_passed, unrolled, within}
use Rattle.unroll.specs.Step.Between.{IsRowBetween}
use Rattle.unroll.specs.Step.Counting.{AreCounts}
use Rattle.unroll.specs.Step.Kept.{kept_rows, kept_rules}
use Rattle.drawn_networks.specs.Kept.{IsDrawn, drawn_by}
use Rattle.unroll.specs.Step.Labels.{labels_from}
use Rattle.unroll.proofs.BetweenLists.{kept_rows_between}
use Rattle.unroll.proofs.KeptLists.{constraints_counted, kept_constraints, kept_origins, kept_rows_in, rows_counted, splittable_counted}
use Rattle.unroll.proofs.OriginLists.{origins_fit}
use Rattle.unroll.proofs.NameLists.{All-in_cycles, labels_inside, labels_length, labels_tell}

-- ---- counts

-- the counts are the counts of what is drawn
pub limits_counted : (d : DesignView) (counts : Counts) → AreCounts (mark_count d.sheets) d.cycles (rules_of d) (rows_of d) counts
    → counts_by (d.cycles * counts.marks) counts.constraints counts.rows counts.splittable ≡ counts_of (drawn_of d)
limits_counted d counts h =
    let marks : ℕ = mark_count d.sheets in
    let constraints : counts.constraints ≡ length (constraints_of marks (rules_of d) d.cycles) = h.constraints ∙ sym (constraints_counted marks d.cycles (rules_of d)) in
    let rows : counts.rows ≡ length (rows_in marks (rows_of d) d.cycles) = h.rows ∙ sym (rows_counted marks d.cycles (rows_of d)) in
    let splittable = h.splittable ∙ sym (splittable_counted (d.cycles * marks) marks d.cycles (rules_of d)) in
    rw (h.marks, constraints, rows, splittable) refl

-- if no limit is passed, each count is allowed
pub none_passed : (events constraints rows splittable : ℕ) → first_passed (counts_by events constraints rows splittable) ≡ None → (events ≤ MAX_EVENTS) × (constraints ≤ MAX_CONSTRAINTS) × (rows ≤ MAX_ROWS)
none_passed events constraints rows splittable none =
    let first = cond_none _ _ _ none in
    let second = cond_none _ _ _ first.1 in
    let third = cond_none _ _ _ second.1 in
    (ltb-false MAX_EVENTS events first.0, ltb-false MAX_CONSTRAINTS constraints second.0, ltb-false MAX_ROWS rows third.0)

pub drawn_within : (d : DesignView) → first_passed (counts_of (drawn_of d)) ≡ None → unrolled d ≡ Ok (drawn_of d)
unfolding unrolled
drawn_within d none = ap (within (drawn_of d)) none

pub drawn_past : (d : DesignView) (passed : Counted) → first_passed (counts_of (drawn_of d)) ≡ Some passed → unrolled d ≡ Err (TooMany passed.limit passed.count)
unfolding unrolled
drawn_past d passed is = ap (within (drawn_of d)) is

-- ---- rows are between events

chosen : {X : Type 0} (b : Bool) (x : X) (P : X → Type 0) → P x → IfSome (cond b (Some x) None) P
chosen true x P h = h
chosen false x P h = tt

rows_of_cycle : (net : Net) (marks cycle n : ℕ) (rows : List SheetRow) → cycle < n → net.events ≡ n * marks → All (IsRowBetween marks) rows → All (IsRowOf net) (filter_map (row_in marks cycle) rows)
rows_of_cycle net marks cycle n [] less is all = All-nil (IsRowOf net)
rows_of_cycle net marks cycle n (row ∷ rows) less is all =
    let here = All-head (IsRowBetween marks) row rows all in
    let from = mul-add-lt (cycle - row.shift) marks row.from n (omega (arith, less)) here.from in
    let to = mul-add-lt cycle marks row.to n less here.to in
    let drawn : Row = record { kind = row.kind; from = event_in marks (cycle - row.shift) row.from; to = event_in marks cycle row.to; origin = row.origin } in
    more_hold (IsRowOf net) (row_in marks cycle row) (filter_map (row_in marks cycle) rows) (chosen (row_exists cycle row) drawn (IsRowOf net) (omega (arith, is, from), omega (arith, is, to)))
    (rows_of_cycle net marks cycle n rows less is (All-tail (IsRowBetween marks) row rows all))

pub rows_inside : (net : Net) (marks n : ℕ) (rows : List SheetRow) → net.events ≡ n * marks → All (IsRowBetween marks) rows → All (IsRowOf net) (rows_in marks rows n)
rows_inside net marks n rows is all = All-in_cycles (IsRowOf net) (λ cycle. filter_map (row_in marks cycle) rows) n (λ cycle less. rows_of_cycle net marks cycle n rows less is all)

-- ---- the whole

-- what the steps made
pub record IsMade (d : DesignView) (net : Net) (drew : List (List Origin)) (texts : List (List ℕ)) (labels : List EventLabel) (asked : List Row) : Type 0 where
  pub network : net ≡ record { events = d.cycles * mark_count d.sheets; constraints = constraints_of (mark_count d.sheets) (kept_rules d.cycles (rules_of d)) d.cycles }
  pub origins : drew ≡ origins_of (kept_rules d.cycles (rules_of d)) d.cycles
  pub parts : texts ≡ d.parts
  pub names : labels ≡ in_cycles (λ cycle. labels_from cycle 0 d.sheets) d.cycles
  pub rows : asked ≡ rows_in (mark_count d.sheets) (kept_rows d.cycles (rows_of d)) d.cycles

pub made_kept : (d : DesignView) (net : Net) (drew : List (List Origin)) (texts : List (List ℕ)) (labels : List EventLabel) (asked : List Row) → IsDesign d → length (drawn_of d).rows ≤ MAX_ROWS → IsMade d net drew texts labels asked → IsDrawn net drew texts labels asked
made_kept d net drew texts labels asked h few made =
    let events : net.events ≡ d.cycles * mark_count d.sheets = ap (λ (n : Net). n.events) made.network in
    record {
      origins = rw (made.network, made.origins) (origins_fit (d.cycles * mark_count d.sheets) (mark_count d.sheets) d.cycles (kept_rules d.cycles (rules_of d)));
      names = rw (made.names, labels_length d.sheets d.cycles) (sym events);
      parts = rw (made.names, made.parts) (labels_inside d.parts d.sheets d.cycles h.parts);
      rows = rw made.rows (rows_inside net (mark_count d.sheets) d.cycles (kept_rows d.cycles (rows_of d)) events (kept_rows_between d h));
      few = rw (made.rows, kept_rows_in (mark_count d.sheets) d.cycles (rows_of d)) few;
    }

pub made_is : (d : DesignView) (net : Net) (drew : List (List Origin)) (texts : List (List ℕ)) (labels : List EventLabel) (asked : List Row) → IsDesign d → IsMade d net drew texts labels asked → drawn_by net drew texts labels asked ≡ drawn_of d
made_is d net drew texts labels asked h made =
    let marks : ℕ = mark_count d.sheets in
    rw (made.network, made.origins, made.parts, made.names, made.rows, kept_constraints marks d.cycles (rules_of d), kept_origins d.cycles (rules_of d), kept_rows_in marks d.cycles (rows_of d), labels_tell d.parts d.sheets d.cycles h.parts) refl

-- what the steps answer, put together
pub made_by : (d : DesignView) (marks cycles : ℕ) (rules : List RuleView) (asked : List SheetRow) (net : Net) (drew : List (List Origin)) (texts : List (List ℕ)) (labels : List EventLabel) (rows : List Row)
    → marks ≡ mark_count d.sheets → cycles ≡ d.cycles → rules ≡ kept_rules d.cycles (rules_of d) → asked ≡ kept_rows d.cycles (rows_of d)
    → net ≡ record { events = cycles * marks; constraints = constraints_of marks rules cycles } → drew ≡ origins_of rules cycles → texts ≡ d.parts → labels ≡ in_cycles (λ cycle. labels_from cycle 0 d.sheets) d.cycles → rows ≡ rows_in marks asked cycles
    → IsMade d net drew texts labels rows
made_by d marks cycles rules asked net drew texts labels rows same_marks same_cycles same_rules same_asked network origins parts names given = record {
  network = network ∙ rw (same_marks, same_cycles, same_rules) refl;
  origins = origins ∙ rw (same_cycles, same_rules) refl;
  parts = parts;
  names = names;
  rows = given ∙ rw (same_marks, same_cycles, same_asked) refl;
}

-- the kept rules give as many constraints as all rules
pub kept_room : (d : DesignView) (marks cycles : ℕ) (rules : List RuleView) → marks ≡ mark_count d.sheets → cycles ≡ d.cycles → rules ≡ kept_rules d.cycles (rules_of d)
    → length (constraints_of marks rules cycles) ≡ length (constraints_of (mark_count d.sheets) (rules_of d) d.cycles)
kept_room d marks cycles rules same_marks same_cycles same_rules = rw (same_marks, same_cycles, same_rules) (ap length (kept_constraints (mark_count d.sheets) d.cycles (rules_of d)))

-- the first limit passed by the counts is the first limit passed by what is drawn
pub passed_of : (d : DesignView) (cycles : ℕ) (counts : Counts) (found : Option Counted) → cycles ≡ d.cycles → AreCounts (mark_count d.sheets) d.cycles (rules_of d) (rows_of d) counts
    → found ≡ first_passed (counts_by (cycles * counts.marks) counts.constraints counts.rows counts.splittable) → found ≡ first_passed (counts_of (drawn_of d))
passed_of d cycles counts found same h is = (rw same at is) ∙ ap first_passed (limits_counted d counts h)

-- a design that passes no limit draws few constraints
pub few_constraints : (d : DesignView) → None ≡ first_passed (counts_of (drawn_of d)) → length (constraints_of (mark_count d.sheets) (rules_of d) d.cycles) ≤ MAX_CONSTRAINTS
few_constraints d none = (none_passed (drawn_of d).net.events (length (drawn_of d).net.constraints) (length (drawn_of d).rows) _ (sym none)).1

-- a design that passes no limit draws few rows
pub few_rows : (d : DesignView) → None ≡ first_passed (counts_of (drawn_of d)) → length (drawn_of d).rows ≤ MAX_ROWS
few_rows d none = (none_passed (drawn_of d).net.events (length (drawn_of d).net.constraints) (length (drawn_of d).rows) _ (sym none)).2
