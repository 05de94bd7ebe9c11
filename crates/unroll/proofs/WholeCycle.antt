-- All rules and rows of a design exist in a late cycle.
use Rattle.std.proofs.Common.{◌≡◌, ℕ, ◌+◌, ◌-◌, ◌<◌, ◌≤◌, Bool, true, cond, List, [], ◌∷◌, ◌++◌, length, map, All, refl, arith}
use Rattle.std.specs.Prelude.{filter, nat_le}
use Rattle.std.specs.List.{list_all}
use Rattle.std.proofs.lemmas.Bool.{le-leb}
use Rattle.std.proofs.lemmas.List.Elements.{All-append, All-head, All-map, All-nil, All-tail, All-weaker}
use Rattle.itv_base.specs.declared.limits.TheConstants.{MAX_SHIFT}
use Rattle.sheet.specs.declared.row.SheetRow.{SheetRow}
use Rattle.sheet.specs.declared.rule.RuleCause.{RuleCause}
use Rattle.sheet.specs.Rule.{RuleView}
use Rattle.sheet.specs.SheetContents.{SheetView}
use Rattle.sheet.specs.Whole.{IsWhole, IsWholeRow, IsWholeRule, IsWholeSource}
use Rattle.compose.specs.Design.{DesignView, IsDesign}
use Rattle.compose.specs.declared.joins.Join.{Join}
use Rattle.compose.specs.Numbers.{join_rule, mark_count, number_of}
use Rattle.unroll.specs.Cycle.{part_rows, part_rules, row_behind, rows_of, rule_behind, rules_of, source_behind}
use Rattle.unroll.specs.Cycles.{row_exists, rule_exists}
use Rattle.unroll.specs.Step.Kept.{kept_rows, kept_rules}

-- ---- what is kept whole

all_kept : {X : Type 0} (test : X → Bool) (xs : List X) → All (λ x. test x ≡ true) xs → filter test xs ≡ xs
all_kept test [] all = refl
all_kept test (x ∷ xs) all =
    let here : test x ≡ true = All-head (λ y. test y ≡ true) x xs all in
    rw (here, all_kept test xs (All-tail (λ y. test y ≡ true) x xs all)) refl

-- the cause is not too many cycles before its target
abbrev IsNear : RuleCause → Type 0
IsNear source = source.shift ≤ MAX_SHIFT

abbrev AreNear : RuleView → Type 0
AreNear rule = All IsNear rule.causes

abbrev IsNearRow : SheetRow → Type 0
IsNearRow row = row.shift ≤ MAX_SHIFT

all_exist : (cycle : ℕ) (causes : List RuleCause) → MAX_SHIFT ≤ cycle → All IsNear causes → list_all (λ (source : RuleCause). nat_le source.shift cycle) causes ≡ true
all_exist cycle [] late near = refl
all_exist cycle (source ∷ causes) late near =
    let close : source.shift ≤ MAX_SHIFT = All-head IsNear source causes near in
    let here : nat_le source.shift cycle ≡ true = le-leb source.shift cycle (omega (arith, close, late)) in
    rw (here, all_exist cycle causes late (All-tail IsNear source causes near)) refl

-- ---- rules

near_rules : (marks : ℕ) (rules : List RuleView) → All (IsWholeRule marks) rules → All AreNear rules
near_rules marks rules whole =
    All-weaker (IsWholeRule marks) AreNear (λ rule h. All-weaker (IsWholeSource marks) IsNear (λ source is. is.shift) rule.causes h.causes) rules whole

near_behind : (first : ℕ) (rules : List RuleView) → All AreNear rules → All AreNear (map (rule_behind first) rules)
near_behind first rules near =
    All-map AreNear (rule_behind first) rules (All-weaker AreNear (λ rule. AreNear (rule_behind first rule)) (λ rule h. All-map IsNear (source_behind first) rule.causes h) rules near)

near_parts : (first : ℕ) (sheets : List SheetView) → All IsWhole sheets → All AreNear (part_rules first sheets)
near_parts first [] all = All-nil AreNear
near_parts first (sheet ∷ sheets) all =
    let whole = All-head IsWhole sheet sheets all in
    All-append AreNear (map (rule_behind first) sheet.rules) (part_rules (first + length sheet.marks) sheets) (near_behind first sheet.rules (near_rules (length sheet.marks) sheet.rules whole.rules))
    (near_parts (first + length sheet.marks) sheets (All-tail IsWhole sheet sheets all))

near_joins : (sheets : List SheetView) (joins : List Join) → All AreNear (map (join_rule sheets) joins)
near_joins sheets [] = All-nil AreNear
near_joins sheets (join ∷ joins) = All-append AreNear (join_rule sheets join ∷ []) (map (join_rule sheets) joins) (one sheets join) (near_joins sheets joins) where
  one : (sheets : List SheetView) (join : Join) → All AreNear (join_rule sheets join ∷ [])
  one sheets join = grind (arith, All-nil AreNear)

near_design : (d : DesignView) → IsDesign d → All AreNear (rules_of d)
near_design d h =
    All-append AreNear (part_rules 0 d.sheets) (map (join_rule d.sheets) d.joins ++ d.rules) (near_parts 0 d.sheets h.sheets)
    (All-append AreNear (map (join_rule d.sheets) d.joins) d.rules (near_joins d.sheets d.joins) (near_rules (mark_count d.sheets) d.rules h.rules))

pub all_rules_kept : (d : DesignView) (cycles : ℕ) → IsDesign d → MAX_SHIFT < cycles → kept_rules cycles (rules_of d) ≡ rules_of d
all_rules_kept d cycles h late =
    all_kept (λ rule. rule_exists (cycles - 1) rule) (rules_of d)
    (All-weaker AreNear (λ rule. rule_exists (cycles - 1) rule ≡ true) (λ rule near. all_exist (cycles - 1) rule.causes (omega (arith, late)) near) (rules_of d) (near_design d h))

-- ---- rows

near_rows : (marks : ℕ) (rows : List SheetRow) → All (IsWholeRow marks) rows → All IsNearRow rows
near_rows marks rows whole = All-weaker (IsWholeRow marks) IsNearRow (λ row h. h.shift) rows whole

near_part_rows : (first : ℕ) (sheets : List SheetView) → All IsWhole sheets → All IsNearRow (part_rows first sheets)
near_part_rows first [] all = All-nil IsNearRow
near_part_rows first (sheet ∷ sheets) all =
    let whole = All-head IsWhole sheet sheets all in
    All-append IsNearRow (map (row_behind first) sheet.rows) (part_rows (first + length sheet.marks) sheets)
    (All-map IsNearRow (row_behind first) sheet.rows (near_rows (length sheet.marks) sheet.rows whole.rows))
    (near_part_rows (first + length sheet.marks) sheets (All-tail IsWhole sheet sheets all))

pub near_all_rows : (d : DesignView) → IsDesign d → All (λ (row : SheetRow). row.shift ≤ MAX_SHIFT) (rows_of d)
near_all_rows d h = All-append IsNearRow (part_rows 0 d.sheets) d.rows (near_part_rows 0 d.sheets h.sheets) (near_rows (mark_count d.sheets) d.rows h.rows)

pub all_rows_kept : (d : DesignView) (cycles : ℕ) → IsDesign d → MAX_SHIFT < cycles → kept_rows cycles (rows_of d) ≡ rows_of d
all_rows_kept d cycles h late =
    all_kept (λ row. row_exists (cycles - 1) row) (rows_of d)
    (All-weaker IsNearRow (λ row. row_exists (cycles - 1) row ≡ true) (λ row near. le-leb row.shift (cycles - 1) (omega (arith, late, near))) (rows_of d) (near_all_rows d h))
