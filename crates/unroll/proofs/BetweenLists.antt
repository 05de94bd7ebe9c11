-- Rules and rows of a design are between its marks.
use Rattle.std.proofs.Common.{inl, inr, ◌≡◌, ℕ, zero, suc, ◌+◌, ◌-◌, ◌*◌, ◌^◌, ◌<◌, ◌≤◌, List, [], ◌∷◌, ◌++◌, length, map, get_or, All, Some, refl, arith}
use Rattle.std.specs.List.{flat_map}
use Rattle.std.proofs.Math.Seq.{drop-append_seam}
use Rattle.std.proofs.lemmas.Bool.{cases_lt}
use Rattle.std.proofs.lemmas.List.{length-map}
use Rattle.std.proofs.lemmas.List.Elements.{All-append, All-cons, All-drop, All-filter, All-head, All-map, All-nil, All-pop, All-tail, All-weaker}
use Rattle.std.proofs.lemmas.List.Sums.{sum_by-le}
use Rattle.sheet.specs.declared.row.SheetRow.{SheetRow}
use Rattle.sheet.specs.declared.rule.RuleCause.{RuleCause}
use Rattle.sheet.specs.Rule.{RuleView}
use Rattle.sheet.specs.SheetContents.{SheetView}
use Rattle.sheet.specs.Whole.{IsWhole, IsWholeRow, IsWholeRule, IsWholeSource}
use Rattle.itv_base.specs.declared.limits.TheConstants.{MAX_EVENTS}
use Rattle.itv_base.proofs.Lists.{All-front}
use Rattle.sheet.specs.declared.mark.TheConstants.{MAX_MARKS}
use Rattle.compose.specs.declared.joins.Join.{Join}
use Rattle.compose.specs.declared.joins.PinJoins.{PinJoins}
use Rattle.compose.specs.Joins.{first_joins, join_at, pin_joins}
use Rattle.compose.specs.Design.{DesignView, IsDesign, IsJoinOf}
use Rattle.compose.specs.Numbers.{join_rule, mark_count, number_of}
use Rattle.compose.proofs.WholeDesigns.{mark_count_cons, number_within}
use Rattle.unroll.specs.Cycle.{part_rows, part_rules, row_behind, rows_of, rule_behind, rules_of, source_behind}
use Rattle.unroll.specs.Cycles.{row_exists, rule_exists}
use Rattle.unroll.specs.Step.Between.{IsRowBetween, IsRuleBetween}
use Rattle.unroll.specs.Step.Kept.{kept_rows, kept_rules}

-- ---- of sheets and wires

rules_between : (marks : ℕ) (rules : List RuleView) → All (IsWholeRule marks) rules → All (IsRuleBetween marks) rules
rules_between marks rules whole = All-weaker (IsWholeRule marks) (IsRuleBetween marks) (λ rule h. rule_between rule h) rules whole where
  rule_between : (rule : RuleView) → IsWholeRule marks rule → IsRuleBetween marks rule
  rule_between rule h = record {
    target = h.target;
    causes = All-weaker (IsWholeSource marks) (λ source. source.mark < marks) (λ source is. is.mark) rule.causes h.causes;
    count = h.count;
  }

rows_between : (marks : ℕ) (rows : List SheetRow) → All (IsWholeRow marks) rows → All (IsRowBetween marks) rows
rows_between marks rows whole = All-weaker (IsWholeRow marks) (IsRowBetween marks) (λ row h. record { from = h.from; to = h.to }) rows whole

-- rules and rows between marks are between more marks
more_rules : (few many : ℕ) (rules : List RuleView) → few ≤ many → All (IsWholeRule few) rules → All (IsRuleBetween many) rules
more_rules few many rules le whole = All-weaker (IsRuleBetween few) (IsRuleBetween many) more rules (rules_between few rules whole) where
  more : (rule : RuleView) → IsRuleBetween few rule → IsRuleBetween many rule
  more rule h = record {
    target = omega (arith, le, h.target);
    causes = All-weaker (λ source. source.mark < few) (λ source. source.mark < many) (λ source less. omega (arith, le, less)) rule.causes h.causes;
    count = h.count;
  }

more_rows : (few many : ℕ) (rows : List SheetRow) → few ≤ many → All (IsWholeRow few) rows → All (IsRowBetween many) rows
more_rows few many rows le whole =
    All-weaker (IsRowBetween few) (IsRowBetween many) (λ row h. record { from = omega (arith, le, h.from); to = omega (arith, le, h.to) }) rows (rows_between few rows whole)

-- the rules of a sheet are between as many marks as there may be events
pub sheet_rules : (sheet : SheetView) → IsWhole sheet → All (IsRuleBetween MAX_EVENTS) sheet.rules
sheet_rules sheet h = let few : length sheet.marks ≤ MAX_MARKS = h.marks in more_rules (length sheet.marks) MAX_EVENTS sheet.rules (omega (arith, few)) h.rules

-- so are the rules of the wires of a design with few marks
pub wire_rules : (d : DesignView) → IsDesign d → mark_count d.sheets ≤ MAX_EVENTS → All (IsRuleBetween MAX_EVENTS) d.rules
wire_rules d h few = more_rules (mark_count d.sheets) MAX_EVENTS d.rules few h.rules

pub wire_rows : (d : DesignView) → IsDesign d → mark_count d.sheets ≤ MAX_EVENTS → All (IsRowBetween MAX_EVENTS) d.rows
wire_rows d h few = more_rows (mark_count d.sheets) MAX_EVENTS d.rows few h.rows

-- ---- of parts

rule_behind_between : (first few many : ℕ) → first + few ≤ many → (rule : RuleView) → IsRuleBetween few rule → IsRuleBetween many (rule_behind first rule)
rule_behind_between first few many le rule h = record {
  target = omega (arith, le, h.target);
  causes = All-map (λ source. source.mark < many) (source_behind first) rule.causes
      (All-weaker (λ source. source.mark < few) (λ source. first + source.mark < many) (λ source less. omega (arith, le, less)) rule.causes h.causes);
  count = rw (length-map rule.causes (source_behind first)) h.count;
}

part_rules_between : (first many : ℕ) (sheets : List SheetView) → All IsWhole sheets → first + mark_count sheets ≤ many → All (IsRuleBetween many) (part_rules first sheets)
part_rules_between first many [] all le = All-nil (IsRuleBetween many)
part_rules_between first many (sheet ∷ sheets) all le =
    let whole = All-head IsWhole sheet sheets all in
    let count = mark_count_cons sheet sheets in
    All-append (IsRuleBetween many) (map (rule_behind first) sheet.rules) (part_rules (first + length sheet.marks) sheets)
    (All-map (IsRuleBetween many) (rule_behind first) sheet.rules
    (All-weaker (IsRuleBetween (length sheet.marks)) (λ rule. IsRuleBetween many (rule_behind first rule)) (rule_behind_between first (length sheet.marks) many (omega (arith, le, count))) sheet.rules (rules_between (length sheet.marks) sheet.rules whole.rules)))
    (part_rules_between (first + length sheet.marks) many sheets (All-tail IsWhole sheet sheets all) (omega (arith, le, count)))

part_rows_between : (first many : ℕ) (sheets : List SheetView) → All IsWhole sheets → first + mark_count sheets ≤ many → All (IsRowBetween many) (part_rows first sheets)
part_rows_between first many [] all le = All-nil (IsRowBetween many)
part_rows_between first many (sheet ∷ sheets) all le =
    let whole = All-head IsWhole sheet sheets all in
    let count = mark_count_cons sheet sheets in
    let few : first + length sheet.marks ≤ many = omega (arith, le, count) in
    All-append (IsRowBetween many) (map (row_behind first) sheet.rows) (part_rows (first + length sheet.marks) sheets)
    (All-map (IsRowBetween many) (row_behind first) sheet.rows
    (All-weaker (IsRowBetween (length sheet.marks)) (λ row. IsRowBetween many (row_behind first row)) (λ row h. record { from = omega (arith, few, h.from); to = omega (arith, few, h.to) }) sheet.rows (rows_between (length sheet.marks) sheet.rows whole.rows)))
    (part_rows_between (first + length sheet.marks) many sheets (All-tail IsWhole sheet sheets all) (omega (arith, le, count)))

-- ---- of nets

join_between : (sheets : List SheetView) (join : Join) → IsJoinOf sheets join → IsRuleBetween (mark_count sheets) (join_rule sheets join)
join_between sheets join h = record {
  target = number_within sheets join.to h.1;
  causes = All-cons (λ (source : RuleCause). source.mark < mark_count sheets) (record { mark = number_of sheets join.from; shift = 0; range = join.delay; origin = join.origin }) [] (number_within sheets join.from h.0)
      (All-nil (λ (source : RuleCause). source.mark < mark_count sheets));
  count = refl;
}

-- ---- of a design

pub all_rules_between : (d : DesignView) → IsDesign d → All (IsRuleBetween (mark_count d.sheets)) (rules_of d)
all_rules_between d h =
    let all : ℕ = mark_count d.sheets in
    All-append (IsRuleBetween all) (part_rules 0 d.sheets) (map (join_rule d.sheets) d.joins ++ d.rules) (part_rules_between 0 all d.sheets h.sheets (omega arith))
    (All-append (IsRuleBetween all) (map (join_rule d.sheets) d.joins) d.rules
    (All-map (IsRuleBetween all) (join_rule d.sheets) d.joins (All-weaker (IsJoinOf d.sheets) (λ join. IsRuleBetween all (join_rule d.sheets join)) (join_between d.sheets) d.joins h.joins))
    (rules_between all d.rules h.rules))

-- the rules that are kept are between the marks
pub kept_rules_between : (d : DesignView) → IsDesign d → All (IsRuleBetween (mark_count d.sheets)) (kept_rules d.cycles (rules_of d))
kept_rules_between d h = All-filter (λ rule. rule_exists (d.cycles - 1) rule) (IsRuleBetween (mark_count d.sheets)) (rules_of d) (all_rules_between d h)

pub all_rows_between : (d : DesignView) → IsDesign d → All (IsRowBetween (mark_count d.sheets)) (rows_of d)
all_rows_between d h =
    let all : ℕ = mark_count d.sheets in
    All-append (IsRowBetween all) (part_rows 0 d.sheets) d.rows (part_rows_between 0 all d.sheets h.sheets (omega arith)) (rows_between all d.rows h.rows)

-- the rows that are kept are between the marks
pub kept_rows_between : (d : DesignView) → IsDesign d → All (IsRowBetween (mark_count d.sheets)) (kept_rows d.cycles (rows_of d))
kept_rows_between d h = All-filter (λ row. row_exists (d.cycles - 1) row) (IsRowBetween (mark_count d.sheets)) (rows_of d) (all_rows_between d h)

-- a design has few marks
pub few_marks : (d : DesignView) → IsDesign d → mark_count d.sheets ≤ 2 ^ 15
few_marks d h =
    let each : All (λ (sheet : SheetView). length sheet.marks ≤ MAX_MARKS) d.sheets = All-weaker IsWhole (λ sheet. length sheet.marks ≤ MAX_MARKS) (λ sheet whole. whole.marks) d.sheets h.sheets in
    let most : mark_count d.sheets ≤ length d.sheets * MAX_MARKS = sum_by-le (λ (sheet : SheetView). length sheet.marks) MAX_MARKS d.sheets each in
    omega (arith, most, h.few)

-- ---- joins of pins

pub All-back : {X : Type 0} (P : X → Type 0) (xs ys : List X) → All P (xs ++ ys) → All P ys
All-back P xs ys all = rw (drop-append_seam xs ys) at (All-drop P (length xs) (xs ++ ys) all)

-- what holds of all that the elements give holds of what one element gives
pub All-flat_map-at : {X Y : Type 0} (P : Y → Type 0) (f : X → List Y) (xs : List X) (i : ℕ) (x : X) → i < length xs → x ≡ get_or xs i x → All P (flat_map f xs) → All P (f x)
All-flat_map-at P f [] i x within is all = absurd (omega (arith, within))
All-flat_map-at P f (y ∷ xs) zero x within is all = rw is (All-front P (f y) (flat_map f xs) all)
All-flat_map-at P f (y ∷ xs) (suc i) x within is all = All-flat_map-at P f xs i x (omega (arith, within)) is (All-back P (f y) (flat_map f xs) all)

last_or_earlier : (P : Join → Type 0) (pin : PinJoins) (n k : ℕ) → k < suc n → (k < n → P (join_at pin k)) → P (join_at pin n) → P (join_at pin k)
last_or_earlier P pin n k less earlier last =
    elim (cases_lt k n) [ inl before ↦ earlier before | inr past ↦ let same : k ≡ n = omega (arith, less, past) in rw same last ]

first_joins_at : (P : Join → Type 0) (pin : PinJoins) (n k : ℕ) → k < n → All P (first_joins pin n) → P (join_at pin k)
first_joins_at P pin zero k less all = absurd (omega (arith, less))
first_joins_at P pin (suc n) k less all =
    let parts = All-pop P (first_joins pin (suc n)) (first_joins pin n) (Some (join_at pin n)) refl all in
    last_or_earlier P pin n k less (λ before. first_joins_at P pin n k before parts.0) parts.1

-- each mark of the pin has a join
pub join_there : (sheets : List SheetView) (pin : PinJoins) (k : ℕ) → k < pin.marks → All (IsJoinOf sheets) (pin_joins pin) → IsJoinOf sheets (join_at pin k)
join_there sheets pin k less all = first_joins_at (IsJoinOf sheets) pin pin.marks k less all
