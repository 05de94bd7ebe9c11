-- How often rules and rows exist.
use Rattle.std.proofs.Common.{◌≡◌, ℕ, zero, suc, ◌+◌, ◌-◌, ◌*◌, Bool, true, nat_le, nat_lt, List, [], ◌∷◌, ◌++◌, length, map, refl, sym, ◌∙◌, arith}
use Rattle.std.specs.Prelude.{sum_by}
use Rattle.std.specs.List.{list_all}
use Rattle.std.proofs.Math.Nat.{mul-suc}
use Rattle.std.proofs.lemmas.Bool.{cond_both, le-leb, leb-false, leb-true}
use Rattle.std.proofs.lemmas.List.{length-map}
use Rattle.std.proofs.lemmas.List.Sums.{sum_by-append, sum_by-cons}
use Rattle.itv_base.specs.declared.names.RuleKind.{RuleKind}
use Rattle.event_graph.specs.Network.{named_causes}
use Rattle.sheet.specs.declared.row.SheetRow.{SheetRow}
use Rattle.sheet.specs.Rule.{RuleView}
use Rattle.sheet.specs.SheetContents.{SheetView}
use Rattle.compose.specs.declared.joins.Join.{Join}
use Rattle.compose.specs.Numbers.{join_rule, mark_count}
use Rattle.unroll.specs.declared.counts.Counts.{Counts}
use Rattle.unroll.specs.Cycle.{part_rows, part_rules, row_behind, rule_behind, source_behind}
use Rattle.unroll.specs.Step.Counting.{AreCounts, how_often, is_splittable, row_cycles, rule_cycles, splittable_cycles, sums}
use Rattle.unroll.proofs.PartLists.{exists_behind, mark_count_push, part_rows_push, part_rules_push}

-- tests that agree hold equally often
pub how_often_same : (a b : ℕ → Bool) (n : ℕ) → ((cycle : ℕ) → a cycle ≡ b cycle) → how_often a n ≡ how_often b n
how_often_same a b zero same = refl
how_often_same a b (suc n) same = rw (how_often_same a b n same, same n) refl

-- a test that holds from a cycle on
pub how_often_from : (shift n : ℕ) → how_often (λ cycle. nat_le shift cycle) n ≡ n - shift
how_often_from shift zero = omega arith
how_often_from shift (suc n) =
    let before = how_often_from shift n in
    cond_both (nat_le shift n) 1 0 (λ k. how_often (λ cycle. nat_le shift cycle) n + k ≡ suc n - shift) (λ yes. omega (arith, before, leb-true shift n yes)) (λ no. omega (arith, before, leb-false shift n no))

-- ---- rules

-- a rule with causes to choose from counts in each cycle in which it exists
pub splittable_rule : (n : ℕ) (rule : RuleView) (kind : RuleKind) (count : ℕ) (test : Bool) → kind ≡ rule.kind → count ≡ length rule.causes → test ≡ nat_lt 1 (named_causes kind count) → test ≡ true
    → splittable_cycles n rule ≡ rule_cycles n rule
splittable_rule n rule kind count test same_kind same_count answer holds =
    let is : is_splittable rule ≡ true = sym (rw (same_kind, same_count) at answer) ∙ holds in
    rw is refl

zero_le : (n : ℕ) → nat_le 0 n ≡ true
zero_le n = le-leb 0 n (omega arith)

join_counted : (n : ℕ) (sheets : List SheetView) (join : Join) → rule_cycles n (join_rule sheets join) ≡ n
join_counted n sheets join =
    let from_first = how_often_from 0 n in
    let always = how_often_same (λ cycle. list_all (λ source. nat_le source.shift cycle) (join_rule sheets join).causes) (λ cycle. nat_le 0 cycle) n (λ cycle. rw (zero_le cycle) refl) in
    omega (arith, always, from_first)

-- a join exists in each cycle
pub joins_counted : (n : ℕ) (sheets : List SheetView) (joins : List Join) → sum_by (rule_cycles n) (map (join_rule sheets) joins) ≡ n * length joins
joins_counted n sheets [] = omega arith
joins_counted n sheets (join ∷ joins) =
    let here = sum_by-cons (rule_cycles n) (join_rule sheets join) (map (join_rule sheets) joins) in
    here ∙ rw (join_counted n sheets join, joins_counted n sheets joins, mul-suc n (length joins)) (omega arith)

-- a join has one cause
pub joins_unsplittable : (n : ℕ) (sheets : List SheetView) (joins : List Join) → sum_by (splittable_cycles n) (map (join_rule sheets) joins) ≡ 0
joins_unsplittable n sheets [] = refl
joins_unsplittable n sheets (join ∷ joins) = sum_by-cons (splittable_cycles n) (join_rule sheets join) (map (join_rule sheets) joins) ∙ rw (joins_unsplittable n sheets joins) refl

-- ---- counts

sum_map_same : {X : Type 0} (g : X → ℕ) (f : X → X) (xs : List X) → ((x : X) → g (f x) ≡ g x) → sum_by g (map f xs) ≡ sum_by g xs
sum_map_same g f [] same = refl
sum_map_same g f (x ∷ xs) same = omega (arith, sum_by-cons g (f x) (map f xs), sum_by-cons g x xs, same x, sum_map_same g f xs same)

-- a rule exists equally often wherever its marks stand
rule_cycles_behind : (n first : ℕ) (rule : RuleView) → rule_cycles n (rule_behind first rule) ≡ rule_cycles n rule
rule_cycles_behind n first rule = how_often_same _ _ n (λ cycle. exists_behind cycle first rule)

splittable_cycles_behind : (n first : ℕ) (rule : RuleView) → splittable_cycles n (rule_behind first rule) ≡ splittable_cycles n rule
splittable_cycles_behind n first rule = rw (length-map rule.causes (source_behind first), rule_cycles_behind n first rule) refl

-- rules and rows have the same counts wherever their marks stand
counts_behind : (most n first : ℕ) (rules : List RuleView) (rows : List SheetRow) (counts : Counts) → AreCounts most n rules rows counts → AreCounts most n (map (rule_behind first) rules) (map (row_behind first) rows) counts
counts_behind most n first rules rows counts h = record {
  marks = h.marks;
  constraints = h.constraints ∙ sym (sum_map_same (rule_cycles n) (rule_behind first) rules (rule_cycles_behind n first));
  splittable = h.splittable ∙ sym (sum_map_same (splittable_cycles n) (rule_behind first) rules (splittable_cycles_behind n first));
  rows = h.rows ∙ sym (sum_map_same (row_cycles n) (row_behind first) rows (λ row. refl));
}

-- the sums of two counts
pub counts_together : (most other n : ℕ) (rules rules' : List RuleView) (rows rows' : List SheetRow) (a b : Counts) → AreCounts most n rules rows a → AreCounts other n rules' rows' b
    → AreCounts (most + other) n (rules ++ rules') (rows ++ rows') (sums a b)
counts_together most other n rules rules' rows rows' a b h k = record {
  marks = rw (h.marks, k.marks) refl;
  constraints = rw (h.constraints, k.constraints) (sym (sum_by-append (rule_cycles n) rules rules'));
  splittable = rw (h.splittable, k.splittable) (sym (sum_by-append (splittable_cycles n) rules rules'));
  rows = rw (h.rows, k.rows) (sym (sum_by-append (row_cycles n) rows rows'));
}

-- one more part
pub part_counted : (n : ℕ) (sheets : List SheetView) (sheet : SheetView) (a b : Counts)
    → AreCounts (mark_count sheets) n (part_rules 0 sheets) (part_rows 0 sheets) a
    → AreCounts (length sheet.marks) n sheet.rules sheet.rows b
    → AreCounts (mark_count (sheets ++ sheet ∷ [])) n (part_rules 0 (sheets ++ sheet ∷ [])) (part_rows 0 (sheets ++ sheet ∷ [])) (sums a b)
part_counted n sheets sheet a b h k =
    rw (mark_count_push sheets sheet, part_rules_push 0 sheets sheet, part_rows_push 0 sheets sheet)
    (counts_together (mark_count sheets) (length sheet.marks) n (part_rules 0 sheets) (map (rule_behind (0 + mark_count sheets)) sheet.rules) (part_rows 0 sheets) (map (row_behind (0 + mark_count sheets)) sheet.rows) a b h
    (counts_behind (length sheet.marks) n (0 + mark_count sheets) sheet.rules sheet.rows b k))
