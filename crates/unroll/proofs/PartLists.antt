-- The marks, rules and rows of one more part.
use Rattle.std.proofs.Common.{Bool, cond, nat_le, ◌≡◌, ℕ, zero, suc, ◌+◌, ◌-◌, ◌<◌, ◌≤◌, List, [], ◌∷◌, ◌++◌, length, map, get_or, take, Some, refl, ap, sym, ◌∙◌, add-zero, append-nil, append_assoc, arith}
use Rattle.std.specs.Prelude.{slice_get}
use Rattle.std.proofs.lemmas.List.{get_or_read, length-take-le}
use Rattle.std.proofs.lemmas.List.Elements.{filter-append}
use Rattle.std.proofs.lemmas.List.Folds.{list_all-map}
use Rattle.std.proofs.lemmas.List.Sums.{sum_by-take-le, sum_by_push}
use Rattle.std.proofs.lemmas.Option.{slice_get_within}
use Rattle.sheet.specs.SheetContents.{SheetView}
use Rattle.sheet.specs.declared.rule.RuleCause.{RuleCause}
use Rattle.sheet.specs.Rule.{RuleView}
use Rattle.itv_base.proofs.Lists.{take_get}
use Rattle.sheet.specs.declared.row.SheetRow.{SheetRow}
use Rattle.compose.specs.Numbers.{mark_count}
use Rattle.compose.proofs.WholeDesigns.{mark_count_cons}
use Rattle.unroll.specs.Cycle.{part_rows, part_rules, row_behind, rule_behind, source_behind}
use Rattle.unroll.specs.Cycles.{row_exists, rule_exists}
use Rattle.unroll.specs.Step.Firsts.{firsts_of}
use Rattle.unroll.specs.Step.Kept.{kept_rows, kept_rules}

pub take_length : {X : Type 0} (xs : List X) (i : ℕ) (x : X) → slice_get xs i ≡ Some x → length (take i xs) ≡ i
take_length xs i x read =
    let within : i < length xs = slice_get_within xs i x read in
    length-take-le i xs (omega arith)

-- ---- marks

pub mark_count_push : (sheets : List SheetView) (sheet : SheetView) → mark_count (sheets ++ sheet ∷ []) ≡ mark_count sheets + length sheet.marks
mark_count_push sheets sheet = sum_by_push (λ (s : SheetView). length s.marks) sheets sheet

-- the marks of a part, and of the parts before it, are among all marks
pub sheet_fits : (sheets : List SheetView) (part : ℕ) (sheet : SheetView) → slice_get sheets part ≡ Some sheet → mark_count (take part sheets) + length sheet.marks ≤ mark_count sheets
sheet_fits sheets part sheet read =
    let front : mark_count (take (part + 1) sheets) ≡ mark_count (take part sheets) + length sheet.marks = ap mark_count (take_get sheets part sheet read) ∙ mark_count_push (take part sheets) sheet in
    omega (arith, front, sum_by-take-le (λ (s : SheetView). length s.marks) sheets (part + 1))

-- ---- first marks

pub length-firsts_of : (first : ℕ) (sheets : List SheetView) → length (firsts_of first sheets) ≡ length sheets
length-firsts_of first [] = refl
length-firsts_of first (sheet ∷ sheets) = ap suc (length-firsts_of (first + length sheet.marks) sheets)

pub firsts_of_push : (first : ℕ) (sheets : List SheetView) (sheet : SheetView)
    → firsts_of first (sheets ++ sheet ∷ []) ≡ firsts_of first sheets ++ (first + mark_count sheets) ∷ []
firsts_of_push first [] sheet = ap (λ n. n ∷ []) (sym (add-zero first))
firsts_of_push first (s ∷ sheets) sheet =
    let number : (first + length s.marks) + mark_count sheets ≡ first + mark_count (s ∷ sheets) = omega (arith, mark_count_cons s sheets) in
    ap (λ rest. first ∷ rest) (firsts_of_push (first + length s.marks) sheets sheet ∙ ap (λ n. firsts_of (first + length s.marks) sheets ++ n ∷ []) number)

pub get_or-firsts_of : (first : ℕ) (sheets : List SheetView) (part : ℕ) → part < length sheets → get_or (firsts_of first sheets) part 0 ≡ first + mark_count (take part sheets)
get_or-firsts_of first [] part within = absurd (omega arith)
get_or-firsts_of first (s ∷ sheets) zero within = sym (add-zero first)
get_or-firsts_of first (s ∷ sheets) (suc part) within =
    let rest = get_or-firsts_of (first + length s.marks) sheets part (omega arith) in
    omega (arith, rest, mark_count_cons s (take part sheets))

-- the numbers of first marks that are kept, with the number of one more part
pub firsts_kept : (sheets : List SheetView) (sheet : SheetView) (old new : List ℕ) (first : ℕ) → first ≡ mark_count sheets → old ≡ firsts_of 0 sheets → new ≡ old ++ first ∷ [] → new ≡ firsts_of 0 (sheets ++ sheet ∷ [])
firsts_kept sheets sheet old new first is stood more =
    let number : first ≡ 0 + mark_count sheets = omega (arith, is) in
    rw (more, stood, number) (sym (firsts_of_push 0 sheets sheet))

-- ---- rules and rows

pub part_rules_push : (first : ℕ) (sheets : List SheetView) (sheet : SheetView)
    → part_rules first (sheets ++ sheet ∷ []) ≡ part_rules first sheets ++ map (rule_behind (first + mark_count sheets)) sheet.rules
part_rules_push first [] sheet = append-nil (map (rule_behind first) sheet.rules) ∙ ap (λ n. map (rule_behind n) sheet.rules) (sym (add-zero first))
part_rules_push first (s ∷ sheets) sheet =
    let number : (first + length s.marks) + mark_count sheets ≡ first + mark_count (s ∷ sheets) = omega (arith, mark_count_cons s sheets) in
    ap (λ rest. map (rule_behind first) s.rules ++ rest)
    (part_rules_push (first + length s.marks) sheets sheet ∙ ap (λ n. part_rules (first + length s.marks) sheets ++ map (rule_behind n) sheet.rules) number)
    ∙ sym (append_assoc (map (rule_behind first) s.rules) (part_rules (first + length s.marks) sheets) (map (rule_behind (first + mark_count (s ∷ sheets))) sheet.rules))

pub part_rows_push : (first : ℕ) (sheets : List SheetView) (sheet : SheetView)
    → part_rows first (sheets ++ sheet ∷ []) ≡ part_rows first sheets ++ map (row_behind (first + mark_count sheets)) sheet.rows
part_rows_push first [] sheet = append-nil (map (row_behind first) sheet.rows) ∙ ap (λ n. map (row_behind n) sheet.rows) (sym (add-zero first))
part_rows_push first (s ∷ sheets) sheet =
    let number : (first + length s.marks) + mark_count sheets ≡ first + mark_count (s ∷ sheets) = omega (arith, mark_count_cons s sheets) in
    ap (λ rest. map (row_behind first) s.rows ++ rest)
    (part_rows_push (first + length s.marks) sheets sheet ∙ ap (λ n. part_rows (first + length s.marks) sheets ++ map (row_behind n) sheet.rows) number)
    ∙ sym (append_assoc (map (row_behind first) s.rows) (part_rows (first + length s.marks) sheets) (map (row_behind (first + mark_count (s ∷ sheets))) sheet.rows))

-- the rules that are kept, with the rules of one more part
pub parts_kept : (cycles first : ℕ) (sheets : List SheetView) (sheet : SheetView) (old items new list : List RuleView) → first ≡ mark_count sheets → items ≡ old ++ kept_rules cycles (part_rules 0 sheets)
    → list ≡ sheet.rules → new ≡ items ++ kept_rules cycles (map (rule_behind first) list) → new ≡ old ++ kept_rules cycles (part_rules 0 (sheets ++ sheet ∷ []))
parts_kept cycles first sheets sheet old items new list is stood same more =
    let number : first ≡ 0 + mark_count sheets = omega (arith, is) in
    let both : kept_rules cycles (part_rules 0 (sheets ++ sheet ∷ [])) ≡ kept_rules cycles (part_rules 0 sheets) ++ kept_rules cycles (map (rule_behind (0 + mark_count sheets)) sheet.rules) =
    ap (kept_rules cycles) (part_rules_push 0 sheets sheet) ∙ filter-append (λ rule. rule_exists (cycles - 1) rule) (part_rules 0 sheets) (map (rule_behind (0 + mark_count sheets)) sheet.rules) in
    rw (more, stood, same, number, both) (append_assoc old (kept_rules cycles (part_rules 0 sheets)) (kept_rules cycles (map (rule_behind (0 + mark_count sheets)) sheet.rules)))

pub part_rows_kept : (cycles first : ℕ) (sheets : List SheetView) (sheet : SheetView) (old items new list : List SheetRow) → first ≡ mark_count sheets → items ≡ old ++ kept_rows cycles (part_rows 0 sheets)
    → list ≡ sheet.rows → new ≡ items ++ kept_rows cycles (map (row_behind first) list) → new ≡ old ++ kept_rows cycles (part_rows 0 (sheets ++ sheet ∷ []))
part_rows_kept cycles first sheets sheet old items new list is stood same more =
    let number : first ≡ 0 + mark_count sheets = omega (arith, is) in
    let both : kept_rows cycles (part_rows 0 (sheets ++ sheet ∷ [])) ≡ kept_rows cycles (part_rows 0 sheets) ++ kept_rows cycles (map (row_behind (0 + mark_count sheets)) sheet.rows) =
    ap (kept_rows cycles) (part_rows_push 0 sheets sheet) ∙ filter-append (λ row. row_exists (cycles - 1) row) (part_rows 0 sheets) (map (row_behind (0 + mark_count sheets)) sheet.rows) in
    rw (more, stood, same, number, both) (append_assoc old (kept_rows cycles (part_rows 0 sheets)) (kept_rows cycles (map (row_behind (0 + mark_count sheets)) sheet.rows)))

-- a number read from the first marks
pub first_read : (sheets : List SheetView) (firsts : List ℕ) (part read : ℕ) → firsts ≡ firsts_of 0 sheets → part < length sheets → read ≡ get_or firsts part read → read ≡ mark_count (take part sheets)
first_read sheets firsts part read stand within is =
    let there : part < length firsts = omega (arith, ap length stand, length-firsts_of 0 sheets, within) in
    let at : read ≡ get_or (firsts_of 0 sheets) part 0 = get_or_read firsts part read there is 0 ∙ ap (λ xs. get_or xs part 0) stand in
    omega (arith, at, get_or-firsts_of 0 sheets part within)

-- a rule exists wherever its marks stand
pub exists_behind : (cycle first : ℕ) (rule : RuleView) → rule_exists cycle (rule_behind first rule) ≡ rule_exists cycle rule
exists_behind cycle first rule = list_all-map (λ (source : RuleCause). nat_le source.shift cycle) (source_behind first) rule.causes

-- whether a moved rule is kept, according to whether it exists before the move
pub one_kept : (cycles first : ℕ) (rule : RuleView) (exists : Bool) → exists ≡ rule_exists (cycles - 1) rule → kept_rules cycles (rule_behind first rule ∷ []) ≡ cond exists (rule_behind first rule ∷ []) []
one_kept cycles first rule exists is = rw (exists_behind (cycles - 1) first rule, is) refl

-- ---- after no marks

nothing_before : (n : ℕ) → 0 + n ≡ n
nothing_before n = omega arith

sources_unmoved : (causes : List RuleCause) → map (source_behind 0) causes ≡ causes
sources_unmoved [] = refl
sources_unmoved (source ∷ causes) = rw (nothing_before source.mark, sources_unmoved causes) refl

-- after no marks no rule moves
pub rules_unmoved : (rules : List RuleView) → map (rule_behind 0) rules ≡ rules
rules_unmoved [] = refl
rules_unmoved (rule ∷ rules) = rw (nothing_before rule.target, sources_unmoved rule.causes, rules_unmoved rules) refl

pub rows_unmoved : (rows : List SheetRow) → map (row_behind 0) rows ≡ rows
rows_unmoved [] = refl
rows_unmoved (row ∷ rows) = rw (nothing_before row.from, nothing_before row.to, rows_unmoved rows) refl
