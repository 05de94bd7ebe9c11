-- What is kept gives what all rules and rows give, and how much they give.
use Rattle.std.proofs.Common.{◌≡◌, ℕ, zero, suc, ◌+◌, ◌-◌, ◌<◌, ◌≤◌, Bool, true, false, cond, nat_le, nat_lt, List, [], ◌∷◌, ◌++◌, length, map, Option, Some, None, refl, ap, sym, ◌∙◌, length-append, arith}
use Rattle.std.specs.Prelude.{filter, sum_by}
use Rattle.std.specs.List.{cons_option, filter_map, list_all}
use Rattle.std.proofs.lemmas.Bool.{and_parts, both_ways, cond_both, le-leb, leb-true}
use Rattle.std.proofs.lemmas.List.{length-map}
use Rattle.std.proofs.lemmas.List.Elements.{filter-append}
use Rattle.std.proofs.lemmas.List.Sums.{length-filter, sum_by-cons}
use Rattle.event_graph.specs.Network.{Constraint, cause_count_of, named_causes, splittable_count}
use Rattle.sheet.specs.declared.row.SheetRow.{SheetRow}
use Rattle.sheet.specs.declared.rule.RuleCause.{RuleCause}
use Rattle.sheet.specs.Rule.{RuleView}
use Rattle.unroll.specs.Cycles.{cause_in, constraint_in, constraints_of, event_in, in_cycles, origins_in, origins_of, row_exists, row_in, rows_in, rule_exists}
use Rattle.unroll.specs.Step.Counting.{how_often, is_splittable, row_cycles, rule_cycles, splittable_cycles}
use Rattle.unroll.specs.Step.Kept.{kept_rows, kept_rules}

-- ---- what is kept

in_cycles_agree : {X : Type 0} (f g : ℕ → List X) (n : ℕ) → ((cycle : ℕ) → cycle < n → f cycle ≡ g cycle) → in_cycles f n ≡ in_cycles g n
in_cycles_agree f g zero agree = refl
in_cycles_agree f g (suc n) agree = rw (in_cycles_agree f g n (λ cycle less. agree cycle (omega (arith, less))), agree n (omega arith)) refl

filter_map_filter : {X Y : Type 0} (h : X → Option Y) (test : X → Bool) → ((x : X) → test x ≡ false → h x ≡ None) → (xs : List X) → filter_map h (filter test xs) ≡ filter_map h xs
filter_map_filter h test gone [] = refl
filter_map_filter h test gone (x ∷ xs) =
    let rest = filter_map_filter h test gone xs in
    cond_both (test x) (x ∷ filter test xs) (filter test xs) (λ ys. filter_map h ys ≡ cons_option (h x) (filter_map h xs)) (λ _. ap (cons_option (h x)) rest) (λ no. rw (gone x no) rest)

sources_later : (causes : List RuleCause) (cycle later : ℕ) → cycle ≤ later → list_all (λ source. nat_le source.shift cycle) causes ≡ true → list_all (λ source. nat_le source.shift later) causes ≡ true
sources_later [] cycle later less all = refl
sources_later (source ∷ causes) cycle later less all =
    let parts = and_parts (nat_le source.shift cycle) (list_all (λ (s : RuleCause). nat_le s.shift cycle) causes) all in
    let here : nat_le source.shift later ≡ true = le-leb source.shift later (omega (arith, leb-true source.shift cycle parts.0)) in
    rw (here, sources_later causes cycle later less parts.1) refl

-- what does not exist in a later cycle does not exist in an earlier one
gone_before : {X : Type 0} (now : Bool) (x : X) → (now ≡ true → ⊥) → cond now (Some x) None ≡ None
gone_before true x never = absurd (never refl)
gone_before false x never = refl

rule_gone : (marks cycle later : ℕ) (rule : RuleView) → cycle ≤ later → rule_exists later rule ≡ false → constraint_in marks cycle rule ≡ None
rule_gone marks cycle later rule less gone =
    gone_before (rule_exists cycle rule) (record { kind = rule.kind; target = event_in marks cycle rule.target; causes = map (cause_in marks cycle) rule.causes })
    (λ now. both_ways (rule_exists later rule) gone (sources_later rule.causes cycle later less now))

row_gone : (marks cycle later : ℕ) (row : SheetRow) → cycle ≤ later → row_exists later row ≡ false → row_in marks cycle row ≡ None
row_gone marks cycle later row less gone =
    gone_before (row_exists cycle row) (record { kind = row.kind; from = event_in marks (cycle - row.shift) row.from; to = event_in marks cycle row.to; origin = row.origin })
    (λ now. both_ways (row_exists later row) gone (le-leb row.shift later (omega (arith, leb-true row.shift cycle now))))

origins_gone : (cycle later : ℕ) (rule : RuleView) → cycle ≤ later → rule_exists later rule ≡ false → origins_in cycle rule ≡ None
origins_gone cycle later rule less gone =
    gone_before (rule_exists cycle rule) (map (λ (source : RuleCause). source.origin) rule.causes)
    (λ now. both_ways (rule_exists later rule) gone (sources_later rule.causes cycle later less now))

pub kept_constraints : (marks n : ℕ) (rules : List RuleView) → constraints_of marks (kept_rules n rules) n ≡ constraints_of marks rules n
kept_constraints marks n rules =
    in_cycles_agree _ _ n (λ cycle less. filter_map_filter (constraint_in marks cycle) (λ rule. rule_exists (n - 1) rule) (λ rule gone. rule_gone marks cycle (n - 1) rule (omega (arith, less)) gone) rules)

pub kept_origins : (n : ℕ) (rules : List RuleView) → origins_of (kept_rules n rules) n ≡ origins_of rules n
kept_origins n rules =
    in_cycles_agree _ _ n (λ cycle less. filter_map_filter (origins_in cycle) (λ rule. rule_exists (n - 1) rule) (λ rule gone. origins_gone cycle (n - 1) rule (omega (arith, less)) gone) rules)

pub kept_rows_in : (marks n : ℕ) (rows : List SheetRow) → rows_in marks (kept_rows n rows) n ≡ rows_in marks rows n
kept_rows_in marks n rows =
    in_cycles_agree _ _ n (λ cycle less. filter_map_filter (row_in marks cycle) (λ row. row_exists (n - 1) row) (λ row gone. row_gone marks cycle (n - 1) row (omega (arith, less)) gone) rows)

-- ---- how much there is

-- the sum of a number for each cycle
abbrev total : (ℕ → ℕ) → ℕ → ℕ
total each zero = 0
total each (suc n) = total each n + each n

sum_by_plus : {X : Type 0} (f g : X → ℕ) (xs : List X) → sum_by f xs + sum_by g xs ≡ sum_by (λ x. f x + g x) xs
sum_by_plus f g [] = omega arith
sum_by_plus f g (x ∷ xs) = omega (arith, sum_by-cons f x xs, sum_by-cons g x xs, sum_by-cons (λ x. f x + g x) x xs, sum_by_plus f g xs)

sum_by_none : {X : Type 0} (xs : List X) → sum_by (λ (x : X). 0) xs ≡ 0
sum_by_none [] = refl
sum_by_none {X} (x ∷ xs) = omega (arith, sum_by-cons (λ (x : X). 0) x xs, sum_by_none xs)

sum_by_same : {X : Type 0} (f g : X → ℕ) (xs : List X) → ((x : X) → f x ≡ g x) → sum_by f xs ≡ sum_by g xs
sum_by_same f g [] same = refl
sum_by_same f g (x ∷ xs) same = omega (arith, sum_by-cons f x xs, sum_by-cons g x xs, same x, sum_by_same f g xs same)

-- If the length in each cycle is a sum over some elements, the whole length is the sum of what each element gives in all cycles.
cycles_counted : {X R : Type 0} (each : ℕ → List X) (given : ℕ → R → ℕ) (xs : List R) (n : ℕ) → ((cycle : ℕ) → length (each cycle) ≡ sum_by (given cycle) xs)
    → length (in_cycles each n) ≡ sum_by (λ x. total (λ cycle. given cycle x) n) xs
cycles_counted each given xs zero lengths = sym (sum_by_none xs)
cycles_counted each given xs (suc n) lengths =
    omega (arith, length-append (in_cycles each n) (each n), cycles_counted each given xs n lengths, lengths n, sum_by_plus (λ x. total (λ cycle. given cycle x) n) (given n) xs)

one_counted : {Y : Type 0} (b : Bool) (y : Y) (rest : List Y) → length (cons_option (cond b (Some y) None) rest) ≡ cond b 1 0 + length rest
one_counted true y rest = omega arith
one_counted false y rest = omega arith

-- how much a test lets through
length_given : {X Y : Type 0} (test : X → Bool) (f : X → Y) (xs : List X) → length (filter_map (λ x. cond (test x) (Some (f x)) None) xs) ≡ sum_by (λ x. cond (test x) 1 0) xs
length_given test f [] = refl
length_given test f (x ∷ xs) =
    one_counted (test x) (f x) (filter_map (λ x. cond (test x) (Some (f x)) None) xs) ∙ ap (λ n. cond (test x) 1 0 + n) (length_given test f xs) ∙ sym (sum_by-cons (λ x. cond (test x) 1 0) x xs)

often_is_total : (test : ℕ → Bool) (n : ℕ) → total (λ cycle. cond (test cycle) 1 0) n ≡ how_often test n
often_is_total test zero = refl
often_is_total test (suc n) = ap (λ k. k + cond (test n) 1 0) (often_is_total test n)

pub constraints_counted : (marks n : ℕ) (rules : List RuleView) → length (constraints_of marks rules n) ≡ sum_by (rule_cycles n) rules
constraints_counted marks n rules =
    cycles_counted (λ cycle. filter_map (constraint_in marks cycle) rules) (λ cycle rule. cond (rule_exists cycle rule) 1 0) rules n
    (λ cycle. length_given (rule_exists cycle) (λ (rule : RuleView). record { kind = rule.kind; target = event_in marks cycle rule.target; causes = map (cause_in marks cycle) rule.causes }) rules)
    ∙ sum_by_same _ _ rules (λ rule. often_is_total (λ cycle. rule_exists cycle rule) n)

pub rows_counted : (marks n : ℕ) (rows : List SheetRow) → length (rows_in marks rows n) ≡ sum_by (row_cycles n) rows
rows_counted marks n rows =
    cycles_counted (λ cycle. filter_map (row_in marks cycle) rows) (λ cycle row. cond (row_exists cycle row) 1 0) rows n
    (λ cycle. length_given (row_exists cycle) (λ (row : SheetRow). record { kind = row.kind; from = event_in marks (cycle - row.shift) row.from; to = event_in marks cycle row.to; origin = row.origin }) rows)
    ∙ sum_by_same _ _ rows (λ row. often_is_total (λ cycle. row_exists cycle row) n)

-- ---- constraints with two or more causes

abbrev has_choice : Constraint → Bool
has_choice c = nat_lt 1 (cause_count_of c)

filter_in_cycles : {X : Type 0} (p : X → Bool) (each : ℕ → List X) (n : ℕ) → filter p (in_cycles each n) ≡ in_cycles (λ cycle. filter p (each cycle)) n
filter_in_cycles p each zero = refl
filter_in_cycles p each (suc n) = filter-append p (in_cycles each n) (each n) ∙ ap (λ xs. xs ++ filter p (each n)) (filter_in_cycles p each n)

one_chosen : {Y : Type 0} (p : Y → Bool) (exists many : Bool) (y : Y) (rest : List Y) → p y ≡ many
    → length (filter p (cons_option (cond exists (Some y) None) rest)) ≡ cond many (cond exists 1 0) 0 + length (filter p rest)
one_chosen p true true y rest is = rw is (omega arith)
one_chosen p true false y rest is = rw is (omega arith)
one_chosen p false true y rest is = omega arith
one_chosen p false false y rest is = omega arith

abbrev splittable_in : ℕ → RuleView → ℕ
splittable_in cycle rule = cond (is_splittable rule) (cond (rule_exists cycle rule) 1 0) 0

splittable_of : (marks cycle : ℕ) (rules : List RuleView) → length (filter has_choice (filter_map (constraint_in marks cycle) rules)) ≡ sum_by (splittable_in cycle) rules
splittable_of marks cycle [] = refl
splittable_of marks cycle (rule ∷ rules) =
    one_chosen has_choice (rule_exists cycle rule) (is_splittable rule) (record { kind = rule.kind; target = event_in marks cycle rule.target; causes = map (cause_in marks cycle) rule.causes })
    (filter_map (constraint_in marks cycle) rules) (ap (λ count. nat_lt 1 (named_causes rule.kind count)) (length-map rule.causes (cause_in marks cycle)))
    ∙ ap (λ n. splittable_in cycle rule + n) (splittable_of marks cycle rules) ∙ sym (sum_by-cons (splittable_in cycle) rule rules)

total_chosen : (many : Bool) (test : ℕ → Bool) (n : ℕ) → total (λ cycle. cond many (cond (test cycle) 1 0) 0) n ≡ cond many (how_often test n) 0
total_chosen true test n = often_is_total test n
total_chosen false test zero = refl
total_chosen false test (suc n) = omega (arith, total_chosen false test n)

pub splittable_counted : (events marks n : ℕ) (rules : List RuleView) → splittable_count (record { events = events; constraints = constraints_of marks rules n }) ≡ sum_by (splittable_cycles n) rules
splittable_counted events marks n rules =
    sym (length-filter has_choice (constraints_of marks rules n)) ∙ ap length (filter_in_cycles has_choice (λ cycle. filter_map (constraint_in marks cycle) rules) n)
    ∙ cycles_counted (λ cycle. filter has_choice (filter_map (constraint_in marks cycle) rules)) splittable_in rules n (λ cycle. splittable_of marks cycle rules)
    ∙ sum_by_same _ _ rules (λ rule. total_chosen (is_splittable rule) (λ cycle. rule_exists cycle rule) n)
