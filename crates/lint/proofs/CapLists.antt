-- Rules that cap marks, as leads.
use Rattle.std.proofs.Common.{◌≡◌, ℕ, zero, suc, ◌+◌, ◌<◌, ◌≤◌, Bool, true, false, not, ◌&&◌, cond, List, [], ◌∷◌, ◌++◌, Option, Some, None, find, option_map, refl, ap, sym, ◌∙◌, append-nil, append_assoc, eq-eqb, ne_eqb, arith}
use Rattle.std.specs.Prelude.{◌==◌, slice_get, unwrap_or}
use Rattle.std.specs.List.{flat_map}
use Rattle.std.specs.Option.{option_map_or, option_or, option_to_list}
use Rattle.std.proofs.lemmas.Bool.{and_left, and_right, both_ways}
use Rattle.std.proofs.lemmas.List.Concat.{flat_map-append}
use Rattle.std.proofs.lemmas.List.Folds.{find-append}
use Rattle.origin.specs.declared.origin.Origin.{Origin}
use Rattle.sheet.specs.declared.rule.RuleCause.{RuleCause}
use Rattle.sheet.specs.Rule.{RuleView}
use Rattle.sheet.specs.SheetContents.{SheetView}
use Rattle.lint.specs.declared.first_two.FirstTwo.{FirstTwo}
use Rattle.lint.specs.declared.lead.Lead.{Lead}
use Rattle.lint.specs.declared.warning.Warning.{Warning}
use Rattle.lint.specs.Kinds.{both_of}
use Rattle.lint.specs.Leads.{is_at}
use Rattle.lint.specs.Lists.{each_behind, each_from, netlist_part, spot}
use Rattle.lint.specs.Rules.{across_by, across_on, both_in, caps_too, comes_along, draws_skew, drawn_by, from_mark, is_cap, is_upper, is_wire_cap, lead_across, meet, of_two, rule_both, same_mark, sheet_both}
use Rattle.lint.specs.Step.{AreFirstTwo, both_at, cap_both, cap_lead, caps_in, lead_met, meets, rule_caps, sheet_caps}
use Rattle.lint.proofs.EachLists.{each_behind_append, flat_same}
use Rattle.lint.proofs.FirstLists.{and_true, eqb_sym, eqb_same, find_none, or_none}
use Rattle.lint.proofs.FirstTwoLists.{met_is}

-- ---- rules as caps

abbrev mark_in : Option RuleCause → Option ℕ
mark_in source = option_map (λ (s : RuleCause). s.mark) source

abbrev origin_in : Option RuleCause → Option Origin
origin_in source = option_map (λ (s : RuleCause). s.origin) source

-- a cap has a cause
cap_caused : (texts : List (List ℕ)) (rule : RuleView) → is_cap texts rule ≡ true → slice_get rule.causes 0 ≡ None → ⊥
cap_caused texts rule is none =
    let skew = not (option_map_or (draws_skew texts) (drawn_by rule) false) in
    both_ways (is_cap texts rule) (and_right (is_upper rule) (not (same_mark (from_mark rule) (Some rule.target)) && skew) (ap (λ (o : Option RuleCause). not (same_mark (mark_in o) (Some rule.target)) && skew) none)) is

-- the caps of one part
part_cap : (lead : Lead) (part : ℕ) (rule : RuleView) → (part ≡ lead.to.part → ⊥) → (b : Bool) (source : Option RuleCause)
    → find (meets lead) (cond b (option_to_list (option_map (cap_lead part rule) source)) []) ≡ None
part_cap lead part rule apart false source = refl
part_cap lead part rule apart true None = refl
part_cap lead part rule apart true (Some s) =
    ap (λ b. cond b (Some (cap_lead part rule s)) None)
    (and_left (is_at (cap_lead part rule s).to lead.to) (not (is_at (cap_lead part rule s).from lead.from)) (and_left (part == lead.to.part) (rule.target == lead.to.mark) (ne_eqb part lead.to.part apart)))

-- a lead into another part meets none
other_part : (lead : Lead) (part : ℕ) (texts : List (List ℕ)) → (part ≡ lead.to.part → ⊥) → (rules : List RuleView) → find (meets lead) (caps_in part texts rules) ≡ None
other_part lead part texts apart [] = refl
other_part lead part texts apart (rule ∷ rules) =
    find-append (meets lead) (rule_caps part texts rule) (caps_in part texts rules)
    ∙ ap (λ (o : Option Lead). option_or o (find (meets lead) (caps_in part texts rules))) (part_cap lead part rule apart (is_cap texts rule) (slice_get rule.causes 0))
    ∙ other_part lead part texts apart rules

-- ---- two rules of one sheet

-- the warning of two rules, given by their first causes
abbrev two_sources : ℕ → Option RuleCause → Option RuleCause → List Warning
two_sources part mine theirs = option_to_list (option_map (λ origin. both_of (spot part origin) (spot part (unwrap_or (origin_in mine) origin))) (origin_in theirs))

abbrev meet_by : ℕ → ℕ → Option RuleCause → Option RuleCause → Bool → Bool → Bool
meet_by target other mine theirs a b = target == other && (not (same_mark (mark_in mine) (mark_in theirs)) && (a && b))

module _ (part : ℕ) (texts : List (List ℕ)) (rule : RuleView) (source : RuleCause) (is : is_cap texts rule ≡ true) (at : slice_get rule.causes 0 ≡ Some source) where
  cap_meets : (r : RuleView) (s : RuleCause) → is_cap texts r ≡ true → slice_get r.causes 0 ≡ Some s → meet texts rule r ≡ meets (cap_lead part rule source) (cap_lead part r s)
  cap_meets r s other there =
      ap (λ (o : Option RuleCause). meet_by rule.target r.target o (slice_get r.causes 0) (is_cap texts rule) (is_cap texts r)) at
      ∙ ap (λ (o : Option RuleCause). meet_by rule.target r.target (Some source) o (is_cap texts rule) (is_cap texts r)) there
      ∙ ap (λ b. meet_by rule.target r.target (Some source) (Some s) b (is_cap texts r)) is
      ∙ ap (λ b. meet_by rule.target r.target (Some source) (Some s) true b) other
      ∙ ap (λ b. rule.target == r.target && b) (and_true (not (source.mark == s.mark)))
      ∙ ap (λ b. b && not (source.mark == s.mark)) (eqb_sym rule.target r.target)
      ∙ ap (λ b. r.target == rule.target && not b) (eqb_sym source.mark s.mark)
      ∙ ap (λ b. (b && r.target == rule.target) && not (b && s.mark == source.mark)) (sym (eqb_same part))

  both_one : (r : RuleView) (s : RuleCause) → slice_get r.causes 0 ≡ Some s → (b : Bool) (found : Option RuleView) (others : Option Lead)
      → of_two part rule found ≡ both_at (spot part source.origin) others → of_two part rule (cond b (Some r) found) ≡ both_at (spot part source.origin) (cond b (Some (cap_lead part r s)) others)
  both_one r s there true found others rest =
      ap (λ (o : Option RuleCause). two_sources part (slice_get rule.causes 0) o) there ∙ ap (λ (o : Option RuleCause). two_sources part o (Some s)) at
  both_one r s there false found others rest = rest

  -- no cap is no rule that the rule meets
  meets_caps : (r : RuleView) → is_cap texts r ≡ false → meet texts rule r ≡ false
  meets_caps r other =
      and_right (rule.target == r.target) (not (same_mark (from_mark rule) (from_mark r)) && (is_cap texts rule && is_cap texts r))
      (and_right (not (same_mark (from_mark rule) (from_mark r))) (is_cap texts rule && is_cap texts r) (and_right (is_cap texts rule) (is_cap texts r) other))

  both_next : (r : RuleView) (found : Option RuleView) (caps : List Lead) → of_two part rule found ≡ both_at (spot part source.origin) (find (meets (cap_lead part rule source)) caps)
      → (b : Bool) → is_cap texts r ≡ b → (there : Option RuleCause) → slice_get r.causes 0 ≡ there
      → of_two part rule (cond (meet texts rule r) (Some r) found)
      ≡ both_at (spot part source.origin) (find (meets (cap_lead part rule source)) (cond b (option_to_list (option_map (cap_lead part r) there)) [] ++ caps))
  both_next r found caps rest false other there same = ap (λ b. of_two part rule (cond b (Some r) found)) (meets_caps r other) ∙ rest
  both_next r found caps rest true other None same = absurd (cap_caused texts r other same)
  both_next r found caps rest true other (Some s) same =
      ap (λ b. of_two part rule (cond b (Some r) found)) (cap_meets r s other same)
      ∙ both_one r s same (meets (cap_lead part rule source) (cap_lead part r s)) found (find (meets (cap_lead part rule source)) caps) rest

  both_found : (before : List RuleView) → of_two part rule (find (meet texts rule) before) ≡ both_at (spot part source.origin) (find (meets (cap_lead part rule source)) (caps_in part texts before))
  both_found [] = refl
  both_found (r ∷ before) = both_next r (find (meet texts rule) before) (caps_in part texts before) (both_found before) (is_cap texts r) refl (slice_get r.causes 0) refl

-- ---- all rules of one sheet, after caps of other parts

module _ (part : ℕ) (texts : List (List ℕ)) (front : List Lead) (apart : (lead : Lead) → lead.to.part ≡ part → find (meets lead) front ≡ None) where
  one_by : (before : List RuleView) (rule : RuleView) (b : Bool) → is_cap texts rule ≡ b → (source : Option RuleCause) → slice_get rule.causes 0 ≡ source
      → rule_both part texts before rule ≡ each_behind cap_both (front ++ caps_in part texts before) (cond b (option_to_list (option_map (cap_lead part rule) source)) [])
  one_by before rule false other source same =
      ap (of_two part rule) (find_none (meet texts rule) (λ r. and_right (rule.target == r.target) (not (same_mark (from_mark rule) (from_mark r)) && (is_cap texts rule && is_cap texts r))
      (and_right (not (same_mark (from_mark rule) (from_mark r))) (is_cap texts rule && is_cap texts r) (and_left (is_cap texts rule) (is_cap texts r) other))) before)
  one_by before rule true is None same = absurd (cap_caused texts rule is same)
  one_by before rule true is (Some s) same =
      let cap : Lead = cap_lead part rule s in
      let within : find (meets cap) (front ++ caps_in part texts before) ≡ find (meets cap) (caps_in part texts before) =
      find-append (meets cap) front (caps_in part texts before) ∙ ap (λ (o : Option Lead). option_or o (find (meets cap) (caps_in part texts before))) (apart cap refl) in
      both_found part texts rule s is same before ∙ ap (both_at (spot part s.origin)) (sym within) ∙ sym (append-nil (cap_both (front ++ caps_in part texts before) cap))

  rules_both : (before rules : List RuleView) → each_behind (rule_both part texts) before rules ≡ each_behind cap_both (front ++ caps_in part texts before) (caps_in part texts rules)
  rules_both before [] = refl
  rules_both before (rule ∷ rules) =
      let behind : List Lead = front ++ caps_in part texts before in
      let more : caps_in part texts (before ++ rule ∷ []) ≡ caps_in part texts before ++ rule_caps part texts rule =
      flat_map-append (rule_caps part texts) before (rule ∷ []) ∙ ap (λ (caps : List Lead). caps_in part texts before ++ caps) (append-nil (rule_caps part texts rule)) in
      let grown : front ++ caps_in part texts (before ++ rule ∷ []) ≡ behind ++ rule_caps part texts rule =
      ap (λ (caps : List Lead). front ++ caps) more ∙ sym (append_assoc front (caps_in part texts before) (rule_caps part texts rule)) in
      ap (λ (ys : List Warning). ys ++ each_behind (rule_both part texts) (before ++ rule ∷ []) rules) (one_by before rule (is_cap texts rule) refl (slice_get rule.causes 0) refl)
      ∙ ap (λ (ys : List Warning). each_behind cap_both behind (rule_caps part texts rule) ++ ys)
      (rules_both (before ++ rule ∷ []) rules ∙ ap (λ (caps : List Lead). each_behind cap_both caps (caps_in part texts rules)) grown)
      ∙ sym (each_behind_append cap_both behind (rule_caps part texts rule) (caps_in part texts rules))

-- the caps of the netlist give its warnings
pub netlist_caps : (texts : List (List ℕ)) (rules : List RuleView) → each_behind cap_both [] (caps_in netlist_part texts rules) ≡ both_in netlist_part texts rules
netlist_caps texts rules = sym (rules_both netlist_part texts [] (λ lead is. refl) [] rules)

-- ---- the sheets

-- a lead into the part of a number, or into a later one, meets none of some caps
abbrev MeetNone : ℕ → List Lead → Type 0
MeetNone part caps = (lead : Lead) → part ≤ lead.to.part → find (meets lead) caps ≡ None

none_more : (part : ℕ) (front : List Lead) (texts : List (List ℕ)) (rules : List RuleView) → MeetNone part front → MeetNone (part + 1) (front ++ caps_in part texts rules)
none_more part front texts rules none = λ lead later.
    find-append (meets lead) front (caps_in part texts rules) ∙ ap (λ (o : Option Lead). option_or o (find (meets lead) (caps_in part texts rules))) (none lead (omega (arith, later)))
    ∙ other_part lead part texts (λ same. omega (arith, later, same)) rules

sheets_behind : (part : ℕ) (front : List Lead) (sheets : List SheetView) → MeetNone part front → each_from sheet_both part sheets ≡ each_behind cap_both front (each_from sheet_caps part sheets)
sheets_behind part front [] none = refl
sheets_behind part front (sheet ∷ sheets) none =
    let first : sheet_both part sheet ≡ each_behind cap_both front (sheet_caps part sheet) =
    rules_both part sheet.edges front (λ lead same. none lead (omega (arith, same))) [] sheet.rules ∙ ap (λ (caps : List Lead). each_behind cap_both caps (sheet_caps part sheet)) (append-nil front) in
    ap (λ (ys : List Warning). ys ++ each_from sheet_both (part + 1) sheets) first
    ∙ ap (λ (ys : List Warning). each_behind cap_both front (sheet_caps part sheet) ++ ys) (sheets_behind (part + 1) (front ++ sheet_caps part sheet) sheets (none_more part front sheet.edges sheet.rules none))
    ∙ sym (each_behind_append cap_both front (sheet_caps part sheet) (each_from sheet_caps (part + 1) sheets))

-- the caps of the sheets give the warnings of the sheets
pub sheets_caps : (sheets : List SheetView) → each_behind cap_both [] (each_from sheet_caps 0 sheets) ≡ each_from sheet_both 0 sheets
sheets_caps sheets = sym (sheets_behind 0 [] sheets (λ lead later. refl))

-- ---- wires into marks that rules of their sheets cap

module _ (lead : Lead) where
  later_none : (part : ℕ) (sheets : List SheetView) → lead.to.part < part → find (meets lead) (each_from sheet_caps part sheets) ≡ None
  later_none part [] later = refl
  later_none part (sheet ∷ sheets) later =
      find-append (meets lead) (sheet_caps part sheet) (each_from sheet_caps (part + 1) sheets)
      ∙ ap (λ (o : Option Lead). option_or o (find (meets lead) (each_from sheet_caps (part + 1) sheets))) (other_part lead part sheet.edges (λ same. omega (arith, later, same)) sheet.rules)
      ∙ later_none (part + 1) sheets (omega (arith, later))

  module _ (part : ℕ) (here : part ≡ lead.to.part) (texts : List (List ℕ)) where
    across_meets : (r : RuleView) (s : RuleCause) → is_cap texts r ≡ true → slice_get r.causes 0 ≡ Some s → caps_too texts lead r ≡ meets lead (cap_lead part r s)
    across_meets r s other there =
        ap (λ (o : Option RuleCause). r.target == lead.to.mark && (not (lead.from.part == lead.to.part && same_mark (mark_in o) (Some lead.from.mark)) && is_cap texts r)) there
        ∙ ap (λ b. r.target == lead.to.mark && (not (lead.from.part == lead.to.part && s.mark == lead.from.mark) && b)) other
        ∙ ap (λ b. r.target == lead.to.mark && b) (and_true (not (lead.from.part == lead.to.part && s.mark == lead.from.mark)))
        ∙ ap (λ b. r.target == lead.to.mark && not (b && s.mark == lead.from.mark)) (eqb_sym lead.from.part lead.to.part ∙ ap (λ n. n == lead.from.part) (sym here))
        ∙ ap (λ b. (b && r.target == lead.to.mark) && not (part == lead.from.part && s.mark == lead.from.mark)) (sym (eq-eqb part lead.to.part here))

    across_one : (r : RuleView) (s : RuleCause) → slice_get r.causes 0 ≡ Some s → (b : Bool) (found : Option RuleView) (others : Option Lead)
        → both_at (spot netlist_part lead.origin) others ≡ across_by lead found
        → both_at (spot netlist_part lead.origin) (cond b (Some (cap_lead part r s)) others) ≡ across_by lead (cond b (Some r) found)
    across_one r s there true found others rest =
        ap (λ n. both_of (spot n s.origin) (spot netlist_part lead.origin) ∷ []) here
        ∙ ap (λ (o : Option RuleCause). option_to_list (option_map (λ origin. both_of (spot lead.to.part origin) (spot netlist_part lead.origin)) (origin_in o))) (sym there)
    across_one r s there false found others rest = rest

    across_next : (r : RuleView) (found : Option RuleView) (caps : List Lead) → both_at (spot netlist_part lead.origin) (find (meets lead) caps) ≡ across_by lead found
        → (b : Bool) → is_cap texts r ≡ b → (there : Option RuleCause) → slice_get r.causes 0 ≡ there
        → both_at (spot netlist_part lead.origin) (find (meets lead) (cond b (option_to_list (option_map (cap_lead part r) there)) [] ++ caps)) ≡ across_by lead (cond (caps_too texts lead r) (Some r) found)
    across_next r found caps rest false other there same =
        rest ∙ ap (λ b. across_by lead (cond b (Some r) found)) (sym (and_right (r.target == lead.to.mark) (not (comes_along lead r) && is_cap texts r) (and_right (not (comes_along lead r)) (is_cap texts r) other)))
    across_next r found caps rest true other None same = absurd (cap_caused texts r other same)
    across_next r found caps rest true other (Some s) same =
        across_one r s same (meets lead (cap_lead part r s)) found (find (meets lead) caps) rest ∙ ap (λ b. across_by lead (cond b (Some r) found)) (sym (across_meets r s other same))

    across_found : (rules : List RuleView) → both_at (spot netlist_part lead.origin) (find (meets lead) (caps_in part texts rules)) ≡ across_by lead (find (caps_too texts lead) rules)
    across_found [] = refl
    across_found (r ∷ rules) = across_next r (find (caps_too texts lead) rules) (caps_in part texts rules) (across_found rules) (is_cap texts r) refl (slice_get r.causes 0) refl

  across_at : (part n : ℕ) (sheets : List SheetView) → lead.to.part ≡ part + n
      → both_at (spot netlist_part lead.origin) (find (meets lead) (each_from sheet_caps part sheets)) ≡ across_on lead (slice_get sheets n)
  across_at part n [] is = refl
  across_at part zero (sheet ∷ sheets) is =
      ap (both_at (spot netlist_part lead.origin))
      (find-append (meets lead) (sheet_caps part sheet) (each_from sheet_caps (part + 1) sheets)
      ∙ ap (option_or (find (meets lead) (sheet_caps part sheet))) (later_none (part + 1) sheets (omega (arith, is))) ∙ or_none (find (meets lead) (sheet_caps part sheet)))
      ∙ across_found part (omega (arith, is)) sheet.edges sheet.rules
  across_at part (suc n) (sheet ∷ sheets) is =
      ap (both_at (spot netlist_part lead.origin))
      (find-append (meets lead) (sheet_caps part sheet) (each_from sheet_caps (part + 1) sheets)
      ∙ ap (λ (o : Option Lead). option_or o (find (meets lead) (each_from sheet_caps (part + 1) sheets))) (other_part lead part sheet.edges (λ same. omega (arith, is, same)) sheet.rules))
      ∙ across_at (part + 1) n sheets (omega (arith, is))

met_across : (sheets : List SheetView) (tables : FirstTwo) → AreFirstTwo tables (each_from sheet_caps 0 sheets) → (texts : List (List ℕ)) (lead : Lead) → lead_met tables texts lead ≡ lead_across sheets texts lead
met_across sheets tables are texts lead =
    ap (λ (ys : List Warning). cond (is_wire_cap texts lead) ys [])
    (ap (both_at (spot netlist_part lead.origin)) (met_is tables (each_from sheet_caps 0 sheets) are lead) ∙ across_at lead 0 lead.to.part sheets (omega arith))

-- tables of the caps of the sheets give the warnings of wires
pub leads_met : (sheets : List SheetView) (tables : FirstTwo) → AreFirstTwo tables (each_from sheet_caps 0 sheets) → (texts : List (List ℕ)) (leads : List Lead)
    → flat_map (lead_met tables texts) leads ≡ flat_map (lead_across sheets texts) leads
leads_met sheets tables are texts leads = flat_same (lead_met tables texts) (lead_across sheets texts) (met_across sheets tables are texts) leads
