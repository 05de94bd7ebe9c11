-- What the joins of a design give, as leads.
use Rattle.std.proofs.Common.{◌≡◌, Bool, true, false, cond, List, [], ◌∷◌, ◌++◌, Option, Some, None, find, option_map, refl, ap, sym, ◌∙◌}
use Rattle.std.specs.Prelude.{slice_get, unwrap_or}
use Rattle.std.specs.List.{flat_map}
use Rattle.std.proofs.lemmas.List.Concat.{flat_map-append}
use Rattle.itv_base.specs.declared.names.RuleKind.TheVariants.{Lin}
use Rattle.sheet.specs.Rule.{RuleView}
use Rattle.sheet.specs.SheetContents.{SheetView}
use Rattle.compose.specs.declared.joins.Join.{Join}
use Rattle.lint.specs.declared.lead.Lead.{Lead}
use Rattle.lint.specs.declared.warning.Warning.{Warning}
use Rattle.lint.specs.Driven.{drives_too, holds, join_drivers, own_by, own_join, two_drivers}
use Rattle.lint.specs.Leads.{join_leads}
use Rattle.lint.specs.Lists.{each_behind}
use Rattle.lint.specs.Step.{drivers_at, lead_drivers, meets, own_on, own_with}

abbrev lead_of : Join → Lead
lead_of join = record { from = join.from; to = join.to; kind = Lin; shift = 0; range = join.delay; origin = join.origin }

-- ---- two drivers

two_by : (join other : Join) (b : Bool) (found : Option Join) (others : Option Lead) → two_drivers join found ≡ drivers_at (lead_of join) others
    → two_drivers join (cond b (Some other) found) ≡ drivers_at (lead_of join) (cond b (Some (lead_of other)) others)
two_by join other true found others rest = refl
two_by join other false found others rest = rest

one_driven : (join : Join) (before : List Join) → join_drivers before join ≡ lead_drivers (flat_map join_leads before) (lead_of join)
one_driven join [] = refl
one_driven join (other ∷ before) =
    two_by join other (drives_too join other) (find (drives_too join) before) (find (meets (lead_of join)) (flat_map join_leads before)) (one_driven join before)

all_driven : (before joins : List Join) → each_behind join_drivers before joins ≡ each_behind lead_drivers (flat_map join_leads before) (flat_map join_leads joins)
all_driven before [] = refl
all_driven before (join ∷ joins) =
    ap (λ (ys : List Warning). ys ++ each_behind join_drivers (before ++ join ∷ []) joins) (one_driven join before)
    ∙ ap (λ (ys : List Warning). lead_drivers (flat_map join_leads before) (lead_of join) ++ ys)
    (all_driven (before ++ join ∷ []) joins ∙ ap (λ (leads : List Lead). each_behind lead_drivers leads (flat_map join_leads joins)) (flat_map-append join_leads before (join ∷ [])))

-- the leads of joins give the warnings of joins
pub joins_driven : (joins : List Join) → each_behind lead_drivers [] (flat_map join_leads joins) ≡ each_behind join_drivers [] joins
joins_driven joins = sym (all_driven [] joins)

-- ---- rules of their own

own_same : (join : Join) (rule : Option RuleView) → own_with (lead_of join) rule ≡ own_by join rule
own_same join None = refl
own_same join (Some rule) = refl

own_there : (join : Join) (sheet : Option SheetView) → own_on (lead_of join) sheet ≡ own_by join (find (holds join.to.mark) (unwrap_or (option_map (λ (s : SheetView). s.rules) sheet) []))
own_there join None = refl
own_there join (Some sheet) = own_same join (find (holds join.to.mark) sheet.rules)

-- the leads of joins give the warnings of rules of their own
pub joins_own : (sheets : List SheetView) (joins : List Join) → flat_map (λ (lead : Lead). own_on lead (slice_get sheets lead.to.part)) (flat_map join_leads joins) ≡ flat_map (own_join sheets) joins
joins_own sheets [] = refl
joins_own sheets (join ∷ joins) =
    ap (λ (ys : List Warning). ys ++ flat_map (λ (lead : Lead). own_on lead (slice_get sheets lead.to.part)) (flat_map join_leads joins)) (own_there join (slice_get sheets join.to.part))
    ∙ ap (λ (ys : List Warning). own_join sheets join ++ ys) (joins_own sheets joins)
