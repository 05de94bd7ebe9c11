-- Where the sheets of parts stand, and the part with a name.
use Rattle.std.proofs.Common.{◌≡◌, ℕ, ◌+◌, ◌<◌, Bool, List, [], ◌∷◌, ◌++◌, length, take, get_or, ltb, Option, Some, None, IsSome, option_map, find, position, slice_get, sym, ap, ◌∙◌, refl}
use Rattle.std.specs.Prelude.{option_and_then}
use Rattle.std.specs.List.{position_or_len}
use Rattle.std.specs.Map.{values_of}
use Rattle.std.specs.Str.{bytes_eq}
use Rattle.std.proofs.lemmas.Bool.{cond_both, ltb-false}
use Rattle.std.proofs.lemmas.List.{length-map, map_push, take_more}
use Rattle.std.proofs.lemmas.List.Folds.{find_at}
use Rattle.std.proofs.lemmas.Option.{slice_get-get_or, slice_get-map, slice_get_past, slice_get_read}
use Rattle.netlist.specs.declared.part.Part.{Part}
use Rattle.sheet.specs.SheetContents.{SheetView}
use Rattle.compose.specs.Nets.{part_named}
use Rattle.compose.specs.Sheets.{key_of}
use Rattle.compose.specs.declared.sheet_key.SheetKey.{SheetKey}
use Rattle.design_plan.specs.Notes.{edge_named, edge_on}
use Rattle.design_plan.specs.Plan.{IsPlan, NamedSheets, PlanView, sheet_among}
use Rattle.design_plan.specs.Step.{ArePartPlaces}

-- the element at the first place where a test is met is the first element that meets it
found_at : {X : Type 0} (p : X → Bool) (xs : List X) → option_and_then (slice_get xs) (position p xs) ≡ find p xs
found_at p xs =
    cond_both (ltb (position_or_len p xs) (length xs)) (Some (position_or_len p xs)) None (λ o. option_and_then (slice_get xs) o ≡ find p xs)
    (λ _. sym (find_at p xs))
    (λ past. sym (find_at p xs ∙ slice_get_past xs (position_or_len p xs) (ltb-false (position_or_len p xs) (length xs) past)))

-- the place of one more part
pub places_more : (sheets : NamedSheets) (parts : List Part) (k : ℕ) (part : Part) (places more : List ℕ) (place : ℕ) → k < length parts → part ≡ get_or parts k part
    → ArePartPlaces sheets (take k parts) places → slice_get (values_of sheets) place ≡ sheet_among sheets (key_of part) → more ≡ places ++ place ∷ []
    → ArePartPlaces sheets (take (k + 1) parts) more
places_more sheets parts k part places more place within is before found grown =
    let front : take (k + 1) parts ≡ take k parts ++ part ∷ [] = take_more parts k part within ∙ ap (λ x. take k parts ++ x ∷ []) (sym is) in
    rw (grown, front, map_push, map_push, before, found) refl

-- the sheet at the place of a part is the sheet of the part
place_read : (sheets : NamedSheets) (parts : List Part) (places : List ℕ) (k place : ℕ) → ArePartPlaces sheets parts places → slice_get places k ≡ Some place
    → option_and_then (λ (part : Part). sheet_among sheets (key_of part)) (slice_get parts k) ≡ slice_get (values_of sheets) place
place_read sheets parts places k place are read =
    flat (slice_get parts k) (slice_get (values_of sheets) place)
    (sym (slice_get-map (λ (part : Part). sheet_among sheets (key_of part)) parts k) ∙ sym (ap (λ (found : List (Option SheetView)). slice_get found k) are)
    ∙ slice_get-map (slice_get (values_of sheets)) places k ∙ ap (option_map (slice_get (values_of sheets))) read)
  where
    flat : (part : Option Part) (found : Option SheetView) → option_map (λ (part : Part). sheet_among sheets (key_of part)) part ≡ Some found
        → option_and_then (λ (part : Part). sheet_among sheets (key_of part)) part ≡ found
    flat None found e = absurd (cc e)
    flat (Some part) found e = cc e

module _ (plan : PlanView) (places : List ℕ) (whole : IsPlan plan) (are : ArePartPlaces plan.sheets plan.netlist.parts places) (k place : ℕ) (within : k < length plan.netlist.parts) (read : place ≡ get_or places k place) where
  place_at : slice_get places k ≡ Some place
  place_at =
      let counts : length places ≡ length plan.netlist.parts =
      sym (length-map places (slice_get (values_of plan.sheets))) ∙ ap (λ (found : List (Option SheetView)). length found) are ∙ length-map plan.netlist.parts (λ (part : Part). sheet_among plan.sheets (key_of part)) in
      slice_get_read places (length plan.netlist.parts) k place (sym counts) within read

  sheet_of : option_and_then (λ (part : Part). sheet_among plan.sheets (key_of part)) (slice_get plan.netlist.parts k) ≡ option_map (λ (e : SheetKey × SheetView). e.1) (slice_get plan.sheets place)
  sheet_of = place_read plan.sheets plan.netlist.parts places k place are place_at ∙ slice_get-map (λ (e : SheetKey × SheetView). e.1) plan.sheets place

  -- a sheet stands at the place of each part
  pub sheet_stands : None ≡ slice_get plan.sheets place → ⊥
  sheet_stands none =
      let some : Part = record { name = []; sheet = []; grade = None } in
      let there : IsSome (sheet_among plan.sheets (key_of (get_or plan.netlist.parts k some))) = whole k some within in
      let is : sheet_among plan.sheets (key_of (get_or plan.netlist.parts k some)) ≡ None =
      ap (option_and_then (λ (part : Part). sheet_among plan.sheets (key_of part))) (sym (slice_get-get_or plan.netlist.parts k some within)) ∙ sheet_of ∙ ap (option_map (λ (e : SheetKey × SheetView). e.1)) (sym none) in
      none_there (sheet_among plan.sheets (key_of (get_or plan.netlist.parts k some))) there is
    where
      none_there : (found : Option SheetView) → IsSome found → found ≡ None → ⊥
      none_there None some is = cc some
      none_there (Some sheet) some is = cc is

  -- and this sheet is the sheet of the part
  pub sheet_found : (key : SheetKey) (sheet : SheetView) → Some (key, sheet) ≡ slice_get plan.sheets place
      → option_and_then (λ (part : Part). sheet_among plan.sheets (key_of part)) (slice_get plan.netlist.parts k) ≡ Some sheet
  sheet_found key sheet is = sheet_of ∙ ap (option_map (λ (e : SheetKey × SheetView). e.1)) (sym is)

-- ---- edges by the name of a part

module _ (plan : PlanView) (name : List ℕ) (n : ℕ) where
  by_number : (number : Option ℕ) → part_named plan.netlist.parts name ≡ number
      → edge_named plan name n ≡ option_and_then (λ (part : Part). edge_on plan part n) (option_and_then (slice_get plan.netlist.parts) number)
  by_number number is = ap (option_and_then (λ (part : Part). edge_on plan part n)) (sym (found_at (λ (part : Part). bytes_eq name part.name) plan.netlist.parts) ∙ ap (option_and_then (slice_get plan.netlist.parts)) is)

  -- there is no part with the name
  pub edge_nowhere : part_named plan.netlist.parts name ≡ None → None ≡ edge_named plan name n
  edge_nowhere is = sym (by_number None is)

  -- the sheet of the part is known
  pub edge_there : (number : ℕ) (sheet : SheetView) → part_named plan.netlist.parts name ≡ Some number
      → option_and_then (λ (part : Part). sheet_among plan.sheets (key_of part)) (slice_get plan.netlist.parts number) ≡ Some sheet → slice_get sheet.edges n ≡ edge_named plan name n
  edge_there number sheet is has = sym (by_number (Some number) is ∙ on (slice_get plan.netlist.parts number) has)
    where
      on : (part : Option Part) → option_and_then (λ (part : Part). sheet_among plan.sheets (key_of part)) part ≡ Some sheet → option_and_then (λ (part : Part). edge_on plan part n) part ≡ slice_get sheet.edges n
      on None e = absurd (cc e)
      on (Some part) e = rw e refl
