-- What holds of the names of sheets holds of the sheet of each part.
use Rattle.std.proofs.Common.{◌≡◌, ℕ, Bool, true, false, ◌||◌, cond, List, [], ◌∷◌, ◌++◌, All, refl, sym, subst}
use Rattle.std.specs.List.{list_any}
use Rattle.std.specs.Str.{bytes_eq}
use Rattle.std.proofs.lemmas.List.Elements.{All-cons, All-head, All-nil, All-tail}
use Rattle.std.proofs.lemmas.Slice.Eq.{bytes_eq-Decides}
use Rattle.netlist.specs.declared.part.Part.{Part}
use Rattle.netlist.specs.Netlist.{names_from, sheet_names, with_name}
use Rattle.itv_base.proofs.Lists.{All-front}

last : {X : Type 0} (P : X → Type 0) (xs : List X) (y : X) → All P (xs ++ y ∷ []) → P y
last P [] y all = All-head P y [] all
last P (x ∷ xs) y all = last P xs y (All-tail P x (xs ++ y ∷ []) all)

-- what holds of all names holds of a name that is among them
among : (P : List ℕ → Type 0) (name : List ℕ) (names : List (List ℕ)) → All P names → list_any (bytes_eq name) names ≡ true → P name
among P name [] all found = absurd cc
among P name (other ∷ names) all found = at (bytes_eq name other) refl found (among P name names (All-tail P other names all)) (All-head P other names all)
  where
    at : (b : Bool) → bytes_eq name other ≡ b → (b || list_any (bytes_eq name) names) ≡ true → (list_any (bytes_eq name) names ≡ true → P name) → P other → P name
    at true same found more here = subst P (sym ((bytes_eq-Decides name other).0 same)) here
    at false apart found more here = more found

module _ (P : List ℕ → Type 0) where
  -- what holds of some names with one more holds of this one
  name_holds : (names : List (List ℕ)) (name : List ℕ) (b : Bool) → list_any (bytes_eq name) names ≡ b → All P (cond b names (names ++ name ∷ [])) → P name
  name_holds names name true found all = among P name names all found
  name_holds names name false new all = last P names name all

  names_hold : (names : List (List ℕ)) (name : List ℕ) (b : Bool) → All P (cond b names (names ++ name ∷ [])) → All P names
  names_hold names name true all = all
  names_hold names name false all = All-front P names (name ∷ []) all

  -- what holds of the names before the parts and of the names of their sheets holds of the names before the parts
  before_hold : (names : List (List ℕ)) (parts : List Part) → All P (names_from names parts) → All P names
  before_hold names [] all = all
  before_hold names (part ∷ parts) all = names_hold names part.sheet (list_any (bytes_eq part.sheet) names) (before_hold (with_name names part.sheet) parts all)

  sheets_hold_from : (names : List (List ℕ)) (parts : List Part) → All P (names_from names parts) → All (λ (part : Part). P part.sheet) parts
  sheets_hold_from names [] all = All-nil (λ (part : Part). P part.sheet)
  sheets_hold_from names (part ∷ parts) all =
      All-cons (λ (part : Part). P part.sheet) part parts (name_holds names part.sheet (list_any (bytes_eq part.sheet) names) refl (before_hold (with_name names part.sheet) parts all))
      (sheets_hold_from (with_name names part.sheet) parts all)

  -- what holds of each name of a sheet holds of the sheet of each part
  pub sheets_hold : (parts : List Part) → All P (sheet_names parts) → All (λ (part : Part). P part.sheet) parts
  sheets_hold parts all = sheets_hold_from [] parts all
