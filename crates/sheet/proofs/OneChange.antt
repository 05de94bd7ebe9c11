-- A map that changes only at the element that passes a test.
use Rattle.std.proofs.Common.{◌≡◌, ℕ, ◌+◌, ◌<◌, Bool, true, false, cond, List, [], ◌∷◌, ◌++◌, length, map, set, get_or, Some, refl, sym, ◌∙◌, arith}
use Rattle.std.specs.List.{list_any, position_from}
use Rattle.std.proofs.lemmas.List.{append_assoc, length-append, length_push, set_at, get_or_at}
use Rattle.std.proofs.lemmas.Option.{same_Some}
use Rattle.sheet.proofs.Lists.{AtMostOne, map_none}

-- The elements of f stand after others. From f to g they change only at this place, where the element that passes stands.
pub record ChangesAt {X Y : Type 0} (f g : X → Y) (p : X → Bool) (front : List Y) (xs : List X) (place : ℕ) : Type 0 where
  pub element : X
  pub passes : p element ≡ true
  pub within : place < length (front ++ map f xs)
  pub stands : (d : Y) → get_or (front ++ map f xs) place d ≡ f element
  pub after : front ++ map g xs ≡ set (front ++ map f xs) place (g element)

changes_here : {X Y : Type 0} (f g : X → Y) (p : X → Bool) (front : List Y) (x : X) (xs : List X) (place : ℕ) → length front ≡ place → p x ≡ true
    → map g xs ≡ map f xs → ChangesAt f g p front (x ∷ xs) place
changes_here f g p front x xs place long passes rest = record {
  element = x;
  passes = passes;
  within = omega (arith, long, length-append front (f x ∷ map f xs));
  stands = λ d. get_or_at front (f x) (map f xs) d place long;
  after = rw (rest, set_at front (f x) (map f xs) (g x) place long);
}

changes_behind : {X Y : Type 0} (f g : X → Y) (p : X → Bool) (front : List Y) (x : X) (xs : List X) (place : ℕ) → g x ≡ f x
    → ChangesAt f g p (front ++ f x ∷ []) xs place → ChangesAt f g p front (x ∷ xs) place
changes_behind f g p front x xs place same at =
    let moved = append_assoc front (f x ∷ []) (map f xs) in
    record {
      element = at.element;
      passes = at.passes;
      within = rw moved at at.within;
      stands = λ d. rw moved at (at.stands d);
      after = rw same (sym (append_assoc front (f x ∷ []) (map g xs)) ∙ rw moved at at.after);
    }

changes_by : {X Y : Type 0} (f g : X → Y) (p : X → Bool) (b : Bool) (front : List Y) (x : X) (xs : List X) (place : ℕ) → p x ≡ b
    → cond b (Some (length front)) (position_from p (length front + 1) xs) ≡ Some place → ((y : X) → p y ≡ false → g y ≡ f y) → (p x ≡ true → list_any p xs ≡ false)
    → (position_from p (length (front ++ f x ∷ [])) xs ≡ Some place → ChangesAt f g p (front ++ f x ∷ []) xs place)
    → ChangesAt f g p front (x ∷ xs) place
changes_by f g p true front x xs place e at same one more =
    changes_here f g p front x xs place (same_Some _ _ at) e (map_none f g p xs same (one e))
changes_by f g p false front x xs place e at same one more =
    changes_behind f g p front x xs place (same x e) (more (rw length_push at))

pub changes-at : {X Y : Type 0} (f g : X → Y) (p : X → Bool) (front : List Y) (xs : List X) (place : ℕ) → position_from p (length front) xs ≡ Some place
    → AtMostOne p xs → ((x : X) → p x ≡ false → g x ≡ f x) → ChangesAt f g p front xs place
changes-at f g p front [] place at one same = cc
changes-at f g p front (x ∷ xs) place at one same =
    changes_by f g p (p x) front x xs place refl at same one.0 (λ more. changes-at f g p (front ++ f x ∷ []) xs place more one.1 same)
