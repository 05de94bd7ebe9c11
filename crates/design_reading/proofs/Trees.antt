-- The trees of bytes.
use Rattle.std.proofs.Common.{◌≡◌, Bool, true, false, cond, List, ℕ, Option, Some, None, refl}
use Rattle.std.specs.Prelude.{ok_or}
use Rattle.std.specs.Str.{IsUtf8, is_utf8}
use Rattle.std.proofs.lemmas.Str.{IsUtf8-from_is_utf8, is_utf8-from_IsUtf8}
use Rattle.serde_json.specs.Data.{Data}
use Rattle.serde_json.specs.Read.{read}
use Rattle.itv_base.specs.Outside.{ShelfState}
use Rattle.design_reading.specs.declared.refusal_place.RefusalPlace.{RefusalPlace}
use Rattle.design_reading.specs.declared.refusal.Refusal.{Refusal}
use Rattle.design_reading.specs.declared.refusal.Refusal.TheVariants.{NotJson}
use Rattle.design_reading.specs.FileReading.{RunsTo, at, ready, refused}
use Rattle.design_reading.specs.Design.{tree_of, tree_at}

tree_some : (bytes : List ℕ) (tree : Data) → IsUtf8 bytes → read bytes ≡ Some tree → tree_of bytes ≡ Some tree
tree_some bytes tree utf8 e = rw (is_utf8-from_IsUtf8 bytes utf8) e

tree_none_by : (bytes : List ℕ) (b : Bool) → is_utf8 bytes ≡ b → (IsUtf8 bytes → read bytes ≡ None) → cond b (read bytes) None ≡ None
tree_none_by bytes true e h = h (IsUtf8-from_is_utf8 bytes e)
tree_none_by bytes false e h = refl

tree_none : (bytes : List ℕ) → (IsUtf8 bytes → read bytes ≡ None) → tree_of bytes ≡ None
tree_none bytes h = tree_none_by bytes (is_utf8 bytes) refl h

found : (state : ShelfState) (place : RefusalPlace) (o : Option Data) (tree : Data) → o ≡ Some tree → RunsTo state (at place (λ (fault : Refusal). fault) (ok_or o NotJson)) (ready tree)
found state place o tree e = rw e refl

missing : (state : ShelfState) (place : RefusalPlace) (o : Option Data) → o ≡ None → RunsTo state (at place (λ (fault : Refusal). fault) (ok_or o NotJson)) (refused place NotJson)
missing state place o e = rw e refl

-- bytes that are the text of a tree give it
pub tree_ready : (state : ShelfState) (place : RefusalPlace) (bytes : List ℕ) (tree : Data) → IsUtf8 bytes → read bytes ≡ Some tree → RunsTo state (tree_at place bytes) (ready tree)
unfolding tree_at
tree_ready state place bytes tree utf8 e = found state place (tree_of bytes) tree (tree_some bytes tree utf8 e)

-- other bytes are refused
pub tree_refused : (state : ShelfState) (place : RefusalPlace) (bytes : List ℕ) → (IsUtf8 bytes → read bytes ≡ None) → RunsTo state (tree_at place bytes) (refused place NotJson)
unfolding tree_at
tree_refused state place bytes h = missing state place (tree_of bytes) (tree_none bytes h)

pub never_true : {P : Type 0} → (P → false ≡ true) → P → ⊥
never_true f p = let e = f p in cc
