-- Known keys, near keys and stray keys, and the keys of members read one by one.
use Rattle.std.proofs.Common.{◌≡◌, ℕ, ◌-◌, ◌≤◌, ◌<◌, true, false, List, [], ◌∷◌, ◌++◌, length, map, filter, take, get_or, String, string_bytes, Bor, refl, ap, sym, ◌∙◌, arith}
use Rattle.std.specs.Prelude.{◌==◌}
use Rattle.std.specs.List.{flat_map, list_any}
use Rattle.std.specs.Str.{bytes_eq}
use Rattle.std.specs.declared.alloc.Global.{Global}
use Rattle.std.proofs.lemmas.List.{append_assoc, length-map, take-map}
use Rattle.std.proofs.lemmas.List.Elements.{filter-append}
use Rattle.std.proofs.lemmas.Option.{slice_get-get_or, slice_get-map}
use Rattle.serde_json.specs.View.{members_view}
use Rattle.serde_json.specs.declared.value.Value.{Value}
use Rattle.json_tree.specs.Words.{members}
use Rattle.json_tree.specs.NearKeys.{small, ends_in_s, without_s, stem, is_known, is_near}
use Rattle.json_tree.specs.StrayKeys.{stray_if}
use Rattle.json_tree.specs.declared.key_place.KeyPlace.{KeyPlace}
use Rattle.json_tree.specs.declared.stray_key.StrayKey.{StrayKey}
use Rattle.itv_base.proofs.Lists.{list_any-map}

-- ---- one final `s`

module _ (text : List ℕ) (some : 1 ≤ length text) where
  ends-small : ends_in_s (map small text) ≡ (small (get_or text (length text - 1) 0) == 115)
  ends-small =
      let within : length text - 1 < length text = omega arith in
      rw (length-map text small, slice_get-map small text (length text - 1), slice_get-get_or text (length text - 1) 0 within) refl

  -- the final `s` is dropped
  pub without_s-cut : (small (get_or text (length text - 1) 0) == 115) ≡ true → map small (take (length text - 1) text) ≡ without_s (map small text)
  without_s-cut is = rw (ends-small, is, length-map text small, take-map small (length text - 1) text) refl

  -- there is no final `s`
  pub without_s-kept : (small (get_or text (length text - 1) 0) == 115) ≡ false → map small text ≡ without_s (map small text)
  without_s-kept is = rw (ends-small, is) refl

-- ---- known keys

module _ (known : List (Bor (List ℕ))) (key : List ℕ) where
  -- a key is known if it is one of the known keys
  pub is_known-any : list_any (λ k. bytes_eq key k.now) known ≡ is_known (map (λ k. k.now) known) key
  is_known-any = sym (list_any-map (bytes_eq key) (λ k. k.now) known)

  -- a known key is not near
  pub is_near-known : is_known (map (λ k. k.now) known) key ≡ true → false ≡ is_near (map (λ k. k.now) known) key
  is_near-known is = rw is refl

  -- any other key is near if and only if its stem is the stem of a known key
  pub is_near-other : is_known (map (λ k. k.now) known) key ≡ false → list_any (λ k. bytes_eq (stem key) (stem k.now)) known ≡ is_near (map (λ k. k.now) known) key
  is_near-other is = rw (is, list_any-map (λ other. bytes_eq (stem key) (stem other)) (λ k. k.now) known) refl

-- ---- members

-- the near keys among the keys of members
abbrev pub near_of_members : List (List ℕ) → List (String Global × Value) → List (List ℕ)
near_of_members known entries = filter (is_near known) (map (λ at. at.0) (members (members_view entries)))

-- the key of the next member was put at the end if it is near
pub key_more : (known : List (List ℕ)) (entries rest : List (String Global × Value)) (key : String Global) (value : Value) (text : List ℕ) (done new all : List (List ℕ))
    → entries ≡ (key, value) ∷ rest → text ≡ string_bytes key → new ≡ done ++ filter (is_near known) (text ∷ [])
    → done ++ near_of_members known entries ≡ all → new ++ near_of_members known rest ≡ all
key_more known entries rest key value text done new all next named grew so_far =
    ap (λ keys. keys ++ near_of_members known rest) grew ∙ append_assoc done (filter (is_near known) (text ∷ [])) (near_of_members known rest)
    ∙ ap (λ keys. done ++ keys) (sym (filter-append (is_near known) (text ∷ []) (map (λ at. at.0) (members (members_view rest)))))
    ∙ ap (λ t. done ++ filter (is_near known) (t ∷ map (λ at. at.0) (members (members_view rest)))) named
    ∙ ap (λ es. done ++ near_of_members known es) (sym next) ∙ so_far

-- the stray keys of the object at a place among the keys of its members
abbrev pub stray_of_members : List (List ℕ) → KeyPlace → List (String Global × Value) → List StrayKey
stray_of_members known place entries = flat_map (stray_if known place) (map (λ at. at.0) (members (members_view entries)))

-- the key of the next member was put at the end if it is not known
pub stray_more : (known : List (List ℕ)) (place : KeyPlace) (entries rest : List (String Global × Value)) (key : String Global) (value : Value) (text : List ℕ) (done new all : List StrayKey)
    → entries ≡ (key, value) ∷ rest → text ≡ string_bytes key → new ≡ done ++ stray_if known place text
    → done ++ stray_of_members known place entries ≡ all → new ++ stray_of_members known place rest ≡ all
stray_more known place entries rest key value text done new all next named grew so_far =
    ap (λ keys. keys ++ stray_of_members known place rest) grew ∙ append_assoc done (stray_if known place text) (stray_of_members known place rest)
    ∙ ap (λ t. done ++ (stray_if known place t ++ stray_of_members known place rest)) named
    ∙ ap (λ es. done ++ stray_of_members known place es) (sym next) ∙ so_far
