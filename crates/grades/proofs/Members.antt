-- The members of an object, read one by one.
use Rattle.std.proofs.Common.{◌≡◌, ℕ, List, [], ◌∷◌, ◌++◌, Option, Some, String, string_bytes, ap, sym, ◌∙◌}
use Rattle.std.specs.declared.alloc.Global.{Global}
use Rattle.serde_json.specs.Data.{Data}
use Rattle.serde_json.specs.View.{view, members_view}
use Rattle.serde_json.specs.declared.value.Value.{Value}
use Rattle.json_tree.specs.Words.{members}
use Rattle.json_tree.proofs.ReadLists.{with_rest, rest_more}

-- the next member was read
pub member_more : {Y : Type 0} (read : List ℕ × Data → Option Y) (entries rest : List (String Global × Value)) (key : String Global) (value : Value) (text : List ℕ) (done new : List Y) (found : Option Y) (y : Y) (all : Option (List Y))
    → entries ≡ (key, value) ∷ rest → text ≡ string_bytes key → found ≡ read (text, view value) → found ≡ Some y → new ≡ done ++ y ∷ []
    → with_rest read done (members (members_view entries)) ≡ all → with_rest read new (members (members_view rest)) ≡ all
member_more read entries rest key value text done new found y all next named written is grew so_far =
    let one : read (string_bytes key, view value) ≡ Some y = ap (λ t. read (t, view value)) (sym named) ∙ sym written ∙ is in
    let front : with_rest read done (members (members_view entries)) ≡ with_rest read done ((string_bytes key, view value) ∷ members (members_view rest)) = ap (λ es. with_rest read done (members (members_view es))) next in
    ap (λ ys. with_rest read ys (members (members_view rest))) grew
    ∙ sym (rest_more read done (string_bytes key, view value) (members (members_view rest)) y one) ∙ sym front ∙ so_far
