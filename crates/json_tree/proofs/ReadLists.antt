-- Elements read one by one, if each can be read.
use Rattle.std.proofs.Common.{◌≡◌, List, [], ◌∷◌, ◌++◌, Option, Some, None, refl, ap, sym}
use Rattle.std.specs.Prelude.{option_map}
use Rattle.std.proofs.lemmas.List.{append_assoc}
use Rattle.json_tree.specs.Words.{all_of}

-- what is read of the elements that are left, after what was read before
abbrev pub with_rest : {X Y : Type 0} → (X → Option Y) → List Y → List X → Option (List Y)
with_rest read done xs = option_map (λ more. done ++ more) (all_of read xs)

-- the next element cannot be read
pub rest_none : {X Y : Type 0} (read : X → Option Y) (done : List Y) (x : X) (rest : List X) → read x ≡ None → with_rest read done (x ∷ rest) ≡ None
rest_none read done x rest is = rw is refl

behind : {Y : Type 0} (done : List Y) (y : Y) (o : Option (List Y)) → option_map (λ more. done ++ more) (option_map (λ ys. y ∷ ys) o) ≡ option_map (λ more. (done ++ y ∷ []) ++ more) o
behind done y None = refl
behind done y (Some ys) = ap Some (sym (append_assoc done (y ∷ []) ys))

-- the next element is read
pub rest_more : {X Y : Type 0} (read : X → Option Y) (done : List Y) (x : X) (rest : List X) (y : Y) → read x ≡ Some y → with_rest read done (x ∷ rest) ≡ with_rest read (done ++ y ∷ []) rest
rest_more read done x rest y is = rw is (behind done y (all_of read rest))
