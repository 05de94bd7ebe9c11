-- Where texts are cut.
use Rattle.std.specs.Prelude.{ℕ, Bool, ◌==◌, if◌then◌else◌, List, [], ◌∷◌, drop, Option, Some, None}
use Rattle.std.specs.List.{prefix_len}

-- where words end
abbrev pub is_space : ℕ → Bool
is_space b = b == 32

-- what stands between a part and its mark
abbrev pub is_full_stop : ℕ → Bool
is_full_stop b = b == 46

-- the text after a front, if it stands there
abbrev pub stripped : List ℕ → List ℕ → Option (List ℕ)
stripped [] text = Some text
stripped (c ∷ front) [] = None
stripped (c ∷ front) (b ∷ text) = if b == c then stripped front text else None

-- what a function makes of the text after a front, or another value if the front does not stand there
abbrev pub after : {R : Type 0} → Option (List ℕ) → (List ℕ → R) → R → R
after None f other = other
after (Some rest) f other = f rest

-- the text after the bytes that pass a test
abbrev pub after_while : (ℕ → Bool) → List ℕ → List ℕ
after_while p text = drop (prefix_len p text) text
