-- The numbers that a list names, as `wire 0,net 1,CPU edge 3`.
use Rattle.std.specs.Prelude.{ℕ, ◌==◌, Bool, if◌then◌else◌, List, [], ◌∷◌, ◌++◌, find, Result, Ok, Err}
use Rattle.std.specs.List.{list_any, slice_split}
use Rattle.std.specs.Option.{option_map_or}
use Rattle.std.specs.Str.{bytes_eq}
use Rattle.itv_base.specs.Reading.{walk}
use Rattle.drawn_networks.specs.Drawn.{Drawn}
use Rattle.drawn_numbers.specs.Numbers.{drawn_number_text}
use Rattle.moves.specs.Listed.{all_numbers_of}
use Rattle.moves.specs.declared.number_seen.NumberSeen.{NumberSeen}

-- the number is called so
abbrev pub is_called : List ℕ → NumberSeen → Bool
is_called text seen = bytes_eq text (drawn_number_text seen.number)

-- one more number of a list, given what it is called; the fault is its place, where no number is called so, or the list has it before
abbrev pub with_named : List NumberSeen → ℕ → List NumberSeen → List ℕ → Result (List NumberSeen) ℕ
with_named all place named text =
    if list_any (is_called text) named then Err place else option_map_or (λ seen. Ok (named ++ seen ∷ [])) (find (is_called text) all) (Err place)

-- the numbers of a list with commas between, or the place of the first that is not taken, counted from 0
abbrev pub numbers_in : Drawn → List ℕ → Result (List NumberSeen) ℕ
numbers_in drawn list = walk (with_named (all_numbers_of drawn)) 0 [] (slice_split (λ b. b == 44) list)
