-- The kind of a mark: what the wave of a lane draws at the mark's place.
-- A wave is the list of its characters, one for each brick, and places are counted from 0.
use Rattle.std.specs.Prelude.{ℕ, ◌+◌, ◌-◌, Bool, true, false, not, ◌==◌, nat_lt, if◌then◌else◌, List, length, take, filter, Option, None, slice_index, codes}
use Rattle.std.specs.List.{list_any, last_or}
use Rattle.std.specs.Option.{option_map_or}
use Rattle.wave_string.specs.declared.class.Class.{Class}
use Rattle.wave_string.specs.declared.class.Class.TheVariants.{PositiveClock, NegativeClock, Low, High, Bus, Floating, WeakUp, WeakDown, Unknown}
use Rattle.wave_string.specs.declared.mark_kind.MarkKind.{MarkKind}
use Rattle.wave_string.specs.declared.mark_kind.MarkKind.TheVariants.{Rise, Fall, Change, Steady, Bare}

-- c is one of the characters
abbrev pub is_one_of : List ℕ → ℕ → Bool
is_one_of characters c = list_any (λ d. d == c) characters

-- the character continues the brick before it
abbrev pub continues : ℕ → Bool
continues c = is_one_of (codes ".|") c

-- the class of a character that does not continue
abbrev pub class_of : ℕ → Class
class_of c =
    if is_one_of (codes "pP") c then PositiveClock
    else (if is_one_of (codes "nN") c then NegativeClock
    else (if is_one_of (codes "0lL") c then Low
    else (if is_one_of (codes "1hH") c then High
    else (if is_one_of (codes "=23456789") c then Bus
    else (if is_one_of (codes "z") c then Floating
    else (if is_one_of (codes "u") c then WeakUp
    else (if is_one_of (codes "d") c then WeakDown
    else Unknown)))))))

-- the character in effect at a place: the last one at or before it that does not continue
abbrev pub effective_character : List ℕ → ℕ → Option ℕ
effective_character wave place = last_or None (filter (λ c. not (continues c)) (take (place + 1) wave))

-- the class of that character, or unknown if there is none
abbrev pub effective_class : List ℕ → ℕ → Class
effective_class wave place = option_map_or class_of (effective_character wave place) Unknown

-- the class that a brick ends with: a positive clock ends low, a negative one high
abbrev pub last_class : Class → Class
last_class PositiveClock = Low
last_class NegativeClock = High
last_class class = class

-- The kind between the class that ends a brick and the class that begins the next one. Equal classes are steady, but two values of a bus may
-- differ. No brick ends as a clock, and if a clock begins, an earlier rule applies.
abbrev pub transition : Class → Class → MarkKind
transition Low High = Rise
transition High Low = Fall
transition Low Low = Steady
transition High High = Steady
transition Floating Floating = Steady
transition WeakUp WeakUp = Steady
transition WeakDown WeakDown = Steady
transition Unknown Unknown = Steady
transition ended begun = Change

-- The kind at a brick, from its place, its character, and the classes in effect at the brick before it and at itself. The first rule that
-- applies: a clock has its edge at each brick, also at place 0 and where the clock is continued; place 0 has no brick before it; a continued
-- brick has no edge; every other brick has the transition from the brick before.
abbrev pub brick_kind : ℕ → ℕ → Class → Class → MarkKind
brick_kind place c before PositiveClock = Rise
brick_kind place c before NegativeClock = Fall
brick_kind place c before here =
    if place == 0 then Bare
    else (if continues c then Steady
    else transition (last_class before) here)

-- the kind of the mark at a place of a wave; it is bare past the last brick
unfoldable pub kind_of : List ℕ → ℕ → MarkKind
kind_of wave place =
    if nat_lt place (length wave)
    then brick_kind place (slice_index wave place) (effective_class wave (place - 1)) (effective_class wave place)
    else Bare

-- marks of these kinds may be joined
abbrev pub may_join : MarkKind → MarkKind → Bool
may_join Rise Fall = false
may_join Fall Rise = false
may_join a b = true
