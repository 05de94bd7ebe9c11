-- Ways from value to value in a direction.
use Rattle.std.proofs.Common.{◌≡◌, ◌<◌, ◌+◌, ℕ, zero, suc, ℤ, pos, negsuc, ◌+ℤ◌, ◌-ℤ◌, ◌≤ℤ◌, ◌<ℤ◌, Some, None, refl, sym, subst, arith}
use Rattle.std.specs.Prelude.{unsigned_abs}
use Rattle.std.proofs.lemmas.Int.{by_lt_z, ints}
use Rattle.moves.specs.Step.{IsMoveBy}
use Rattle.spans.specs.Step.{IsFurther, IsOn, IsPast, IsTowards, on_of, outward, steps_between}
use Rattle.spans.specs.declared.direction.Direction.{Direction}
use Rattle.spans.specs.declared.direction.Direction.TheVariants.{Down, Up}
use Rattle.itv_base.proofs.Integers.{abs_less}

-- ---- the order of values in a direction

pub on_same : (d : Direction) (a : ℤ) → IsOn d a a
on_same Down a = omega (arith, ints)
on_same Up a = omega (arith, ints)

pub on_through : (d : Direction) (a b c : ℤ) → IsOn d a b → IsOn d b c → IsOn d a c
on_through Down a b c first second = omega (arith, ints, first, second)
on_through Up a b c first second = omega (arith, ints, first, second)

pub on_past : (d : Direction) (a b : ℤ) → IsPast d a b → IsOn d a b
on_past Down a b past = omega (arith, ints, past)
on_past Up a b past = omega (arith, ints, past)

-- a value that is on and another one is past
pub past_from : (d : Direction) (a b : ℤ) → IsOn d a b → (b ≡ a → ⊥) → IsPast d a b
past_from Down a b on other = by_lt_z b a (λ lt. lt) (λ le. absurd (other (omega (arith, ints, on, le))))
past_from Up a b on other = by_lt_z a b (λ lt. lt) (λ le. absurd (other (omega (arith, ints, on, le))))

-- the next value
pub on_next : (d : Direction) (a : ℤ) → IsOn d a (a +ℤ on_of d)
on_next Down a = omega (arith, ints)
on_next Up a = omega (arith, ints)

pub past_by_next : (d : Direction) (a next : ℤ) → next ≡ (a +ℤ on_of d) → IsPast d a next
past_by_next Down a next is = omega (arith, ints, is)
past_by_next Up a next is = omega (arith, ints, is)

pub next_on : (d : Direction) (a b : ℤ) → IsPast d a b → IsOn d (a +ℤ on_of d) b
next_on Down a b past = omega (arith, ints, past)
next_on Up a b past = omega (arith, ints, past)

-- the value before one that is past
pub before_on : (d : Direction) (a last b : ℤ) → IsPast d a b → b ≡ (last +ℤ on_of d) → IsOn d a last
before_on Down a last b past is = omega (arith, ints, past, is)
before_on Up a last b past is = omega (arith, ints, past, is)

-- a value between two by which numbers may be moved
pub move_between : (d : Direction) (a v b : ℤ) → IsMoveBy a → IsMoveBy b → IsOn d a v → IsOn d v b → IsMoveBy v
move_between Down a v b first last before behind =
    let f = first.1 in
    let l = last.0 in
    (omega (arith, ints, l, behind), omega (arith, ints, f, before))
move_between Up a v b first last before behind =
    let f = first.0 in
    let l = last.1 in
    (omega (arith, ints, f, before), omega (arith, ints, l, behind))

-- ---- what holds on a way

pub way_start : (P : ℤ → Type 0) (d : Direction) (from : ℤ) → P from → (v : ℤ) → IsTowards d from (Some from) v → P v
way_start P Down from here v way = let same : from ≡ v = omega (arith, ints, way.0, way.1) in subst P same here
way_start P Up from here v way = let same : from ≡ v = omega (arith, ints, way.0, way.1) in subst P same here

pub way_more : (P : ℤ → Type 0) (d : Direction) (from done end : ℤ) → ((v : ℤ) → IsTowards d from (Some done) v → P v) → ((v : ℤ) → IsPast d done v → IsOn d v end → P v)
    → (v : ℤ) → IsTowards d from (Some end) v → P v
way_more P Down from done end before more v way = by_lt_z v done (λ lt. more v lt way.1) (λ le. before v (way.0, le))
way_more P Up from done end before more v way = by_lt_z done v (λ lt. more v lt way.1) (λ le. before v (way.0, le))

pub way_endless : (P : ℤ → Type 0) (d : Direction) (from done : ℤ) → ((v : ℤ) → IsTowards d from (Some done) v → P v) → ((v : ℤ) → IsPast d done v → P v)
    → (v : ℤ) → IsTowards d from None v → P v
way_endless P Down from done before more v way = by_lt_z v done (λ lt. more v lt) (λ le. before v (way.0, le))
way_endless P Up from done before more v way = by_lt_z done v (λ lt. more v lt) (λ le. before v (way.0, le))

-- the same of the values past the first one
pub way_past : (P : ℤ → Type 0) (d : Direction) (from done end : ℤ) → ((v : ℤ) → IsPast d from v → IsOn d v done → P v) → ((v : ℤ) → IsPast d done v → IsOn d v end → P v)
    → (v : ℤ) → IsPast d from v → IsOn d v end → P v
way_past P Down from done end before more v past within = by_lt_z v done (λ lt. more v lt within) (λ le. before v past le)
way_past P Up from done end before more v past within = by_lt_z done v (λ lt. more v lt within) (λ le. before v past le)

-- and of the first one
pub way_from : (P : ℤ → Type 0) (d : Direction) (from end : ℤ) → P from → ((v : ℤ) → IsPast d from v → IsOn d v end → P v) → (v : ℤ) → IsTowards d from (Some end) v → P v
way_from P Down from end here more v way =
    by_lt_z v from (λ lt. more v lt way.1) (λ le. let same : from ≡ v = omega (arith, ints, le, way.0) in subst P same here)
way_from P Up from end here more v way =
    by_lt_z from v (λ lt. more v lt way.1) (λ le. let same : from ≡ v = omega (arith, ints, le, way.0) in subst P same here)

-- on the way to the next value there is this value alone
pub way_next : (P : ℤ → Type 0) (d : Direction) (done next : ℤ) → next ≡ (done +ℤ on_of d) → P next → (v : ℤ) → IsPast d done v → IsOn d v next → P v
way_next P Down done next is here v past within = let same : next ≡ v = omega (arith, ints, is, past, within) in subst P same here
way_next P Up done next is here v past within = let same : next ≡ v = omega (arith, ints, is, past, within) in subst P same here

-- a shorter way
pub way_less : (P : ℤ → Type 0) (d : Direction) (from last end : ℤ) → IsOn d last end → ((v : ℤ) → IsTowards d from (Some end) v → P v) → (v : ℤ) → IsTowards d from (Some last) v → P v
way_less P d from last end on all v way = all v (way.0, on_through d v last end way.1 on)

-- between a value and itself there is none
pub none_past : (P : ℤ → Type 0) (d : Direction) (a v : ℤ) → IsPast d a v → IsOn d v a → P v
none_past P Down a v past on = absurd (omega (arith, ints, past, on))
none_past P Up a v past on = absurd (omega (arith, ints, past, on))

pub past_through : (d : Direction) (a b c : ℤ) → IsOn d a b → IsPast d b c → IsPast d a c
past_through Down a b c on past = omega (arith, ints, on, past)
past_through Up a b c on past = omega (arith, ints, on, past)

-- a value before another one has a next value that is no further
pub next_move : (d : Direction) (a b : ℤ) → IsMoveBy a → IsMoveBy b → IsPast d a b → IsMoveBy (a +ℤ on_of d)
next_move d a b first last past = move_between d a (a +ℤ on_of d) b first last (on_next d a) (next_on d a b past)

-- ---- how far a value is

pub further_start : (d : Direction) (from : ℤ) → IsFurther d from 0 from
further_start Down from = omega (arith, ints)
further_start Up from = omega (arith, ints)

pub further_more : (d : Direction) (from done next : ℤ) (count : ℕ) → IsFurther d from count done → IsPast d done next → IsFurther d from (count + 1) next
further_more Down from done next count far past = omega (arith, ints, far, past)
further_more Up from done next count far past = omega (arith, ints, far, past)

-- a value that is no further than a count is on the way to one that is further
pub within_further : (d : Direction) (from last value : ℤ) (count : ℕ) → IsFurther d from count last → outward d value ≤ℤ (outward d from +ℤ pos count) → IsOn d value last
within_further Down from last value count far near = omega (arith, ints, far, near)
within_further Up from last value count far near = omega (arith, ints, far, near)

-- ---- steps between two values

abs_down : (a b : ℤ) → a ≤ℤ pos 0 → b <ℤ a → unsigned_abs a < unsigned_abs b
abs_down (pos zero) (pos b) high less = absurd (omega (arith, ints, less))
abs_down (pos zero) (negsuc b) high less = omega arith
abs_down (pos (suc a)) b high less = absurd (omega (arith, ints, high))
abs_down (negsuc a) (pos b) high less = absurd (omega (arith, ints, less))
abs_down (negsuc a) (negsuc b) high less = omega (arith, ints, less)

-- a value between two others is nearer to each of them
pub nearer_end : (d : Direction) (from at to : ℤ) → IsPast d from at → IsPast d at to → steps_between at to < steps_between from to
nearer_end Down from at to first last = abs_down (to -ℤ at) (to -ℤ from) (omega (arith, ints, last)) (omega (arith, ints, first))
nearer_end Up from at to first last = abs_less (to -ℤ at) (to -ℤ from) (omega (arith, ints, last)) (omega (arith, ints, first))

pub nearer_start : (d : Direction) (from at to : ℤ) → IsPast d from at → IsPast d at to → steps_between from at < steps_between from to
nearer_start Down from at to first last = abs_down (at -ℤ from) (to -ℤ from) (omega (arith, ints, first)) (omega (arith, ints, last))
nearer_start Up from at to first last = abs_less (at -ℤ from) (to -ℤ from) (omega (arith, ints, first)) (omega (arith, ints, last))

-- ---- between two values

pub past_same : (d : Direction) (a b c : ℤ) → b ≡ c → IsPast d a b → IsPast d a c
past_same d a b c same past = subst (λ (v : ℤ). IsPast d a v) same past

-- the value after a value is before one that is past it, if it is not that one
pub past_next : (d : Direction) (a b : ℤ) → IsPast d a b → (b ≡ (a +ℤ on_of d) → ⊥) → IsPast d (a +ℤ on_of d) b
past_next d a b past other = past_from d (a +ℤ on_of d) b (next_on d a b past) other

-- a value between the one after a value and the one before another value
pub inside_past : (d : Direction) (a first at last b : ℤ) → first ≡ (a +ℤ on_of d) → b ≡ (last +ℤ on_of d) → IsOn d first at → IsOn d at last → IsPast d a at × IsPast d at b
inside_past Down a first at last b e f before behind = (omega (arith, ints, e, before), omega (arith, ints, f, behind))
inside_past Up a first at last b e f before behind = (omega (arith, ints, e, before), omega (arith, ints, f, behind))

pub first_on_last : (d : Direction) (a first last b : ℤ) → first ≡ (a +ℤ on_of d) → b ≡ (last +ℤ on_of d) → IsPast d (a +ℤ on_of d) b → IsOn d first last
first_on_last Down a first last b e f apart = omega (arith, ints, e, f, apart)
first_on_last Up a first last b e f apart = omega (arith, ints, e, f, apart)

pub past_to : (d : Direction) (a b c : ℤ) → IsPast d a b → IsOn d b c → IsPast d a c
past_to Down a b c past on = omega (arith, ints, past, on)
past_to Up a b c past on = omega (arith, ints, past, on)

-- the value before one, where there are values between it and another one
pub last_move : (d : Direction) (a last b : ℤ) → IsMoveBy a → IsMoveBy b → b ≡ (last +ℤ on_of d) → IsPast d (a +ℤ on_of d) b → IsMoveBy last
last_move d a last b first end is apart =
    let on : IsOn d (a +ℤ on_of d) last = first_on_last d a (a +ℤ on_of d) last b refl is apart in
    move_between d a last b first end (on_through d a (a +ℤ on_of d) last (on_next d a) on) (subst (λ (v : ℤ). IsOn d last v) (sym is) (on_next d last))
