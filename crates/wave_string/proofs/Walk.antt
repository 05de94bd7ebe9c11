-- A walk over the characters of a wave that keeps the class in effect.
use Rattle.std.proofs.Common.{◌≡◌, ℕ, zero, suc, ◌+◌, ◌-◌, ◌<◌, ◌≤◌, Bool, true, false, cond, not, List, [], ◌∷◌, ◌++◌, length, take, drop, get_or, filter, encode_utf8, Option, Some, None, refl, ap, sym, ◌∙◌, arith}
use Rattle.std.specs.List.{last_or}
use Rattle.std.specs.Option.{option_map_or}
use Rattle.std.specs.Str.{IsUtf8, chars}
use Rattle.std.proofs.lemmas.Bool.{cond_below, cond_above}
use Rattle.std.proofs.lemmas.List.{get_or-drop, drop_more, take_more, length-drop, nil_from_length}
use Rattle.std.proofs.lemmas.List.Elements.{filter-append}
use Rattle.std.proofs.lemmas.Str.{chars-nil, chars_past_char, IsUtf8-past_char}
use Rattle.wave_string.specs.Kinds.{continues, class_of, brick_kind, effective_class, kind_of}
use Rattle.wave_string.specs.declared.class.Class.{Class}
use Rattle.wave_string.specs.declared.class.Class.TheVariants.{PositiveClock, NegativeClock, Unknown}
use Rattle.wave_string.specs.declared.mark_kind.MarkKind.TheVariants.{Bare}

-- the class in effect after a front of the wave
abbrev pub class_behind : List ℕ → Class
class_behind front = option_map_or class_of (last_or None (filter (λ c. not (continues c)) front)) Unknown

last_or-append : {X : Type 0} (o : Option X) (xs ys : List X) → last_or o (xs ++ ys) ≡ last_or (last_or o xs) ys
last_or-append o [] ys = refl
last_or-append o (x ∷ xs) ys = last_or-append (Some x) xs ys

-- one more character, which is the last that counts unless it continues
class_of_last : (continued : Bool) (latest : Option ℕ) (c : ℕ)
    → option_map_or class_of (last_or latest (cond (not continued) (c ∷ []) [])) Unknown
    ≡ cond continued (option_map_or class_of latest Unknown) (class_of c)
class_of_last true latest c = refl
class_of_last false latest c = refl

class_behind-push : (front : List ℕ) (c : ℕ)
    → class_behind (front ++ c ∷ []) ≡ cond (continues c) (class_behind front) (class_of c)
class_behind-push front c = rw (filter-append, last_or-append) (class_of_last (continues c) _ c)

-- c is the character at place k
is_within : (k : ℕ) (wave more : List ℕ) (c : ℕ) → drop k wave ≡ c ∷ more → k < length wave
is_within k wave more c next = omega (arith, length-drop k wave, ap length next)

character_at : (k : ℕ) (wave more : List ℕ) (c : ℕ) → drop k wave ≡ c ∷ more → get_or wave k 0 ≡ c
character_at k wave more c next = grind (arith, get_or-drop k wave 0 0)

drop_next : (k : ℕ) (wave more : List ℕ) (c : ℕ) → drop k wave ≡ c ∷ more → drop (k + 1) wave ≡ more
drop_next k wave more c next = let e = drop_more wave k 0 (is_within k wave more c next) in cc

class_next : (k : ℕ) (wave more : List ℕ) (c : ℕ) → drop k wave ≡ c ∷ more
    → class_behind (take (k + 1) wave) ≡ cond (continues c) (class_behind (take k wave)) (class_of c)
class_next k wave more c next =
    rw (take_more wave k 0 (is_within k wave more c next), character_at k wave more c next)
    (class_behind-push (take k wave) c)

-- at place 0 the rules ask for no brick before it
brick_kind_first : (c : ℕ) (before other here : Class) → brick_kind 0 c before here ≡ brick_kind 0 c other here
brick_kind_first c before other PositiveClock = refl
brick_kind_first c before other NegativeClock = refl
brick_kind_first c before other here = refl

brick_kind_behind : (k c : ℕ) (wave : List ℕ) (here : Class)
    → brick_kind k c (class_behind (take k wave)) here ≡ brick_kind k c (effective_class wave (k - 1)) here
brick_kind_behind zero c wave here = brick_kind_first c (class_behind []) (effective_class wave (0 - 1)) here
brick_kind_behind (suc k) c wave here =
    let same_place : suc k ≡ suc k - 1 + 1 = omega arith in
    ap (λ n. brick_kind (suc k) c (class_behind (take n wave)) here) same_place

-- the rule at place k, by what a walk up to this place knows
kind_of_next : (k : ℕ) (wave more : List ℕ) (c : ℕ) → drop k wave ≡ c ∷ more
    → brick_kind k c (class_behind (take k wave)) (class_behind (take (k + 1) wave)) ≡ kind_of wave k
unfolding kind_of
kind_of_next k wave more c next =
    rw (character_at k wave more c next)
    (brick_kind_behind k c wave (effective_class wave k)
    ∙ cond_below k (length wave) _ Bare (is_within k wave more c next))

-- A walk has passed k characters of the wave: `before` is in effect after them, and the bytes `rest` are left.
pub record HasPassed (wave : List ℕ) (k : ℕ) (before : Class) (rest : List ℕ) : Type 0 where
  pub behind : before ≡ class_behind (take k wave)
  pub left : drop k wave ≡ chars rest
  pub utf8 : IsUtf8 rest

left_next : {wave rest : List ℕ} {k : ℕ} {before : Class} (more : List ℕ) (c : ℕ)
    → HasPassed wave k before rest → rest ≡ encode_utf8 c ++ more → drop k wave ≡ c ∷ chars more
left_next {rest} more c passed cut = passed.left ∙ chars_past_char rest more c passed.utf8 cut

pub passes_next : {wave rest : List ℕ} {k : ℕ} {before : Class} (more : List ℕ) (c : ℕ)
    → HasPassed wave k before rest → rest ≡ encode_utf8 c ++ more
    → HasPassed wave (k + 1) (cond (continues c) before (class_of c)) more
passes_next {wave} {rest} {k} more c passed cut =
    let next = left_next more c passed cut in
    record {
      behind = rw passed.behind (sym (class_next k wave (chars more) c next));
      left = drop_next k wave (chars more) c next;
      utf8 = IsUtf8-past_char rest more c passed.utf8 cut;
    }

pub kind_at_next : {wave rest : List ℕ} {k : ℕ} {before : Class} (more : List ℕ) (c : ℕ)
    → HasPassed wave k before rest → rest ≡ encode_utf8 c ++ more
    → brick_kind k c before (cond (continues c) before (class_of c)) ≡ kind_of wave k
kind_at_next {wave} {k} more c passed cut =
    let next = left_next more c passed cut in
    rw (passed.behind, ← (class_next k wave (chars more) c next)) (kind_of_next k wave (chars more) c next)

pub kind_past_end : {wave rest : List ℕ} {k : ℕ} {before : Class} (place : ℕ)
    → HasPassed wave k before rest → length rest ≡ 0 → k ≤ place → Bare ≡ kind_of wave place
unfolding kind_of
kind_past_end {wave} {rest} {k} place passed empty within =
    let none_left : drop k wave ≡ [] = passed.left ∙ ap chars (nil_from_length rest empty) ∙ chars-nil in
    let past : length wave ≤ place = omega (arith, length-drop k wave, ap length none_left) in
    cond_above place (length wave) _ Bare Bare past refl
