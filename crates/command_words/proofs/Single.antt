-- A command without subcommands fails for at most one cause, so its first cause is its only one.
use Rattle.std.proofs.Common.{◌≡◌, ◌+◌, ◌==◌, ◌&&◌, ◌||◌, ℕ, zero, suc, Bool, true, false, not, List, [], ◌∷◌, length, drop, min, Option, Some, None, is_some, refl}
use Rattle.std.specs.Prelude.{encode_utf8, if◌then◌else◌, nat_lt, slice_get}
use Rattle.std.specs.Option.{option_map_or}
use Rattle.std.specs.Str.{bytes_eq, chars}
use Rattle.clap.specs.Facts.{parser_of_value, unwrap_or_range}
use Rattle.clap.specs.Faults.{action_fault, built_fault, bundle_fault, bundle_step_fault, check_fault, count_fault, default_fault, defaults_fault, entered_fault, flag_word_fault, flags_fault, given_default_fault, level_fault, long_fault, option_fault, other_fault, positional_fault, react_fault, repeat_fault, set_fault, settle_fault, short_fault, step_fault, stray_fault, turn_fault, use_fault, values_fault, walk_fault, word_fault}
use Rattle.clap.specs.Kinds.{Kinds, check_kinds, or_else, range_kinds, request_kinds, value_kinds, values_kinds}
use Rattle.clap.specs.Lexer.{long_of, short_of}
use Rattle.clap.specs.Matches.{count_text}
use Rattle.clap.specs.Simple.{Shape, entered}
use Rattle.clap.specs.ValueTests.{accepts}
use Rattle.clap.specs.Values.{refused_kind}
use Rattle.clap.specs.Walk.{Held, Row, Rule, Step, Text, Waiting, Walk, action_of, arg_by_id, arg_by_index, arg_by_long, arg_by_short, attached_value, count_of, finished, has_row, idle, is_empty, is_pending, most_values, option, positional, reacted, settled, subcommand_met, takes_several, takes_values, value, values_or_missing, walk, walk_from, walked, with_default, word_met}
use Rattle.clap.specs.declared.builder.action.ArgAction.{ArgAction}
use Rattle.clap.specs.declared.builder.action.ArgAction.TheVariants.{Set, Append, SetTrue, SetFalse, Count, Help, HelpShort, HelpLong, Version}
use Rattle.clap.specs.declared.builder.value_parser.ValueParser.{ValueParser}
use Rattle.clap.specs.declared.error.kind.ErrorKind.TheVariants as kind

abbrev pub AtMostOne : Kinds → Type 0
AtMostOne [] = Unit {0}
AtMostOne (k ∷ []) = Unit {0}
AtMostOne (k ∷ other ∷ ks) = ⊥

-- ---- the parts
first_or : (a b : Kinds) → AtMostOne a → AtMostOne b → AtMostOne (or_else a b)
first_or [] b one two = two
first_or (k ∷ ks) b one two = one

by_test : (test : Bool) (a b : Kinds) → AtMostOne a → AtMostOne b → AtMostOne (if test then a else b)
by_test true a b one two = one
by_test false a b one two = two

by_option : {X : Type 0} (f : X → Kinds) (x : Option X) (b : Kinds) → ((y : X) → AtMostOne (f y)) → AtMostOne b → AtMostOne (option_map_or f x b)
by_option f None b each other = other
by_option f (Some y) b each other = each y

value_single : (ignore_case : Bool) (parser : ValueParser) (text : Text) → AtMostOne (value_kinds ignore_case parser text)
value_single ignore_case parser text = by_test (accepts ignore_case parser text) [] (refused_kind parser ∷ []) tt tt

values_single : (ignore_case : Bool) (parser : ValueParser) (texts : List Text) → AtMostOne (values_kinds ignore_case parser texts)
values_single ignore_case parser [] = tt
values_single ignore_case parser (text ∷ texts) =
    first_or (value_kinds ignore_case parser text) (values_kinds ignore_case parser texts) (value_single ignore_case parser text) (values_single ignore_case parser texts)

range_single : (least most count : ℕ) → AtMostOne (range_kinds least most count)
range_single least most count =
    by_test (nat_lt 0 least && count == 0) (kind.InvalidValue ∷ [])
    (if least == most then (if least == count then [] else kind.WrongNumberOfValues ∷ [])
    else (if nat_lt count least then kind.TooFewValues ∷ [] else (if nat_lt most count then kind.TooManyValues ∷ [] else [])))
    tt
    (by_test (least == most) (if least == count then [] else kind.WrongNumberOfValues ∷ [])
    (if nat_lt count least then kind.TooFewValues ∷ [] else (if nat_lt most count then kind.TooManyValues ∷ [] else []))
    (by_test (least == count) [] (kind.WrongNumberOfValues ∷ []) tt tt)
    (by_test (nat_lt count least) (kind.TooFewValues ∷ []) (if nat_lt most count then kind.TooManyValues ∷ [] else []) tt
    (by_test (nat_lt most count) (kind.TooManyValues ∷ []) [] tt tt)))

request_single : (action : ArgAction) → AtMostOne (request_kinds action)
request_single Help = tt
request_single HelpShort = tt
request_single HelpLong = tt
request_single Version = tt
request_single _ = tt

check_single : (a b c : Bool) → AtMostOne (check_kinds a b c)
check_single true b c = tt
check_single false true c = tt
check_single false false true = tt
check_single false false false = tt

-- ---- a use of an argument
set_single : (again : Bool) (a : Rule) (values : List Text) (rows : List Row) → AtMostOne (set_fault again a values rows)
set_single again a values rows =
    first_or (repeat_fault again a.id rows) (values_fault a values) (by_test (has_row a.id rows && not again) (kind.ArgumentConflict ∷ []) [] tt tt)
    (values_single a.ignore_case (parser_of_value a.parser) values)

count_single : (a : Rule) (values : List Text) (rows : List Row) → AtMostOne (count_fault a values rows)
count_single a [] rows = value_single a.ignore_case (parser_of_value a.parser) (count_text (min (count_of a.id rows + 1) 255))
count_single a (v ∷ vs) rows = values_single a.ignore_case (parser_of_value a.parser) (v ∷ vs)

action_single : (action : ArgAction) (again : Bool) (a : Rule) (values : List Text) (rows : List Row) → AtMostOne (action_fault action again a values rows)
action_single Set again a values rows = set_single again a values rows
action_single SetTrue again a values rows = set_single again a values rows
action_single SetFalse again a values rows = set_single again a values rows
action_single Append again a values rows = values_single a.ignore_case (parser_of_value a.parser) values
action_single Count again a values rows = count_single a values rows
action_single other again a values rows = request_single other

use_single : (again : Bool) (a : Rule) (values : List Text) (rows : List Row) → AtMostOne (use_fault again a values rows)
use_single again a values rows =
    first_or (range_kinds (unwrap_or_range a.range).start_inclusive (most_values a) (length values)) (action_fault (action_of a) again a (values_or_missing a values) rows)
    (range_single (unwrap_or_range a.range).start_inclusive (most_values a) (length values)) (action_single (action_of a) again a (values_or_missing a values) rows)

settle_single : (c : List Rule) (again : Bool) (h : Held) → AtMostOne (settle_fault c again h)
settle_single c again h =
    by_option (λ (p : Text × List Text). option_map_or (λ a. use_fault again a p.1 h.rows) (arg_by_id c p.0) []) h.pending []
    (λ p. by_option (λ a. use_fault again a p.1 h.rows) (arg_by_id c p.0) [] (λ a. use_single again a p.1 h.rows) tt) tt

react_single : (c : List Rule) (again : Bool) (a : Rule) (values : List Text) (h : Held) → AtMostOne (react_fault c again a values h)
react_single c again a values h =
    first_or (settle_fault c again h) (use_fault again a values (settled c h).rows) (settle_single c again h) (use_single again a values (settled c h).rows)

-- ---- a word
option_single : (c : List Rule) (again : Bool) (a : Rule) (v : Option Text) (h : Held) → AtMostOne (option_fault c again a v h)
option_single c again a (Some v) h = react_single c again a (v ∷ []) h
option_single c again a None h = settle_single c again h

long_single : (c : List Rule) (again : Bool) (found : Option Rule) (v : Option Text) (h : Held) → AtMostOne (long_fault c again found v h)
long_single c again None v h = tt
long_single c again (Some a) v h =
    by_test (takes_values a) (option_fault c again a v h) (if is_some v then kind.TooManyValues ∷ [] else react_fault c again a [] h) (option_single c again a v h)
    (by_test (is_some v) (kind.TooManyValues ∷ []) (react_fault c again a [] h) tt (react_single c again a [] h))

short_single : (c : List Rule) (again : Bool) (found : Option Rule) (rest : Text) (h : Held) (more : Held → Kinds) → ((g : Held) → AtMostOne (more g)) → AtMostOne (short_fault c again found rest h more)
short_single c again None rest h more each = tt
short_single c again (Some a) rest h more each =
    by_test (takes_values a) (option_fault c again a (attached_value rest) h) (or_else (react_fault c again a [] h) (more (reacted c a [] h))) (option_single c again a (attached_value rest) h)
    (first_or (react_fault c again a [] h) (more (reacted c a [] h)) (react_single c again a [] h) (each (reacted c a [] h)))

bundle_step_single : (c : List Rule) (again : Bool) (x : Option ℕ) (flags : Text) (skip : ℕ) (h : Held) (more : Text → ℕ → Held → Kinds)
    → ((t : Text) (k : ℕ) (g : Held) → AtMostOne (more t k g)) → AtMostOne (bundle_step_fault c again x flags skip h more)
bundle_step_single c again None flags skip h more each = tt
bundle_step_single c again (Some x) flags zero h more each =
    let rest = drop (length (encode_utf8 x)) flags in
    short_single c again (arg_by_short c x) rest h (more rest 0) (each rest 0)
bundle_step_single c again (Some x) flags (suc skip) h more each = each (drop (length (encode_utf8 x)) flags) skip h

flags_single : (c : List Rule) (again : Bool) (k : ℕ) (flags : Text) (skip : ℕ) (h : Held) → AtMostOne (flags_fault c again k flags skip h)
unfolding flags_fault
flags_single c again zero flags skip h = tt
flags_single c again (suc k) flags skip h = bundle_step_single c again (slice_get (chars flags) 0) flags skip h (flags_fault c again k) (flags_single c again k)

flag_word_single : (c : List Rule) (again : Bool) (p : Option (Text × Option Text)) (word : Text) (h : Held) → AtMostOne (flag_word_fault c again p word h)
flag_word_single c again (Some p) word h = long_single c again (arg_by_long c p.0) p.1 h
flag_word_single c again None word h =
    by_option (λ flags. bundle_fault c again flags h) (short_of word) [] (λ flags. flags_single c again (length flags) flags h.skip (record h { skip = 0 })) tt

no_subcommand : (waiting : Waiting) (word : Text) → subcommand_met [] waiting word ≡ None
no_subcommand idle word = refl
no_subcommand (option name) word = refl
no_subcommand positional word = refl

other_single : (s : Shape) (word : Text) (h : Held) → AtMostOne (other_fault s None word h)
other_single s word h =
    by_test (bytes_eq word (45 ∷ 45 ∷ [])) [] (flag_word_fault s.rules s.args_override_self (long_of word) word h) tt
    (flag_word_single s.rules s.args_override_self (long_of word) word h)

word_single : (s : Shape) (is_trailing : Bool) (waiting : Waiting) (word : Text) (h : Held) → AtMostOne (word_fault s [] is_trailing waiting word h)
word_single s true waiting word h = tt
word_single s false waiting word h = rw (no_subcommand waiting word) (other_single s word h)

positional_single : (c : List Rule) (again : Bool) (a : Rule) (h : Held) → AtMostOne (positional_fault c again a h)
positional_single c again a h = by_test (is_pending a h.pending && takes_several a) [] (settle_fault c again h) tt (settle_single c again h)

stray_single : (s : Shape) → s.is_leaf ≡ true → AtMostOne (stray_fault s)
stray_single s leaf = rw leaf tt

step_single : (s : Shape) (position : ℕ) (h : Held) (step : Step) → s.is_leaf ≡ true → AtMostOne (step_fault s position h step)
step_single s position h value leaf =
    by_option (λ a. positional_fault s.rules s.args_override_self a h) (arg_by_index s.rules position) (stray_fault s)
    (λ a. positional_single s.rules s.args_override_self a h) (stray_single s leaf)
step_single s position h _ leaf = tt

turn_single : (s : Shape) (w : Walk) (word : Text) → s.is_leaf ≡ true → AtMostOne (turn_fault s [] w word)
turn_single s w word leaf =
    let met = word_met s.rules [] w.is_trailing w.waiting w.position word w.held in
    by_test (is_some w.stopped) [] (or_else (word_fault s [] w.is_trailing w.waiting word w.held) (step_fault s w.position met.0 met.1)) tt
    (first_or (word_fault s [] w.is_trailing w.waiting word w.held) (step_fault s w.position met.0 met.1)
    (word_single s w.is_trailing w.waiting word w.held) (step_single s w.position met.0 met.1 leaf))

-- ---- all words
walk_single : (s : Shape) (w : Walk) (words : List Text) → s.is_leaf ≡ true → AtMostOne (walk_fault s [] w words)
unfolding walk_fault
walk_single s w [] leaf = tt
walk_single s w (word ∷ words) leaf =
    first_or (turn_fault s [] w word) (walk_fault s [] (walked s.rules [] w word) words) (turn_single s w word leaf) (walk_single s (walked s.rules [] w word) words leaf)

default_single : (rows : List Row) (a : Rule) → AtMostOne (default_fault rows a)
default_single rows a =
    by_test (has_row a.id rows || is_empty a.defaults) [] (given_default_fault a a.defaults) tt
    (first_or (request_kinds (action_of a)) (values_fault a a.defaults) (request_single (action_of a)) (values_single a.ignore_case (parser_of_value a.parser) a.defaults))

defaults_single : (rows : List Row) (rules : List Rule) → AtMostOne (defaults_fault rows rules)
unfolding defaults_fault
defaults_single rows [] = tt
defaults_single rows (a ∷ rules) = first_or (default_fault rows a) (defaults_fault (with_default rows a) rules) (default_single rows a) (defaults_single (with_default rows a) rules)

level_single : (s : Shape) (h : Held) (words : List Text) → s.is_leaf ≡ true → AtMostOne (level_fault s [] h words false [])
level_single s h words leaf =
    let end = (walk s.rules [] h words).held in
    let rows = finished s.rules end in
    first_or (walk_fault s [] (walk_from h) words)
    (or_else (settle_fault s.rules s.args_override_self end) (or_else (defaults_fault (settled s.rules end).rows s.rules) (check_fault s rows false)))
    (walk_single s (walk_from h) words leaf)
    (first_or (settle_fault s.rules s.args_override_self end) (or_else (defaults_fault (settled s.rules end).rows s.rules) (check_fault s rows false))
    (settle_single s.rules s.args_override_self end)
    (first_or (defaults_fault (settled s.rules end).rows s.rules) (check_fault s rows false)
    (defaults_single (settled s.rules end).rows s.rules)
    (check_single _ _ _)))

nothing_entered : (top : Shape) (stop : Option (Text × List Text)) (h : Held) (words : List Text) → top.is_leaf ≡ true
    → AtMostOne (level_fault top [] h words (is_some (entered (record { top = top; subs = [] }) stop)) (entered_fault (record { top = top; subs = [] }) stop))
nothing_entered top None h words leaf = level_single top h words leaf
nothing_entered top (Some p) h words leaf = level_single top h words leaf

-- a built command without subcommands fails for at most one cause
pub built_single : (top : Shape) (h : Held) (words : List Text) → top.is_leaf ≡ true → AtMostOne (built_fault (record { top = top; subs = [] }) h words)
built_single top h words leaf = nothing_entered top (walk top.rules [] h words).stopped h words leaf
