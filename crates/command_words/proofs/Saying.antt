-- What the words are taken for, according to what `clap` returns.
use Rattle.std.proofs.Common.{◌≡◌, ◌⊎◌, inl, inr, Result, Ok, Err, IfOk, true, List, [], ◌∷◌, map, ◌∙◌, sym, ap, subst, refl}
use Rattle.clap.specs.Faults.{fault_of, is_simple_and_free}
use Rattle.clap.specs.Kinds.{IsAmong, Kinds}
use Rattle.clap.specs.Matches.{found_of}
use Rattle.clap.specs.Simple.{App, HasMatchesOf, argument_words, built, is_simple, matches_of}
use Rattle.clap.specs.Walk.{Row, Text, nothing_held, rows_of}
use Rattle.clap.specs.declared.error.kind.ErrorKind.{ErrorKind}
use Rattle.clap.specs.declared.error.kind.ErrorKind.TheVariants.{OutOfMemory}
use Rattle.clap.specs.declared.parser.matches.ArgMatches.{ArgMatches}
use Rattle.clap.proofs.OnLiterals.{clap_on_literals}
use Rattle.command_words.specs.Command.{command}
use Rattle.itv_base.specs.declared.text.NoMemory.{NoMemory}
use Rattle.command_words.specs.Task as said
use Rattle.command_words.specs.View.{answer_view}
use Rattle.command_words.specs.declared.task.Invocation.{Invocation}
use Rattle.command_words.specs.Task.{answer_by, answer_for, refusal_for, taken, task_of}
use Rattle.command_words.proofs.Single.{AtMostOne, built_single}

is_free : is_simple_and_free command ≡ true
unfolding clap_on_literals
is_free = refl

is_plain : is_simple command ≡ true
unfolding clap_on_literals
is_plain = refl

by_kinds : (words : List Text) → answer_by (fault_of command words) (matches_of command words) ≡ taken words
unfolding taken
by_kinds words = refl

single : (words : List Text) → AtMostOne (fault_of command words)
single words = built_single (built command).top nothing_held (argument_words command words) refl

of_one : (kind : ErrorKind) (kinds : Kinds) (rows : List Row) → AtMostOne kinds → IsAmong kind kinds → refusal_for kind ≡ answer_by kinds rows
of_one kind [] rows one among = absurd among
of_one kind (k ∷ []) rows one (inl same) = ap refusal_for same
of_one kind (k ∷ []) rows one (inr other) = absurd other
of_one kind (k ∷ other ∷ kinds) rows one among = absurd one

no_kinds : (kinds : Kinds) (rows : List Row) → kinds ≡ [] → answer_by kinds rows ≡ answer_for (task_of rows)
no_kinds kinds rows none = ap (λ ks. answer_by ks rows) none

-- the words are taken
pub by_matches : (app : App) (words : List Text) (m : ArgMatches) → app ≡ command → (is_simple_and_free app ≡ true → fault_of app words ≡ []) → HasMatchesOf app words m
    → answer_for (task_of (rows_of (found_of m))) ≡ taken words
by_matches app words m is none matches =
    let P : App → Type 0 = λ a. is_simple_and_free a ≡ true → fault_of a words ≡ [] in
    let Q : App → Type 0 = λ a. HasMatchesOf a words m in
    let nothing = subst P is none is_free in
    let rows = (subst Q is matches is_plain).0 in
    ap (λ rows. answer_for (task_of rows)) rows ∙ sym (no_kinds (fault_of command words) (matches_of command words) nothing) ∙ by_kinds words

-- the words are refused, or ask for help
pub by_error : (app : App) (words : List Text) (kind : ErrorKind) → app ≡ command → (kind ≡ OutOfMemory → ⊥)
    → (is_simple_and_free app ≡ true → (kind ≡ OutOfMemory) ⊎ IsAmong kind (fault_of app words)) → refusal_for kind ≡ taken words
by_error app words kind is memory fails =
    let P : App → Type 0 = λ a. is_simple_and_free a ≡ true → (kind ≡ OutOfMemory) ⊎ IsAmong kind (fault_of a words) in
    elim (subst P is fails is_free) [
      | inl out ↦ absurd (memory out)
      | inr among ↦ of_one kind (fault_of command words) (matches_of command words) (single words) among ∙ by_kinds words
    ]

-- the words as `clap` reads them
pub as_read : (words : List Text) → map (λ word. word) words ≡ words
as_read [] = refl
as_read (word ∷ words) = ap (λ ws. word ∷ ws) (as_read words)

-- the words that are refused, if memory was found for the result
pub of_refusal : (result : Result Invocation NoMemory) (kind : ErrorKind) (wanted : said.Invocation) → IfOk result (λ a. (kind ≡ OutOfMemory → ⊥) × (answer_view a ≡ refusal_for kind))
    → ((kind ≡ OutOfMemory → ⊥) → refusal_for kind ≡ wanted) → IfOk result (λ a. answer_view a ≡ wanted)
of_refusal (Ok a) kind wanted refusal is = refusal.1 ∙ is refusal.0
of_refusal (Err e) kind wanted refusal is = tt
