-- What one word asks for that does not begin with `-`.
use Rattle.std.proofs.Common.{◌≡◌, ◌==◌, ℕ, false, List, [], ◌∷◌, Some, refl, ap, ◌∙◌}
use Rattle.std.specs.Prelude.{is_some}
use Rattle.std.proofs.lemmas.Bool.{ne_eqb}
use Rattle.itv_base.specs.declared.limits.TheConstants.{DEFAULT_BUDGET}
use Rattle.clap.specs.Faults.{built_fault, check_fault, defaults_fault, entered_fault, fault_of, settle_fault, step_fault, turn_fault, walk_fault, word_fault}
use Rattle.clap.specs.Kinds.{Kinds, or_else}
use Rattle.clap.specs.Simple.{App, Shape, built, entered, matches_of}
use Rattle.clap.specs.Walk.{Held, Row, Rule, Step, Text, Walk, after_step, arg_by_index, finished, idle, nothing_held, rows_after, settled, to_positional, value, walk_from, walked, word_met}
use Rattle.clap.proofs.OnLiterals.{clap_on_literals}
use Rattle.command_words.specs.Command.{command}
use Rattle.command_words.specs.declared.job.SearchJob.TheVariants.{Bounds}
use Rattle.command_words.specs.Task.{answer_by, answer_for, searched, taken, task_of}
use Rattle.claim_laws.specs.Laws.{PlainWord}

-- the word goes to the first positional
abbrev first_taken : List Rule → Text → Walk
first_taken rules word = to_positional rules (arg_by_index rules 1) word (walk_from nothing_held) nothing_held

-- a command without subcommands
abbrev alone : Shape → App
alone s = record { top = s; subs = [] }

-- what may be wrong with it then
abbrev fault_then : Shape → Text → Kinds
fault_then s word =
    or_else (or_else (step_fault s 1 nothing_held value) [])
    (or_else (entered_fault (alone s) (first_taken s.rules word).stopped) (or_else (settle_fault s.rules s.args_override_self (first_taken s.rules word).held)
    (or_else (defaults_fault (settled s.rules (first_taken s.rules word).held).rows s.rules)
    (check_fault s (finished s.rules (first_taken s.rules word).held) (is_some (entered (alone s) (first_taken s.rules word).stopped))))))

-- ---- a word that is no flag

module _ (byte : ℕ) (bytes : List ℕ) (other : (byte == 45) ≡ false) where
  met_is : (rules : List Rule) (h : Held) → word_met rules [] false idle 1 (byte ∷ bytes) h ≡ (h, value)
  met_is rules h = rw (other, other) refl

  no_flag : (s : Shape) (h : Held) → word_fault s [] false idle (byte ∷ bytes) h ≡ []
  no_flag s h = rw (other, other) refl

  walked_is : (rules : List Rule) → walked rules [] (walk_from nothing_held) (byte ∷ bytes) ≡ first_taken rules (byte ∷ bytes)
  unfolding walked
  walked_is rules = ap (λ (met : Held × Step). after_step rules (byte ∷ bytes) (walk_from nothing_held) met.0 met.1) (met_is rules nothing_held)

  turn_is : (s : Shape) → turn_fault s [] (walk_from nothing_held) (byte ∷ bytes) ≡ step_fault s 1 nothing_held value
  turn_is s =
      ap (λ kinds. or_else kinds (step_fault s 1 (word_met s.rules [] false idle 1 (byte ∷ bytes) nothing_held).0 (word_met s.rules [] false idle 1 (byte ∷ bytes) nothing_held).1)) (no_flag s nothing_held)
      ∙ ap (λ (met : Held × Step). step_fault s 1 met.0 met.1) (met_is s.rules nothing_held)

  fault_is : (s : Shape) → built_fault (alone s) nothing_held ((byte ∷ bytes) ∷ []) ≡ fault_then s (byte ∷ bytes)
  unfolding walk_fault
  fault_is s = rw (walked_is s.rules, turn_is s) refl

  rows_are : (rules : List Rule) → rows_after rules [] ((byte ∷ bytes) ∷ []) ≡ finished rules (first_taken rules (byte ∷ bytes)).held
  rows_are rules = ap (λ (w : Walk). finished rules w.held) (walked_is rules)

-- ---- the command

no_fault : (word : Text) → fault_then (built command).top word ≡ []
unfolding clap_on_literals
no_fault word = refl

asks : (word : Text) → task_of (finished (built command).top.rules (first_taken (built command).top.rules word).held) ≡ Some (searched word (Bounds false) DEFAULT_BUDGET)
unfolding clap_on_literals
asks word = refl

by_none : (kinds : Kinds) (rows : List Row) → kinds ≡ [] → answer_by kinds rows ≡ answer_for (task_of rows)
by_none kinds rows none = ap (λ ks. answer_by ks rows) none

taken_is : (words : List Text) → taken words ≡ answer_by (fault_of command words) (matches_of command words)
unfolding taken
taken_is words = refl

empty_word : taken ([] ∷ []) ≡ answer_for (Some (searched [] (Bounds false) DEFAULT_BUDGET))
unfolding taken clap_on_literals
empty_word = refl

pub plain_word : PlainWord
plain_word [] plain = empty_word
plain_word (byte ∷ bytes) plain =
    let other : (byte == 45) ≡ false = ne_eqb byte 45 plain in
    taken_is ((byte ∷ bytes) ∷ [])
    ∙ by_none (fault_of command ((byte ∷ bytes) ∷ [])) (matches_of command ((byte ∷ bytes) ∷ [])) (fault_is byte bytes other (built command).top ∙ no_fault (byte ∷ bytes))
    ∙ ap (λ rows. answer_for (task_of rows)) (rows_are byte bytes other (built command).top.rules)
    ∙ ap answer_for (asks (byte ∷ bytes))
