-- Flags as bits of words.
use Rattle.std.proofs.Common.{◌≡◌, ◌≢◌, ◌+◌, ◌-◌, ◌*◌, ◌/◌, ◌%◌, ◌^◌, ◌<◌, ◌≤◌, ◌⊎◌, inl, inr, ℕ, min, List, length, get_or, set, replicate, sym, ap, ◌∙◌, refl, subst, arith}
use Rattle.std.specs.List.{sum}
use Rattle.std.specs.Int.{bit_at, trailing_zeros, w64}
use Rattle.std.specs.Int.RustNames.{bit_or}
use Rattle.std.specs.Prelude.{bit_and}
use Rattle.std.proofs.lemmas.Bool.{cases_eq, cases_lt}
use Rattle.std.proofs.lemmas.Grind.{get_or-set_at}
use Rattle.std.proofs.lemmas.List.{get_or-replicate, get_or-set_other, get_or_past, length-replicate, with_items_is}
use Rattle.std.proofs.lemmas.List.Sums.{sum_by-set}
use Rattle.std.proofs.lemmas.Nat.{and_le_l}
use Rattle.std.proofs.lemmas.Nat.Bits.{bit_at-trailing_zeros, bit_at-zero, bit_at_clear_other, bit_at_clear_same, bit_at_ones, bit_at_set_other, bit_at_set_same}
use Rattle.falling.specs.Step.Agenda.{IsFirstPending, IsPending}
use Rattle.std.specs.Vec.{with_items}
use Rattle.itv_base.specs.declared.limits.TheConstants.{MAX_CONSTRAINTS}
use Rattle.falling.specs.declared.pending_flags.PendingFlags.TheInside.{Inside}
use Rattle.falling.specs.Step.Words.{AreEmpty, HasStart}

-- a word with the bit of a number
abbrev pub with_flag : ℕ → ℕ → ℕ
with_flag word number = bit_or word (1 * 2 ^ (number % 64) % 18446744073709551616)

-- a word without the bit of a number
abbrev pub without_flag : ℕ → ℕ → ℕ
without_flag word number = bit_and word (18446744073709551615 - 1 * 2 ^ (number % 64) % 18446744073709551616)

in_word : (number : ℕ) → number % 64 < 64
in_word number = omega arith

word_within : (number count : ℕ) → number < 64 * count → number / 64 < count
word_within number count within = omega arith

same_number : (k number : ℕ) → k / 64 ≡ number / 64 → k % 64 ≡ number % 64 → k ≡ number
same_number k number word bit = omega arith

zero_is_not_one : (n : ℕ) → n ≡ 0 → n ≡ 1 → ⊥
zero_is_not_one n zero one = omega arith

-- the bit of a number in a set of words, where its word is known
bit_of : (words : List ℕ) (place word k : ℕ) → k / 64 ≡ place → place < length words → bit_at (get_or (set words place word) (k / 64) 0) (k % 64) ≡ bit_at word (k % 64)
bit_of words place word k same within = ap (λ (n : ℕ). bit_at n (k % 64)) (get_or-set_at words place (k / 64) word 0 same within)

pub set_there : (words : List ℕ) (number : ℕ) → number < 64 * length words
    → IsPending (set words (number / 64) (with_flag (get_or words (number / 64) 0) number)) number
set_there words number within =
    bit_of words (number / 64) (with_flag (get_or words (number / 64) 0) number) number refl (word_within number (length words) within)
    ∙ bit_at_set_same w64 (get_or words (number / 64) 0) (number % 64) (in_word number)

pub set_kept : (words : List ℕ) (number k : ℕ) → number < 64 * length words → IsPending words k
    → IsPending (set words (number / 64) (with_flag (get_or words (number / 64) 0) number)) k
set_kept words number k within here = elim (cases_eq (k / 64) (number / 64)) [
  | inl word ↦ elim (cases_eq (k % 64) (number % 64)) [
    | inl bit ↦ subst (IsPending (set words (number / 64) (with_flag (get_or words (number / 64) 0) number))) (sym (same_number k number word bit)) (set_there words number within)
    | inr other ↦
        bit_of words (number / 64) (with_flag (get_or words (number / 64) 0) number) k word (word_within number (length words) within)
        ∙ (bit_at_set_other w64 (get_or words (number / 64) 0) (number % 64) (in_word number) (k % 64) other
        ∙ (ap (λ (i : ℕ). bit_at (get_or words i 0) (k % 64)) (sym word) ∙ here))
  ]
  | inr apart ↦ ap (λ (n : ℕ). bit_at n (k % 64)) (get_or-set_other words (number / 64) (k / 64) (with_flag (get_or words (number / 64) 0) number) 0 apart) ∙ here
]

pub set_empty : (words : List ℕ) (number word start : ℕ) → start ≤ number / 64 → AreEmpty words start → AreEmpty (set words (number / 64) word) start
set_empty words number word start before empty place below =
    get_or-set_other words (number / 64) place word 0 (λ same. ⊥-of place (number / 64) start below before same) ∙ empty place below where
      ⊥-of : (a b c : ℕ) → a < c → c ≤ b → a ≡ b → ⊥
      ⊥-of a b c p q e = omega arith

pub clear_gone : (words : List ℕ) (number : ℕ) → number < 64 * length words
    → IsPending (set words (number / 64) (without_flag (get_or words (number / 64) 0) number)) number → ⊥
clear_gone words number within here =
    zero_is_not_one _ (bit_at_clear_same w64 (get_or words (number / 64) 0) (number % 64) (in_word number))
    (sym (bit_of words (number / 64) (without_flag (get_or words (number / 64) 0) number) number refl (word_within number (length words) within)) ∙ here)

pub clear_others : (words : List ℕ) (number k : ℕ) → number < 64 * length words → k ≢ number → IsPending words k
    → IsPending (set words (number / 64) (without_flag (get_or words (number / 64) 0) number)) k
clear_others words number k within apart here = elim (cases_eq (k / 64) (number / 64)) [
  | inl word ↦ elim (cases_eq (k % 64) (number % 64)) [
    | inl bit ↦ absurd (apart (same_number k number word bit))
    | inr other ↦
        bit_of words (number / 64) (without_flag (get_or words (number / 64) 0) number) k word (word_within number (length words) within)
        ∙ (bit_at_clear_other w64 (get_or words (number / 64) 0) (number % 64) (in_word number) (k % 64) (in_word k) other
        ∙ (ap (λ (i : ℕ). bit_at (get_or words i 0) (k % 64)) (sym word) ∙ here))
  ]
  | inr off ↦ ap (λ (n : ℕ). bit_at n (k % 64)) (get_or-set_other words (number / 64) (k / 64) (without_flag (get_or words (number / 64) 0) number) 0 off) ∙ here
]

less_or_same : (a b : ℕ) → a ≤ b → (a < b) ⊎ (a ≡ b)
less_or_same a b le = grind arith

below : (a b : ℕ) → a ≤ b → a ≢ b → a < b
below a b le not = elim (less_or_same a b le) [ inl less ↦ less | inr same ↦ absurd (not same) ]

word_less : (word number : ℕ) → bit_at word (number % 64) ≡ 1 → without_flag word number < word
word_less word number here =
    below (without_flag word number) word (and_le_l word _)
    (λ same. zero_is_not_one _ (bit_at_clear_same w64 word (number % 64) (in_word number)) (ap (λ (n : ℕ). bit_at n (number % 64)) same ∙ here))

pub clear_less : (words : List ℕ) (number : ℕ) → number < 64 * length words → IsPending words number
    → sum (set words (number / 64) (without_flag (get_or words (number / 64) 0) number)) < sum words
clear_less words number within here =
    let sums = sum_by-set (λ (n : ℕ). n) words (number / 64) (without_flag (get_or words (number / 64) 0) number) 0 (word_within number (length words) within) in
    let less = word_less (get_or words (number / 64) 0) number here in
    omega arith

-- a word that loses a bit stays empty where it was
pub clear_empty : (words : List ℕ) (number start : ℕ) → number < 64 * length words → AreEmpty words start
    → AreEmpty (set words (number / 64) (without_flag (get_or words (number / 64) 0) number)) start
clear_empty words number start within empty place below = elim (cases_eq place (number / 64)) [
  | inl same ↦
      get_or-set_at words (number / 64) place (without_flag (get_or words (number / 64) 0) number) 0 same (word_within number (length words) within)
      ∙ none (without_flag (get_or words (number / 64) 0) number) (get_or words (number / 64) 0) (and_le_l _ _) (ap (λ (i : ℕ). get_or words i 0) (sym same) ∙ empty place below)
  | inr apart ↦ get_or-set_other words (number / 64) place (without_flag (get_or words (number / 64) 0) number) 0 apart ∙ empty place below
] where
  none : (a b : ℕ) → a ≤ b → b ≡ 0 → a ≡ 0
  none a b le zero = omega arith

zero_or_more : (n : ℕ) → (n ≡ 0) ⊎ (0 < n)
zero_or_more n = grind arith

some : (n : ℕ) → n ≢ 0 → 0 < n
some n not = elim (zero_or_more n) [ inl zero ↦ absurd (not zero) | inr more ↦ more ]

below_or_in : (k place bit : ℕ) → bit < 64 → k < place * 64 + bit → (k / 64 < place) ⊎ ((k / 64 ≡ place) × (k % 64 < bit))
below_or_in k place bit small before = elim (cases_eq (k / 64) place) [
  | inl word ↦ inr (word, omega arith)
  | inr off ↦ inl (below (k / 64) place (omega arith) off)
]

first_at : (words : List ℕ) (place bit : ℕ) → place < length words → AreEmpty words place → bit < 64 → bit_at (get_or words place 0) bit ≡ 1
    → ((i : ℕ) → i < bit → bit_at (get_or words place 0) i ≡ 0) → IsFirstPending words (place * 64 + bit)
first_at words place bit within empty small here none = record {
  within = omega arith;
  here =
      let word : (place * 64 + bit) / 64 ≡ place = omega arith in
      let low : (place * 64 + bit) % 64 ≡ bit = omega arith in
      rw (word, low) here;
  earlier = λ k before there. elim (below_or_in k place bit small before) [
    | inl word ↦ zero_is_not_one _ (ap (λ (n : ℕ). bit_at n (k % 64)) (empty (k / 64) word) ∙ bit_at-zero (k % 64)) there
    | inr (word, low) ↦ zero_is_not_one _ (none (k % 64) low) (ap (λ (i : ℕ). bit_at (get_or words i 0) (k % 64)) (sym word) ∙ there)
  ];
}

-- where the words before a place are empty, the lowest bit of its word is the least number
pub first_is : (words : List ℕ) (place : ℕ) → place < length words → AreEmpty words place → get_or words place 0 ≢ 0 → get_or words place 0 < 2 ^ 64
    → IsFirstPending words (place * 64 + trailing_zeros w64 (get_or words place 0))
first_is words place within empty used fits =
    let found = bit_at-trailing_zeros w64 (get_or words place 0) (some (get_or words place 0) used) fits in
    first_at words place (trailing_zeros w64 (get_or words place 0)) within empty found.0 found.1 found.2

-- where all words are empty there is no flag
pub none_pending : (words : List ℕ) (place : ℕ) → length words ≤ place → AreEmpty words place → (number : ℕ) → IsPending words number → ⊥
none_pending words place all empty number here =
    zero_is_not_one _ (ap (λ (n : ℕ). bit_at n (number % 64)) (is_empty words place (number / 64) all empty) ∙ bit_at-zero (number % 64)) here where
      is_empty : (words : List ℕ) (place i : ℕ) → length words ≤ place → AreEmpty words place → get_or words i 0 ≡ 0
      is_empty words place i all empty = elim (cases_lt i place) [ inl under ↦ empty i under | inr out ↦ get_or_past words i 0 (omega arith) ]

-- where all bits of all words are set each number has its flag
pub all_pending : (count number : ℕ) → number < 64 * count → IsPending (replicate count 18446744073709551615) number
all_pending count number within =
    ap (λ (n : ℕ). bit_at n (number % 64)) (get_or-replicate count (number / 64) 18446744073709551615 0 (word_within number count within)) ∙ bit_at_ones 64 (number % 64) (in_word number)

-- the start after a number got its flag
pub start_after : (old new : List ℕ) (start number : ℕ) → AreEmpty old start → ((s : ℕ) → s ≤ number / 64 → AreEmpty old s → AreEmpty new s) → AreEmpty new (min start (number / 64))
start_after old new start number empty step =
    step (min start (number / 64)) (omega arith) (λ place below. empty place (omega arith))

pub filled_pending : (words : List ℕ) (count number : ℕ) → words ≡ replicate count 18446744073709551615 → number < 64 * length words → IsPending words number
filled_pending words count number is within =
    subst (λ (w : List ℕ). IsPending w number) (sym is) (all_pending count number (subst (λ n. number < 64 * n) (ap length is ∙ length-replicate count 18446744073709551615) within))

-- a number got its flag: the words before the lesser of the start and the place of its word are empty
pub start_kept : (p : Inside) (words : List ℕ) (number start : ℕ) → HasStart p → length words ≡ length p.words.items
    → ((s : ℕ) → s ≤ number / 64 → AreEmpty p.words.items s → AreEmpty words s) → start ≡ min p.start (number / 64)
    → HasStart (record { words = with_items p.words words; start = start })
start_kept p words number start has count step is =
    let same : (with_items p.words words).items ≡ words = with_items_is p.words words (count ∙ sym p.words.ok.0) in
    record {
      start = subst (λ (w : List ℕ). start ≤ length w) (sym same) (omega (arith, has.start));
      empty = subst (λ (w : List ℕ). AreEmpty w start) (sym same) (subst (AreEmpty words) (sym is) (start_after p.words.items words p.start number has.empty step));
      small = subst (λ (w : List ℕ). length w ≤ MAX_CONSTRAINTS) (sym same) (rw count has.small);
    }
