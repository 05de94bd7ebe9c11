-- Reading the words of a line of a proof by clauses, and the two lines before a proof.
use Rattle.std.specs.Prelude.{◌^◌, ◌-◌, ℕ, ℤ, if◌then◌else◌, List, [], ◌∷◌, codes, Option, Some, None, option_map}
use Rattle.std.specs.List.{take_while}
use Rattle.std.specs.Char.{is_ascii_digit}
use Rattle.itv_base.specs.Cuts.{after_while, stripped}
use Rattle.line_words.specs.Words.{◌>>=◌, Word, is_word, keyed, many, or_else, split_words, two, when}
use Rattle.line_words.specs.Numbers.{long_in, number_in}
use Rattle.certificate.specs.Reading.{edge_in}
use Rattle.event_graph.specs.declared.edge.Edge.{Edge}
use Rattle.falling.specs.declared.view.View.{View}
use Rattle.falling.specs.declared.view.View.TheVariants.{Plain, Negated}
use Rattle.edge_clauses.specs.declared.claim.Claim.{Claim}
use Rattle.edge_clauses.specs.declared.basis.Basis.{Basis}
use Rattle.edge_clauses.specs.declared.basis.Basis.TheVariants.{ByEdge, Either, ByChoice, ByKept}
use Rattle.edge_clauses.specs.declared.basis.WalkStep.{WalkStep}
use Rattle.edge_clauses.specs.declared.line.EventBound.{EventBound}
use Rattle.edge_clauses.specs.Lines.{Assume, ClauseLine, Close, Fall, Know, Loop, Rise}

-- ---- words

-- a number of 32 bits
abbrev pub short_in : Word → Option ℕ
short_in word = number_in (2 ^ 32 - 1) word

-- a number of 32 bits and the text after it and after a mark
abbrev pub number_before : {A : Type 0} → Word → (ℕ → Word → Option A) → Word → Option A
number_before mark read word =
    short_in (take_while is_ascii_digit word) >>= λ number. stripped mark (after_while is_ascii_digit word) >>= λ rest. read number rest

-- the weight of an edge between two events
abbrev pub weight_in : ℕ → ℕ → Word → Option Edge
weight_in from to word = long_in word >>= λ weight. Some (record { from = record { 0 = from }; to = record { 0 = to }; weight = weight })

-- an edge from an event, read from the event that it leads to and its weight
abbrev pub target_in : ℕ → Word → Option Edge
target_in from word = number_before (codes ":") (weight_in from) word

-- an edge between two events
unfoldable pub difference_in : Word → Option Edge
difference_in word = number_before (codes ">") target_in word

-- an edge of which either it or its opposite is met
abbrev pub either_in : Word → Option Edge
either_in word = stripped (codes "E") word >>= difference_in

-- a number of 32 bits after a letter
abbrev pub lettered_in : Word → Word → Option ℕ
lettered_in letter word = stripped letter word >>= short_in

-- where a clause comes from
unfoldable pub basis_in : Word → Option Basis
basis_in word =
    or_else (option_map ByEdge (edge_in word)) (or_else (option_map Either (either_in word))
    (or_else (option_map ByChoice (lettered_in (codes "C") word)) (option_map ByKept (lettered_in (codes "K") word))))

-- a step through the edge at a place of the clause of a basis
abbrev pub through_in : ℕ → Word → Option WalkStep
through_in through word = basis_in word >>= λ basis. Some (record { basis = basis; through = through })

unfoldable pub step_in : Word → Option WalkStep
step_in word = number_before (codes "/") through_in word

-- ---- words of a line

-- the first word as a number of 32 bits, and the other words
abbrev pub first_number : List Word → Option (ℕ × List Word)
first_number [] = None
first_number (word ∷ words) = short_in word >>= λ n. Some (n, words)

-- the first word as such a number, and what is read of the other words
abbrev pub number_then : {A : Type 0} → (List Word → Option A) → List Word → Option (ℕ × A)
number_then read words = first_number words >>= λ p. read p.1 >>= λ x. Some (p.0, x)

-- the words before the first word that is this one, and the words after it
abbrev pub parted : Word → List Word → Option (List Word × List Word)
parted key [] = None
parted key (word ∷ words) = if is_word word key then Some ([], words) else option_map (λ (p : List Word × List Word). (word ∷ p.0, p.1)) (parted key words)

-- what is read of each word before the first word that is this one, and of each word after it
abbrev pub many_and_many : {A B : Type 0} → (Word → Option A) → Word → (Word → Option B) → List Word → Option (List A × List B)
many_and_many read key also words = parted key words >>= λ p. many read p.0 >>= λ xs. many also p.1 >>= λ ys. Some (xs, ys)

-- ---- lines

-- a bound of an event, and where its clause comes from
abbrev pub bound_of : ℕ × (ℤ × Basis) → EventBound
bound_of p = record { event = record { 0 = p.0 }; value = p.1.0; basis = p.1.1 }

abbrev pub bound_in : List Word → Option EventBound
bound_in words = option_map bound_of (number_then (two long_in basis_in) words)

abbrev pub fall_of : EventBound → ClauseLine
fall_of bound = Fall bound.event bound.value bound.basis

abbrev pub fall_in : List Word → Option ClauseLine
fall_in words = option_map fall_of (keyed (codes "fall") bound_in words)

abbrev pub rise_of : EventBound → ClauseLine
rise_of bound = Rise bound.event bound.value bound.basis

abbrev pub rise_in : List Word → Option ClauseLine
rise_in words = option_map rise_of (keyed (codes "rise") bound_in words)

abbrev pub know_of : Edge × Basis → ClauseLine
know_of p = Know p.0 p.1

abbrev pub know_in : List Word → Option ClauseLine
know_in words = option_map know_of (keyed (codes "know") (two difference_in basis_in) words)

abbrev pub loop_of : ℕ × (List WalkStep × List Edge) → ClauseLine
loop_of p = Loop (record { 0 = p.0 }) p.1.0 p.1.1

abbrev pub loop_in : List Word → Option ClauseLine
loop_in words = option_map loop_of (keyed (codes "loop") (number_then (many_and_many step_in (codes "keep") difference_in)) words)

abbrev pub assume_in : List Word → Option ClauseLine
assume_in words = option_map Assume (keyed (codes "assume") (many difference_in) words)

-- the closing line, if no word stands after its first
abbrev pub closing : List Word → Option ClauseLine
closing [] = Some Close
closing (word ∷ words) = None

abbrev pub close_in : List Word → Option ClauseLine
close_in words = keyed (codes "close") closing words

-- the line of a proof with these words
unfoldable pub clause_in : List Word → Option ClauseLine
clause_in words =
    or_else (fall_in words) (or_else (rise_in words) (or_else (know_in words) (or_else (loop_in words) (or_else (assume_in words) (close_in words)))))

-- the line of a proof with this text, which has no line end
abbrev pub line_in : List ℕ → Option ClauseLine
line_in text = clause_in (split_words text)

-- ---- the two lines before a proof, without their line ends

abbrev pub view_in : List ℕ → Option View
view_in text = if is_word text (codes "view plain") then Some Plain else when (is_word text (codes "view negated")) (Some Negated)

abbrev pub claim_of : ℤ → Claim
claim_of value = record { value = value }

abbrev pub claim_in : List ℕ → Option Claim
claim_in text = stripped (codes "claim ") text >>= λ digits. option_map claim_of (long_in digits)
