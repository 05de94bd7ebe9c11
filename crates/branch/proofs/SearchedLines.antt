-- What a search has reached, according to its lines.
use Rattle.std.proofs.Common.{◌≡◌, ◌+◌, ◌-◌, ◌<◌, ◌≤ℤ◌, ◌⊎◌, ℕ, zero, suc, ℤ, List, [], ◌∷◌, ◌++◌, All, Contains, refl, sym, ap, ◌∙◌, subst, inl, inr, arith}
use Rattle.std.proofs.lemmas.Int.{ints}
use Rattle.std.proofs.lemmas.List.Elements.{All-contains, Contains-append_right}
use Rattle.itv_base.specs.declared.names.EdgeName.{EdgeName}
use Rattle.itv_base.specs.declared.names.EventId.{EventId}
use Rattle.event_graph.specs.Network.{Net}
use Rattle.event_graph.specs.Proof.{Bound, Case, ClosesByPath, Loop, MaySplit, Path, ProofGoal, ProofLine, ProofLeaves, Split, cases_from, cases_of, closing_lines, count_causes, path_sum}
use Rattle.std.proofs.Common.{slice_get}
use Rattle.event_graph.specs.Reading.{cases_left}
use Rattle.event_graph.proofs.ReadingOn.{closing_lines-append, reading_leaves_cases, reads-append}
use Rattle.event_graph.specs.Cases.{first_of, open_cases, siblings}
use Rattle.branch.specs.Step.Searched.{ClosesCases, IsClosing, IsSearchedSoFar}

path_raises : (net : Net) (from to : EventId) (value higher : ℤ) (chosen : Case) (names : List EdgeName) → value ≤ℤ higher
    → ClosesByPath net (Bound from to value) chosen names → ClosesByPath net (Bound from to higher) chosen names
path_raises net from to value higher chosen names up closes =
    let most : path_sum net names ≤ℤ value = closes.2 in
    (closes.0, closes.1, omega (arith, ints), closes.3)

-- lines that show a value show each higher one
pub reads_higher : (net : Net) (from to : EventId) (value higher : ℤ) (lines : List ProofLine) (cases left : List Case) → value ≤ℤ higher
    → ProofLeaves net (Bound from to value) cases lines left → ProofLeaves net (Bound from to higher) cases lines left
reads_higher net from to value higher [] cases left up reads = reads
reads_higher net from to value higher (line ∷ lines) [] left up reads = absurd reads
reads_higher net from to value higher (Split number ∷ lines) (chosen ∷ cases) left up reads =
    (reads.0, reads_higher net from to value higher lines (cases_of net chosen number ++ cases) left up reads.1)
reads_higher net from to value higher (Path names ∷ lines) (chosen ∷ cases) left up reads =
    (path_raises net from to value higher chosen names up reads.0, reads_higher net from to value higher lines cases left up reads.1)
reads_higher net from to value higher (Loop names ∷ lines) (chosen ∷ cases) left up reads =
    (reads.0, reads_higher net from to value higher lines cases left up reads.1)

contains_first : (line : ProofLine) (lines : List ProofLine) (sought : ProofLine) → Contains (line ∷ lines) sought → (line ≡ sought) ⊎ Contains lines sought
contains_first line lines sought (zero, within, is) = inl is
contains_first line lines sought (suc k, within, is) = inr (k, omega arith, is)

-- each path in lines that show a value has at most that sum
pub paths_within : (net : Net) (from to : EventId) (value : ℤ) (lines : List ProofLine) (cases left : List Case) (names : List EdgeName)
    → ProofLeaves net (Bound from to value) cases lines left → Contains lines (Path names) → path_sum net names ≤ℤ value
paths_within net from to value [] cases left names reads contains = absurd (omega (arith, contains.1))
paths_within net from to value (line ∷ lines) [] left names reads contains = absurd reads
paths_within net from to value (Split number ∷ lines) (chosen ∷ cases) left names reads contains =
    elim (contains_first (Split number) lines (Path names) contains) [
      | inl same ↦ absurd (cc)
      | inr rest ↦ paths_within net from to value lines (cases_of net chosen number ++ cases) left names reads.1 rest
    ]
paths_within net from to value (Path others ∷ lines) (chosen ∷ cases) left names reads contains =
    elim (contains_first (Path others) lines (Path names) contains) [
      | inl same ↦ (let is : others ≡ names = cc in subst (λ ns. path_sum net ns ≤ℤ value) is reads.0.2)
      | inr rest ↦ paths_within net from to value lines cases left names reads.1 rest
    ]
paths_within net from to value (Loop others ∷ lines) (chosen ∷ cases) left names reads contains =
    elim (contains_first (Loop others) lines (Path names) contains) [
      | inl same ↦ absurd (cc)
      | inr rest ↦ paths_within net from to value lines cases left names reads.1 rest
    ]

-- a line in two joined lists is in the one or in the other
pub stands_in : (xs ys before after : List ProofLine) (line : ProofLine) → xs ++ ys ≡ before ++ line ∷ after
    → ((rest : List ProofLine) × (xs ≡ before ++ line ∷ rest)) ⊎ ((front : List ProofLine) × (before ≡ xs ++ front) × (ys ≡ front ++ line ∷ after))
stands_in [] ys before after line same = inr (before, refl, same)
stands_in (x ∷ xs) ys [] after line same = inl (xs, cc)
stands_in (x ∷ xs) ys (b ∷ before) after line same =
    let tails : xs ++ ys ≡ before ++ line ∷ after = cc in
    let heads : x ≡ b = cc in
    elim (stands_in xs ys before after line tails) [
      | inl (rest, is) ↦ inl (rest, cc)
      | inr (front, is, more) ↦ inr (front, cc, more)
    ]

cases-first : (chosen : Case) (number count : ℕ) → 0 < count
    → cases_from chosen number 0 count ≡ (record { constraint = number; cause = 0 } ∷ chosen) ∷ cases_from chosen number (0 + 1) (count - (0 + 1))
cases-first chosen number zero some = absurd (omega arith)
cases-first chosen number (suc count) some =
    let less : suc count - 1 ≡ count = omega arith in
    rw less refl

-- a split opens the case of the first cause
pub split_open : (net : Net) (chosen : Case) (number : ℕ) → 0 < count_causes (slice_get net.constraints number)
    → cases_of net chosen number ++ siblings net chosen ≡ open_cases net (first_of number chosen)
split_open net chosen number some =
    ap (λ (cases : List Case). cases ++ siblings net chosen) (cases-first chosen number (count_causes (slice_get net.constraints number)) some)

pub no_line : (before after : List ProofLine) (line : ProofLine) → [] ≡ before ++ line ∷ after → ⊥
no_line [] after line same = cc
no_line (b ∷ before) after line same = cc

-- no line is read yet
pub none_searched : (net : Net) (goal : ProofGoal) (IsNeeded : List ProofLine → Case → ℕ → Type 0) → IsSearchedSoFar net goal IsNeeded [] ([] ∷ []) 0
none_searched net goal IsNeeded = record {
  reads = refl;
  needed = λ before after number chosen cases is left. absurd (no_line before after (Split number) is);
  count = refl;
}

no_split : (more front after : List ProofLine) (number : ℕ) → All IsClosing more → more ≡ front ++ Split number ∷ after → ⊥
no_split more front after number closing is =
    let there : Contains (Split number ∷ after) (Split number) = (0, omega arith, refl) in
    All-contains IsClosing more (Split number) closing
    (subst (λ ls. Contains ls (Split number)) (sym is) (Contains-append_right front (Split number ∷ after) (Split number) there))

-- lines that close cases go on from what was searched
pub searched_closes : (net : Net) (goal : ProofGoal) (IsNeeded : List ProofLine → Case → ℕ → Type 0) (lines more : List ProofLine) (cases left : List Case) (closed : ℕ)
    → IsSearchedSoFar net goal IsNeeded lines cases closed → ClosesCases net goal cases left more → IsSearchedSoFar net goal IsNeeded (lines ++ more) left (closed + closing_lines more)
searched_closes net goal IsNeeded lines more cases left closed searched closes = record {
  reads = reads-append net goal lines more ([] ∷ []) cases left searched.reads closes.reads;
  needed = λ before after number chosen open' is at.
      elim (stands_in lines more before after (Split number) is) [
        | inl (rest, first) ↦ searched.needed before rest number chosen open' first at
        | inr (front, is_before, last) ↦ absurd (no_split more front after number closes.closing last)
      ];
  count = omega (arith, closing_lines-append lines more, searched.count);
}

only_line : (front after : List ProofLine) (line other : ProofLine) → line ∷ [] ≡ front ++ other ∷ after → (front ≡ []) × (line ≡ other)
only_line [] after line other same = (refl, cc)
only_line (f ∷ front) after line other same = absurd (no_line front after other (cc))

pub nothing_after : (lines : List ProofLine) → lines ++ [] ≡ lines
nothing_after [] = refl
nothing_after (line ∷ lines) = ap (λ ls. line ∷ ls) (nothing_after lines)

-- a needed split continues from what was searched
pub searched_splits : (net : Net) (goal : ProofGoal) (IsNeeded : List ProofLine → Case → ℕ → Type 0) (lines : List ProofLine) (chosen : Case) (number closed : ℕ)
    → IsSearchedSoFar net goal IsNeeded lines (open_cases net chosen) closed → MaySplit net chosen number → IsNeeded lines chosen number
    → 0 < count_causes (slice_get net.constraints number)
    → IsSearchedSoFar net goal IsNeeded (lines ++ Split number ∷ []) (open_cases net (first_of number chosen)) closed
searched_splits net goal IsNeeded lines chosen number closed searched may need some = record {
  reads = reads-append net goal lines (Split number ∷ []) ([] ∷ []) (open_cases net chosen) (open_cases net (first_of number chosen)) searched.reads
      (may, split_open net chosen number some);
  needed = λ before after other case cases is at.
      elim (stands_in lines (Split number ∷ []) before after (Split other) is) [
        | inl (rest, first) ↦ searched.needed before rest other case cases first at
        | inr (front, is_before, last) ↦ (
            let only = only_line front after (Split number) (Split other) last in
            let is_none : front ≡ [] = only.0 in
            let is_same : Split number ≡ Split other = only.1 in
            let is_lines : before ≡ lines = is_before ∙ ap (λ (ls : List ProofLine). lines ++ ls) is_none ∙ nothing_after lines in
            let is_number : number ≡ other = cc in
            let here : cases_left net ([] ∷ []) lines ≡ open_cases net chosen = reading_leaves_cases net goal ([] ∷ []) (open_cases net chosen) lines searched.reads in
            let there : cases_left net ([] ∷ []) lines ≡ case ∷ cases = subst (λ ls. cases_left net ([] ∷ []) ls ≡ case ∷ cases) is_lines at in
            let is_case : chosen ≡ case = cc in
            subst (λ ls. IsNeeded ls case other) (sym is_lines) (subst (λ c. IsNeeded lines c other) is_case (subst (IsNeeded lines chosen) is_number need))
            )
      ];
  count = omega (arith, closing_lines-append lines (Split number ∷ []), searched.count);
}

-- a higher value is shown too
pub searched_higher : (net : Net) (from to : EventId) (value higher : ℤ) (IsNeeded : List ProofLine → Case → ℕ → Type 0) (lines : List ProofLine) (cases : List Case) (closed : ℕ)
    → value ≤ℤ higher → IsSearchedSoFar net (Bound from to value) IsNeeded lines cases closed → IsSearchedSoFar net (Bound from to higher) IsNeeded lines cases closed
searched_higher net from to value higher IsNeeded lines cases closed up searched = record {
  reads = reads_higher net from to value higher lines ([] ∷ []) cases up searched.reads;
  needed = searched.needed;
  count = searched.count;
}
