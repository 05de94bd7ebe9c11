-- Cutting a text at its line ends.
use Rattle.std.proofs.Common.{◌≡◌, ℕ, Bool, true, false, cond, List, [], ◌∷◌, ◌++◌, refl, sym, ap, ◌∙◌, ◌<◌, length, arith}
use Rattle.std.specs.List.{AllByRecursion, slice_split, onto_first, after_first, before_first, position_or_len}
use Rattle.std.proofs.lemmas.Bool.{both_ways}
use Rattle.std.proofs.lemmas.List.Splits.{slice_split_at, slice_split_none, slice_split_first}
use Rattle.std.proofs.lemmas.List.Elements.{All-from_recursion}
use Rattle.std.proofs.Common.{append_assoc}
use Rattle.std.proofs.lemmas.List.Sums.{fails_before_first}
use Rattle.line_words.specs.Lines.{ended, is_feed}

-- the text has no line end in it
abbrev pub IsLine : List ℕ → Type 0
IsLine line = AllByRecursion (λ b. is_feed b ≡ false) line

head_same : (a b : ℕ) (xs ys : List ℕ) → a ∷ xs ≡ b ∷ ys → (a ≡ b) × (xs ≡ ys)
head_same a b xs ys e = (cc, cc)

-- a text begins with a line and its end in only one way
pub cut_same : (a b more rest : List ℕ) → IsLine a → IsLine b → ended a ++ more ≡ ended b ++ rest → (a ≡ b) × (more ≡ rest)
cut_same [] [] more rest p q e = (refl, (head_same 10 10 more rest e).1)
cut_same [] (d ∷ b) more rest p q e = absurd (both_ways (is_feed d) q.0 (ap is_feed (sym (head_same 10 d more (ended b ++ rest) e).0)))
cut_same (c ∷ a) [] more rest p q e = absurd (both_ways (is_feed c) p.0 (ap is_feed (head_same c 10 (ended a ++ more) rest e).0))
cut_same (c ∷ a) (d ∷ b) more rest p q e =
    let h = head_same c d (ended a ++ more) (ended b ++ rest) e in
    let t = cut_same a b more rest p.1 q.1 h.1 in
    (let first : c ≡ d = h.0 in let same : a ≡ b = t.0 in cc, t.1)

-- ---- the parts of a text between its line ends

onto_lines : (b : ℕ) (parts : List (List ℕ)) → is_feed b ≡ false → AllByRecursion IsLine parts → AllByRecursion IsLine (onto_first b parts)
onto_lines b [] h lines = ((h, tt), tt)
onto_lines b (part ∷ parts) h lines = ((h, lines.0), lines.1)

cons_lines : (b : ℕ) (parts : List (List ℕ)) (test : Bool) → is_feed b ≡ test → AllByRecursion IsLine parts → AllByRecursion IsLine (cond test ([] ∷ parts) (onto_first b parts))
cons_lines b parts true h lines = (tt, lines)
cons_lines b parts false h lines = onto_lines b parts h lines

-- each part of a text between its line ends is a line
pub parts_are_lines : (bytes : List ℕ) → AllByRecursion IsLine (slice_split is_feed bytes)
parts_are_lines [] = (tt, tt)
parts_are_lines (b ∷ bytes) = cons_lines b (slice_split is_feed bytes) (is_feed b) refl (parts_are_lines bytes)

-- a text with a line and its end in front is cut after the line's end
pub split_line : (line rest : List ℕ) → IsLine line → slice_split is_feed (ended line ++ rest) ≡ line ∷ slice_split is_feed rest
split_line line rest h =
    ap (slice_split is_feed) (append_assoc line (10 ∷ []) rest) ∙ slice_split_at is_feed line 10 rest (All-from_recursion (λ b. is_feed b ≡ false) line h) refl

-- a text without a line end is one part
pub split_last : (line : List ℕ) → IsLine line → slice_split is_feed line ≡ line ∷ []
split_last line h = slice_split_none is_feed line (All-from_recursion (λ b. is_feed b ≡ false) line h)

pub cut_is : (text line behind : List ℕ) → position_or_len is_feed text < length text → line ≡ before_first is_feed text → behind ≡ after_first is_feed text
    → slice_split is_feed text ≡ line ∷ slice_split is_feed behind
cut_is text line behind h first rest = slice_split_first is_feed text 0 h ∙ rw (first, rest) refl

pub uncut_is : (text : List ℕ) → position_or_len is_feed text ≡ length text → slice_split is_feed text ≡ text ∷ []
uncut_is text h = slice_split_none is_feed text (λ k d within. fails_before_first is_feed text k d (omega arith))
