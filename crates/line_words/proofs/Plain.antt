-- Words of visible characters of ASCII. A line of such words is cut into exactly these words, and has no line end in it.
use Rattle.std.proofs.Common.{◌≡◌, ℕ, zero, suc, ◌<◌, ◌≤◌, ℤ, pos, negsuc, Option, Some, None, get_or, Bool, true, false, leb, List, [], ◌∷◌, ◌++◌, refl, ap, ◌∙◌, arith, map}
use Rattle.std.specs.List.{AllByRecursion, list_all, slice_split}
use Rattle.std.specs.Char.{is_ascii_digit, is_ascii_graphic}
use Rattle.std.specs.Str.{IsUtf8}
use Rattle.std.proofs.lemmas.Bool.{and_from, and_parts, leb-true}
use Rattle.std.proofs.lemmas.Bool.Decides.{nat_tests}
use Rattle.std.proofs.lemmas.List.Splits.{slice_split_at, slice_split_none}
use Rattle.std.proofs.lemmas.List.Elements.{All-from_recursion}
use Rattle.std.proofs.lemmas.Str.{IsUtf8-from_ascii}
use Rattle.itv_base.specs.Cuts.{is_space}
use Rattle.itv_base.specs.Numerals.{end_text, number_text, signed_text}
use Rattle.itv_base.proofs.Numerals.{digits-text}
use Rattle.itv_base.specs.Characters.{is_name_byte}
use Rattle.line_words.specs.Words.{Word, split_words}
use Rattle.line_words.specs.Lines.{is_feed, line_of}
use Rattle.line_words.proofs.Cutting.{IsLine}

-- each byte is a visible character of ASCII
abbrev pub is_plain : List ℕ → Bool
is_plain word = list_all is_ascii_graphic word

abbrev pub ArePlain : List Word → Type 0
ArePlain words = AllByRecursion (λ word. is_plain word ≡ true) words

no_space : (b : ℕ) → is_ascii_graphic b ≡ true → is_space b ≡ false
no_space b h = grind (arith, nat_tests)

no_feed : (b : ℕ) → is_ascii_graphic b ≡ true → is_feed b ≡ false
no_feed b h = grind (arith, nat_tests)

no_spaces : (word : Word) → is_plain word ≡ true → AllByRecursion (λ b. is_space b ≡ false) word
no_spaces [] h = tt
no_spaces (b ∷ word) h =
    let p = and_parts (is_ascii_graphic b) (list_all is_ascii_graphic word) h in
    (no_space b p.0, no_spaces word p.1)

cut_word : (word rest : List ℕ) → is_plain word ≡ true → slice_split is_space (word ++ (32 ∷ rest)) ≡ word ∷ slice_split is_space rest
cut_word word rest h = slice_split_at is_space word 32 rest (All-from_recursion (λ b. is_space b ≡ false) word (no_spaces word h)) refl

last_word : (word : Word) → is_plain word ≡ true → slice_split is_space word ≡ word ∷ []
last_word word h = slice_split_none is_space word (All-from_recursion (λ b. is_space b ≡ false) word (no_spaces word h))

-- the line of some plain words, at least one, is cut into these words
pub split-join : (word : Word) (words : List Word) → ArePlain (word ∷ words) → split_words (line_of (word ∷ words)) ≡ word ∷ words
split-join word [] h = last_word word h.0
split-join word (other ∷ words) h = cut_word word (line_of (other ∷ words)) h.0 ∙ ap (λ ws. word ∷ ws) (split-join other words h.1)

word_line : (word : Word) (rest : List ℕ) → is_plain word ≡ true → IsLine rest → IsLine (word ++ rest)
word_line [] rest h line = line
word_line (b ∷ word) rest h line =
    let p = and_parts (is_ascii_graphic b) (list_all is_ascii_graphic word) h in
    (no_feed b p.0, word_line word rest p.1 line)

whole_line : (word : Word) → is_plain word ≡ true → IsLine word
whole_line [] h = tt
whole_line (b ∷ word) h =
    let p = and_parts (is_ascii_graphic b) (list_all is_ascii_graphic word) h in
    (no_feed b p.0, whole_line word p.1)

-- the line of plain words has no line end in it
pub join_line : (words : List Word) → ArePlain words → IsLine (line_of words)
join_line [] h = tt
join_line (word ∷ []) h = whole_line word h.0
join_line (word ∷ other ∷ words) h = word_line word (32 ∷ line_of (other ∷ words)) h.0 (refl, join_line (other ∷ words) h.1)

-- ---- plain words

pub plain_append : (a b : Word) → is_plain a ≡ true → is_plain b ≡ true → is_plain (a ++ b) ≡ true
plain_append [] b p q = q
plain_append (c ∷ a) b p q =
    let h = and_parts (is_ascii_graphic c) (list_all is_ascii_graphic a) p in
    and_from (is_ascii_graphic c) (list_all is_ascii_graphic (a ++ b)) h.0 (plain_append a b h.1 q)

pub all_weaker : (p q : ℕ → Bool) → ((b : ℕ) → p b ≡ true → q b ≡ true) → (xs : List ℕ) → list_all p xs ≡ true → list_all q xs ≡ true
all_weaker p q weaker [] h = refl
all_weaker p q weaker (x ∷ xs) h =
    let parts = and_parts (p x) (list_all p xs) h in
    and_from (q x) (list_all q xs) (weaker x parts.0) (all_weaker p q weaker xs parts.1)

digit_plain : (b : ℕ) → is_ascii_digit b ≡ true → is_ascii_graphic b ≡ true
digit_plain b h = grind (arith, nat_tests)

pub number_plain : (n : ℕ) → is_plain (number_text n) ≡ true
number_plain n = all_weaker is_ascii_digit is_ascii_graphic digit_plain (number_text n) (digits-text n)

pub map_plain : {A : Type 0} (f : A → Word) → ((x : A) → is_plain (f x) ≡ true) → (xs : List A) → ArePlain (map f xs)
map_plain f plain [] = tt
map_plain f plain (x ∷ xs) = (plain x, map_plain f plain xs)

-- ---- such a line is ASCII, and so a text

abbrev is_small : ℕ → Bool
is_small b = leb b 127

plain_small : (b : ℕ) → is_ascii_graphic b ≡ true → is_small b ≡ true
plain_small b h = grind (arith, nat_tests)

join_small : (words : List Word) → ArePlain words → list_all is_small (line_of words) ≡ true
join_small [] h = refl
join_small (word ∷ []) h = all_weaker is_ascii_graphic is_small plain_small word h.0
join_small (word ∷ other ∷ words) h = small_append word (32 ∷ line_of (other ∷ words)) (all_weaker is_ascii_graphic is_small plain_small word h.0) (join_small (other ∷ words) h.1)
  where
    small_append : (a b : List ℕ) → list_all is_small a ≡ true → list_all is_small b ≡ true → list_all is_small (a ++ b) ≡ true
    small_append [] b p q = q
    small_append (c ∷ a) b p q =
        let parts = and_parts (is_small c) (list_all is_small a) p in
        and_from (is_small c) (list_all is_small (a ++ b)) parts.0 (small_append a b parts.1 q)

small_ascii : (bs : List ℕ) → list_all is_small bs ≡ true → (i : ℕ) → get_or bs i 0 < 128
small_ascii [] h i = omega arith
small_ascii (b ∷ bs) h zero = let first : b ≤ 127 = leb-true b 127 (and_parts (is_small b) (list_all is_small bs) h).0 in omega arith
small_ascii (b ∷ bs) h (suc i) = small_ascii bs (and_parts (is_small b) (list_all is_small bs) h).1 i

pub line_is_text : (words : List Word) → ArePlain words → IsUtf8 (line_of words)
line_is_text words h = IsUtf8-from_ascii (line_of words) (small_ascii (line_of words) (join_small words h))

-- ---- numbers with a sign

pub signed_plain : (value : ℤ) → is_plain (signed_text value) ≡ true
signed_plain (pos n) = number_plain n
signed_plain (negsuc n) = number_plain (suc n)

pub end_plain : (end : Option ℤ) → is_plain (end_text end) ≡ true
end_plain None = refl
end_plain (Some value) = signed_plain value

pub name_byte_plain : (b : ℕ) → is_name_byte b ≡ true → is_ascii_graphic b ≡ true
name_byte_plain b h = grind (arith, nat_tests)
