-- The word of a range is read as that range, and no other word is.
use Rattle.std.proofs.Common.{◌≡◌, ℕ, suc, ℤ, pos, negsuc, neg_ℤ, ◌≤ℤ◌, true, false, not, ◌&&◌, List, [], ◌∷◌, ◌++◌, codes, Option, Some, None, refl, ap, subst, ◌∙◌, arith}
use Rattle.std.specs.Prelude.{IfSome, int_lt}
use Rattle.std.specs.Char.{is_ascii_digit}
use Rattle.std.specs.List.{list_all, take_while}
use Rattle.std.proofs.lemmas.Bool.{and_parts, not-true, or_from, or_parts}
use Rattle.std.proofs.lemmas.Int.{ints}
use Rattle.std.proofs.lemmas.Option.{same_Some}
use Rattle.itv_base.specs.Cuts.{after_while, stripped}
use Rattle.itv_base.specs.Numerals.{end_text, number_text}
use Rattle.itv_base.specs.declared.limits.TheConstants.{END_LIMIT}
use Rattle.itv_base.specs.Range.{Ends, IsEnd, IsRange, has_wide, is_above, is_reversed, is_wide}
use Rattle.itv_base.proofs.Cuts.{stripped_some}
use Rattle.itv_base.proofs.Numerals.{digits-text}
use Rattle.itv_base.proofs.Runs.{front_of_run, rest_of_run, run_whole}
use Rattle.itv_base.proofs.Integers.{no_test_from_le}
use Rattle.itv_base.proofs.Ranges.{is_end, is_ordered}
use Rattle.line_words.specs.Numbers.{IsLongOrOpen, open_in}
use Rattle.line_words.specs.Words.{◌>>=◌, Word, is_word, when}
use Rattle.line_words.proofs.Inverts.{Inverts, bind_some, when_some, word_is}
use Rattle.line_words.proofs.NumberLaws.{open_inverts}
use Rattle.line_words.proofs.Plain.{all_weaker}
use Rattle.slack_report.specs.Reading.{is_end_byte, range_from, range_in}
use Rattle.slack_report.specs.Text.{range_word}

-- ---- the tests of a range

pub test_from_end : (end : Option ℤ) → IsEnd end → is_wide end ≡ false
test_from_end None h = refl
test_from_end (Some value) h =
    or_from (int_lt value (neg_ℤ END_LIMIT)) (int_lt END_LIMIT value) (no_test_from_le value (neg_ℤ END_LIMIT) h.0) (no_test_from_le END_LIMIT value h.1)

pub test_from_order : (low high : Option ℤ) → IfSome low (λ least. IfSome high (λ most. least ≤ℤ most)) → is_above low high ≡ false
test_from_order None high h = refl
test_from_order (Some low) None h = refl
test_from_order (Some low) (Some high) h = no_test_from_le high low h

range_from_takes : (low high : Option ℤ) (ends : Ends) → range_from low high ≡ Some ends → (record { low = low; high = high } ≡ ends) × IsRange ends
range_from_takes low high ends e =
    let both : Ends = record { low = low; high = high } in
    let w = when_some (not (has_wide both) && not (is_reversed both)) (Some both) ends e in
    let p = and_parts (not (has_wide both)) (not (is_reversed both)) w.0 in
    let narrow = or_parts (is_wide low) (is_wide high) (not-true (has_wide both) p.0) in
    let form : IsRange both = (is_end low narrow.0, is_end high narrow.1, is_ordered low high (not-true (is_reversed both) p.1)) in
    let same : both ≡ ends = same_Some both ends w.1 in
    (same, subst IsRange same form)

range_from_again : (ends : Ends) → IsRange ends → range_from ends.low ends.high ≡ Some ends
range_from_again ends h =
    let narrow : has_wide ends ≡ false = or_from (is_wide ends.low) (is_wide ends.high) (test_from_end ends.low h.0) (test_from_end ends.high h.1) in
    let ordered : is_reversed ends ≡ false = test_from_order ends.low ends.high h.2 in
    rw (narrow, ordered) refl

-- ---- what an end is made of

digit_in_end : (b : ℕ) → is_ascii_digit b ≡ true → is_end_byte b ≡ true
digit_in_end b h = rw h refl

number_bytes : (n : ℕ) → list_all is_end_byte (number_text n) ≡ true
number_bytes n = all_weaker is_ascii_digit is_end_byte digit_in_end (number_text n) (digits-text n)

end_bytes : (end : Option ℤ) → list_all is_end_byte (end_text end) ≡ true
end_bytes None = refl
end_bytes (Some (pos n)) = number_bytes n
end_bytes (Some (negsuc n)) = number_bytes (suc n)

-- a finite end within the limit fits 64 bits
end_is_long : (end : Option ℤ) → IsEnd end → IsLongOrOpen end
end_is_long None h = tt
end_is_long (Some (pos n)) h = let high = h.1 in record { sfits = omega (arith, ints) }
end_is_long (Some (negsuc n)) h = let low = h.0 in record { sfits = omega (arith, ints) }

-- ---- the word

join_range : (word a b c d low high : List ℕ) → word ≡ 91 ∷ a → a ≡ low ++ b → b ≡ 44 ∷ c → c ≡ high ++ d → d ≡ 93 ∷ [] → word ≡ 91 ∷ (low ++ (44 ∷ (high ++ (93 ∷ []))))
join_range word a b c d low high e1 e2 e3 e4 e5 =
    e1 ∙ ap (λ x. 91 ∷ x) (e2 ∙ ap (λ x. low ++ x) (e3 ∙ ap (λ x. 44 ∷ x) (e4 ∙ ap (λ x. high ++ x) e5)))

range_takes : (word : Word) (ends : Ends) → range_in word ≡ Some ends → (word ≡ range_word ends) × IsRange ends
unfolding range_in
range_takes word ends e =
    let a = bind_some (stripped (codes "[") word) (λ opened. open_in (take_while is_end_byte opened) >>= λ low. stripped (codes ",") (after_while is_end_byte opened) >>= λ parted. open_in (take_while is_end_byte parted) >>= λ high. when (is_word (after_while is_end_byte parted) (codes "]")) (range_from low high)) ends e in
    let b = bind_some (open_in (take_while is_end_byte a.0)) (λ low. stripped (codes ",") (after_while is_end_byte a.0) >>= λ parted. open_in (take_while is_end_byte parted) >>= λ high. when (is_word (after_while is_end_byte parted) (codes "]")) (range_from low high)) ends a.2 in
    let c = bind_some (stripped (codes ",") (after_while is_end_byte a.0)) (λ parted. open_in (take_while is_end_byte parted) >>= λ high. when (is_word (after_while is_end_byte parted) (codes "]")) (range_from b.0 high)) ends b.2 in
    let d = bind_some (open_in (take_while is_end_byte c.0)) (λ high. when (is_word (after_while is_end_byte c.0) (codes "]")) (range_from b.0 high)) ends c.2 in
    let w = when_some (is_word (after_while is_end_byte c.0) (codes "]")) (range_from b.0 d.0) ends d.2 in
    let r = range_from_takes b.0 d.0 ends w.1 in
    let low = open_inverts.takes (take_while is_end_byte a.0) b.0 b.1 in
    let high = open_inverts.takes (take_while is_end_byte c.0) d.0 d.1 in
    let whole = join_range word a.0 (after_while is_end_byte a.0) c.0 (after_while is_end_byte c.0) (end_text b.0) (end_text d.0)
    (stripped_some (codes "[") word a.0 a.1) (run_whole is_end_byte a.0 ∙ ap (λ x. x ++ after_while is_end_byte a.0) low.0) (stripped_some (codes ",") (after_while is_end_byte a.0) c.0 c.1)
    (run_whole is_end_byte c.0 ∙ ap (λ x. x ++ after_while is_end_byte c.0) high.0) (word_is (after_while is_end_byte c.0) (codes "]") w.0) in
    (whole ∙ ap range_word r.0, r.1)

range_again : (ends : Ends) → IsRange ends → range_in (range_word ends) ≡ Some ends
unfolding range_in
range_again ends h =
    let behind : Word = 44 ∷ (end_text ends.high ++ (93 ∷ [])) in
    let low_front = front_of_run is_end_byte (end_text ends.low) behind (end_bytes ends.low) refl in
    let low_rest = rest_of_run is_end_byte (end_text ends.low) behind (end_bytes ends.low) refl in
    let high_front = front_of_run is_end_byte (end_text ends.high) (93 ∷ []) (end_bytes ends.high) refl in
    let high_rest = rest_of_run is_end_byte (end_text ends.high) (93 ∷ []) (end_bytes ends.high) refl in
    rw (low_front, low_rest, open_inverts.again ends.low (end_is_long ends.low h.0), high_front, high_rest, open_inverts.again ends.high (end_is_long ends.high h.1)) (range_from_again ends h)

pub range_inverts : Inverts range_in range_word IsRange
range_inverts = record { takes = range_takes; again = range_again }
