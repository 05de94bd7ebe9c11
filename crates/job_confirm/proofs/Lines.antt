-- Lines at the front of a text.
use Rattle.std.proofs.Common.{◌≡◌, ◌+◌, ℕ, suc, ℤ, Bool, true, false, cond, not, List, [], ◌∷◌, ◌++◌, map, length, take, drop, codes, refl, sym, ap, ◌∙◌, length-append, arith}
use Rattle.std.specs.List.{after_first, before_first, position_or_len}
use Rattle.itv_base.specs.Numerals.{signed_text}
use Rattle.line_words.specs.Lines.{ended, is_feed, line_of}
use Rattle.line_words.specs.Words.{Word}
use Rattle.line_words.proofs.Cutting.{IsLine, cut_same}
use Rattle.line_words.proofs.Plain.{ArePlain, join_line, line_is_text, map_plain, signed_plain, split-join}
use Rattle.slack_report.specs.declared.words.Which.{Which}
use Rattle.slack_report.specs.Entry as line
use Rattle.slack_report.specs.Text.{entry_text, members_from, which_word, words_of}
use Rattle.slack_report.proofs.PlainLines.{members_plain, which_plain}
use Rattle.requirements.specs.declared.bound.Bound.TheVariants as bounds
use Rattle.job_confirm.specs.Step.{Begins, BeginsWith}

-- ---- the first line of a text

cut_at : (line more : List ℕ) → IsLine line → position_or_len is_feed (ended line ++ more) ≡ length line
cut_at [] more h = refl
cut_at (b ∷ line) more h = by_test (is_feed b) h.0 (cut_at line more h.1) where
  by_test : (t : Bool) → t ≡ false → position_or_len is_feed (ended line ++ more) ≡ length line
      → cond (not t) (1 + position_or_len is_feed (ended line ++ more)) 0 ≡ suc (length line)
  by_test true e rest = absurd (cc e)
  by_test false e rest = let next : 1 + position_or_len is_feed (ended line ++ more) ≡ suc (length line) = omega (arith, rest) in next

take_line : (line more : List ℕ) → take (length line) (ended line ++ more) ≡ line
take_line [] more = refl
take_line (b ∷ line) more = ap (λ bs. b ∷ bs) (take_line line more)

drop_line : (line more : List ℕ) → drop (suc (length line)) (ended line ++ more) ≡ more
drop_line [] more = refl
drop_line (b ∷ line) more = drop_line line more

place_is : (text line more : List ℕ) → Begins text line more → position_or_len is_feed text ≡ length line
place_is text line more b = ap (position_or_len is_feed) b.text_is ∙ cut_at line more b.is_line

-- the parts into which a text is cut are its first line and what stands after it
pub cut_parts : (text line more first behind : List ℕ) → Begins text line more → first ≡ before_first is_feed text → behind ≡ after_first is_feed text → (first ≡ line) × (behind ≡ more)
cut_parts text line more first behind b is_first is_behind =
    let place : position_or_len is_feed text ≡ length line = place_is text line more b in
    let next : position_or_len is_feed text + 1 ≡ suc (length line) = omega (arith, place) in (
      is_first ∙ (ap (λ n. take n text) place ∙ (ap (take (length line)) b.text_is ∙ take_line line more)),
      is_behind ∙ (ap (λ n. drop n text) next ∙ (ap (drop (suc (length line))) b.text_is ∙ drop_line line more)),
    )

-- a text that begins with a line has a line end
pub is_cut : (text line more : List ℕ) → Begins text line more → position_or_len is_feed text ≡ length text → ⊥
is_cut text line more b none =
    let place : position_or_len is_feed text ≡ length line = place_is text line more b in
    let whole : length text ≡ length (ended line ++ more) = ap length b.text_is in
    absurd (omega (arith, place, whole, length-append (line ++ 10 ∷ []) more, length-append line (10 ∷ [])))

-- a text begins with one line
pub begins_once : (text line more other others : List ℕ) → Begins text line more → Begins text other others → (line ≡ other) × (more ≡ others)
begins_once text line more other others a b = cut_same line other more others a.is_line b.is_line (sym a.text_is ∙ b.text_is)

-- ---- lines of words

pub words_stand : (text : List ℕ) (first : Word) (others : List Word) (more : List ℕ) → ArePlain (first ∷ others) → text ≡ ended (line_of (first ∷ others)) ++ more
    → BeginsWith text (first ∷ others) more
words_stand text first others more plain text_is = record {
  begins = record { is_line = join_line (first ∷ others) plain; text_is = text_is };
  parts = split-join first others plain;
  is_text = line_is_text (first ∷ others) plain;
}

pub times_stand : (text : List ℕ) (times : List ℤ) (more : List ℕ) → text ≡ entry_text (line.times times) ++ more → BeginsWith text (codes "times" ∷ map signed_text times) more
unfolding words_of
times_stand text times more e = words_stand text (codes "times") (map signed_text times) more (refl, map_plain signed_text signed_plain times) e

pub number_stands : (text : List ℕ) (which : Which) (value : ℤ) (more : List ℕ) → text ≡ entry_text (line.bound which (bounds.Closed value)) ++ more
    → BeginsWith text (which_word which ∷ signed_text value ∷ []) more
unfolding words_of
number_stands text which value more e = words_stand text (which_word which) (signed_text value ∷ []) more (which_plain which, (signed_plain value, tt)) e

pub set_stands : (text : List ℕ) (set : List Bool) (more : List ℕ) → text ≡ entry_text (line.raise set) ++ more → BeginsWith text (codes "raise" ∷ members_from 0 set) more
unfolding words_of
set_stands text set more e = words_stand text (codes "raise") (members_from 0 set) more (refl, members_plain set 0) e
