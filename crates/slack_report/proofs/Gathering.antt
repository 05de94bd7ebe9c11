-- Reading line by line: the lines that were read stand before the lines that are still to be read.
use Rattle.std.proofs.Common.{◌≡◌, ◌+◌, ◌<◌, ℕ, true, false, eqb, ◌&&◌, List, [], ◌∷◌, ◌++◌, length, Some, None, Ok, Err, refl, sym, ap, ◌∙◌, arith, append_assoc, append-nil, length-append, zero-add, suc}
use Rattle.std.specs.List.{after_first, before_first, position_or_len, slice_split}
use Rattle.std.proofs.lemmas.List.{length-map}
use Rattle.line_words.specs.Lines.{is_feed}
use Rattle.line_words.specs.Words.{split_words}
use Rattle.line_words.proofs.Cutting.{cut_is, uncut_is}
use Rattle.slack_report.specs.declared.owned.OwnedItem.{OwnedItem}
use Rattle.slack_report.specs.declared.place.Place.{Place}
use Rattle.slack_report.specs.declared.place.Place.TheVariants as at
use Rattle.slack_report.specs.Entry.{Entry}
use Rattle.slack_report.specs.Items.{owned_view, views}
use Rattle.slack_report.specs.Step.Items.{step_view}
use Rattle.slack_report.specs.Reading.{Read, behind_line, is_nothing, last_in, lines_in, step_at, with_line}
use Rattle.slack_report.proofs.Walking.{lines_more, split_some}

-- the lines that were read before the lines that are still to be read
abbrev pub after_front : List Entry → Read → Read
after_front front (Ok entries) = Ok (front ++ entries)
after_front front (Err before) = Err (length front + before)

front_more : (front : List Entry) (entry : Entry) (read : Read) → after_front front (with_line entry read) ≡ after_front (front ++ entry ∷ []) read
front_more front entry (Ok entries) = ap (λ es. Ok es) (sym (append_assoc front (entry ∷ []) entries))
front_more front entry (Err before) =
    let count : length front + suc before ≡ length (front ++ entry ∷ []) + before = omega (arith, length-append front (entry ∷ [])) in
    ap (λ n. Err n) count

pub views-append : (items more : List OwnedItem) → views (items ++ more) ≡ views items ++ views more
views-append [] more = refl
views-append (item ∷ items) more = ap (λ es. owned_view item ∷ es) (views-append items more)

-- ---- the first line of a text

-- ---- the lines that were read, and the text that is left

abbrev pub SoFar : List OwnedItem → Place → List ℕ → Read → Type 0
SoFar items place text total = after_front (views items) (lines_in place (slice_split is_feed text)) ≡ total

-- the number of the line after the lines that were read
abbrev pub IsBehind : ℕ → Read → Type 0
IsBehind line total = (before : ℕ) × (total ≡ Err before) × (line ≡ before + 1)

pub nothing_yet : (bytes : List ℕ) → SoFar [] at.Heading bytes (lines_in at.Heading (slice_split is_feed bytes))
nothing_yet bytes = all_left (lines_in at.Heading (slice_split is_feed bytes))
  where
    all_left : (read : Read) → after_front [] read ≡ read
    all_left (Ok entries) = refl
    all_left (Err before) = ap (λ n. Err n) (zero-add before)

behind_number : (items : List OwnedItem) (count : ℕ) (total : Read) → after_front (views items) (Err 0) ≡ total → count ≡ length items → IsBehind (count + 1) total
behind_number items count total e many =
    let length_is : length (views items) ≡ length items = length-map items owned_view in
    let number : count + 1 ≡ length (views items) + 0 + 1 = omega arith in
    (length (views items) + 0, sym e, number)

module _ (items : List OwnedItem) (place : Place) (text : List ℕ) (total : Read) (so_far : SoFar items place text total) where
  one_line : (line behind : List ℕ) → position_or_len is_feed text < length text → line ≡ before_first is_feed text → behind ≡ after_first is_feed text
      → after_front (views items) (behind_line (step_at place (split_words line)) (λ next. lines_in next (slice_split is_feed behind))) ≡ total
  one_line line behind h first rest =
      let cut : lines_in place (slice_split is_feed text) ≡ behind_line (step_at place (split_words line)) (λ next. lines_in next (slice_split is_feed behind)) =
      ap (lines_in place) (cut_is text line behind h first rest) ∙ lines_more place line (slice_split is_feed behind) (split_some behind) in
      sym (ap (after_front (views items)) cut) ∙ so_far

  -- one line more is read
  pub goes_on : (line behind : List ℕ) (item : OwnedItem) (next : Place) (grown : List OwnedItem) → position_or_len is_feed text < length text → line ≡ before_first is_feed text
      → behind ≡ after_first is_feed text → Some (step_view (item, next)) ≡ step_at place (split_words line) → grown ≡ items ++ item ∷ [] → SoFar grown next behind total
  goes_on line behind item next grown h first rest step grows =
      let read = lines_in next (slice_split is_feed behind) in
      rw (grows, views-append items (item ∷ [])) (sym (front_more (views items) (owned_view item) read)
      ∙ ap (λ o. after_front (views items) (behind_line o (λ place. lines_in place (slice_split is_feed behind)))) step ∙ one_line line behind h first rest)

  -- the next line may not stand there
  pub stops : (line behind : List ℕ) (count : ℕ) → position_or_len is_feed text < length text → line ≡ before_first is_feed text → behind ≡ after_first is_feed text
      → None ≡ step_at place (split_words line) → count ≡ length items → IsBehind (count + 1) total
  stops line behind count h first rest step many =
      behind_number items count total (ap (λ o. after_front (views items) (behind_line o (λ next. lines_in next (slice_split is_feed behind)))) step ∙ one_line line behind h first rest) many

  last_part : position_or_len is_feed text ≡ length text → after_front (views items) (last_in place text) ≡ total
  unfolding lines_in
  last_part h = sym (ap (λ parts. after_front (views items) (lines_in place parts)) (uncut_is text h)) ∙ so_far

  -- the text is whole
  pub whole_is : position_or_len is_feed text ≡ length text → (is_nothing place && eqb (length text) 0) ≡ true → total ≡ Ok (views items)
  whole_is h end =
      sym (last_part h) ∙ rw end (ap (λ es. Ok es) (append-nil (views items)))

  -- the text is cut short, or continues after its end
  pub cut_short : (count : ℕ) → position_or_len is_feed text ≡ length text → (is_nothing place && eqb (length text) 0) ≡ false → count ≡ length items → IsBehind (count + 1) total
  cut_short count h end many =
      let none : Err 0 ≡ last_in place text = rw end refl in
      behind_number items count total (ap (after_front (views items)) none ∙ last_part h) many
