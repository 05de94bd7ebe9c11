-- How the first line is cut off a text.
use Rattle.std.specs.Prelude.{◌≡◌, ◌<◌, ℕ, List, length, Option, Some, None}
use Rattle.std.specs.List.{after_first, before_first, position_or_len}
use denote.Ref.{Bor}
use Rattle.line_words.specs.Lines.{is_feed}

-- the parts are the first line of the text and the text after its end; there are none if no line ends
abbrev pub Cuts : List ℕ → Option (Bor (List ℕ) × Bor (List ℕ)) → Type 0
Cuts text None = position_or_len is_feed text ≡ length text
Cuts text (Some parts) = (position_or_len is_feed text < length text) × (parts.0.now ≡ before_first is_feed text) × (parts.1.now ≡ after_first is_feed text)
