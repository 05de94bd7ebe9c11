-- Words of several lists after spaces.
use Rattle.std.proofs.Common.{◌≡◌, List, ◌++◌, ap, ◌∙◌}
use Rattle.std.specs.List.{flat_map}
use Rattle.line_words.specs.Words.{Word}
use Rattle.line_words.specs.Lines.{spaced}
use Rattle.line_words.proofs.Putting.{spaced_two}

-- the words of three lists
pub spaced_three : (words more last : List Word) → flat_map spaced words ++ (flat_map spaced more ++ flat_map spaced last) ≡ flat_map spaced (words ++ (more ++ last))
spaced_three words more last = ap (λ l. flat_map spaced words ++ l) (spaced_two more last) ∙ spaced_two words (more ++ last)
