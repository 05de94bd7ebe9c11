-- The lines of refusals as they are written: the first words, then each other word after a space, and the line end.
use Rattle.std.proofs.Common.{◌≡◌, List, ◌∷◌, ◌++◌, codes, sym, ap, ◌∙◌, append_assoc}
use Rattle.std.specs.List.{flat_map}
use Rattle.std.proofs.lemmas.List.Concat.{flat_map-append}
use Rattle.line_words.specs.Words.{Word}
use Rattle.line_words.specs.Lines.{ended, line_of, spaced}
use Rattle.line_words.proofs.Printing.{join_spaced}
use Rattle.design_reading.specs.declared.refusal_place.RefusalPlace.{RefusalPlace}
use Rattle.design_reading.specs.declared.refusal.Refusal.{Refusal}
use Rattle.design_reading.specs.RefusalPlace.{place_words}
use Rattle.design_reading.specs.Refusal.{fault_words, refusal_text, unread_text}

-- the words of a line and its end
ended_words : (word : Word) (words : List Word) → word ++ (flat_map spaced words ++ codes "\n") ≡ ended (line_of (word ∷ words))
ended_words word words = sym (ap (λ l. l ++ codes "\n") (join_spaced word words) ∙ append_assoc word (flat_map spaced words) (codes "\n"))

pub refusal_pieces : (place : RefusalPlace) (why : Refusal)
    → codes "refused" ++ (flat_map spaced (place_words place) ++ (flat_map spaced (fault_words why) ++ codes "\n")) ≡ refusal_text place why
unfolding refusal_text
refusal_pieces place why =
    ap (λ l. codes "refused" ++ l) (sym (ap (λ l. l ++ codes "\n") (flat_map-append spaced (place_words place) (fault_words why)) ∙ append_assoc (flat_map spaced (place_words place)) (flat_map spaced (fault_words why)) (codes "\n")))
    ∙ ended_words (codes "refused") (place_words place ++ fault_words why)

pub unread_pieces : (place : RefusalPlace) → codes "cannot read" ++ (flat_map spaced (place_words place) ++ codes "\n") ≡ unread_text place
unfolding unread_text
unread_pieces place = ended_words (codes "cannot") (codes "read" ∷ place_words place)
