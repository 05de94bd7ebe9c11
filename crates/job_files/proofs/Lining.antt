-- The text of names, name by name.
use Rattle.std.proofs.Common.{◌≡◌, ◌+◌, ℕ, List, [], ◌∷◌, ◌++◌, take, Some, slice_get, sym, ap, ◌∙◌}
use Rattle.std.proofs.lemmas.List.{append-nil, append_assoc}
use Rattle.itv_base.proofs.Lists.{take_get}
use Rattle.line_words.specs.Lines.{ended}
use Rattle.job_files.specs.Files.{files_text}

-- the text of names with one more name
text_more : (names : List (List ℕ)) (name : List ℕ) → files_text (names ++ name ∷ []) ≡ files_text names ++ ended name
text_more [] name = append-nil (ended name)
text_more (other ∷ names) name = ap (λ text. ended other ++ text) (text_more names name) ∙ sym (append_assoc (ended other) (files_text names) (ended name))

-- a name and a line end are put after the text of the names before it
pub text_pushed : (names : List (List ℕ)) (k : ℕ) (name word before first last : List ℕ) → slice_get names k ≡ Some name → before ≡ files_text (take k names) → first ≡ before ++ word → word ≡ name → last ≡ first ++ 10 ∷ []
    → last ≡ files_text (take (k + 1) names)
text_pushed names k name word before first last read is put same end =
    end ∙ ap (λ t. t ++ 10 ∷ []) (put ∙ ap (λ t. t ++ word) is ∙ ap (λ w. files_text (take k names) ++ w) same) ∙ append_assoc (files_text (take k names)) name (10 ∷ [])
    ∙ sym (text_more (take k names) name) ∙ ap files_text (sym (take_get names k name read))
