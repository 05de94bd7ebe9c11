-- What the readers of words find in the lines of a text.
use Rattle.std.proofs.Common.{◌≡◌, ℕ, ℤ, Bool, List, [], ◌∷◌, map, length, codes, Option, Some, ap, ◌∙◌}
use Rattle.std.specs.Prelude.{All}
use Rattle.itv_base.specs.Numerals.{signed_text}
use Rattle.line_words.specs.Numbers.{IsLong, long_in}
use Rattle.line_words.specs.Words.{Word, keyed, many, one}
use Rattle.line_words.proofs.Inverts.{keyed_is, many_inverts, one_inverts}
use Rattle.line_words.proofs.NumberLaws.{long_inverts}
use Rattle.slack_report.specs.declared.words.Which.{Which}
use Rattle.slack_report.specs.Reading.{flags_in}
use Rattle.slack_report.specs.Text.{members_from, which_word}
use Rattle.slack_report.proofs.LineLaws.{flags_invert}

-- what is read of the words after a first word
keyed_found : {A : Type 0} (key : Word) (read : List Word → Option A) (words others : List Word) (x : A) (found : Option A) → found ≡ keyed key read words → words ≡ key ∷ others
    → read others ≡ Some x → found ≡ Some x
keyed_found key read words others x found is same again = is ∙ (ap (keyed key read) same ∙ (keyed_is key read others ∙ again))

pub number_found : (which : Which) (value : ℤ) (key : Word) (words : List Word) (found : Option ℤ) → found ≡ keyed key (one long_in) words → key ≡ which_word which
    → words ≡ which_word which ∷ signed_text value ∷ [] → IsLong value → found ≡ Some value
number_found which value key words found is same_key same long =
    keyed_found (which_word which) (one long_in) words (signed_text value ∷ []) value found (is ∙ ap (λ k. keyed k (one long_in) words) same_key) same
    ((one_inverts long_in signed_text IsLong long_inverts).again value long)

pub times_found : (times : List ℤ) (words : List Word) (found : Option (List ℤ)) → found ≡ keyed (codes "times") (many long_in) words → words ≡ codes "times" ∷ map signed_text times
    → All IsLong times → found ≡ Some times
times_found times words found is same long =
    keyed_found (codes "times") (many long_in) words (map signed_text times) times found is same ((many_inverts long_in signed_text IsLong long_inverts).again times long)

pub set_found : (set : List Bool) (events : ℕ) (words : List Word) (found : Option (List Bool)) → found ≡ keyed (codes "raise") (flags_in events 0) words
    → words ≡ codes "raise" ∷ members_from 0 set → length set ≡ events → found ≡ Some set
set_found set events words found is same count =
    keyed_found (codes "raise") (flags_in events 0) words (members_from 0 set) set found is same ((flags_invert events).again set count)
