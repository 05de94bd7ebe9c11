-- Readers and writers that invert each other, as the laws say.
use Rattle.std.proofs.Common.{◌≡◌, Option, Some, subst, sym}
use Rattle.line_words.specs.Laws.{AreInverse}
use Rattle.line_words.specs.Words.{Word}
use Rattle.line_words.proofs.Inverts.{Inverts}

pub are_inverse : {A : Type 0} (read : Word → Option A) (spell : A → Word) (Form : A → Type 0) → Inverts read spell Form → AreInverse read spell Form
are_inverse read spell Form inverts word x = (inverts.takes word x, λ h. subst (λ w. read w ≡ Some x) (sym h.0) (inverts.again x h.1))
