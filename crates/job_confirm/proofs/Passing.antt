-- Pieces of a text, one after another.
use Rattle.std.proofs.Common.{◌≡◌, ◌≤◌, ℕ, List, [], ◌∷◌, ◌++◌, length, take, refl, sym, ap, ◌∙◌, append_assoc}
use Rattle.job_confirm.specs.Step.{IsPieceAt}

pub append_none : (xs : List ℕ) → xs ++ [] ≡ xs
append_none [] = refl
append_none (x ∷ xs) = ap (λ ys. x ∷ ys) (append_none xs)

-- a piece and another piece after it
pub behind_then : (text : List ℕ) (place middle behind : ℕ) (first second : List ℕ) → IsPieceAt text place first middle → IsPieceAt text middle second behind
    → IsPieceAt text place (first ++ second) behind
behind_then text place middle behind first second a b = record {
  within = b.within;
  same = b.same ∙ (ap (λ front. front ++ second) a.same ∙ append_assoc (take place text) first second);
}

-- the empty piece
pub behind_none : (text : List ℕ) (place : ℕ) → place ≤ length text → IsPieceAt text place [] place
behind_none text place within = record { within = within; same = sym (append_none (take place text)) }
