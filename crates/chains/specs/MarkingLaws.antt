-- The laws of a scribe that marks the constraints that the lines of a proof name.
use Rattle.std.specs.Prelude.{◌<◌, ◌⊎◌, ℕ, Bool, List, [], ◌∷◌, ◌++◌, length, refl}
use Rattle.std.proofs.Common.{inl, inr, ◌∙◌, subst}
use Rattle.event_graph.specs.Proof.{ProofLine}
use Rattle.chains.specs.Named.{HasMarked, IsIn, SomeNames}

-- what lines name, either the first of them name or the others
named_apart : (xs ys : List ProofLine) (number : ℕ) → SomeNames (xs ++ ys) number → SomeNames xs number ⊎ SomeNames ys number
named_apart [] ys number some = inr some
named_apart (x ∷ xs) ys number (inl here) = inl (inl here)
named_apart (x ∷ xs) ys number (inr later) = elim (named_apart xs ys number later) [ inl first ↦ inl (inr first) | inr second ↦ inr second ]

named_left : (xs ys : List ProofLine) (number : ℕ) → SomeNames xs number → SomeNames (xs ++ ys) number
named_left [] ys number some = absurd some
named_left (x ∷ xs) ys number (inl here) = inl here
named_left (x ∷ xs) ys number (inr later) = inr (named_left xs ys number later)

named_right : (xs ys : List ProofLine) (number : ℕ) → SomeNames ys number → SomeNames (xs ++ ys) number
named_right [] ys number some = some
named_right (x ∷ xs) ys number some = inr (named_right xs ys number some)

-- no lines mark nothing
pub marked_none : (s : List Bool) → HasMarked s [] s
marked_none s = record { count = refl; kept = λ number is_in. is_in; named = λ number within some. absurd some; fresh = λ number is_in. inl is_in }

named_more : (s t u : List Bool) (xs ys : List ProofLine) → HasMarked s xs t → HasMarked t ys u → (number : ℕ) → number < length u
    → SomeNames xs number ⊎ SomeNames ys number → IsIn u number
named_more s t u xs ys p q number within (inl first) = q.kept number (p.named number (subst (λ n. number < n) q.count within) first)
named_more s t u xs ys p q number within (inr second) = q.named number within second

fresh_more : (s : List Bool) (xs ys : List ProofLine) (number : ℕ) → IsIn s number ⊎ SomeNames xs number → IsIn s number ⊎ SomeNames (xs ++ ys) number
fresh_more s xs ys number (inl old) = inl old
fresh_more s xs ys number (inr first) = inr (named_left xs ys number first)

-- lines and then more lines mark what all of them name
pub marked_more : (s t u : List Bool) (xs ys : List ProofLine) → HasMarked s xs t → HasMarked t ys u → HasMarked s (xs ++ ys) u
marked_more s t u xs ys p q = record {
  count = q.count ∙ p.count;
  kept = λ number is_in. q.kept number (p.kept number is_in);
  named = λ number within some. named_more s t u xs ys p q number within (named_apart xs ys number some);
  fresh = λ number is_in. elim (q.fresh number is_in) [
    | inl before ↦ fresh_more s xs ys number (p.fresh number before)
    | inr second ↦ inr (named_right xs ys number second)
  ];
}
