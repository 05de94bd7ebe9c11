-- Lists that are turned place by place.
use Rattle.std.proofs.Common.{◌≡◌, ◌+◌, ◌<◌, ◌≤◌, ◌⊎◌, inl, inr, ℕ, zero, suc, List, [], ◌∷◌, length, map, get_or, set, sym, ap, ◌∙◌, refl, arith}
use Rattle.std.proofs.Math.ListN.{length-set}
use Rattle.falling.proofs.Negating.{length-mapped}

-- the places before this place have what a function gives, and the others are as they were
pub record IsTurnedTo {X : Type 0} (f : X → X) (d : X) (place : ℕ) (old new : List X) : Type 0 where
  pub count : length new ≡ length old
  pub done : (k : ℕ) → k < place → get_or new k d ≡ f (get_or old k d)
  pub rest : (k : ℕ) → place ≤ k → get_or new k d ≡ get_or old k d

pub turned_first : {X : Type 0} (f : X → X) (d : X) (xs : List X) → IsTurnedTo f d 0 xs xs
turned_first f d xs = record { count = refl; done = λ k below. absurd (omega arith); rest = λ k least. refl }

get-set : {X : Type 0} (xs : List X) (i k : ℕ) (x d : X) → i < length xs → ((k ≡ i) × (get_or (set xs i x) k d ≡ x)) ⊎ ((k ≡ i → ⊥) × (get_or (set xs i x) k d ≡ get_or xs k d))
get-set [] i k x d within = absurd (omega arith)
get-set (y ∷ xs) zero zero x d within = inl (refl, refl)
get-set (y ∷ xs) zero (suc k) x d within = inr ((λ e. absurd (cc)), refl)
get-set (y ∷ xs) (suc i) zero x d within = inr ((λ e. absurd (cc)), refl)
get-set (y ∷ xs) (suc i) (suc k) x d within = elim (get-set xs i k x d (omega arith)) [
  | inl (e, here) ↦ inl (ap suc e, here)
  | inr (other, here) ↦ inr ((λ e. other (omega arith)), here)
]

pub turned_next : {X : Type 0} (f : X → X) (d : X) (place : ℕ) (old mid new : List X) → place < length old → IsTurnedTo f d place old mid → new ≡ set mid place (f (get_or mid place d))
    → IsTurnedTo f d (place + 1) old new
turned_next f d place old mid new within turned is = record {
  count = (ap length is ∙ length-set mid place (f (get_or mid place d))) ∙ turned.count;
  done = λ k below. elim (get-set mid place k (f (get_or mid place d)) d (omega (arith, turned.count))) [
    | inl (e, here) ↦ ((ap (λ xs. get_or xs k d) is ∙ here) ∙ ap f (turned.rest place (omega arith))) ∙ ap (λ n. f (get_or old n d)) (sym e)
    | inr (other, here) ↦ (ap (λ xs. get_or xs k d) is ∙ here) ∙ turned.done k (less k place below other)
  ];
  rest = λ k least. elim (get-set mid place k (f (get_or mid place d)) d (omega (arith, turned.count))) [
    | inl (e, here) ↦ absurd (omega arith)
    | inr (other, here) ↦ (ap (λ xs. get_or xs k d) is ∙ here) ∙ turned.rest k (omega arith)
  ];
} where
  less : (k n : ℕ) → k < n + 1 → (k ≡ n → ⊥) → k < n
  less k n below other = elim (either k n below) [ inl same ↦ absurd (other same) | inr lower ↦ lower ] where
    either : (k n : ℕ) → k < n + 1 → (k ≡ n) ⊎ (k < n)
    either k n below = grind arith

same_lists : {X : Type 0} (d : X) (xs ys : List X) → length xs ≡ length ys → ((k : ℕ) → k < length xs → get_or xs k d ≡ get_or ys k d) → xs ≡ ys
same_lists d [] [] same each = refl
same_lists d [] (y ∷ ys) same each = absurd (omega arith)
same_lists d (x ∷ xs) [] same each = absurd (omega arith)
same_lists d (x ∷ xs) (y ∷ ys) same each = rw (each 0 (omega arith), same_lists d xs ys (omega arith) (λ k below. each (suc k) (omega arith))) refl

at_map : {X : Type 0} (f : X → X) (d : X) (xs : List X) (k : ℕ) → k < length xs → get_or (map f xs) k d ≡ f (get_or xs k d)
at_map f d [] k within = absurd (omega arith)
at_map f d (x ∷ xs) zero within = refl
at_map f d (x ∷ xs) (suc k) within = at_map f d xs k (omega arith)

pub turned_all : {X : Type 0} (f : X → X) (d : X) (place : ℕ) (old new : List X) → length new ≤ place → IsTurnedTo f d place old new → new ≡ map f old
turned_all f d place old new all turned =
    same_lists d new (map f old) (turned.count ∙ sym (length-mapped f old))
    (λ k below. turned.done k (omega arith) ∙ sym (at_map f d old k (omega (arith, turned.count))))
