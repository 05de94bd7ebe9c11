-- Rows with their numbers, and what is found of each row.
use Rattle.std.proofs.Common.{◌≡◌, ◌<◌, ◌≤◌, ◌+◌, ℕ, zero, suc, List, [], ◌∷◌, ◌++◌, length, take, get_or, Some, slice_get, refl, subst, ap, ◌∙◌, arith}
use Rattle.std.proofs.Math.Seq.{take-length}
use Rattle.std.proofs.lemmas.Option.{same_Some}
use Rattle.drawn_networks.specs.Drawn.{Drawn}
use Rattle.drawn_networks.specs.declared.row.Row.{Row}
use Rattle.explanations.specs.declared.row.RowFound.{RowFound}
use Rattle.job_brief.specs.Rows.{NumberedRow, numbered_from}
use Rattle.job_brief.specs.Step.{numbered_rows}

-- ---- how many there are

pub length_told : (number : ℕ) (rows : List Row) (found : List RowFound) → length found ≤ length rows → length (numbered_from number rows found) ≡ length found
length_told number [] [] h = refl
length_told number [] (f ∷ found) h = absurd (omega arith)
length_told number (r ∷ rows) [] h = refl
length_told number (r ∷ rows) (f ∷ found) h = ap suc (length_told (number + 1) rows found (omega arith))

pub take_told : (first number : ℕ) (rows : List Row) (found : List RowFound) (k : ℕ) (row : Row) (of_row d : RowFound) → slice_get rows k ≡ Some row → k < length found → of_row ≡ get_or found k d
    → number ≡ first + k
    → take (suc k) (numbered_from first rows found) ≡ take k (numbered_from first rows found) ++ record { number = number; row = row; found = of_row } ∷ []
take_told first number [] found k row of_row d e h is at = absurd (cc e)
take_told first number (r ∷ rows) [] k row of_row d e h is at = absurd (omega arith)
take_told first number (r ∷ rows) (f ∷ found) zero row of_row d e h is at = rw (same_Some r row e, is, at) (ap (λ n. record { number = n; row = row; found = get_or (f ∷ found) 0 d } ∷ []) (omega arith))
take_told first number (r ∷ rows) (f ∷ found) (suc k) row of_row d e h is at =
    ap (λ l. record { number = first; row = r; found = f } ∷ l) (take_told (first + 1) number rows found k row of_row d e (omega arith) is (omega (arith, at)))

-- no row is left
pub all_told : (rows : List Row) (found : List RowFound) (k : ℕ) → length found ≤ length rows → length found ≡ k → take k (numbered_from 0 rows found) ≡ numbered_from 0 rows found
all_told rows found k few e =
    subst (λ n. take n (numbered_from 0 rows found) ≡ numbered_from 0 rows found) (length_told 0 rows found few ∙ e) (take-length (numbered_from 0 rows found))

-- ---- a row by its number

told_from : (first : ℕ) (rows : List Row) (found : List RowFound) (k : ℕ) (row : Row) (f : RowFound) → slice_get rows k ≡ Some row → slice_get found k ≡ Some f
    → slice_get (numbered_from first rows found) k ≡ Some (record { number = first + k; row = row; found = f })
told_from first [] found k row f e g = absurd (cc e)
told_from first (r ∷ rows) [] k row f e g = absurd (cc g)
told_from first (r ∷ rows) (x ∷ found) zero row f e g =
    rw (same_Some r row e, same_Some x f g) (ap (λ n. Some (record { number = n; row = row; found = f })) (omega arith))
told_from first (r ∷ rows) (x ∷ found) (suc k) row f e g =
    told_from (first + 1) rows found k row f e g ∙ ap (λ n. Some (record { number = n; row = row; found = f })) (omega arith)

-- the row of a number, with what is found of it
pub told_at : (drawn : Drawn) (found : List RowFound) (k : ℕ) (row : Row) (f : RowFound) → slice_get drawn.rows k ≡ Some row → slice_get found k ≡ Some f
    → slice_get (numbered_rows drawn found) k ≡ Some (record { number = k; row = row; found = f })
told_at drawn found k row f e g = told_from 0 drawn.rows found k row f e g ∙ ap (λ n. Some (record { number = n; row = row; found = f })) (omega arith)

-- a numbered row is the row of its number, with what was found of this row
pub record IsOf (rows : List Row) (found : List RowFound) (numbered : NumberedRow) : Type 0 where
  pub is_row : slice_get rows numbered.number ≡ Some numbered.row
  pub is_found : slice_get found numbered.number ≡ Some numbered.found

pub told_is : (drawn : Drawn) (found : List RowFound) (numbered : NumberedRow) → IsOf drawn.rows found numbered → slice_get (numbered_rows drawn found) numbered.number ≡ Some numbered
told_is drawn found numbered is = told_at drawn found numbered.number numbered.row numbered.found is.is_row is.is_found

abbrev pub Each : {A : Type 0} → (A → Type 0) → List A → Type 0
Each P [] = Unit {0}
Each P (x ∷ xs) = P x × Each P xs

each_told : (all : List Row) (every : List RowFound) (number : ℕ) (rows : List Row) (found : List RowFound)
    → ((k : ℕ) (row : Row) → slice_get rows k ≡ Some row → slice_get all (number + k) ≡ Some row)
    → ((k : ℕ) (f : RowFound) → slice_get found k ≡ Some f → slice_get every (number + k) ≡ Some f)
    → Each (IsOf all every) (numbered_from number rows found)
each_told all every number [] found in_rows in_found = tt
each_told all every number (r ∷ rows) [] in_rows in_found = tt
each_told all every number (r ∷ rows) (f ∷ found) in_rows in_found = (
  record { is_row = here (λ n. slice_get all n ≡ Some r) (in_rows 0 r refl); is_found = here (λ n. slice_get every n ≡ Some f) (in_found 0 f refl) },
  each_told all every (number + 1) rows found (λ k row e. next (λ n. slice_get all n ≡ Some row) k (in_rows (suc k) row e))
      (λ k f e. next (λ n. slice_get every n ≡ Some f) k (in_found (suc k) f e)),
)
  where
    here : (P : ℕ → Type 0) → P (number + 0) → P number
    here P p = subst P (omega arith) p

    next : (P : ℕ → Type 0) (k : ℕ) → P (number + suc k) → P ((number + 1) + k)
    next P k p = subst P (omega arith) p

-- all numbered rows are so
pub each_numbered : (drawn : Drawn) (found : List RowFound) → Each (IsOf drawn.rows found) (numbered_rows drawn found)
each_numbered drawn found =
    each_told drawn.rows found 0 drawn.rows found (λ k row e. subst (λ n. slice_get drawn.rows n ≡ Some row) (omega arith) e) (λ k f e. subst (λ n. slice_get found n ≡ Some f) (omega arith) e)
