-- The first file of a name in a list of files.
use Rattle.std.proofs.Common.{◌≡◌, ℕ, suc, ◌+◌, ◌<◌, List, length, drop, get_or, Option, Some, cond, true, false, nat_eq, refl, sym, ◌∙◌, ap, add-one, drop-cons}
use Rattle.std.specs.Cmp.Lexicographic.{slice_cmp, pointwise}
use Rattle.std.specs.Ordering.{nat_cmp}
use Rattle.std.specs.FinMap.Entries.{find}
use Rattle.std.proofs.lemmas.Map.Text.{is_eq-slice_cmp}
use Rattle.std.proofs.lemmas.Cmp.{nat_list_eq_equiv}

find_at : (files : List (List ℕ × List ℕ)) (i : ℕ) (entry : List ℕ × List ℕ) (name : List ℕ) → i < length files → entry ≡ get_or files i entry
    → find (slice_cmp nat_cmp) name (drop i files) ≡ cond (pointwise nat_eq entry.0 name) (Some entry.1) (find (slice_cmp nat_cmp) name (drop (i + 1) files))
find_at files i entry name h is =
    rw (add-one, drop-cons files i entry h, ← is) (rw is_eq-slice_cmp (ap (λ b. cond b (Some entry.1) (find (slice_cmp nat_cmp) name (drop (suc i) files))) (nat_list_eq_equiv.symm name entry.0)))

-- the entry at a place has the name
pub found_at : (files : List (List ℕ × List ℕ)) (i : ℕ) (entry : List ℕ × List ℕ) (known name bytes : List ℕ) (whole : Option (List ℕ)) → i < length files → entry ≡ get_or files i entry
    → known ≡ entry.0 → bytes ≡ entry.1 → true ≡ pointwise nat_eq known name → whole ≡ find (slice_cmp nat_cmp) name (drop i files) → Some bytes ≡ whole
found_at files i entry known name bytes whole h is k b eq w =
    sym (w ∙ find_at files i entry name h is ∙ rw (← k, ← eq) (ap Some (sym b)))

-- the entry at a place has another name
pub passed_at : (files : List (List ℕ × List ℕ)) (i : ℕ) (entry : List ℕ × List ℕ) (known name : List ℕ) (whole : Option (List ℕ)) → i < length files → entry ≡ get_or files i entry
    → known ≡ entry.0 → false ≡ pointwise nat_eq known name → whole ≡ find (slice_cmp nat_cmp) name (drop i files) → whole ≡ find (slice_cmp nat_cmp) name (drop (i + 1) files)
passed_at files i entry known name whole h is k eq w =
    w ∙ find_at files i entry name h is ∙ rw (← k, ← eq) refl
