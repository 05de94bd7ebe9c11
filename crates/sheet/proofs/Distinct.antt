-- Elements are put at the end one by one, each only if its key is new.
use Rattle.std.proofs.Common.{◌≡◌, Bool, true, false, List, [], ◌∷◌, ◌++◌, map, Option, Some, None, Ok, Err, refl, ap, sym, ◌∙◌}
use Rattle.std.specs.List.{list_any}
use Rattle.std.proofs.lemmas.List.{append-nil, append_assoc, map_push}
use Rattle.sheet.specs.declared.fault.SheetFault.{SheetFault}
use Rattle.itv_base.specs.Reading.{◌>>=◌, unless}
use Rattle.sheet.specs.Step.{with_distinct}

module _ {X K : Type 0} (same : K → K → Bool) (key : X → K) (fault : X → SheetFault) where
  pub with_distinct-nil : (done : List X) → with_distinct same key fault done [] ≡ Ok done
  with_distinct-nil done = ap Ok (append-nil done)

  -- the element stood before
  pub with_distinct-stood : (done : List X) (x : X) (xs : List X) → list_any (same (key x)) (map key done) ≡ true
      → with_distinct same key fault done (x ∷ xs) ≡ Err (fault x)
  with_distinct-stood done x xs stood = rw stood

  -- it did not
  pub with_distinct-new : (done : List X) (x : X) (xs : List X) → list_any (same (key x)) (map key done) ≡ false
      → with_distinct same key fault done (x ∷ xs) ≡ with_distinct same key fault (done ++ x ∷ []) xs
  with_distinct-new done x xs new = rw (new, map_push, append_assoc)

  -- one step is done, and the rest follows
  append_step : (done : List X) (x : X) (xs ys : List X) (b : Bool) → list_any (same (key x)) (map key done) ≡ b
      → with_distinct same key fault (done ++ x ∷ []) (xs ++ ys) ≡ (with_distinct same key fault (done ++ x ∷ []) xs >>= (λ more. with_distinct same key fault more ys))
      → with_distinct same key fault done (x ∷ (xs ++ ys)) ≡ (with_distinct same key fault done (x ∷ xs) >>= (λ more. with_distinct same key fault more ys))
  append_step done x xs ys true stood rest = rw stood
  append_step done x xs ys false new rest =
      with_distinct-new done x (xs ++ ys) new ∙ rest ∙ ap (λ r. r >>= (λ more. with_distinct same key fault more ys)) (sym (with_distinct-new done x xs new))

  pub with_distinct-append : (done xs ys : List X) → with_distinct same key fault done (xs ++ ys) ≡ (with_distinct same key fault done xs >>= (λ more. with_distinct same key fault more ys))
  with_distinct-append done [] ys = rw append-nil
  with_distinct-append done (x ∷ xs) ys = append_step done x xs ys _ refl (with_distinct-append (done ++ x ∷ []) xs ys)

  unless-ok : (o : Option X) (all xs : List X) → unless o fault xs ≡ Ok all → all ≡ xs
  unless-ok None all xs is = cc
  unless-ok (Some x) all xs is = cc

  -- the answer lists all of them
  pub with_distinct-ok : (done more all : List X) → with_distinct same key fault done more ≡ Ok all → all ≡ done ++ more
  with_distinct-ok done more all is = unless-ok _ all (done ++ more) is
