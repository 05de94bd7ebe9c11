-- What a loop over reads took, and what a loop over writes wrote.
use Rattle.std.proofs.Common.{◌≡◌, ℕ, ◌-◌, ◌≤◌, ◌⊎◌, inl, inr, List, [], ◌++◌, length, take, drop, Option, Some, None, IfSome, Result, Ok, Err, OnOk, OnErr, refl, sym, ◌∙◌, ap, subst, append_assoc, append-nil, arith, length-append}
use Rattle.std.specs.Io.KnownBytes.{Keeps, Appends, Consumes, IsAtEnd}
use Rattle.std.proofs.lemmas.List.{take_all, take-append-drop, length-drop}
use Rattle.std.proofs.Math.Seq.{take-append_seam}
use Rattle.std.specs.Bool.{⊤}
use Rattle.std.proofs.lemmas.Bool.{cases_lt}
use Rattle.itv_base.specs.Outside.{last_count, one_more_fault, FaultCounted, Puts}
use Rattle.itv_base.specs.Step.{ReadsOn, WritesFront}

-- ---- reads

pub consumes_none : (known : Option (List ℕ)) → Consumes known known []
consumes_none None = tt
consumes_none (Some xs) = refl

pub consumes_kept : (a b : Option (List ℕ)) → Keeps a b → Consumes a b []
consumes_kept None b k = tt
consumes_kept (Some xs) None k = k
consumes_kept (Some xs) (Some ys) k = sym k

consumes_then : (a b c : Option (List ℕ)) (xs ys : List ℕ) → Consumes a b xs → Consumes b c ys → Consumes a c (xs ++ ys)
consumes_then None b c xs ys p q = tt
consumes_then (Some u) None c xs ys p q = absurd p
consumes_then (Some u) (Some v) None xs ys p q = q
consumes_then (Some u) (Some v) (Some w) xs ys p q = p ∙ ap (λ r. xs ++ r) q ∙ sym (append_assoc xs ys w)

-- nothing was read yet
pub reads_none : (known : Option (List ℕ)) (bytes : List ℕ) → ReadsOn known known bytes bytes
reads_none known bytes = record { more = []; grew = sym (append-nil bytes); taken = consumes_none known }

-- one read more
pub reads_then : (a b c : Option (List ℕ)) (xs ys zs : List ℕ) → ReadsOn a b xs ys → ReadsOn b c ys zs → ReadsOn a c xs zs
reads_then a b c xs ys zs p q = record {
  more = p.more ++ q.more;
  grew = q.grew ∙ ap (λ r. r ++ q.more) p.grew ∙ append_assoc xs p.more q.more;
  taken = consumes_then a b c p.more q.more p.taken q.taken;
}

-- what was read is the front of what was left, if enough was read or nothing is left
pub front_is : (a b : Option (List ℕ)) (xs : List ℕ) (cap : ℕ) → ReadsOn a b [] xs → length xs ≤ cap → (cap ≤ length xs) ⊎ IsAtEnd b → IfSome a (λ left. xs ≡ take cap left)
front_is None b xs cap r few done = tt
front_is (Some u) b xs cap r few done = front_at b r.taken done
  where
    front_at : (b : Option (List ℕ)) → Consumes (Some u) b r.more → (cap ≤ length xs) ⊎ IsAtEnd b → xs ≡ take cap u
    front_at None t done = absurd t
    front_at (Some v) t (inl enough) =
        let is : u ≡ xs ++ v = t ∙ ap (λ m. m ++ v) (sym r.grew) in
        let many : cap ≡ length xs = omega arith in
        rw (is, many) (sym (take-append_seam xs v))
    front_at (Some v) t (inr end) =
        let is : u ≡ xs = t ∙ ap (λ m. m ++ v) (sym r.grew) ∙ ap (λ m. xs ++ m) end ∙ append-nil xs in
        rw is (sym (take_all cap xs few))

-- ---- writes

appends_then : (a b c : Option (List ℕ)) (xs ys : List ℕ) → Appends a b xs → Appends b c ys → Appends a c (xs ++ ys)
appends_then None b c xs ys p q = tt
appends_then (Some u) None c xs ys p q = absurd p
appends_then (Some u) (Some v) None xs ys p q = q
appends_then (Some u) (Some v) (Some w) xs ys p q = q ∙ ap (λ r. r ++ ys) p ∙ append_assoc u xs ys

appends_kept : (a b : Option (List ℕ)) → Keeps a b → Appends a b []
appends_kept None b k = tt
appends_kept (Some xs) None k = k
appends_kept (Some xs) (Some ys) k = k ∙ sym (append-nil xs)

appends_none : (known : Option (List ℕ)) → Appends known known []
appends_none None = tt
appends_none (Some xs) = sym (append-nil xs)

-- Some of a piece is written, and the rest is left.
pub record WritesSome (before after : Option (List ℕ)) (rest piece : List ℕ) : Type 0 where
  pub done : List ℕ
  pub parts : done ++ rest ≡ piece
  pub written : Appends before after done

-- nothing is written at first
pub writes_none : (known : Option (List ℕ)) (piece : List ℕ) → WritesSome known known piece piece
writes_none known piece = record { done = []; parts = refl; written = appends_none known }

-- a call that wrote nothing
pub writes_kept : (a b c : Option (List ℕ)) (rest piece : List ℕ) → WritesSome a b rest piece → Keeps b c → WritesSome a c rest piece
writes_kept a b c rest piece w k = record {
  done = w.done;
  parts = w.parts;
  written = subst (Appends a c) (append-nil w.done) (appends_then a b c w.done [] w.written (appends_kept b c k));
}

-- a call that wrote a front of the rest
pub writes_more : (a b c : Option (List ℕ)) (n : ℕ) (rest piece : List ℕ) → WritesSome a b rest piece → Appends b c (take n rest) → WritesSome a c (take (length rest - n) (drop n rest)) piece
writes_more a b c n rest piece w more = record {
  done = w.done ++ take n rest;
  parts = append_assoc w.done (take n rest) (take (length rest - n) (drop n rest))
      ∙ ap (λ r. w.done ++ (take n rest ++ r)) (take_all (length rest - n) (drop n rest) (omega (arith, length-drop n rest)))
      ∙ ap (λ r. w.done ++ r) (take-append-drop n rest) ∙ w.parts;
  written = appends_then a b c w.done (take n rest) w.written more;
}

-- nothing is left
pub writes_whole : (a b : Option (List ℕ)) (rest piece : List ℕ) → WritesSome a b rest piece → rest ≡ [] → Appends a b piece
writes_whole a b rest piece w e =
    subst (Appends a b) (sym (append-nil w.done) ∙ ap (λ r. w.done ++ r) (sym e) ∙ w.parts) w.written

-- what is written is a front
pub writes_front : (a b : Option (List ℕ)) (rest piece : List ℕ) → WritesSome a b rest piece → WritesFront a b piece
writes_front a b rest piece w = record {
  count = length w.done;
  within = omega (arith, length-append w.done rest, ap length w.parts);
  written = subst (Appends a b) (sym (ap (take (length w.done)) (sym w.parts) ∙ take-append_seam w.done rest)) w.written;
}

-- ---- a sink whose bytes contracts do not see

-- a count of faults rises to the next one
pub raised_rose : (count : ℕ) → count ≤ last_count → FaultCounted count (one_more_fault count)
raised_rose count small = elim (cases_lt count last_count) [ inl less ↦ inl (omega arith) | inr ge ↦ inr (omega arith) ]

-- a put by a writer of which contracts see the count only
pub untold_puts : {E : Type 0} (old new : ℕ) (bytes : List ℕ) (r : Result ⊤ E) → OnOk r (new ≡ old) → OnErr r (old ≤ new) → OnErr r (FaultCounted old new)
    → Puts (record { written = None; faults = old }) (record { written = None; faults = new }) bytes r
untold_puts old new bytes (Ok x) still count rose = ap (λ n. record { written = None; faults = n }) still
untold_puts old new bytes (Err e) still count rose = record {
  front = (0, omega arith, refl);
  count = count;
  rose = rose;
}
