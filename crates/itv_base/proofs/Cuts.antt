-- Where a text may be cut, and what is after a front of it.
use Rattle.std.proofs.Common.{◌≡◌, ℕ, zero, suc, ◌<◌, Bool, true, false, cond, eqb, List, [], ◌∷◌, ◌++◌, length, get_or, Option, Some, None, refl, sym, ap, ◌∙◌, arith, Bor, MatchOption, add-one}
use Rattle.std.specs.List.{prefix_len}
use Rattle.std.specs.Str.{IsUtf8, IsCharBoundary}
use Rattle.std.specs.Str.Pattern.{FindsTextPrefix, StripsPrefix}
use Rattle.std.specs.Option.{option_copied}
use Rattle.std.specs.Char.{is_ascii_digit}
use Rattle.std.proofs.lemmas.Bool.{eqb-true, eq-eqb}
use Rattle.std.proofs.lemmas.Bool.Decides.{nat_tests}
use Rattle.std.proofs.lemmas.List.Sums.{prefix_len-le-length, prefix_len_passes}
use Rattle.std.proofs.lemmas.Str.{IsCharBoundary-start, IsCharBoundary-after_ascii}
use Rattle.itv_base.specs.Characters.{is_name_byte}
use Rattle.itv_base.specs.Cuts.{stripped}

-- ---- after a run

-- a text may be cut after the bytes that pass a test which only ASCII passes
pub run_ends : (p : ℕ → Bool) → ((b : ℕ) → p b ≡ true → b < 128) → (bs : List ℕ) (n : ℕ) → IsUtf8 bs → n ≡ prefix_len p bs → IsCharBoundary bs n
run_ends p small bs zero utf8 e = IsCharBoundary-start bs utf8
run_ends p small bs (suc n) utf8 e =
    let inside : n < prefix_len p bs = omega arith in
    let within : n < length bs = omega (arith, prefix_len-le-length p bs) in
    rw (← add-one) (IsCharBoundary-after_ascii bs n utf8 within (small (get_or bs n 0) (prefix_len_passes p bs n 0 inside)))

pub digit_is_ascii : (b : ℕ) → is_ascii_digit b ≡ true → b < 128
digit_is_ascii b h = grind (arith, nat_tests)

pub name_byte_is_ascii : (b : ℕ) → is_name_byte b ≡ true → b < 128
name_byte_is_ascii b h = grind (arith, nat_tests)

-- ---- after a front

pub stripped-append : (front rest : List ℕ) → stripped front (front ++ rest) ≡ Some rest
stripped-append [] rest = refl
stripped-append (c ∷ front) rest = rw (eq-eqb c c refl) (stripped-append front rest)

pub stripped_some : (front text rest : List ℕ) → stripped front text ≡ Some rest → text ≡ front ++ rest
stripped_some [] text rest e = cc
stripped_some (c ∷ front) [] rest e = absurd cc
stripped_some (c ∷ front) (b ∷ text) rest e = stripped_at (eqb b c) refl e (stripped_some front text rest)
  where
    stripped_at : (same : Bool) → eqb b c ≡ same → cond same (stripped front text) None ≡ Some rest → (stripped front text ≡ Some rest → text ≡ front ++ rest) → b ∷ text ≡ (c ∷ front) ++ rest
    stripped_at true h e tail = let is : b ≡ c = eqb-true b c h in let is_tail = tail e in cc
    stripped_at false h e tail = absurd cc

-- what `strip_prefix` returns
pub strips : (front text : List ℕ) (r : Option (Bor (List ℕ)))
    → MatchOption r (FindsTextPrefix front text None) (λ x. StripsPrefix (FindsTextPrefix front) text x.now) → option_copied r ≡ stripped front text
strips front text None h = none_at (stripped front text) refl
  where
    none_at : (o : Option (List ℕ)) → stripped front text ≡ o → None ≡ o
    none_at None e = refl
    none_at (Some rest) e = absurd (h rest (stripped_some front text rest e))
strips front text (Some x) h =
    let whole : text ≡ front ++ x.now = rw h.2 (h.1.1) in
    sym (ap (stripped front) whole ∙ stripped-append front x.now)
