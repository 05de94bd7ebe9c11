-- Subtracting a number from one time after another.
use Rattle.std.proofs.Common.{◌≡◌, ◌<◌, ◌≤◌, ◌+◌, ℕ, zero, suc, ℤ, pos, negsuc, neg_ℤ, ◌+ℤ◌, ◌-ℤ◌, List, [], ◌∷◌, ◌++◌, length, get_or, take, drop, All, refl, sym, subst, ap, ◌∙◌, add-one, arith, w64}
use Rattle.std.proofs.Math.ListN.{set}
use Rattle.std.specs.Prelude.{FitsSigned}
use mir.Val.{to_z, of_z}
use Rattle.std.proofs.lemmas.Int.{ints, to_z-of_z}
use Rattle.event_graph.specs.Times.{IsTime, shifted}

fits_time : (z : ℤ) → IsTime z → FitsSigned w64 z
fits_time (pos n) h = record { sfits = omega (arith, ints) }
fits_time (negsuc n) h = record { sfits = omega (arith, ints) }

-- a time as it is read
pub read_time : (z : ℤ) → IsTime z → to_z w64 (of_z w64 z) ≡ z
read_time z h = to_z-of_z w64 z (fits_time z h)

-- the first times have a number added, and the others are as they were
abbrev pub shifted_front : ℕ → List ℤ → ℤ → List ℤ
shifted_front i times by = shifted (take i times) by ++ drop i times

front_yet : (times : List ℤ) (by : ℤ) (i : ℕ) (d : ℤ) → get_or (shifted_front i times by) i d ≡ get_or times i d
front_yet times by zero d = refl
front_yet [] by (suc i) d = refl
front_yet (time ∷ times) by (suc i) d = front_yet times by i d

front_more : (times : List ℤ) (by : ℤ) (i : ℕ) (d : ℤ) → i < length times → set (shifted_front i times by) i (get_or times i d +ℤ by) ≡ shifted_front (suc i) times by
front_more [] by i d h = absurd (omega arith)
front_more (time ∷ times) by zero d h = refl
front_more (time ∷ times) by (suc i) d h = ap (λ ts. (time +ℤ by) ∷ ts) (front_more times by i d (omega arith))

front_whole : (times : List ℤ) (by : ℤ) (i : ℕ) → length times ≤ i → shifted_front i times by ≡ shifted times by
front_whole [] by zero h = refl
front_whole [] by (suc i) h = refl
front_whole (time ∷ times) by zero h = absurd (omega arith)
front_whole (time ∷ times) by (suc i) h = ap (λ ts. (time +ℤ by) ∷ ts) (front_whole times by i (omega arith))

-- the next time is as it was
front_read : (times now : List ℤ) (by : ℤ) (i : ℕ) → All IsTime times → now ≡ shifted_front i times by → i < length times → to_z w64 (of_z w64 (get_or now i (pos 0))) ≡ get_or times i (pos 0)
front_read times now by i known is h =
    let e : get_or now i (pos 0) ≡ get_or times i (pos 0) = ap (λ (ts : List ℤ). get_or ts i (pos 0)) is ∙ front_yet times by i (pos 0) in
    rw e (read_time (get_or times i (pos 0)) (known i (pos 0) h))

pub front_known : (times now : List ℤ) (by : ℤ) (i : ℕ) → All IsTime times → now ≡ shifted_front i times by → i < length times → IsTime (to_z w64 (of_z w64 (get_or now i (pos 0))))
front_known times now by i known is h = subst IsTime (sym (front_read times now by i known is h)) (known i (pos 0) h)

pub front_step : (times now : List ℤ) (origin value : ℤ) (i : ℕ) → All IsTime times → now ≡ shifted_front i times (neg_ℤ origin) → i < length times
    → value ≡ to_z w64 (of_z w64 (get_or now i (pos 0))) -ℤ origin → FitsSigned w64 value
    → set now i (to_z w64 (of_z w64 value)) ≡ shifted_front (i + 1) times (neg_ℤ origin)
front_step times now origin value i known is h v fits =
    let e : value ≡ get_or times i (pos 0) +ℤ neg_ℤ origin = v ∙ minus (get_or times i (pos 0)) (to_z w64 (of_z w64 (get_or now i (pos 0)))) origin (front_read times now (neg_ℤ origin) i known is h) in
    rw (to_z-of_z w64 value fits, e, add-one, is) (front_more times (neg_ℤ origin) i (pos 0) h)
  where
    minus : (time read origin : ℤ) → read ≡ time → (read -ℤ origin) ≡ time +ℤ neg_ℤ origin
    minus time read origin e = omega (arith, ints)

pub front_done : (times now : List ℤ) (origin read : ℤ) (i : ℕ) → read ≡ origin → now ≡ shifted_front i times (neg_ℤ read) → length times ≤ i → now ≡ shifted times (neg_ℤ origin)
front_done times now origin read i e is h = is ∙ front_whole times (neg_ℤ read) i h ∙ ap (λ z. shifted times (neg_ℤ z)) e
