-- Times that are written one after another.
use Rattle.std.proofs.Common.{◌≡◌, ℕ, ◌+◌, ◌<◌, ℤ, pos, ◌+ℤ◌, ◌≤ℤ◌, List, length, get_or, set, Option, Some, IfSome, All, inl, inr, sym, ◌∙◌, ap, subst, arith, zero-add}
use Rattle.std.proofs.lemmas.Int.{ints}
use Rattle.std.proofs.lemmas.Bool.{cases_eq}
use Rattle.std.proofs.lemmas.List.{get_or-set_other}
use Rattle.std.proofs.lemmas.List.Elements.{All-from_get_or}
use Rattle.std.proofs.lemmas.Grind.{get_or-set_at}
use Rattle.trail.specs.declared.stamp.Stamp.{Stamp}
use Rattle.diff_bounds.specs.Labels.{labels_from, number, stamp_at}
use Rattle.diff_bounds.specs.Limits.{IsTimely}

abbrev pub LiftsBelow : ℕ → List Stamp → ℕ → ℤ → Type 0
LiftsBelow events stamps count lift =
    (event : ℕ) (label : ℤ) → event < count → labels_from stamps 0 event ≡ Some label → label ≤ℤ (number (labels_from stamps events event) +ℤ lift)

above_some : (o : Option ℤ) (time lift label : ℤ) → IfSome o (λ l. l ≤ℤ (time +ℤ lift)) → o ≡ Some label → label ≤ℤ (time +ℤ lift)
above_some o time lift label above is = let P : Option ℤ → Type 0 = λ x. IfSome x (λ l. l ≤ℤ (time +ℤ lift)) in subst P is above

-- the number is great enough for one more event
pub lift_more : (events : ℕ) (stamps : List Stamp) (count : ℕ) (lift lift' : ℤ) (label : Option ℤ) (time : ℤ) → label ≡ (stamp_at stamps count).label → time ≡ number (labels_from stamps events count) → lift ≤ℤ lift' → IfSome label (λ l. l ≤ℤ (time +ℤ lift'))
    → LiftsBelow events stamps count lift → LiftsBelow events stamps (count + 1) lift'
lift_more events stamps count lift lift' label time is time_is more above below event number_at within at =
    elim (cases_eq event count) [
      | inl same ↦
          let here : label ≡ Some number_at = is ∙ ap (λ (k : ℕ). (stamp_at stamps k).label) (sym same ∙ sym (zero-add event)) ∙ at in
          let most : number_at ≤ℤ (time +ℤ lift') = above_some label time lift' number_at above here in
          let P : ℕ → Type 0 = λ k. number_at ≤ℤ (number (labels_from stamps events k) +ℤ lift') in
          let Q : ℤ → Type 0 = λ t. number_at ≤ℤ (t +ℤ lift') in
          subst P (sym same) (subst Q time_is most)
      | inr off ↦
          let was : number_at ≤ℤ (number (labels_from stamps events event) +ℤ lift) = below event number_at (omega arith) at in
          omega (arith, ints)
    ]

-- the times of the events below a number are written
pub record AreWritten (g : ℕ → ℤ) (out : List ℤ) (count : ℕ) : Type 0 where
  pub times : (v : ℕ) → v < count → get_or out v (pos 0) ≡ g v
  pub range : (v : ℕ) → v < count → IsTimely (get_or out v (pos 0))

-- one more time is written
pub times_more : (g : ℕ → ℤ) (out new : List ℤ) (k : ℕ) (x : ℤ) → k < length out → new ≡ set out k x → x ≡ g k → IsTimely x → AreWritten g out k → AreWritten g new (k + 1)
times_more g out new k x within is value near written =
    let P : List ℤ → Type 0 = λ ts. AreWritten g ts (k + 1) in
    subst P (sym is) (record {
      times = λ v below. elim (cases_eq v k) [
        | inl same ↦ get_or-set_at out k v x (pos 0) same within ∙ value ∙ ap g (sym same)
        | inr off ↦ get_or-set_other out k v x (pos 0) off ∙ written.times v (omega arith)
      ];
      range = λ v below. elim (cases_eq v k) [
        | inl same ↦ let Q : ℤ → Type 0 = IsTimely in subst Q (sym (get_or-set_at out k v x (pos 0) same within)) near
        | inr off ↦ let Q : ℤ → Type 0 = IsTimely in subst Q (sym (get_or-set_other out k v x (pos 0) off)) (written.range v (omega arith))
      ];
    })

pub all_timely : (out : List ℤ) (n : ℕ) → length out ≡ n → ((v : ℕ) → v < n → IsTimely (get_or out v (pos 0))) → All IsTimely out
all_timely out n is timely = All-from_get_or IsTimely out (pos 0) (λ i below. timely i (omega arith))
