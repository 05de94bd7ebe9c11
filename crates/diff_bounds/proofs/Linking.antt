-- Chosen edges that are put at the end, and taken away there.
use Rattle.std.proofs.Common.{◌≡◌, ◌≢◌, ℕ, ◌+◌, ◌-◌, ◌<◌, inl, inr, List, [], ◌∷◌, ◌++◌, length, get_or, set, take, take-take, All, Option, Some, None, sym, ◌∙◌, ap, subst, arith}
use Rattle.std.specs.List.{HoldsAt, slice_get}
use Rattle.std.proofs.Math.Seq.{get_or-append_seam}
use Rattle.std.proofs.lemmas.Bool.{cases_eq, cases_lt}
use Rattle.std.proofs.lemmas.List.{get_or-set_other, get_or_append_left, get_or_default, length-set, length_push}
use Rattle.std.proofs.lemmas.List.Elements.{All-push}
use Rattle.std.proofs.lemmas.Grind.{get_or-set_at}
use Rattle.std.proofs.lemmas.Option.{get_or_from_slice_get, slice_get-get_or, slice_get_within}
use Rattle.diff_bounds.specs.declared.arc.Arc.{Arc}
use Rattle.diff_bounds.specs.Step.Chosen.{AreLinked, IsEarlier, IsLatest, StartsAt, StartsElsewhere}

-- ---- the latest edge that starts at an event

-- it is the same in another list that has the same edges up to the count
latest_same : (xs ys : List Arc) (v count : ℕ) (o : Option ℕ) → ((k : ℕ) (d : Arc) → k < count → get_or ys k d ≡ get_or xs k d) → IsLatest xs v count o → IsLatest ys v count o
latest_same xs ys v count None same is = λ k d low high. subst (StartsElsewhere v) (sym (same k d high)) (is k d low high)
latest_same xs ys v count (Some place) same is =
    (is.0, λ d. subst (StartsAt v) (sym (same place d is.0)) (is.1 d), λ k d low high. subst (StartsElsewhere v) (sym (same k d high)) (is.2 k d low high))

-- and after one more edge that starts elsewhere
latest_on : (xs : List Arc) (v count : ℕ) (o : Option ℕ) → HoldsAt (StartsElsewhere v) xs count → IsLatest xs v count o → IsLatest xs v (count + 1) o
latest_on xs v count None off is = λ k d low high. elim (cases_eq k count) [ inl same ↦ subst (λ (n : ℕ). StartsElsewhere v (get_or xs n d)) (sym same) (off d) | inr apart ↦ is k d low (omega arith) ]
latest_on xs v count (Some place) off is = (
  let within = is.0 in omega arith,
  is.1,
  λ k d low high. elim (cases_eq k count) [ inl same ↦ subst (λ (n : ℕ). StartsElsewhere v (get_or xs n d)) (sym same) (off d) | inr apart ↦ is.2 k d low (omega arith) ],
)

latest_back : (xs : List Arc) (v count : ℕ) (o : Option ℕ) (a : Arc) → HoldsAt (StartsElsewhere v) xs count → IsLatest xs v (count + 1) o → IsLatest xs v count o
latest_back xs v count None a off is = λ k d low high. is k d low (omega arith)
latest_back xs v count (Some place) a off is =
    elim (cases_eq place count) [
      | inl same ↦ absurd (off a (subst (λ (n : ℕ). StartsAt v (get_or xs n a)) same (is.1 a)))
      | inr apart ↦ (let within = is.0 in omega arith, is.1, λ k d low high. is.2 k d low (omega arith))
    ]

-- an edge at the end is the latest that starts where it does
latest_end : (xs : List Arc) (a : Arc) (v : ℕ) → a.edge.from.0 ≡ v → IsLatest (xs ++ a ∷ []) v (length xs + 1) (Some (length xs))
latest_end xs a v starts = (omega arith, λ d. subst (StartsAt v) (sym (get_or-append_seam xs a [] d)) starts, λ k d low high. absurd (omega arith))

left_same : (xs : List Arc) (a : Arc) (k : ℕ) (d : Arc) → k < length xs → get_or (xs ++ a ∷ []) k d ≡ get_or xs k d
left_same xs a k d below = get_or_append_left xs (a ∷ []) d k below

end_elsewhere : (xs : List Arc) (a : Arc) (v : ℕ) → a.edge.from.0 ≢ v → HoldsAt (StartsElsewhere v) (xs ++ a ∷ []) (length xs)
end_elsewhere xs a v off d = subst (StartsElsewhere v) (sym (get_or-append_seam xs a [] d)) off

-- ---- an edge is put at the end

earlier_pushed : (arcs : List Arc) (earlier latest : List (Option ℕ)) (a : Arc) → AreLinked arcs earlier latest → a.edge.from.0 < length latest
    → (place : ℕ) → IsEarlier (arcs ++ a ∷ []) place (get_or (earlier ++ get_or latest a.edge.from.0 None ∷ []) place None)
earlier_pushed arcs earlier latest a linked within place x at =
    let longer = length_push arcs a in
    let here = slice_get_within (arcs ++ a ∷ []) place x at in
    let count = linked.count in
    let read : get_or (arcs ++ a ∷ []) place x ≡ x = get_or_from_slice_get (arcs ++ a ∷ []) place x x at in
    elim (cases_lt place (length arcs)) [
      | inl below ↦
          let is : slice_get arcs place ≡ Some x = slice_get-get_or arcs place x below ∙ ap (λ (y : Arc). Some y) (sym (left_same arcs a place x below) ∙ read) in
          let link : get_or (earlier ++ get_or latest a.edge.from.0 None ∷ []) place None ≡ get_or earlier place None = get_or_append_left earlier (get_or latest a.edge.from.0 None ∷ []) None place (omega arith) in
          let P : Option ℕ → Type 0 = IsLatest (arcs ++ a ∷ []) x.edge.from.0 place in
          subst P (sym link) (latest_same arcs (arcs ++ a ∷ []) x.edge.from.0 place (get_or earlier place None) (λ k d low. left_same arcs a k d (omega arith)) (linked.before place x is))
      | inr past ↦
          let end : place ≡ length arcs = omega arith in
          let same : a ≡ x = sym (get_or-append_seam arcs a [] x) ∙ ap (λ (n : ℕ). get_or (arcs ++ a ∷ []) n x) (sym end) ∙ read in
          let link : get_or (earlier ++ get_or latest a.edge.from.0 None ∷ []) place None ≡ get_or latest a.edge.from.0 None =
          ap (λ (n : ℕ). get_or (earlier ++ get_or latest a.edge.from.0 None ∷ []) n None) (end ∙ sym count) ∙ get_or-append_seam earlier (get_or latest a.edge.from.0 None) [] None in
          let P : Option ℕ → Type 0 = IsLatest (arcs ++ a ∷ []) x.edge.from.0 place in
          let Q : Arc → Type 0 = λ y. IsLatest (arcs ++ a ∷ []) y.edge.from.0 place (get_or latest a.edge.from.0 None) in
          let R : ℕ → Type 0 = λ n. IsLatest (arcs ++ a ∷ []) a.edge.from.0 n (get_or latest a.edge.from.0 None) in
          subst P (sym link)
          (subst Q same (subst R (sym end) (latest_same arcs (arcs ++ a ∷ []) a.edge.from.0 (length arcs) (get_or latest a.edge.from.0 None) (λ k d low. left_same arcs a k d low) (linked.last a.edge.from.0 within))))
    ]

last_pushed : (arcs : List Arc) (earlier latest : List (Option ℕ)) (a : Arc) → AreLinked arcs earlier latest → a.edge.from.0 < length latest
    → (v : ℕ) → v < length latest → IsLatest (arcs ++ a ∷ []) v (length arcs + 1) (get_or (set latest a.edge.from.0 (Some (length arcs))) v None)
last_pushed arcs earlier latest a linked within v below =
    let P : Option ℕ → Type 0 = IsLatest (arcs ++ a ∷ []) v (length arcs + 1) in
    elim (cases_eq v a.edge.from.0) [
      | inl same ↦ subst P (sym (get_or-set_at latest a.edge.from.0 v (Some (length arcs)) None same within)) (latest_end arcs a v (sym same))
      | inr off ↦
          subst P (sym (get_or-set_other latest a.edge.from.0 v (Some (length arcs)) None off))
          (latest_on (arcs ++ a ∷ []) v (length arcs) _ (end_elsewhere arcs a v (λ same. off (sym same)))
          (latest_same arcs (arcs ++ a ∷ []) v (length arcs) _ (λ k d low. left_same arcs a k d low) (linked.last v below)))
    ]

pub pushed_linked : (arcs : List Arc) (earlier latest : List (Option ℕ)) (a : Arc) → AreLinked arcs earlier latest → a.edge.from.0 < length latest
    → AreLinked (arcs ++ a ∷ []) (earlier ++ get_or latest a.edge.from.0 None ∷ []) (set latest a.edge.from.0 (Some (length arcs)))
pushed_linked arcs earlier latest a linked within =
    let same : length (set latest a.edge.from.0 (Some (length arcs))) ≡ length latest = length-set latest a.edge.from.0 (Some (length arcs)) in
    record {
      count = length_push earlier (get_or latest a.edge.from.0 None) ∙ ap (λ (n : ℕ). n + 1) linked.count ∙ sym (length_push arcs a);
      starts = let P : ℕ → Type 0 = λ n. All (λ (x : Arc). x.edge.from.0 < n) (arcs ++ a ∷ []) in subst P (sym same) (All-push (λ (x : Arc). x.edge.from.0 < length latest) arcs a linked.starts within);
      before = earlier_pushed arcs earlier latest a linked within;
      last = λ v below. let P : ℕ → Type 0 = λ n. IsLatest (arcs ++ a ∷ []) v n (get_or (set latest a.edge.from.0 (Some (length arcs))) v None) in
          subst P (sym (length_push arcs a)) (last_pushed arcs earlier latest a linked within v (let P : ℕ → Type 0 = λ n. v < n in subst P same below));
    }

pub pushed_on : (arcs arcs' : List Arc) (earlier earlier' latest : List (Option ℕ)) (a : Arc) (e : Option ℕ) (place : ℕ) → AreLinked arcs earlier latest → a.edge.from.0 < length latest → arcs' ≡ arcs ++ a ∷ []
    → earlier' ≡ earlier ++ e ∷ [] → e ≡ get_or latest a.edge.from.0 e → place ≡ length arcs → AreLinked arcs' earlier' (set latest a.edge.from.0 (Some place))
pushed_on arcs arcs' earlier earlier' latest a e place linked within is links read at =
    let read_is : get_or latest a.edge.from.0 None ≡ e = sym (read ∙ get_or_default latest a.edge.from.0 e None within) in
    rw (is, links, at, ← read_is) (pushed_linked arcs earlier latest a linked within)

-- ---- the edge at the end is taken away

end_is : (xs : List Arc) (a : Arc) → slice_get (xs ++ a ∷ []) (length xs) ≡ Some a
end_is xs a = slice_get-get_or (xs ++ a ∷ []) (length xs) a (let longer = length_push xs a in omega arith) ∙ ap (λ (y : Arc). Some y) (get_or-append_seam xs a [] a)

pub popped_linked : (arcs : List Arc) (earlier latest : List (Option ℕ)) (a : Arc) (e : Option ℕ) → AreLinked (arcs ++ a ∷ []) (earlier ++ e ∷ []) latest → AreLinked arcs earlier (set latest a.edge.from.0 e)
popped_linked arcs earlier latest a e linked =
    let longer = length_push arcs a in
    let links = length_push earlier e in
    let both = linked.count in
    let same : length (set latest a.edge.from.0 e) ≡ length latest = length-set latest a.edge.from.0 e in
    let count : length earlier ≡ length arcs = omega arith in
    let within : a.edge.from.0 < length latest = subst (λ (x : Arc). x.edge.from.0 < length latest) (get_or-append_seam arcs a [] a) (linked.starts (length arcs) a (omega arith)) in
    let end : IsLatest (arcs ++ a ∷ []) a.edge.from.0 (length arcs) e =
    let P : Option ℕ → Type 0 = IsLatest (arcs ++ a ∷ []) a.edge.from.0 (length arcs) in
    subst P (ap (λ (n : ℕ). get_or (earlier ++ e ∷ []) n None) (sym count) ∙ get_or-append_seam earlier e [] None) (linked.before (length arcs) a (end_is arcs a)) in
    let back : (k : ℕ) (d : Arc) → k < length arcs → get_or arcs k d ≡ get_or (arcs ++ a ∷ []) k d = λ k d low. sym (left_same arcs a k d low) in
    record {
      count = count;
      starts = let P : ℕ → Type 0 = λ n. All (λ (x : Arc). x.edge.from.0 < n) arcs in subst P (sym same) (λ k d low. subst (λ (x : Arc). x.edge.from.0 < length latest) (left_same arcs a k d low) (linked.starts k d (omega arith)));
      before = λ place x at.
          let below = slice_get_within arcs place x at in
          let is : slice_get (arcs ++ a ∷ []) place ≡ Some x =
          slice_get-get_or (arcs ++ a ∷ []) place x (omega arith) ∙ ap (λ (y : Arc). Some y) (left_same arcs a place x below ∙ get_or_from_slice_get arcs place x x at) in
          let P : Option ℕ → Type 0 = IsLatest arcs x.edge.from.0 place in
          subst P (get_or_append_left earlier (e ∷ []) None place (omega arith))
          (latest_same (arcs ++ a ∷ []) arcs x.edge.from.0 place _ (λ k d low. back k d (omega arith)) (linked.before place x is));
      last = λ v below.
          let P : Option ℕ → Type 0 = IsLatest arcs v (length arcs) in
          elim (cases_eq v a.edge.from.0) [
            | inl here ↦
                let Q : ℕ → Type 0 = λ n. IsLatest arcs n (length arcs) e in
                subst P (sym (get_or-set_at latest a.edge.from.0 v e None here within)) (subst Q (sym here) (latest_same (arcs ++ a ∷ []) arcs a.edge.from.0 (length arcs) e back end))
            | inr off ↦
                let R : ℕ → Type 0 = λ n. IsLatest (arcs ++ a ∷ []) v n (get_or latest v None) in
                subst P (sym (get_or-set_other latest a.edge.from.0 v e None off))
                (latest_same (arcs ++ a ∷ []) arcs v (length arcs) _ back
                (latest_back (arcs ++ a ∷ []) v (length arcs) _ a (end_elsewhere arcs a v (λ is. off (sym is))) (subst R longer (linked.last v (let S : ℕ → Type 0 = λ n. v < n in subst S same below)))))
          ];
    }

pub popped_on : (arcs arcs' : List Arc) (earlier earlier' latest : List (Option ℕ)) (a : Arc) (e : Option ℕ) → AreLinked arcs earlier latest → arcs ≡ arcs' ++ a ∷ [] → earlier ≡ earlier' ++ e ∷ [] → AreLinked arcs' earlier' (set latest a.edge.from.0 e)
popped_on arcs arcs' earlier earlier' latest a e linked is links = popped_linked arcs' earlier' latest a e (rw (is, links) at linked)

-- ---- edges are taken away until a number of edges is left

pub kept_front : (arcs : List Arc) (count : ℕ) → count < length arcs → take count (take (length arcs - 1) arcs) ≡ take count arcs
kept_front arcs count more = take-take count (length arcs - 1) arcs (omega arith)
