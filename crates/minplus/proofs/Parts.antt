-- Rows that are improved part by part.
use Rattle.std.proofs.Common.{◌≡◌, ◌+◌, ◌<◌, ◌≤◌, ◌-◌, ℕ, ℤ, pos, List, length, get_or, set, ◌∙◌, sym, ap, refl, subst, inl, inr, w64, to_z, of_z, arith}
use Rattle.std.proofs.Math.ListN.{length-set}
use Rattle.std.proofs.lemmas.Bool.{cases_lt}
use Rattle.std.proofs.lemmas.Int.{to_z-of_z}
use Rattle.std.proofs.lemmas.List.{get_or-set_other, get_or-set_same, get_or_default, get_or_past}
use Rattle.std.proofs.lemmas.Simd.{get_or-chunk, get_or-put_chunk_at, get_or-put_chunk_above, get_or-put_chunk_below, get_or-zip2, length-chunk, length-put_chunk, length-zip2}
use mir.Val.{SFits}
use lib.Lanes.{chunk, put_chunk, zip2}
use Rattle.minplus.specs.Rows.{Improves, entry_at, improved}
use Rattle.minplus.specs.Step.Rows.{ImprovesPart}
use Rattle.minplus.specs.declared.rows.TheConstants.{ABSENT}

-- the empty part
pub start : (weight : ℤ) (first : ℕ) (row other : List ℤ) → ImprovesPart weight first first row other row
start weight first row other = record { count = refl; each = λ place low high. absurd (omega arith); below = λ place low. refl; above = λ place high. refl }

-- one part joined with the next
pub further : (weight : ℤ) (first middle last : ℕ) (old other now new : List ℤ) → first ≤ middle → middle ≤ last
    → ImprovesPart weight first middle old other now → ImprovesPart weight middle last now other new → ImprovesPart weight first last old other new
further weight first middle last old other now new low high one two = record {
  count = two.count ∙ one.count;
  each = λ place from to. elim (cases_lt place middle) [
    | inl before ↦ two.below place before ∙ one.each place from before
    | inr behind ↦ two.each place behind to ∙ ap (λ entry. improved weight entry (entry_at other place)) (one.above place behind)
  ];
  below = λ place before. two.below place (omega arith) ∙ one.below place before;
  above = λ place behind. two.above place behind ∙ one.above place (omega arith);
}

-- all parts together improve the rows. Past the end of both rows an entry stays absent
pub whole : (weight : ℤ) (last : ℕ) (old other new : List ℤ) → length old ≤ last → length other ≡ length old → ImprovesPart weight 0 last old other new → Improves weight old other new
whole weight last old other new all lengths part = record {
  count = part.count;
  each = λ place. elim (cases_lt place last) [
    | inl before ↦ part.each place (omega arith) before
    | inr behind ↦
        let absent : entry_at other place ≡ ABSENT = get_or_past other place ABSENT (omega arith) in
        part.above place behind ∙ sym (rw absent refl)
  ];
}

-- all parts, where the weight was put into 64 bits and read back
pub whole_by_bits : (weight : ℤ) (last : ℕ) (old other new : List ℤ) → SFits w64 weight → length old ≤ last → length other ≡ length old
    → ImprovesPart (to_z w64 (of_z w64 weight)) 0 last old other new → Improves weight old other new
whole_by_bits weight last old other new fits all lengths part =
    let same : to_z w64 (of_z w64 weight) ≡ weight = to_z-of_z w64 weight fits in
    let P : ℤ → Type 0 = λ w. Improves w old other new in
    subst P same (whole (to_z w64 (of_z w64 weight)) last old other new all lengths part)

-- one entry was set
pub one_set : (weight : ℤ) (place : ℕ) (old other : List ℤ) (entry : ℤ) → place < length old → entry ≡ improved weight (entry_at old place) (entry_at other place)
    → ImprovesPart weight place (place + 1) old other (set old place entry)
one_set weight place old other entry within is = record {
  count = length-set old place entry;
  each = λ at low high. let same : at ≡ place = omega arith in rw same (get_or-set_same old place entry ABSENT within ∙ is);
  below = λ at low. let apart : at ≡ place → ⊥ = λ same. omega arith in get_or-set_other old place at entry ABSENT apart;
  above = λ at high. let apart : at ≡ place → ⊥ = λ same. omega arith in get_or-set_other old place at entry ABSENT apart;
}

-- one entry was set, where the numbers were put into 64 bits and read back
pub one_set_by_bits : (weight : ℤ) (place : ℕ) (old other : List ℤ) (entry : ℤ) → SFits w64 weight → SFits w64 (get_or old place (pos 0)) → SFits w64 (get_or other place (pos 0)) → SFits w64 entry
    → place < length old → length other ≡ length old
    → entry ≡ improved (to_z w64 (of_z w64 weight)) (to_z w64 (of_z w64 (get_or old place (pos 0)))) (to_z w64 (of_z w64 (get_or other place (pos 0))))
    → ImprovesPart weight place (place + 1) old other (set old place (to_z w64 (of_z w64 entry)))
one_set_by_bits weight place old other entry weight_fits old_fits other_fits entry_fits within lengths is =
    let first : get_or old place (pos 0) ≡ entry_at old place = get_or_default old place (pos 0) ABSENT within in
    let second : get_or other place (pos 0) ≡ entry_at other place = get_or_default other place (pos 0) ABSENT (omega arith) in
    let read : entry ≡ improved weight (get_or old place (pos 0)) (get_or other place (pos 0)) = simp to_z-of_z at is in
    let made : entry ≡ improved weight (entry_at old place) (entry_at other place) = rw (first, second) at read in
    rw (to_z-of_z w64 entry entry_fits) (one_set weight place old other entry within made)

-- eight entries were put
pub eight_put : (weight : ℤ) (place : ℕ) (old other lanes : List ℤ) → place + 8 ≤ length old → length other ≡ length old → lanes ≡ zip2 (improved weight) (chunk place 8 old) (chunk place 8 other)
    → ImprovesPart weight place (place + 8) old other (put_chunk place old lanes)
eight_put weight place old other lanes within lengths is =
    let entries : length (chunk place 8 old) ≡ 8 = length-chunk place 8 old within in
    let others : length (chunk place 8 other) ≡ 8 = length-chunk place 8 other (omega arith) in
    let count : length lanes ≡ 8 = ap length is ∙ length-zip2 (improved weight) _ _ (entries ∙ sym others) ∙ entries in
    record {
      count = length-put_chunk place old lanes;
      each = λ at low high. at_lane weight place old other lanes within lengths is count at low high;
      below = λ at low. get_or-put_chunk_below place old lanes at ABSENT low;
      above = λ at high. get_or-put_chunk_above place old lanes at ABSENT (omega arith);
    }
  where
    at_lane : (weight : ℤ) (place : ℕ) (old other lanes : List ℤ) → place + 8 ≤ length old → length other ≡ length old → lanes ≡ zip2 (improved weight) (chunk place 8 old) (chunk place 8 other)
        → length lanes ≡ 8 → (at : ℕ) → place ≤ at → at < place + 8 → entry_at (put_chunk place old lanes) at ≡ improved weight (entry_at old at) (entry_at other at)
    at_lane weight place old other lanes within lengths is count at low high =
        let lane : ℕ = at - place in
        let sum : at ≡ place + lane = omega arith in
        let in_lane : lane < 8 = omega arith in
        let entries : length (chunk place 8 old) ≡ 8 = length-chunk place 8 old within in
        let others : length (chunk place 8 other) ≡ 8 = length-chunk place 8 other (omega arith) in
        rw sum
        (get_or-put_chunk_at place old lanes lane ABSENT (omega arith) (omega arith)
        ∙ ap (λ row. entry_at row lane) is
        ∙ get_or-zip2 (improved weight) _ _ lane ABSENT ABSENT ABSENT (omega arith) (omega arith)
        ∙ ap (λ entry. improved weight entry (get_or (chunk place 8 other) lane ABSENT)) (get_or-chunk place 8 old lane ABSENT in_lane)
        ∙ ap (improved weight (entry_at old (place + lane))) (get_or-chunk place 8 other lane ABSENT in_lane))
