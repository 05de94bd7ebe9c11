-- Raising the events of a set one by one, and by how much they have to rise.
use Rattle.std.proofs.Common.{◌≡◌, ℕ, zero, suc, ◌+◌, ◌<◌, ℤ, pos, negsuc, ◌+ℤ◌, ◌-ℤ◌, ◌≤ℤ◌, ◌<ℤ◌, Bool, true, false, cond, List, [], ◌∷◌, length, get_or, take, Some, slice_get, refl, sym, subst, ap, ◌∙◌, arith, add-one}
use Rattle.std.proofs.Math.ListN.{set}
use Rattle.std.proofs.Common.{w64}
use Rattle.std.specs.Prelude.{All, FitsSigned}
use mir.Val.{to_z, of_z}
use Rattle.std.proofs.lemmas.List.Elements.{All-get_or}
use Rattle.std.proofs.lemmas.Int.{ints, to_z-of_z}
use Rattle.std.proofs.lemmas.Option.{slice_get_within}
use Rattle.itv_base.specs.declared.names.EventId.{EventId}
use Rattle.event_graph.specs.Times.{IsTime, raised, separation, time_of}
use Rattle.event_graph.proofs.MovingOn.{read_time}
use Rattle.event_graph.proofs.Rays.{separation-raised}
use Rattle.requirements.specs.Raising.{RaisesPast}
use Rattle.requirements.specs.Step.Raising.{not_negative, rise_past}

-- an event that was not looked at yet still has its time
pub time_yet : (set : List Bool) (by : ℕ) (times : List ℤ) (i : ℕ) (d : ℤ) → get_or (raised (take i set) by times) i d ≡ get_or times i d
time_yet set by times zero d = refl
time_yet [] by times (suc i) d = refl
time_yet (is_in ∷ flags) by [] (suc i) d = refl
time_yet (is_in ∷ flags) by (time ∷ times) (suc i) d = time_yet flags by times i d

-- the next event is raised if the set has it
pub raised_more : (flags : List Bool) (by : ℕ) (times : List ℤ) (i : ℕ) (flag : Bool) (d : ℤ) → i < length flags → i < length times → flag ≡ get_or flags i false
    → raised (take (i + 1) flags) by times ≡ cond flag (set (raised (take i flags) by times) i (get_or times i d +ℤ pos by)) (raised (take i flags) by times)
raised_more [] by times i flag d h k is = absurd (omega arith)
raised_more (is_in ∷ flags) by [] i flag d h k is = absurd (omega arith)
raised_more (is_in ∷ flags) by (time ∷ times) zero flag d h k is = first is_in flag is
  where
    first : (is_in flag : Bool) → flag ≡ is_in → ◌≡◌ {A = List ℤ} (cond is_in (time +ℤ pos by) time ∷ times) (cond flag ((time +ℤ pos by) ∷ times) (time ∷ times))
    first true flag e = rw e refl
    first false flag e = rw e refl
raised_more (is_in ∷ flags) by (time ∷ times) (suc i) flag d h k is =
    rw add-one (later flag (ap (λ ts. cond is_in (time +ℤ pos by) time ∷ ts) (rw (← add-one) (raised_more flags by times i flag d (omega arith) (omega arith) is))))
  where
    later : (flag : Bool) → ◌≡◌ {A = List ℤ} (cond is_in (time +ℤ pos by) time ∷ raised (take (suc i) flags) by times)
        (cond is_in (time +ℤ pos by) time ∷ cond flag (set (raised (take i flags) by times) i (get_or times i d +ℤ pos by)) (raised (take i flags) by times))
        → ◌≡◌ {A = List ℤ} (cond is_in (time +ℤ pos by) time ∷ raised (take (suc i) flags) by times)
        (cond flag (cond is_in (time +ℤ pos by) time ∷ set (raised (take i flags) by times) i (get_or times i d +ℤ pos by)) (cond is_in (time +ℤ pos by) time ∷ raised (take i flags) by times))
    later true e = e
    later false e = e

-- the least number by which a separation gets past the limit
not_negative_is : (z : ℤ) → (z ≤ℤ pos (not_negative z)) × ((n : ℕ) → n < not_negative z → pos n <ℤ z)
not_negative_is (pos n) = (omega (arith, ints), λ m h. omega (arith, ints))
not_negative_is (negsuc n) = (omega (arith, ints), λ m h. absurd (omega arith))

pub raises_past : (old : List ℤ) (flags : List Bool) (from to : EventId) (limit : ℤ) (new : List ℤ) → length old ≡ length flags → slice_get flags to.0 ≡ Some true
    → slice_get flags from.0 ≡ Some false → new ≡ raised flags (rise_past (separation old from to) limit) old → RaisesPast old flags from to limit new
raises_past old flags from to limit new count holds lacks is =
    let value = separation old from to in
    let by = rise_past value limit in
    let within : to.0 < length old = omega (arith, slice_get_within flags to.0 true holds) in
    let up : (n : ℕ) → separation (raised flags n old) from to ≡ value +ℤ pos n = λ n. separation-raised flags n old from to lacks holds within in
    let n = not_negative_is ((limit -ℤ value) +ℤ pos 1) in record {
      by = by;
      rose = is;
      past = rw (is, up by) (past_from value limit (pos by) n.0);
      least = λ less h. rw (up less) (least_from value limit (pos less) (n.1 less h));
    }
  where
    past_from : (value limit by : ℤ) → ((limit -ℤ value) +ℤ pos 1) ≤ℤ by → limit <ℤ (value +ℤ by)
    past_from value limit by h = omega (arith, ints)

    least_from : (value limit less : ℤ) → less <ℤ ((limit -ℤ value) +ℤ pos 1) → (value +ℤ less) ≤ℤ limit
    least_from value limit less h = omega (arith, ints)

-- an event that was not looked at yet has its old time
old_time : (flags : List Bool) (by : ℕ) (old now : List ℤ) (i : ℕ) → All IsTime old → now ≡ raised (take i flags) by old → i < length old
    → (get_or now i (pos 0) ≡ get_or old i (pos 0)) × IsTime (get_or old i (pos 0))
old_time flags by old now i times is within =
    (ap (λ ts. get_or ts i (pos 0)) is ∙ time_yet flags by old i (pos 0), All-get_or IsTime old i (pos 0) within times)

pub time_known : (flags : List Bool) (by : ℕ) (old now : List ℤ) (i : ℕ) → All IsTime old → now ≡ raised (take i flags) by old → i < length old
    → IsTime (to_z w64 (of_z w64 (get_or now i (pos 0))))
time_known flags by old now i times is within =
    let h = old_time flags by old now i times is within in
    rw (h.0, read_time (get_or old i (pos 0)) h.1) h.1

-- an event of the set is raised
pub step_in : (flags : List Bool) (by : ℕ) (old now next : List ℤ) (i : ℕ) (late : ℤ) → All IsTime old → now ≡ raised (take i flags) by old → i < length flags → i < length old
    → get_or flags i false ≡ true → late ≡ to_z w64 (of_z w64 (get_or now i (pos 0))) +ℤ pos by → FitsSigned w64 late → next ≡ set now i (to_z w64 (of_z w64 late))
    → next ≡ raised (take (i + 1) flags) by old
step_in flags by old now next i late times is within inside here sum fits put =
    let h = old_time flags by old now i times is inside in
    let value : late ≡ get_or old i (pos 0) +ℤ pos by = sum ∙ ap (λ z. z +ℤ pos by) (rw h.0 (read_time (get_or old i (pos 0)) h.1)) in
    put ∙ rw (to_z-of_z w64 late fits, value, is) (sym (raised_more flags by old i true (pos 0) within inside (sym here)))

-- an event that is not in the set stays
pub step_out : (flags : List Bool) (by : ℕ) (old now next : List ℤ) (i : ℕ) → now ≡ raised (take i flags) by old → i < length flags → i < length old
    → get_or flags i false ≡ false → next ≡ now → next ≡ raised (take (i + 1) flags) by old
step_out flags by old now next i is within inside here stays =
    stays ∙ is ∙ sym (raised_more flags by old i false (pos 0) within inside (sym here))

-- the time of an event of the network is a time
pub time_there : (times : List ℤ) (event : EventId) (time : ℤ) → All IsTime times → event.0 < length times → time ≡ time_of times event → IsTime time
time_there times event time known within is = subst IsTime (sym is) (known event.0 (pos 0) within)

-- a flag of a set is for an event of the network
pub flag_there : (times : List ℤ) (flags : List Bool) (event : EventId) (flag : Bool) → length times ≡ length flags → slice_get flags event.0 ≡ Some flag → event.0 < length times
flag_there times flags event flag count is = omega (arith, slice_get_within flags event.0 flag is)

-- a time that is read is a time
pub time_read : (z : ℤ) → IsTime z → IsTime (to_z w64 (of_z w64 z))
time_read z h = subst IsTime (sym (read_time z h)) h
