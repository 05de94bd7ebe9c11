-- Lanes with their numbers and spans.
use Rattle.std.proofs.Common.{◌≡◌, ℕ, zero, suc, ◌+◌, List, [], ◌∷◌, length, map, drop, get_or, Some, refl, ap, ◌∙◌, add-one, add-zero, zero-add, arith}
use Rattle.std.specs.Prelude.{slice_get}
use Rattle.std.proofs.lemmas.List.{length-map}
use Rattle.wavejson.specs.declared.lane_text.LaneText.{LaneText}
use Rattle.sheet.specs.declared.lanes.LaneSpan.{LaneSpan}
use Rattle.sheet.specs.Lanes.{numbered, numbered_from, lane_marks}
use Rattle.sheet.specs.Step.{span_of, spans_of, numbered_by}

length-numbered_from : (number first : ℕ) (lanes : List LaneText) → length (numbered_from number first lanes) ≡ length lanes
length-numbered_from number first [] = refl
length-numbered_from number first (lane ∷ lanes) = ap suc (length-numbered_from (number + 1) (first + length (lane_marks (number, lane))) lanes)

pub length-numbered : (lanes : List LaneText) → length (numbered lanes) ≡ length lanes
length-numbered lanes = length-numbered_from 0 0 lanes

-- there is a span for each lane
pub length-spans_of : (lanes : List LaneText) → length (spans_of lanes) ≡ length lanes
length-spans_of lanes = length-map (numbered lanes) span_of ∙ length-numbered lanes

shifted : (number k : ℕ) → number + 1 + k ≡ number + suc k
shifted number k = omega arith

at_from : (number first : ℕ) (lanes : List LaneText) (k : ℕ) (lane : LaneText) (d : LaneSpan) → slice_get lanes k ≡ Some lane
    → drop k (numbered_from number first lanes) ≡ numbered_by (number + k) lane (get_or (map span_of (numbered_from number first lanes)) k d) ∷ drop (suc k) (numbered_from number first lanes)
at_from number first [] k lane d read = cc
at_from number first (x ∷ xs) zero lane d read =
    let same : x ≡ lane = cc in
    rw (same, add-zero)
at_from number first (x ∷ xs) (suc k) lane d read =
    let rest = numbered_from (number + 1) (first + length (lane_marks (number, x))) xs in
    at_from (number + 1) (first + length (lane_marks (number, x))) xs k lane d read
    ∙ ap (λ n. numbered_by n lane (get_or (map span_of rest) k d) ∷ drop (suc k) rest) (shifted number k)

-- the lanes from number k on begin with lane k and its span
pub numbered-read : (lanes : List LaneText) (k : ℕ) (lane : LaneText) (spans : List LaneSpan) (d : LaneSpan) → slice_get lanes k ≡ Some lane → spans ≡ spans_of lanes
    → drop k (numbered lanes) ≡ numbered_by k lane (get_or spans k d) ∷ drop (k + 1) (numbered lanes)
numbered-read lanes k lane spans d read is = rw (is, add-one) (at_from 0 0 lanes k lane d read ∙ ap (λ n. numbered_by n lane (get_or (spans_of lanes) k d) ∷ drop (suc k) (numbered lanes)) (zero-add k))
