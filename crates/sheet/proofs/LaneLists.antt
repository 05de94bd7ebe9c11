-- The marks of lanes, one after another.
use Rattle.std.proofs.Common.{◌≡◌, ℕ, ◌+◌, ◌-◌, ◌<◌, ◌≤◌, true, false, cond, List, [], ◌∷◌, ◌++◌, length, map, drop, get_or, Some, None, Ok, Err, ap, ◌∙◌, arith, rules}
use Rattle.std.specs.Prelude.{nat_eq, position, filter_map, slice_get}
use Rattle.std.specs.List.{list_any, enumerate_from, flat_map, position_from, IsDistinct}
use Rattle.std.specs.Cmp.{nat_eq_equiv}
use Rattle.std.proofs.lemmas.List.{drop_more, drop_all, map_push, append_assoc, length-append, length-map}
use Rattle.std.proofs.lemmas.List.Elements.{All-push, All-map}
use Rattle.std.proofs.lemmas.Map.Keys.{IsDistinct-push}
use Rattle.wave_string.specs.declared.mark_kind.MarkKind.{MarkKind}
use Rattle.wavejson.specs.declared.lane_text.LaneText.{LaneText}
use Rattle.itv_base.specs.Characters.{is_mark}
use Rattle.sheet.specs.declared.mark.Mark.{Mark}
use Rattle.sheet.specs.declared.mark.TheConstants.{MAX_MARKS}
use Rattle.sheet.proofs.FewMarks.{few_marks}
use Rattle.sheet.specs.declared.lanes.LaneSpan.{LaneSpan}
use Rattle.itv_base.specs.Reading.{◌>>=◌, unless}
use Rattle.sheet.specs.Lanes.{mark_at, drawn_kind, lane_marks, marks_of, numbered_from, has_bad_node}
use Rattle.sheet.specs.Sheet.{read_marks}
use Rattle.sheet.specs.Step.{AreMarks, with_marks, span_of}
use Rattle.sheet.specs.declared.fault.SheetFault.{SheetFault}
use Rattle.sheet.specs.declared.fault.SheetFault.TheVariants.{BadNode, DoubleMark}
use Rattle.sheet.proofs.Distinct.{with_distinct-stood, with_distinct-nil, with_distinct-new, with_distinct-append, with_distinct-ok}
use Rattle.itv_base.proofs.Lists.{drop-read, list_any-map}

-- ---- the marks of a lane

-- the marks of what is left of a node
abbrev pub marks_left : ℕ → LaneText → ℕ → List ℕ → List Mark
marks_left number lane place node = filter_map (mark_at number lane) (enumerate_from place node)

pub marks_left-taken : (number : ℕ) (lane : LaneText) (place b : ℕ) (bs : List ℕ) → is_mark b ≡ true
    → marks_left number lane place (b ∷ bs) ≡ record { lane = number; place = place; name = b; kind = drawn_kind lane.wave place } ∷ marks_left number lane (place + 1) bs
marks_left-taken number lane place b bs taken = rw taken

-- ---- no mark twice

pub AreMarks-none : AreMarks []
unfolding IsDistinct
AreMarks-none = record { distinct = tt; named = search rules }

pub AreMarks-push : (marks : List Mark) (mark : Mark) → AreMarks marks → list_any (λ m. nat_eq mark.name m.name) marks ≡ false → is_mark mark.name ≡ true
    → AreMarks (marks ++ mark ∷ [])
AreMarks-push marks mark are new named = record {
  distinct = rw map_push (IsDistinct-push nat_eq_equiv _ _ are.distinct (list_any-map _ _ marks ∙ new));
  named = All-push (λ m. is_mark m.name ≡ true) marks mark are.named named;
}

pub length-le_from_AreMarks : (marks : List Mark) → AreMarks marks → length marks ≤ MAX_MARKS
length-le_from_AreMarks marks are =
    let names = map (λ (m : Mark). m.name) marks in
    let named = All-map (λ n. is_mark n ≡ true) (λ (m : Mark). m.name) marks are.named in
    rw length-map at (few_marks names are.distinct named)

-- ---- one character of a node

module _ (done : List Mark) (number : ℕ) (lane : LaneText) (node : List ℕ) (i : ℕ) (within : i < length node) (taken : is_mark (get_or node i 0) ≡ true) where
  pub node-stood : list_any (λ m. nat_eq (get_or node i 0) m.name) done ≡ true
      → with_marks done (marks_left number lane i (drop i node)) ≡ Err (DoubleMark (get_or node i 0))
  node-stood stood =
      rw (drop_more node i 0 within, marks_left-taken number lane i (get_or node i 0) (drop (i + 1) node) taken) (with_distinct-stood nat_eq (λ m. m.name) (λ m. DoubleMark m.name) done _ _ (list_any-map _ _ done ∙ stood))

  pub node-new : (kind : MarkKind) → kind ≡ drawn_kind lane.wave i → list_any (λ m. nat_eq (get_or node i 0) m.name) done ≡ false
      → with_marks done (marks_left number lane i (drop i node))
      ≡ with_marks (done ++ record { lane = number; place = i; name = get_or node i 0; kind = kind } ∷ []) (marks_left number lane (i + 1) (drop (i + 1) node))
  node-new kind is new =
      rw (is, drop_more node i 0 within, marks_left-taken number lane i (get_or node i 0) (drop (i + 1) node) taken) (with_distinct-new nat_eq (λ m. m.name) (λ m. DoubleMark m.name) done _ _ (list_any-map _ _ done ∙ new))

-- ---- one lane

module _ (done : List Mark) (lanes : List LaneText) (k : ℕ) (lane : LaneText) (read : slice_get lanes k ≡ Some lane) where
  -- the marks of the lanes from number k on are the marks of lane k and then the marks of the lanes after it
  pub lanes-step : with_marks done (flat_map lane_marks (enumerate_from k (drop k lanes)))
      ≡ (with_marks done (lane_marks (k, lane)) >>= (λ more. with_marks more (flat_map lane_marks (enumerate_from (k + 1) (drop (k + 1) lanes)))))
  lanes-step =
      rw (drop-read lanes k lane read) (with_distinct-append nat_eq (λ m. m.name) (λ m. DoubleMark m.name) done (lane_marks (k, lane)) (flat_map lane_marks (enumerate_from (k + 1) (drop (k + 1) lanes))))

  pub lanes-fault : (fault : SheetFault) → with_marks done (lane_marks (k, lane)) ≡ Err fault → with_marks done (flat_map lane_marks (enumerate_from k (drop k lanes))) ≡ Err fault
  lanes-fault fault is = lanes-step ∙ ap (λ r. r >>= (λ more. with_marks more (flat_map lane_marks (enumerate_from (k + 1) (drop (k + 1) lanes))))) is

  pub lanes-more : (more : List Mark) → with_marks done (lane_marks (k, lane)) ≡ Ok more
      → with_marks done (flat_map lane_marks (enumerate_from k (drop k lanes))) ≡ with_marks more (flat_map lane_marks (enumerate_from (k + 1) (drop (k + 1) lanes)))
  lanes-more all is = lanes-step ∙ ap (λ r. r >>= (λ more. with_marks more (flat_map lane_marks (enumerate_from (k + 1) (drop (k + 1) lanes))))) is

  pub spans-step : (more : List Mark) (spans : List LaneSpan) → more ≡ done ++ lane_marks (k, lane)
      → spans ++ map span_of (numbered_from k (length done) (drop k lanes))
      ≡ (spans ++ record { first = length done; count = length more - length done } ∷ []) ++ map span_of (numbered_from (k + 1) (length more) (drop (k + 1) lanes))
  spans-step more spans is =
      let long : length more ≡ length done + length (lane_marks (k, lane)) = ap length is ∙ length-append done (lane_marks (k, lane)) in
      let count : length more - length done ≡ length (lane_marks (k, lane)) = omega (arith, long) in
      rw (drop-read lanes k lane read, count, long, append_assoc)

pub lanes-end : (done : List Mark) (lanes : List LaneText) (k : ℕ) → length lanes ≤ k → with_marks done (flat_map lane_marks (enumerate_from k (drop k lanes))) ≡ Ok done
lanes-end done lanes k past = rw (drop_all k lanes past) (with_distinct-nil nat_eq (λ (m : Mark). m.name) (λ m. DoubleMark m.name) done)

pub marks-grew : (done more all : List Mark) → with_marks done more ≡ Ok all → all ≡ done ++ more
marks-grew done more all is = with_distinct-ok nat_eq (λ m. m.name) (λ m. DoubleMark m.name) done more all is

-- ---- where a node is bad

pub bad_node-step : (lanes : List LaneText) (k : ℕ) (lane : LaneText) → slice_get lanes k ≡ Some lane
    → position_from has_bad_node k (drop k lanes) ≡ cond (has_bad_node lane) (Some k) (position_from has_bad_node (k + 1) (drop (k + 1) lanes))
bad_node-step lanes k lane read = rw (drop-read lanes k lane read)

pub read_marks-bad : (lanes : List LaneText) (lane : ℕ) → position has_bad_node lanes ≡ Some lane → read_marks lanes ≡ Err (BadNode lane)
unfolding read_marks
read_marks-bad lanes lane is = ap (λ o. unless o BadNode lanes >>= (λ good. with_marks [] (marks_of good))) is

pub read_marks-good : (lanes : List LaneText) → position has_bad_node lanes ≡ None → read_marks lanes ≡ with_marks [] (marks_of lanes)
unfolding read_marks
read_marks-good lanes is = ap (λ o. unless o BadNode lanes >>= (λ good. with_marks [] (marks_of good))) is
