-- Where events stand, one after another.
use Rattle.std.proofs.Common.{◌≡◌, ◌+◌, ◌*◌, ◌<◌, ◌≤◌, ℕ, ℤ, pos, ◌+ℤ◌, ◌-ℤ◌, ◌≤ℤ◌, Bool, true, false, if◌then◌else◌, int_le, int_lt, List, [], ◌∷◌, ◌++◌, All, length, get_or, take, drop, set, ◌∙◌, refl, sym, ap, subst, append_assoc, append-nil, arith, length-set}
use Rattle.std.proofs.lemmas.Int.{ints}
use Rattle.std.proofs.lemmas.List.{drop_all, drop_more, take_more_set}
use Rattle.event_graph.specs.Times.{IsTime}
use Rattle.redraw.specs.declared.drawn_event.DrawnEvent.{DrawnEvent}
use Rattle.redraw.specs.declared.drawn_event.Timed.{Timed}
use Rattle.redraw.specs.declared.drawn_event.TheConstants.{MOST_DRAWN}
use Rattle.redraw.specs.Narrowing.{lesser, widest_gap}
use Rattle.redraw.specs.Drawing.{first_stand, next_stand, stands_after, stands_of}
use Rattle.redraw.specs.Step.{AreInOrder, Follow}

-- the first events stand, and the other events follow the last of them
pub record IsUp (timed : List Timed) (stands : List DrawnEvent) (k : ℕ) (last : Timed) (before : DrawnEvent) : Type 0 where
  pub room : length stands ≡ MOST_DRAWN
  pub least : 1 ≤ k
  pub most : k ≤ length timed
  pub stood : take k stands ++ stands_after last before (drop k timed) ≡ stands_of timed
  pub order : Follow last (drop k timed)
  pub time_of_last : IsTime last.time
  pub number : before.number + 1 ≡ k
  pub place : before.place ≤ k
  pub low : pos 0 ≤ℤ before.time
  pub high : before.time ≤ℤ pos (k * widest_gap)

pub up_first : (timed : List Timed) (stands : List DrawnEvent) (d : Timed) → 1 ≤ length timed → length stands ≡ MOST_DRAWN → AreInOrder timed
    → All (λ (x : Timed). IsTime x.time) timed → IsUp timed (set stands 0 (first_stand (get_or timed 0 d))) 1 (get_or timed 0 d) (first_stand (get_or timed 0 d))
up_first [] stands d some room order small = absurd (omega arith)
up_first (x ∷ xs) [] d some room order small = absurd (omega arith)
up_first (x ∷ xs) (s ∷ ss) d some room order small = record {
  room = room;
  least = omega arith;
  most = omega arith;
  stood = refl;
  order = order;
  time_of_last = small 0 d (omega arith);
  number = refl;
  place = omega arith;
  low = omega (arith, ints);
  high = omega (arith, ints);
}

pub kept_gap : (a b : ℤ) → a ≤ℤ b → (pos 0 ≤ℤ lesser (b -ℤ a) (pos widest_gap)) × (lesser (b -ℤ a) (pos widest_gap) ≤ℤ pos widest_gap)
kept_gap a b le = by_test widest_gap (int_le (b -ℤ a) (pos widest_gap)) refl where
  by_test : (width : ℕ) (t : Bool) → int_le (b -ℤ a) (pos width) ≡ t
      → (pos 0 ≤ℤ (if t then b -ℤ a else pos width)) × ((if t then b -ℤ a else pos width) ≤ℤ pos width)
  by_test width true e = (omega (arith, ints), omega (arith, ints))
  by_test width false e = (omega (arith, ints), omega (arith, ints))

pub order_at : (timed : List Timed) (k : ℕ) (last d : Timed) → k < length timed → Follow last (drop k timed)
    → (last.time ≤ℤ (get_or timed k d).time) × Follow (get_or timed k d) (drop (k + 1) timed)
order_at timed k last d within h = subst (λ l. Follow last l) (drop_more timed k d within) h

next_place : (a b : ℤ) (place k : ℕ) → place ≤ k → (if int_lt a b then place + 1 else place) ≤ k + 1
next_place a b place k h = by_test (int_lt a b) where
  by_test : (t : Bool) → (if t then place + 1 else place) ≤ k + 1
  by_test true = omega arith
  by_test false = omega arith

next_high : (time gap : ℤ) (k width : ℕ) → time ≤ℤ pos (k * width) → gap ≤ℤ pos width → (time +ℤ gap) ≤ℤ pos ((k + 1) * width)
next_high time gap k width h g =
    let more : (k + 1) * width ≡ k * width + width = grind arith in
    rw more (omega (arith, ints))

next_low : (time gap : ℤ) → pos 0 ≤ℤ time → pos 0 ≤ℤ gap → pos 0 ≤ℤ (time +ℤ gap)
next_low time gap h g = omega (arith, ints)

pub up_next : (timed : List Timed) (stands : List DrawnEvent) (k : ℕ) (last d : Timed) (before : DrawnEvent) → k < length timed → length timed ≤ MOST_DRAWN
    → All (λ (x : Timed). IsTime x.time) timed → IsUp timed stands k last before
    → IsUp timed (set stands k (next_stand last before (get_or timed k d))) (k + 1) (get_or timed k d) (next_stand last before (get_or timed k d))
up_next timed stands k last d before within few small up =
    let x : Timed = get_or timed k d in
    let s : DrawnEvent = next_stand last before (get_or timed k d) in
    let at = order_at timed k last d within up.order in
    let gap = kept_gap last.time (get_or timed k d).time at.0 in
    let in_stands : k < length stands = omega (arith, up.room) in
    record {
      room = length-set stands k s ∙ up.room;
      least = omega arith;
      most = omega arith;
      stood = ap (λ l. l ++ stands_after x s (drop (k + 1) timed)) (take_more_set stands k s in_stands)
          ∙ append_assoc (take k stands) (s ∷ []) (stands_after x s (drop (k + 1) timed))
          ∙ ap (λ l. take k stands ++ stands_after last before l) (sym (drop_more timed k d within))
          ∙ up.stood;
      order = at.1;
      time_of_last = small k d within;
      number = ap (λ n. n + 1) up.number;
      place = next_place last.time (get_or timed k d).time before.place k up.place;
      low = next_low before.time _ up.low gap.0;
      high = next_high before.time _ k widest_gap up.high gap.1;
    }

pub up_high : (time : ℤ) (k : ℕ) → k ≤ MOST_DRAWN → time ≤ℤ pos (k * widest_gap) → time ≤ℤ pos (MOST_DRAWN * widest_gap)
up_high time k few h = omega (arith, ints)

pub up_all : (timed : List Timed) (stands : List DrawnEvent) (k : ℕ) (last : Timed) (before : DrawnEvent) → length timed ≤ k → IsUp timed stands k last before
    → take (length timed) stands ≡ stands_of timed
up_all timed stands k last before all up =
    let same : k ≡ length timed = omega (arith, up.most) in
    sym (append-nil (take (length timed) stands)) ∙ ap (λ n. take n stands ++ []) (sym same)
    ∙ ap (λ l. take k stands ++ stands_after last before l) (sym (drop_all k timed all)) ∙ up.stood
