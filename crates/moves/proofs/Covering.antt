-- If no requirement of a cover breaks, or its rules contradict each other, so it is with the value that it covers; and what covers two values covers each value
-- between them.
use Rattle.std.proofs.Common.{◌≡◌, ℕ, zero, suc, ℤ, pos, neg_ℤ, ◌+ℤ◌, ◌-ℤ◌, ◌≤ℤ◌, Bool, true, false, List, [], ◌∷◌, length, map, get_or, Option, Some, None, IfSome, option_map, refl, sym, subst, ◌∙◌, arith}
use Rattle.std.specs.Prelude.{◌<◌, if◌then◌else◌}
use lib.IntN.{◌*ℤ◌}
use Rattle.std.specs.List.{AllZip}
use Rattle.std.proofs.lemmas.Int.{ints}
use Rattle.itv_base.specs.Range.{Ends}
use Rattle.itv_base.specs.declared.names.EventId.{EventId}
use Rattle.itv_base.specs.declared.row_kind.RowKind.{RowKind}
use Rattle.itv_base.specs.declared.row_kind.RowKind.TheVariants as kinds
use Rattle.origin.specs.declared.origin.Origin.{Origin}
use Rattle.event_graph.proofs.Widening.{wider_keeps_satisfying}
use Rattle.event_graph.specs.declared.cause.Cause.{Cause}
use Rattle.event_graph.specs.Network.{Constraint}
use Rattle.event_graph.specs.Satisfying.{Satisfies}
use Rattle.event_graph.specs.Times.{separation}
use Rattle.event_graph.specs.Widening.{IsHigherEnd, IsLowerEnd, IsWiderCause, IsWiderConstraint}
use Rattle.drawn_networks.specs.Drawn.{Drawn, name_of}
use Rattle.drawn_networks.specs.declared.row.Row.{Row}
use Rattle.drawn_numbers.specs.declared.drawn_number.DrawnNumber.{DrawnNumber}
use Rattle.moves.specs.Covers.{Covers, IsTighterRow, cause_counted, constraint_counted, times_counted, lag, net_counted, row_counted}
use Rattle.moves.specs.Laws.{CoverContradicts, CoverHolds, CoversBetween}
use Rattle.moves.specs.Moving.{constraint_moved, any_draws, kind_moved, row_moved, moved_up, shifted_at}
use Rattle.moves.specs.Passing.{MeetsKind}
use Rattle.moves.specs.Step.{MeetsRow, cause_moved}
use Rattle.moves.proofs.Counting.{satisfies_counted, separation_counted}
use Rattle.moves.proofs.Lists.{each_between, map_between}
use Rattle.moves.proofs.Products.{above_between, below_between, less_times, one_times, zero_times}

-- ---- a cover holds

wants_low : (end : Option ℤ) (x y c : ℤ) → x ≡ (y -ℤ c) → IfSome (option_map (λ low. low +ℤ neg_ℤ c) end) (λ low. low ≤ℤ x) → IfSome end (λ low. low ≤ℤ y)
wants_low None x y c e h = tt
wants_low (Some low) x y c e h = omega (arith, ints, e, h)

wants_high : (end : Option ℤ) (x y c : ℤ) → x ≡ (y -ℤ c) → IfSome (option_map (λ high. high +ℤ neg_ℤ c) end) (λ high. x ≤ℤ high) → IfSome end (λ high. y ≤ℤ high)
wants_high None x y c e h = tt
wants_high (Some high) x y c e h = omega (arith, ints, e, h)

-- what is wanted of a counted separation is wanted of the separation itself
wanted_back : (kind : RowKind) (x y c : ℤ) → x ≡ (y -ℤ c) → MeetsKind (kind_moved (moved_up (neg_ℤ c)) kind) x → MeetsKind kind y
wanted_back kinds.Ask x y c e h = tt
wanted_back (kinds.Req range) x y c e h = (wants_low range.low x y c e h.0, wants_high range.high x y c e h.1)

meets_back : (counts : List ℤ) (value : ℤ) (times : List ℤ) (row tight : Row) → length counts ≡ length times → IsTighterRow (row_counted counts value row) tight
    → MeetsRow (times_counted counts value times) tight → MeetsRow times row
meets_back counts value times row tight same tighter h =
    let others : List ℤ = times_counted counts value times in
    let at : MeetsKind tight.kind (separation others row.from row.to) =
    subst (λ (to : EventId). MeetsKind tight.kind (separation others row.from to)) (sym tighter.to)
    (subst (λ (from : EventId). MeetsKind tight.kind (separation others from tight.to)) (sym tighter.from) h) in
    wanted_back row.kind (separation others row.from row.to) (separation times row.from row.to) (lag counts value row.from row.to)
    (separation_counted counts value times row.from row.to same) (tighter.wants (separation others row.from row.to) at)

-- if R relates each element, as f makes it, to one of another list, and R carries P back to Q, then Q holds of all of the first ones
all_back : {X Y : Type 0} (f : X → X) (R : X → Y → Type 0) (P : Y → Type 0) (Q : X → Type 0) (xs : List X) (ys : List Y) → AllZip R (map f xs) ys
    → ((x : X) (y : Y) → R (f x) y → P y → Q x) → ((k : ℕ) (d : Y) → k < length ys → P (get_or ys k d)) → (k : ℕ) (d : X) → k < length xs → Q (get_or xs k d)
all_back f R P Q [] ys pairs carries all k d within = absurd (omega (arith, within))
all_back f R P Q (x ∷ xs) [] pairs carries all k d within = absurd pairs
all_back f R P Q (x ∷ xs) (y ∷ ys) pairs carries all zero d within = carries x y pairs.0 (all 0 y (omega arith))
all_back f R P Q (x ∷ xs) (y ∷ ys) pairs carries all (suc k) d within =
    all_back f R P Q xs ys pairs.1 carries (λ j e in'. all (suc j) e (omega (arith, in'))) k d (omega (arith, within))

-- times that satisfy with the value, counted, satisfy the cover
cover_satisfied : (counts : List ℤ) (drawn : Drawn) (numbers : List DrawnNumber) (cover : Drawn) (value : ℤ) (times : List ℤ) → Covers counts drawn numbers cover value
    → Satisfies times (shifted_at drawn numbers value).net → Satisfies (times_counted counts value times) cover.net
cover_satisfied counts drawn numbers cover value times covers sat =
    wider_keeps_satisfying (net_counted counts value (shifted_at drawn numbers value).net) cover.net (times_counted counts value times) covers.wider
    (satisfies_counted counts value (shifted_at drawn numbers value).net times covers.count sat)

pub cover_contradicts : CoverContradicts
cover_contradicts counts drawn numbers cover value covers none times sat =
    none (times_counted counts value times) (cover_satisfied counts drawn numbers cover value times covers sat)

pub cover_holds : CoverHolds
cover_holds counts drawn numbers cover value covers none = λ times sat.
    let same : length counts ≡ length times = covers.count ∙ sym sat.count in
    let counted_sat : Satisfies (times_counted counts value times) cover.net = cover_satisfied counts drawn numbers cover value times covers sat in
    all_back (row_counted counts value) IsTighterRow (MeetsRow (times_counted counts value times)) (MeetsRow times) (shifted_at drawn numbers value).rows cover.rows covers.tighter
    (λ row tight tighter h. meets_back counts value times row tight same tighter h) (none (times_counted counts value times) counted_sat)

-- ---- between two values

free_by : (z w s : ℤ) → z ≡ pos 0 → w ≡ (z -ℤ s) → w ≡ neg_ℤ s
free_by z w s e f = omega (arith, ints, e, f)

-- how much an end goes up that no number draws
pub free_offset : (s v : ℤ) → ((pos 0 -ℤ s) *ℤ v) ≡ neg_ℤ (s *ℤ v)
free_offset s v = free_by (pos 0 *ℤ v) _ (s *ℤ v) (zero_times v) (less_times (pos 0) s v)

own_by : (z w s v : ℤ) → z ≡ v → w ≡ (z -ℤ s) → w ≡ (v -ℤ s)
own_by z w s v e f = omega (arith, ints, e, f)

-- and one that a number draws
pub own_offset : (s v : ℤ) → ((pos 1 -ℤ s) *ℤ v) ≡ (v -ℤ (s *ℤ v))
own_offset s v = own_by (pos 1 *ℤ v) _ (s *ℤ v) v (one_times v) (less_times (pos 1) s v)

above_free : (w l x s : ℤ) → x ≡ neg_ℤ s → w ≤ℤ (l +ℤ neg_ℤ s) → (w -ℤ l) ≤ℤ x
above_free w l x s e h = omega (arith, ints, e, h)

above_free_back : (w l x s : ℤ) → x ≡ neg_ℤ s → (w -ℤ l) ≤ℤ x → w ≤ℤ (l +ℤ neg_ℤ s)
above_free_back w l x s e h = omega (arith, ints, e, h)

above_own : (w l x s v : ℤ) → x ≡ (v -ℤ s) → w ≤ℤ ((l +ℤ v) +ℤ neg_ℤ s) → (w -ℤ l) ≤ℤ x
above_own w l x s v e h = omega (arith, ints, e, h)

above_own_back : (w l x s v : ℤ) → x ≡ (v -ℤ s) → (w -ℤ l) ≤ℤ x → w ≤ℤ ((l +ℤ v) +ℤ neg_ℤ s)
above_own_back w l x s v e h = omega (arith, ints, e, h)

below_free : (w h x s : ℤ) → x ≡ neg_ℤ s → (h +ℤ neg_ℤ s) ≤ℤ w → x ≤ℤ (w -ℤ h)
below_free w h x s e le = omega (arith, ints, e, le)

below_free_back : (w h x s : ℤ) → x ≡ neg_ℤ s → x ≤ℤ (w -ℤ h) → (h +ℤ neg_ℤ s) ≤ℤ w
below_free_back w h x s e le = omega (arith, ints, e, le)

below_own : (w h x s v : ℤ) → x ≡ (v -ℤ s) → ((h +ℤ v) +ℤ neg_ℤ s) ≤ℤ w → x ≤ℤ (w -ℤ h)
below_own w h x s v e le = omega (arith, ints, e, le)

below_own_back : (w h x s v : ℤ) → x ≡ (v -ℤ s) → x ≤ℤ (w -ℤ h) → ((h +ℤ v) +ℤ neg_ℤ s) ≤ℤ w
below_own_back w h x s v e le = omega (arith, ints, e, le)

-- the range of a cause at a value, in counted times
abbrev range_at : Bool → ℤ → ℤ → Ends → Ends
range_at is_drawn s v range = moved_up (neg_ℤ (s *ℤ v)) (if is_drawn then moved_up v range else range)

module _ (least most value : ℤ) (low : least ≤ℤ value) (high : value ≤ℤ most) where
  -- a number below an end at both values is below it at the value between
  under : (is_drawn : Bool) (s w l : ℤ) → w ≤ℤ (if is_drawn then (l +ℤ least) +ℤ neg_ℤ (s *ℤ least) else l +ℤ neg_ℤ (s *ℤ least))
      → w ≤ℤ (if is_drawn then (l +ℤ most) +ℤ neg_ℤ (s *ℤ most) else l +ℤ neg_ℤ (s *ℤ most))
      → w ≤ℤ (if is_drawn then (l +ℤ value) +ℤ neg_ℤ (s *ℤ value) else l +ℤ neg_ℤ (s *ℤ value))
  under true s w l first last =
      above_own_back w l _ (s *ℤ value) value (own_offset s value)
      (above_between (pos 1 -ℤ s) least most value (w -ℤ l) low high
      (above_own w l _ (s *ℤ least) least (own_offset s least) first) (above_own w l _ (s *ℤ most) most (own_offset s most) last))
  under false s w l first last =
      above_free_back w l _ (s *ℤ value) (free_offset s value)
      (above_between (pos 0 -ℤ s) least most value (w -ℤ l) low high
      (above_free w l _ (s *ℤ least) (free_offset s least) first) (above_free w l _ (s *ℤ most) (free_offset s most) last))

  over : (is_drawn : Bool) (s w h : ℤ) → (if is_drawn then (h +ℤ least) +ℤ neg_ℤ (s *ℤ least) else h +ℤ neg_ℤ (s *ℤ least)) ≤ℤ w
      → (if is_drawn then (h +ℤ most) +ℤ neg_ℤ (s *ℤ most) else h +ℤ neg_ℤ (s *ℤ most)) ≤ℤ w
      → (if is_drawn then (h +ℤ value) +ℤ neg_ℤ (s *ℤ value) else h +ℤ neg_ℤ (s *ℤ value)) ≤ℤ w
  over true s w h first last =
      below_own_back w h _ (s *ℤ value) value (own_offset s value)
      (below_between (pos 1 -ℤ s) least most value (w -ℤ h) low high
      (below_own w h _ (s *ℤ least) least (own_offset s least) first) (below_own w h _ (s *ℤ most) most (own_offset s most) last))
  over false s w h first last =
      below_free_back w h _ (s *ℤ value) (free_offset s value)
      (below_between (pos 0 -ℤ s) least most value (w -ℤ h) low high
      (below_free w h _ (s *ℤ least) (free_offset s least) first) (below_free w h _ (s *ℤ most) (free_offset s most) last))

  lower_between : (is_drawn : Bool) (s : ℤ) (range : Ends) (end : Option ℤ) → range.low ≡ end → (wide : Option ℤ)
      → IsLowerEnd (range_at is_drawn s least (record range { low = end })).low wide → IsLowerEnd (range_at is_drawn s most (record range { low = end })).low wide
      → IsLowerEnd (range_at is_drawn s value (record range { low = end })).low wide
  lower_between is_drawn s range end is None first last = tt
  lower_between true s range None is (Some w) first last = absurd first
  lower_between false s range None is (Some w) first last = absurd first
  lower_between true s range (Some l) is (Some w) first last = under true s w l first last
  lower_between false s range (Some l) is (Some w) first last = under false s w l first last

  higher_between : (is_drawn : Bool) (s : ℤ) (range : Ends) (end : Option ℤ) → range.high ≡ end → (wide : Option ℤ)
      → IsHigherEnd (range_at is_drawn s least (record range { high = end })).high wide → IsHigherEnd (range_at is_drawn s most (record range { high = end })).high wide
      → IsHigherEnd (range_at is_drawn s value (record range { high = end })).high wide
  higher_between is_drawn s range end is None first last = tt
  higher_between true s range None is (Some w) first last = absurd first
  higher_between false s range None is (Some w) first last = absurd first
  higher_between true s range (Some h) is (Some w) first last = over true s w h first last
  higher_between false s range (Some h) is (Some w) first last = over false s w h first last

  -- ---- causes

  module _ (counts : List ℤ) where
    abbrev cause_at_value : EventId → Bool → ℤ → Cause → Cause
    cause_at_value target is_drawn v c = cause_counted counts v target (if is_drawn then record c { range = moved_up v c.range } else c)

    cause_between : (target : EventId) (is_drawn : Bool) (c wide : Cause) → IsWiderCause (cause_at_value target is_drawn least c) wide
        → IsWiderCause (cause_at_value target is_drawn most c) wide → IsWiderCause (cause_at_value target is_drawn value c) wide
    cause_between target true c wide first last = record {
      event = first.event;
      low = lower_between true (separation counts c.event target) c.range c.range.low refl wide.range.low first.low last.low;
      high = higher_between true (separation counts c.event target) c.range c.range.high refl wide.range.high first.high last.high;
    }
    cause_between target false c wide first last = record {
      event = first.event;
      low = lower_between false (separation counts c.event target) c.range c.range.low refl wide.range.low first.low last.low;
      high = higher_between false (separation counts c.event target) c.range c.range.high refl wide.range.high first.high last.high;
    }

    -- ---- constraints

    plain_between : (k wide : Constraint) → IsWiderConstraint (constraint_counted counts least k) wide → IsWiderConstraint (constraint_counted counts most k) wide
        → IsWiderConstraint (constraint_counted counts value k) wide
    plain_between k wide first last = record {
      kind = first.kind;
      target = first.target;
      causes = map_between IsWiderCause (cause_counted counts least k.target) (cause_counted counts most k.target) (cause_counted counts value k.target)
          (cause_between k.target false) k.causes wide.causes first.causes last.causes;
    }

    module _ (drawn : Drawn) (numbers : List DrawnNumber) where
      abbrev constraint_at_value : ℤ → Constraint → List Origin → Constraint
      constraint_at_value v k origins = constraint_counted counts v (constraint_moved (moved_up v) drawn numbers k origins)

      constraint_between : (k : Constraint) (origins : List Origin) (wide : Constraint) → IsWiderConstraint (constraint_at_value least k origins) wide
          → IsWiderConstraint (constraint_at_value most k origins) wide → IsWiderConstraint (constraint_at_value value k origins) wide
      constraint_between k origins wide first last =
          let test : Origin → Bool = any_draws numbers (name_of drawn k.target).part in
          record {
            kind = first.kind;
            target = first.target;
            causes = each_between IsWiderCause (cause_counted counts least k.target) (cause_counted counts most k.target) (cause_counted counts value k.target)
                (cause_moved (moved_up least) test) (cause_moved (moved_up most) test) (cause_moved (moved_up value) test)
                (cause_between k.target false) (λ c o. cause_between k.target (test o) c) k.causes origins wide.causes first.causes last.causes;
          }

      -- ---- rows

      abbrev row_at_value : Bool → ℤ → Row → Row
      row_at_value is_drawn v row = row_counted counts v (if is_drawn then record row { kind = kind_moved (moved_up v) row.kind } else row)

      low_wanted : (is_drawn : Bool) (s x : ℤ) (range : Ends) (end : Option ℤ) → range.low ≡ end
          → IfSome (range_at is_drawn s least (record range { low = end })).low (λ l. l ≤ℤ x) → IfSome (range_at is_drawn s most (record range { low = end })).low (λ l. l ≤ℤ x)
          → IfSome (range_at is_drawn s value (record range { low = end })).low (λ l. l ≤ℤ x)
      low_wanted true s x range None is first last = tt
      low_wanted false s x range None is first last = tt
      low_wanted true s x range (Some l) is first last = over true s x l first last
      low_wanted false s x range (Some l) is first last = over false s x l first last

      high_wanted : (is_drawn : Bool) (s x : ℤ) (range : Ends) (end : Option ℤ) → range.high ≡ end
          → IfSome (range_at is_drawn s least (record range { high = end })).high (λ h. x ≤ℤ h) → IfSome (range_at is_drawn s most (record range { high = end })).high (λ h. x ≤ℤ h)
          → IfSome (range_at is_drawn s value (record range { high = end })).high (λ h. x ≤ℤ h)
      high_wanted true s x range None is first last = tt
      high_wanted false s x range None is first last = tt
      high_wanted true s x range (Some h) is first last = under true s x h first last
      high_wanted false s x range (Some h) is first last = under false s x h first last

      wanted_between : (is_drawn : Bool) (row : Row) (kind : RowKind) (x : ℤ) → MeetsKind (row_at_value is_drawn least (record row { kind = kind })).kind x
          → MeetsKind (row_at_value is_drawn most (record row { kind = kind })).kind x → MeetsKind (row_at_value is_drawn value (record row { kind = kind })).kind x
      wanted_between true row kinds.Ask x first last = tt
      wanted_between false row kinds.Ask x first last = tt
      wanted_between true row (kinds.Req range) x first last = (
        low_wanted true (separation counts row.from row.to) x range range.low refl first.0 last.0,
        high_wanted true (separation counts row.from row.to) x range range.high refl first.1 last.1,
      )
      wanted_between false row (kinds.Req range) x first last = (
        low_wanted false (separation counts row.from row.to) x range range.low refl first.0 last.0,
        high_wanted false (separation counts row.from row.to) x range range.high refl first.1 last.1,
      )

      row_between : (is_drawn : Bool) (row tight : Row) → IsTighterRow (row_at_value is_drawn least row) tight → IsTighterRow (row_at_value is_drawn most row) tight
          → IsTighterRow (row_at_value is_drawn value row) tight
      row_between true row tight first last = record { from = first.from; to = first.to; wants = λ x h. wanted_between true row row.kind x (first.wants x h) (last.wants x h) }
      row_between false row tight first last = record { from = first.from; to = first.to; wants = λ x h. wanted_between false row row.kind x (first.wants x h) (last.wants x h) }

      rows_between : (rows tight : List Row) → AllZip IsTighterRow (map (row_counted counts least) (map (row_moved (moved_up least) drawn numbers) rows)) tight
          → AllZip IsTighterRow (map (row_counted counts most) (map (row_moved (moved_up most) drawn numbers) rows)) tight
          → AllZip IsTighterRow (map (row_counted counts value) (map (row_moved (moved_up value) drawn numbers) rows)) tight
      rows_between [] [] first last = tt
      rows_between [] (t ∷ tight) first last = absurd first
      rows_between (r ∷ rows) [] first last = absurd first
      rows_between (r ∷ rows) (t ∷ tight) first last =
          (row_between (any_draws numbers (name_of drawn r.from).part r.origin) r t first.0 last.0, rows_between rows tight first.1 last.1)

pub covers_between : CoversBetween
covers_between counts drawn numbers cover least most value first last low high = record {
  count = first.count;
  wider = record {
    events = first.wider.events;
    constraints = each_between IsWiderConstraint (constraint_counted counts least) (constraint_counted counts most) (constraint_counted counts value)
        (constraint_moved (moved_up least) drawn numbers) (constraint_moved (moved_up most) drawn numbers) (constraint_moved (moved_up value) drawn numbers)
        (plain_between least most value low high counts) (constraint_between least most value low high counts drawn numbers)
        drawn.net.constraints drawn.origins cover.net.constraints first.wider.constraints last.wider.constraints;
  };
  tighter = rows_between least most value low high counts drawn numbers drawn.rows cover.rows first.tighter last.tighter;
}
