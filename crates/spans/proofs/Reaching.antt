-- Values that can be drawn.
use Rattle.std.proofs.Common.{◌≡◌, ◌⊎◌, inl, inr, ℤ, pos, ◌+ℤ◌, List, All, refl, sym, subst, ◌∙◌, arith}
use Rattle.std.proofs.lemmas.Int.{by_lt_z, ints}
use Rattle.event_graph.specs.Network.{IsNet}
use Rattle.drawn_networks.specs.Drawn.{Drawn}
use Rattle.drawn_networks.specs.declared.row.Row.{Row}
use Rattle.drawn_numbers.specs.declared.drawn_number.DrawnNumber.{DrawnNumber}
use Rattle.moves.specs.Step.{AreKindEnds, IsLesserMove, IsMoveBy, lent}
use Rattle.moves.proofs.Between.{drawable_less}
use Rattle.spans.specs.Step.{CanShift, IsDrawnGap, IsLastDrawn, IsOn, IsPast, IsWithinReach, IsSought, farthest, limit_of, on_of}
use Rattle.spans.specs.declared.direction.Direction.{Direction}
use Rattle.spans.specs.declared.direction.Direction.TheVariants.{Down, Up}
use Rattle.spans.specs.declared.reach.DrawnGap.{DrawnGap}
use Rattle.spans.specs.declared.sought.SpanSought.{SpanSought}
use Rattle.spans.proofs.Ways.{move_between, next_on, on_past, on_same, on_through}

-- ---- directions

lesser : (d : Direction) (value far : ℤ) → IsOn d (pos 0) value → IsOn d value far → IsLesserMove value far
lesser Down value far before within = inr (within, before)
lesser Up value far before within = inl (before, within)

pub none_move : IsMoveBy (pos 0)
none_move = (omega (arith, ints), omega (arith, ints))

pub farthest_move : (d : Direction) → IsMoveBy (farthest d)
farthest_move Down = (omega (arith, ints), omega (arith, ints))
farthest_move Up = (omega (arith, ints), omega (arith, ints))

farthest_past : (d : Direction) → IsPast d (pos 0) (farthest d)
farthest_past Down = omega (arith, ints)
farthest_past Up = omega (arith, ints)

none_between : (d : Direction) (value : ℤ) → IsPast d (pos 0) value → IsOn d value (pos 0) → ⊥
none_between Down value past on = omega (arith, ints, past, on)
none_between Up value past on = omega (arith, ints, past, on)

-- ---- gaps

module _ (drawn : Drawn) (numbers : List DrawnNumber) (d : Direction) where
  pub gap_start : (gap : DrawnGap) → gap.has.by ≡ pos 0 → gap.lacks.by ≡ farthest d → (CanShift drawn numbers (farthest d) → ⊥) → IsDrawnGap drawn numbers d gap
  gap_start gap has lacks none = record {
    before = subst (λ (v : ℤ). IsOn d (pos 0) v) (sym has) (on_same d (pos 0));
    apart = subst (λ (v : ℤ). IsPast d v gap.lacks.by) (sym has) (subst (λ (v : ℤ). IsPast d (pos 0) v) (sym lacks) (farthest_past d));
    within = subst (λ (v : ℤ). IsOn d v (farthest d)) (sym lacks) (on_same d (farthest d));
    can = inl has;
    cannot = subst (λ (v : ℤ). CanShift drawn numbers v → ⊥) (sym lacks) none;
  }

  pub gap_has : (gap next : DrawnGap) (at : ℤ) → IsDrawnGap drawn numbers d gap → IsPast d gap.has.by at → IsPast d at gap.lacks.by → next.has.by ≡ at → next.lacks.by ≡ gap.lacks.by
      → CanShift drawn numbers at → IsDrawnGap drawn numbers d next
  gap_has gap next at is above below has lacks can = record {
    before = subst (λ (v : ℤ). IsOn d (pos 0) v) (sym has) (on_through d (pos 0) gap.has.by at is.before (on_past d gap.has.by at above));
    apart = subst (λ (v : ℤ). IsPast d v next.lacks.by) (sym has) (subst (λ (v : ℤ). IsPast d at v) (sym lacks) below);
    within = subst (λ (v : ℤ). IsOn d v (farthest d)) (sym lacks) is.within;
    can = inr (subst (λ (v : ℤ). CanShift drawn numbers v) (sym has) can);
    cannot = subst (λ (v : ℤ). CanShift drawn numbers v → ⊥) (sym lacks) is.cannot;
  }

  pub gap_lacks : (gap next : DrawnGap) (at : ℤ) → IsDrawnGap drawn numbers d gap → IsPast d gap.has.by at → IsPast d at gap.lacks.by → next.has.by ≡ gap.has.by → next.lacks.by ≡ at
      → (CanShift drawn numbers at → ⊥) → IsDrawnGap drawn numbers d next
  gap_lacks gap next at is above below has lacks cannot = record {
    before = subst (λ (v : ℤ). IsOn d (pos 0) v) (sym has) is.before;
    apart = subst (λ (v : ℤ). IsPast d v next.lacks.by) (sym has) (subst (λ (v : ℤ). IsPast d gap.has.by v) (sym lacks) above);
    within = subst (λ (v : ℤ). IsOn d v (farthest d)) (sym lacks) (on_through d at gap.lacks.by (farthest d) (on_past d at gap.lacks.by below) is.within);
    can = by_can is.can;
    cannot = subst (λ (v : ℤ). CanShift drawn numbers v → ⊥) (sym lacks) cannot;
  }
    where
      by_can : (gap.has.by ≡ pos 0) ⊎ CanShift drawn numbers gap.has.by → (next.has.by ≡ pos 0) ⊎ CanShift drawn numbers next.has.by
      by_can (inl none) = inl (subst (λ (v : ℤ). v ≡ pos 0) (sym has) none)
      by_can (inr can) = inr (subst (λ (v : ℤ). CanShift drawn numbers v) (sym has) can)

  pub has_move : (gap : DrawnGap) → IsDrawnGap drawn numbers d gap → IsMoveBy gap.has.by
  has_move gap is =
      move_between d (pos 0) gap.has.by (farthest d) none_move (farthest_move d) is.before
      (on_through d gap.has.by gap.lacks.by (farthest d) (on_past d gap.has.by gap.lacks.by is.apart) is.within)

  pub lacks_move : (gap : DrawnGap) → IsDrawnGap drawn numbers d gap → IsMoveBy gap.lacks.by
  lacks_move gap is =
      move_between d (pos 0) gap.lacks.by (farthest d) none_move (farthest_move d)
      (on_through d (pos 0) gap.has.by gap.lacks.by is.before (on_past d gap.has.by gap.lacks.by is.apart)) is.within

  module _ (net : IsNet drawn.net) (rows : All (λ (r : Row). AreKindEnds r.kind) drawn.rows) where
    pub last_far : CanShift drawn numbers (farthest d) → (last : ℤ) → last ≡ farthest d → IsLastDrawn drawn numbers d last
    last_far can last same = subst (λ (v : ℤ). IsLastDrawn drawn numbers d v) (sym same) (record {
      on = on_past d (pos 0) (farthest d) (farthest_past d);
      by = farthest_move d;
      can = λ value past on. drawable_less drawn numbers value (farthest d) net rows (lesser d value (farthest d) (on_past d (pos 0) value past) on) can;
      beyond = inr refl;
    })

    pub last_near : (gap : DrawnGap) (next : ℤ) → IsDrawnGap drawn numbers d gap → next ≡ (gap.has.by +ℤ on_of d) → next ≡ gap.lacks.by → IsLastDrawn drawn numbers d gap.has.by
    last_near gap next is same at = record {
      on = is.before;
      by = has_move gap is;
      can = λ value past on. by_can value past on is.can;
      beyond = inl (λ value past can. is.cannot
          (drawable_less drawn numbers gap.lacks.by value net rows
          (lesser d gap.lacks.by value (on_through d (pos 0) gap.has.by gap.lacks.by is.before (on_past d gap.has.by gap.lacks.by is.apart))
          (subst (λ (v : ℤ). IsOn d v value) (sym same_lacks) (next_on d gap.has.by value past))) can));
    }
      where
        same_lacks : gap.lacks.by ≡ (gap.has.by +ℤ on_of d)
        same_lacks = sym at ∙ same

        by_can : (value : ℤ) → IsPast d (pos 0) value → IsOn d value gap.has.by → (gap.has.by ≡ pos 0) ⊎ CanShift drawn numbers gap.has.by → CanShift drawn numbers value
        by_can value past on (inl none) = absurd (none_between d value past (subst (λ (v : ℤ). IsOn d value v) none on))
        by_can value past on (inr can) = drawable_less drawn numbers value gap.has.by net rows (lesser d value gap.has.by (on_past d (pos 0) value past) on) can

-- ---- values within the reach

module _ (sought : SpanSought) (is : IsSought sought) where
  -- a value within the reach, which is not the drawn one, can be drawn
  pub can_reached : (value : ℤ) → IsWithinReach sought value → (value ≡ pos 0 → ⊥) → CanShift sought.drawn.now (lent sought.numbers.now) value
  can_reached value reached other =
      by_lt_z value (pos 0)
      (λ below. is.reach.least.can value below reached.0)
      (λ above. is.reach.most.can value (by_lt_z (pos 0) value (λ lt. lt) (λ le. absurd (other (omega (arith, ints, above, le))))) reached.1)

  pub reached_move : (value : ℤ) → IsWithinReach sought value → IsMoveBy value
  reached_move value reached =
      let low = is.reach.least.by.0 in
      let high = is.reach.most.by.1 in
      (omega (arith, ints, low, reached.0), omega (arith, ints, high, reached.1))

  pub own_reached : IsWithinReach sought (pos 0)
  own_reached = (is.reach.least.on, is.reach.most.on)

  pub limit_reached : (d : Direction) → IsWithinReach sought (limit_of d sought.reach).by
  limit_reached Down = (on_same Down sought.reach.least.by, omega (arith, ints, is.reach.least.on, is.reach.most.on))
  limit_reached Up = (omega (arith, ints, is.reach.least.on, is.reach.most.on), on_same Up sought.reach.most.by)

  pub limit_on : (d : Direction) (value : ℤ) → IsWithinReach sought value → IsOn d value (limit_of d sought.reach).by
  limit_on Down value reached = reached.0
  limit_on Up value reached = reached.1

  pub limit_last : (d : Direction) → IsLastDrawn sought.drawn.now (lent sought.numbers.now) d (limit_of d sought.reach).by
  limit_last Down = is.reach.least
  limit_last Up = is.reach.most

-- a value between two within the reach
pub reached_between : (sought : SpanSought) (d : Direction) (a v b : ℤ) → IsWithinReach sought a → IsWithinReach sought b → IsOn d a v → IsOn d v b → IsWithinReach sought v
reached_between sought Down a v b first last before behind = (omega (arith, ints, last.0, behind), omega (arith, ints, first.1, before))
reached_between sought Up a v b first last before behind = (omega (arith, ints, first.0, before), omega (arith, ints, last.1, behind))
