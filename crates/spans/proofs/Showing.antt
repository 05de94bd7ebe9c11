-- Values that were shown, one after another.
use Rattle.std.proofs.Common.{◌≡◌, ◌<◌, ◌+◌, ℕ, ℤ, ◌+ℤ◌, Some, sym, subst}
use Rattle.event_graph.specs.Bounds.{IsInconsistent}
use Rattle.moves.specs.Passing.{NoneBreaks}
use Rattle.moves.specs.Step.{IsConsistent}
use Rattle.spans.specs.Step.{IsAdvance, IsFurther, IsGapIn, IsNarrowerGap, IsOn, IsPast, IsWithinReach, IsShown, IsShownTo, IsStretched, MeetsAim, at_value, on_of, steps_between}
use Rattle.spans.specs.declared.advance.Advance.TheVariants as advances
use Rattle.spans.specs.declared.advance.ShownStretch.{ShownStretch}
use Rattle.spans.specs.declared.advance.Stretched.TheVariants as stretches
use Rattle.spans.specs.declared.bordering.ValueGap.{ValueGap}
use Rattle.spans.specs.declared.direction.Direction.{Direction}
use Rattle.spans.specs.declared.sought.SpanAim.{SpanAim}
use Rattle.spans.specs.declared.sought.SpanAim.TheVariants as aims
use Rattle.spans.specs.declared.sought.SpanSought.{SpanSought}
use Rattle.spans.proofs.Reaching.{reached_between}
use Rattle.spans.proofs.Ways.{further_more, further_start, nearer_end, nearer_start, next_on, none_past, on_past, on_same, on_through, past_by_next, past_from, way_from, way_next, way_past}

module _ (sought : SpanSought) (aim : SpanAim) (d : Direction) where
  -- ---- a stretch

  -- the values up to one are shown, and it is so many values past the first one
  pub record IsStretchTo (from goal done : ℤ) (turn : ℕ) : Type 0 where
    pub shown : IsShownTo sought aim d from done
    pub within : IsOn d done goal
    pub further : IsFurther d from turn done

  pub stretch_start : (from goal : ℤ) → IsWithinReach sought from → IsOn d from goal → IsStretchTo from goal from 0
  stretch_start from goal reached ahead = record {
    shown = record { before = on_same d from; reached = reached; each = λ v beyond on. none_past (λ u. MeetsAim aim (at_value sought u)) d from v beyond on };
    within = ahead;
    further = further_start d from;
  }

  pub stretch_next : (from goal done : ℤ) (turn : ℕ) (next : ShownStretch) → IsWithinReach sought goal → IsStretchTo from goal done turn → IsStretched sought aim d done goal (stretches.On next)
      → IsStretchTo from goal next.done.by (turn + 1)
  stretch_next from goal done turn next last is on = record {
    shown = record {
      before = on_through d from done next.done.by is.shown.before (on_past d done next.done.by on.0);
      reached = reached_between sought d done next.done.by goal is.shown.reached last (on_past d done next.done.by on.0) on.1;
      each = way_past (λ v. MeetsAim aim (at_value sought v)) d from done next.done.by is.shown.each on.2;
    };
    within = on.1;
    further = further_more d from done next.done.by turn is.further on.0;
  }

  -- the goal was reached
  pub stretch_whole : (from goal done : ℤ) (turn : ℕ) → done ≡ goal → IsStretchTo from goal done turn → IsAdvance sought aim d from goal advances.Reached
  stretch_whole from goal done turn same is = subst (λ (v : ℤ). IsShownTo sought aim d from v) same is.shown

  -- ---- the next value

  pub stretched_next : (done goal next : ℤ) → next ≡ (done +ℤ on_of d) → IsPast d done goal → MeetsAim aim (at_value sought next)
      → IsPast d done next × IsOn d next goal × ((v : ℤ) → IsPast d done v → IsOn d v next → MeetsAim aim (at_value sought v))
  stretched_next done goal next same past here =
      let P : ℤ → Type 0 = λ v. MeetsAim aim (at_value sought v) in (
        past_by_next d done next same,
        subst (λ (b : ℤ). IsOn d b goal) (sym same) (next_on d done goal past),
        λ v beyond on. way_next P d done next same here v beyond on,
      )

-- ---- the way to a border

-- no requirement breaks from the first value to the last one
pub shown_from : (sought : SpanSought) (d : Direction) (from last : ℤ) → NoneBreaks (at_value sought from) → IsShownTo sought aims.Passing d from last → IsShown sought d from (Some last)
shown_from sought d from last own is = way_from (λ v. NoneBreaks (at_value sought v)) d from last own is.each

-- ---- halves

module _ (sought : SpanSought) (d : Direction) where
  pub gap_start : (from at : ℤ) (gap : ValueGap) → gap.has.by ≡ from → gap.lacks.by ≡ at → IsOn d from at → IsConsistent (at_value sought from)
      → IsInconsistent (at_value sought at).net → IsGapIn sought d from at gap
  gap_start from at gap has lacks on some none = record {
    before = subst (λ (v : ℤ). IsOn d from v) (sym has) (on_same d from);
    between = subst (λ (v : ℤ). IsOn d v gap.lacks.by) (sym has) (subst (λ (v : ℤ). IsOn d from v) (sym lacks) on);
    within = subst (λ (v : ℤ). IsOn d v at) (sym lacks) (on_same d at);
    some = subst (λ (v : ℤ). IsConsistent (at_value sought v)) (sym has) some;
    none = subst (λ (v : ℤ). IsInconsistent (at_value sought v).net) (sym lacks) none;
  }

  pub gap_next : (from at : ℤ) (gap half : ValueGap) → IsGapIn sought d from at gap → IsGapIn sought d gap.has.by gap.lacks.by half → IsGapIn sought d from at half
  gap_next from at gap half is more = record {
    before = on_through d from gap.has.by half.has.by is.before more.before;
    between = more.between;
    within = on_through d half.lacks.by gap.lacks.by at more.within is.within;
    some = more.some;
    none = more.none;
  }

  -- the two values are not one
  pub gap_apart : (from at : ℤ) (gap : ValueGap) → IsGapIn sought d from at gap → IsPast d gap.has.by gap.lacks.by
  gap_apart from at gap is =
      past_from d gap.has.by gap.lacks.by is.between
      (λ same. let none : IsInconsistent (at_value sought gap.has.by).net = subst (λ (v : ℤ). IsInconsistent (at_value sought v).net) same is.none in none is.some.0 is.some.1)

  -- the value in the middle becomes the one or the other
  pub gap_more : (gap half : ValueGap) (middle : ℤ) → IsGapIn sought d gap.has.by gap.lacks.by gap → IsPast d gap.has.by middle → IsPast d middle gap.lacks.by
      → half.has.by ≡ middle → half.lacks.by ≡ gap.lacks.by → IsConsistent (at_value sought middle) → IsGapIn sought d gap.has.by gap.lacks.by half
  gap_more gap half middle is above below has lacks some = record {
    before = subst (λ (v : ℤ). IsOn d gap.has.by v) (sym has) (on_past d gap.has.by middle above);
    between = subst (λ (v : ℤ). IsOn d v half.lacks.by) (sym has) (subst (λ (v : ℤ). IsOn d middle v) (sym lacks) (on_past d middle gap.lacks.by below));
    within = subst (λ (v : ℤ). IsOn d v gap.lacks.by) (sym lacks) (on_same d gap.lacks.by);
    some = subst (λ (v : ℤ). IsConsistent (at_value sought v)) (sym has) some;
    none = subst (λ (v : ℤ). IsInconsistent (at_value sought v).net) (sym lacks) is.none;
  }

  pub gap_less : (gap half : ValueGap) (middle : ℤ) → IsGapIn sought d gap.has.by gap.lacks.by gap → IsPast d gap.has.by middle → IsPast d middle gap.lacks.by
      → half.has.by ≡ gap.has.by → half.lacks.by ≡ middle → IsInconsistent (at_value sought middle).net → IsGapIn sought d gap.has.by gap.lacks.by half
  gap_less gap half middle is above below has lacks none = record {
    before = subst (λ (v : ℤ). IsOn d gap.has.by v) (sym has) (on_same d gap.has.by);
    between = subst (λ (v : ℤ). IsOn d v half.lacks.by) (sym has) (subst (λ (v : ℤ). IsOn d gap.has.by v) (sym lacks) (on_past d gap.has.by middle above));
    within = subst (λ (v : ℤ). IsOn d v gap.lacks.by) (sym lacks) (on_past d middle gap.lacks.by below);
    some = subst (λ (v : ℤ). IsConsistent (at_value sought v)) (sym has) is.some;
    none = subst (λ (v : ℤ). IsInconsistent (at_value sought v).net) (sym lacks) none;
  }

  pub narrower_more : (gap half : ValueGap) (middle : ℤ) → IsPast d gap.has.by middle → IsPast d middle gap.lacks.by → half.has.by ≡ middle → half.lacks.by ≡ gap.lacks.by
      → IsNarrowerGap gap half
  narrower_more gap half middle above below has lacks =
      subst (λ (v : ℤ). steps_between v half.lacks.by < steps_between gap.has.by gap.lacks.by) (sym has)
      (subst (λ (v : ℤ). steps_between middle v < steps_between gap.has.by gap.lacks.by) (sym lacks) (nearer_end d gap.has.by middle gap.lacks.by above below))

  pub narrower_less : (gap half : ValueGap) (middle : ℤ) → IsPast d gap.has.by middle → IsPast d middle gap.lacks.by → half.has.by ≡ gap.has.by → half.lacks.by ≡ middle
      → IsNarrowerGap gap half
  narrower_less gap half middle above below has lacks =
      subst (λ (v : ℤ). steps_between v half.lacks.by < steps_between gap.has.by gap.lacks.by) (sym has)
      (subst (λ (v : ℤ). steps_between gap.has.by v < steps_between gap.has.by gap.lacks.by) (sym lacks) (nearer_start d gap.has.by middle gap.lacks.by above below))
