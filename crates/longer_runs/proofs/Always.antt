-- What the bounds over some cycles, and steady times, say of every longer run.
use Rattle.std.proofs.Common.{◌≡◌, ◌+◌, ◌∙◌, ℤ, List, arith}
use Rattle.itv_base.specs.declared.names.EventId.{EventId}
use Rattle.itv_base.specs.declared.names.Side.{Side}
use Rattle.itv_base.specs.declared.names.Side.TheVariants.{Lower, Upper}
use Rattle.event_graph.specs.Network.{Net}
use Rattle.event_graph.specs.Satisfying.{Satisfies}
use Rattle.event_graph.specs.Times.{separation}
use Rattle.longer_runs.specs.Always.{ExtremeStays, IsExtreme, IsNotPast, SteadyIsAlways}
use Rattle.longer_runs.specs.Periods.{steady}
use Rattle.longer_runs.specs.Windows.{EverySeparation}
use Rattle.longer_runs.proofs.Periods.{steady_satisfies, steady_separates}
use Rattle.longer_runs.proofs.Rows.{from_stays}

-- some times attain a greatest or least separation
attained_by : (side : Side) (net : Net) (from to : EventId) (value : ℤ) → IsExtreme side net from to value → (times : List ℤ) × Satisfies times net × (separation times from to ≡ value)
attained_by Upper net from to value extreme = extreme.attained
attained_by Lower net from to value extreme = extreme.attained

extreme_by : (side : Side) (net : Net) (from to : EventId) (value : ℤ) → ((times : List ℤ) × Satisfies times net × (separation times from to ≡ value)) → EverySeparation (IsNotPast side value) net from to
    → IsExtreme side net from to value
extreme_by Upper net from to value attained kept = record { attained = attained; most = kept }
extreme_by Lower net from to value attained kept = record { attained = attained; least = kept }

pub extreme_stays : ExtremeStays
extreme_stays side d row start cycles cycle value is_design between seen extreme kept =
    let (times, satisfied, is) = attained_by side _ _ _ value extreme in
    record {
      kept = λ more. from_stays (IsNotPast side value) d row start cycles more is_design between (omega (arith, seen.back, seen.less)) (omega (arith, seen.from, seen.less)) kept;
      cycle = cycle;
      seen = seen;
      times = times;
      satisfied = satisfied;
      attained = is;
    }

pub steady_is_always : SteadyIsAlways
steady_is_always side d row start cycles value each times is_design between over again in_step is more cycle seen =
    extreme_by side _ _ _ value (
      steady each times (cycles + more),
      steady_satisfies d each times (cycles + more) is_design again,
      steady_separates d each times row (cycles + more) cycle is_design between again in_step seen.back seen.less ∙ is,
    )
    (over.kept more cycle seen.from seen.back seen.less)
