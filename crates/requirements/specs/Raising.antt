-- Raising a set of events until a separation exceeds a limit.
use Rattle.std.specs.Prelude.{◌≡◌, ◌<◌, ℕ, ℤ, ◌≤ℤ◌, ◌<ℤ◌, Bool, List}
use Rattle.itv_base.specs.declared.names.EventId.{EventId}
use Rattle.event_graph.specs.Times.{raised, separation}

-- All events of the set are raised by one number: the least, from 0 on, with which the separation of the pair exceeds the limit.
pub record RaisesPast (old : List ℤ) (set : List Bool) (from to : EventId) (limit : ℤ) (new : List ℤ) : Type 0 where
  pub by : ℕ
  pub rose : new ≡ raised set by old
  pub past : limit <ℤ separation new from to
  pub least : (less : ℕ) → less < by → separation (raised set less old) from to ≤ℤ limit
