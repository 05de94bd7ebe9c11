-- The names of events, without where they lie in memory.
use Rattle.std.specs.Prelude.{ℕ, List}
use Rattle.itv_base.specs.declared.names.EventName.{EventName}

-- what an event is called: the name of its part, its mark and its cycle from 0
pub record Name : Type 0 where
  pub part : List ℕ
  pub mark : ℕ
  pub cycle : ℕ

-- the name as a report prints it
abbrev pub name_view : EventName → Name
name_view name = record { part = name.part.now; mark = name.mark; cycle = name.cycle }
