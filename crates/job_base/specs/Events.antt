-- The lines of events.
use Rattle.std.specs.Prelude.{ℕ, ◌+◌, List, [], ◌∷◌, length}
use Rattle.itv_base.specs.Names.{Name}
use Rattle.itv_base.specs.declared.names.EventId.{EventId}
use Rattle.slack_report.specs.Entry.{Entry, event, events}

-- the event with a number
abbrev pub event_of : ℕ → EventId
event_of number = record { 0 = number }

-- the lines of events with these names; the first event has this number
abbrev pub events_from : ℕ → List Name → List Entry
events_from number [] = []
events_from number (name ∷ names) = event number name ∷ events_from (number + 1) names

-- how many events there are, and the line of each
abbrev pub event_lines : List Name → List Entry
event_lines names = events (length names) ∷ events_from 0 names
