-- Times of events: a list of whole numbers of picoseconds, with the time of event 0 first.
use Rattle.std.specs.Prelude.{◌^◌, ℕ, ℤ, pos, neg_ℤ, ◌+ℤ◌, ◌-ℤ◌, ◌<ℤ◌, Bool, List, [], ◌∷◌, map, slice_index_or, if◌then◌else◌}
use Rattle.itv_base.specs.declared.names.EventId.{EventId}

-- the time of an event, and 0 if there is no such event
abbrev pub time_of : List ℤ → EventId → ℤ
time_of times event = slice_index_or times event.0 (pos 0)

-- how much later the second event comes than the first
abbrev pub separation : List ℤ → EventId → EventId → ℤ
separation times from to = time_of times to -ℤ time_of times from

-- the times with one number added to all
abbrev pub shifted : List ℤ → ℤ → List ℤ
shifted times by = map (λ time. time +ℤ by) times

-- the times less the time of one event
abbrev pub moved : EventId → List ℤ → List ℤ
moved origin times = shifted times (neg_ℤ (time_of times origin))

-- the times with a number added at the events of a set; the set is a list with a flag for each event
abbrev pub raised : List Bool → ℕ → List ℤ → List ℤ
raised [] by times = times
raised (is_in ∷ set) by [] = []
raised (is_in ∷ set) by (time ∷ times) = (if is_in then time +ℤ pos by else time) ∷ raised set by times

-- a time is below 2^61 in absolute value
abbrev pub IsTime : ℤ → Type 0
IsTime time = (neg_ℤ (pos (2 ^ 61)) <ℤ time) × (time <ℤ pos (2 ^ 61))
