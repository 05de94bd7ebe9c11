-- One network for a whole interval of values of some numbers: a cover, which allows all that is allowed with one of them, or a core, which allows what is allowed
-- with each. Each event counts its time from a multiple of the value: in such times a period that is moved stays as it is.
use Rattle.std.specs.Prelude.{◌≡◌, ℤ, neg_ℤ, ◌-ℤ◌, ◌*ℤ◌, List, [], ◌∷◌, length, map}
use Rattle.std.specs.List.{AllZip}
use Rattle.itv_base.specs.declared.names.EventId.{EventId}
use Rattle.event_graph.specs.declared.cause.Cause.{Cause}
use Rattle.event_graph.specs.Network.{Constraint, Net}
use Rattle.event_graph.specs.Times.{separation}
use Rattle.event_graph.specs.Widening.{IsWider}
use Rattle.drawn_networks.specs.Drawn.{Drawn}
use Rattle.drawn_networks.specs.declared.row.Row.{Row}
use Rattle.drawn_numbers.specs.declared.drawn_number.DrawnNumber.{DrawnNumber}
use Rattle.moves.specs.Moving.{kind_moved, moved_up, shifted_at}
use Rattle.moves.specs.Passing.{MeetsKind}

-- ---- times counted from multiples of a value

-- the times, each less as many times the value as its event counts
abbrev pub times_counted : List ℤ → ℤ → List ℤ → List ℤ
times_counted [] value times = times
times_counted (count ∷ counts) value [] = []
times_counted (count ∷ counts) value (time ∷ times) = (time -ℤ (count *ℤ value)) ∷ times_counted counts value times

-- how much less a separation is in such times
abbrev pub lag : List ℤ → ℤ → EventId → EventId → ℤ
lag counts value from to = separation counts from to *ℤ value

abbrev pub cause_counted : List ℤ → ℤ → EventId → Cause → Cause
cause_counted counts value target cause = record cause { range = moved_up (neg_ℤ (lag counts value cause.event target)) cause.range }

abbrev pub constraint_counted : List ℤ → ℤ → Constraint → Constraint
constraint_counted counts value c = record c { causes = map (cause_counted counts value c.target) c.causes }

-- the network that the counted times satisfy
abbrev pub net_counted : List ℤ → ℤ → Net → Net
net_counted counts value net = record net { constraints = map (constraint_counted counts value) net.constraints }

-- what a row wants of counted times
abbrev pub row_counted : List ℤ → ℤ → Row → Row
row_counted counts value row = record row { kind = kind_moved (moved_up (neg_ℤ (lag counts value row.from row.to))) row.kind }

-- ---- covers

-- a row between the same events that wants no less
pub record IsTighterRow (row tight : Row) : Type 0 where
  pub from : row.from ≡ tight.from
  pub to : row.to ≡ tight.to
  pub wants : (value : ℤ) → MeetsKind tight.kind value → MeetsKind row.kind value

-- a drawn network covers the one with some numbers moved by a value: in such times its network allows no less, and its rows want no less
pub record Covers (counts : List ℤ) (drawn : Drawn) (numbers : List DrawnNumber) (cover : Drawn) (value : ℤ) : Type 0 where
  pub count : length counts ≡ drawn.net.events
  pub wider : IsWider (net_counted counts value (shifted_at drawn numbers value).net) cover.net
  pub tighter : AllZip IsTighterRow (map (row_counted counts value) (shifted_at drawn numbers value).rows) cover.rows

-- ---- cores

-- a drawn network lies within the one with some numbers moved by a value: in such times it allows no more, and its rows want no more
pub record IsCoreOf (counts : List ℤ) (drawn : Drawn) (numbers : List DrawnNumber) (core : Drawn) (value : ℤ) : Type 0 where
  pub count : length counts ≡ drawn.net.events
  pub narrower : IsWider core.net (net_counted counts value (shifted_at drawn numbers value).net)
  pub looser : AllZip IsTighterRow core.rows (map (row_counted counts value) (shifted_at drawn numbers value).rows)
