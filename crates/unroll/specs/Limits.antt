-- The limits of a drawn network, and the first limit that it passes.
use Rattle.std.specs.Prelude.{ℕ, ◌+◌, ◌*◌, nat_lt, List, [], ◌∷◌, length, find, Option, Some, None, Result, Ok, Err}
use Rattle.itv_base.specs.declared.limits.TheConstants.{MAX_CELLS, MAX_CONSTRAINTS, MAX_EVENTS, MAX_MATRIX_EVENTS, MAX_ROWS, MAX_SEARCH_CELLS}
use Rattle.event_graph.specs.Network.{splittable_count}
use Rattle.compose.specs.Design.{DesignView}
use Rattle.unroll.specs.declared.limit.Limit.{Limit}
use Rattle.unroll.specs.declared.limit.Limit.TheVariants.{Events, Constraints, Rows, Cells, SearchCells, MatrixEvents, SessionRows, Numbers}
use Rattle.unroll.specs.declared.limit.TheConstants.{MAX_NUMBERS, MAX_SESSION_ROWS}
use Rattle.unroll.specs.declared.counted.Counted.{Counted}
use Rattle.unroll.specs.declared.fault.UnrollFault.{UnrollFault}
use Rattle.unroll.specs.declared.fault.UnrollFault.TheVariants.{TooMany}
use Rattle.drawn_networks.specs.Drawn.{Drawn}
use Rattle.unroll.specs.Drawn.{drawn_of}

-- how much a limit allows
abbrev pub most_of : Limit → ℕ
most_of Events = MAX_EVENTS
most_of Constraints = MAX_CONSTRAINTS
most_of Rows = MAX_ROWS
most_of Cells = MAX_CELLS
most_of SearchCells = MAX_SEARCH_CELLS
most_of MatrixEvents = MAX_MATRIX_EVENTS
most_of SessionRows = MAX_SESSION_ROWS
most_of Numbers = MAX_NUMBERS

abbrev pub counted : Limit → ℕ → Counted
counted limit count = record { limit = limit; count = count }

-- The counts that have limits, in the order in which they are checked, from the numbers of events, constraints, rows, and constraints with
-- two or more causes. Each row takes a cell for each event. So does each level of the search; there is one for each constraint with two or more
-- causes, and one more for the graph below them.
abbrev pub counts_by : ℕ → ℕ → ℕ → ℕ → List Counted
counts_by events constraints rows splittable =
    counted Events events
    ∷ counted Constraints constraints
    ∷ counted Rows rows
    ∷ counted Cells (events * rows)
    ∷ counted SearchCells (events * (splittable + 1))
    ∷ []

abbrev pub counts_of : Drawn → List Counted
counts_of drawn = counts_by drawn.net.events (length drawn.net.constraints) (length drawn.rows) (splittable_count drawn.net)

-- the first count that its limit does not allow
abbrev pub first_passed : List Counted → Option Counted
first_passed counts = find (λ c. nat_lt (most_of c.limit) c.count) counts

-- a drawn network that passes no limit, or the first limit that it passes, with the count
abbrev pub within : Drawn → Option Counted → Result Drawn UnrollFault
within drawn None = Ok drawn
within drawn (Some passed) = Err (TooMany passed.limit passed.count)

-- what a design draws, within the limits
unfoldable pub unrolled : DesignView → Result Drawn UnrollFault
unrolled d = within (drawn_of d) (first_passed (counts_of (drawn_of d)))
