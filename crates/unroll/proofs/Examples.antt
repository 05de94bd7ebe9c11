-- Worked examples of what a design draws, by computation.
use Rattle.std.proofs.Common.{None, ◌≡◌, [], ◌∷◌, Some, pos, refl}
use Rattle.std.specs.Prelude.{◌+◌, codes}
use Rattle.itv_base.specs.Range.{Ends}
use Rattle.itv_base.specs.declared.limits.TheConstants.{MAX_EVENTS}
use Rattle.itv_base.specs.declared.names.RuleKind.TheVariants as rules
use Rattle.wave_string.specs.declared.mark_kind.MarkKind.TheVariants.{Bare}
use Rattle.itv_base.specs.declared.row_kind.RowKind.TheVariants.{Ask}
use Rattle.origin.specs.declared.origin.Origin.TheVariants.{Edge, Pin, Wire}
use Rattle.sheet.specs.Rule.{RuleView}
use Rattle.sheet.specs.SheetContents.{SheetView}
use Rattle.compose.specs.Design.{DesignView}
use Rattle.unroll.specs.Cycles.{constraints_of, origins_of}
use Rattle.unroll.specs.declared.limit.Limit.TheVariants.{Events, Constraints, Rows, Cells, SearchCells}
use Rattle.unroll.specs.Drawn.{drawn_of}
use Rattle.unroll.specs.Limits.{counted, counts_by, first_passed}

abbrev ends : Ends
ends = record { low = Some (pos 10); high = Some (pos 20) }

-- A sheet with the marks a and j. Mark j comes at the latest of its causes; its cause a is one cycle before. The separation from a to j is asked
-- for in one cycle and over two.
abbrev late_sheet : SheetView
late_sheet = record {
  marks = record { lane = 0; place = 0; name = 97; kind = Bare } ∷ record { lane = 1; place = 0; name = 106; kind = Bare } ∷ [];
  pins = [];
  rules = record { kind = rules.Late; target = 1; causes = record { mark = 0; shift = 1; range = ends; origin = Edge 0 } ∷ [] } ∷ [];
  rows = record { kind = Ask; from = 0; to = 1; shift = 0; origin = Edge 1 } ∷ record { kind = Ask; from = 0; to = 1; shift = 1; origin = Edge 2 } ∷ [];
  edges = codes "a>j @late+1 [10,20]" ∷ codes "a>j @ask" ∷ codes "a>j @ask+1" ∷ [];
  near = [];
}

abbrev one_part : DesignView
one_part = record { cycles = 2; parts = codes "U1" ∷ []; sheets = late_sheet ∷ []; joins = []; rules = []; rows = [] }

-- In two cycles this draws one constraint, on j in cycle 1, and three rows.
pub late_by_one_cycle : drawn_of one_part ≡ record {
  net = record {
    events = 4;
    constraints = record { kind = rules.Late; target = record { 0 = 3 }; causes = record { event = record { 0 = 0 }; range = ends } ∷ [] } ∷ [];
  };
  origins = (Edge 0 ∷ []) ∷ [];
  names =
      record { part = codes "U1"; mark = 97; cycle = 0 }
      ∷ record { part = codes "U1"; mark = 106; cycle = 0 }
      ∷ record { part = codes "U1"; mark = 97; cycle = 1 }
      ∷ record { part = codes "U1"; mark = 106; cycle = 1 }
      ∷ [];
  rows =
      record { kind = Ask; from = record { 0 = 0 }; to = record { 0 = 1 }; origin = Edge 1 }
      ∷ record { kind = Ask; from = record { 0 = 2 }; to = record { 0 = 3 }; origin = Edge 1 }
      ∷ record { kind = Ask; from = record { 0 = 0 }; to = record { 0 = 3 }; origin = Edge 2 }
      ∷ [];
}
late_by_one_cycle = refl

abbrev mixed : RuleView
mixed = record { kind = rules.Late; target = 1; causes = record { mark = 0; shift = 0; range = ends; origin = Edge 0 } ∷ record { mark = 0; shift = 2; range = ends; origin = Edge 3 } ∷ [] }

-- A group with a cause of the same cycle and one of two cycles before draws nothing before cycle 2.
pub mixed_shifts : constraints_of 2 (mixed ∷ []) 3
    ≡ record { kind = rules.Late; target = record { 0 = 5 }; causes = record { event = record { 0 = 4 }; range = ends } ∷ record { event = record { 0 = 0 }; range = ends } ∷ [] } ∷ []
mixed_shifts = refl

-- The causes have the edges of the group as their origins.
pub mixed_origins : origins_of (mixed ∷ []) 3 ≡ (Edge 0 ∷ Edge 3 ∷ []) ∷ []
mixed_origins = refl

-- Two such parts. A net joins mark j of the first to mark j of the second with no delay. A wire leads from the second back to the first in the
-- next cycle. In each cycle the constraints of the parts come first, then the constraint of the net, then the constraint of the wire.
abbrev now : Ends
now = record { low = Some (pos 0); high = Some (pos 0) }

abbrev two_parts : DesignView
two_parts = record {
  cycles = 2;
  parts = codes "U1" ∷ codes "U2" ∷ [];
  sheets = record late_sheet { rows = [] } ∷ record late_sheet { rows = [] } ∷ [];
  joins = record { from = record { part = 0; mark = 1 }; to = record { part = 1; mark = 1 }; delay = now; origin = Pin 0 1 } ∷ [];
  rules = record { kind = rules.Lin; target = 0; causes = record { mark = 3; shift = 1; range = ends; origin = Wire 0 } ∷ [] } ∷ [];
  rows = record { kind = Ask; from = 0; to = 3; shift = 1; origin = Wire 1 } ∷ [];
}

pub parts_nets_wires : (drawn_of two_parts).net ≡ record {
  events = 8;
  constraints =
      record { kind = rules.Lin; target = record { 0 = 3 }; causes = record { event = record { 0 = 1 }; range = now } ∷ [] }
      ∷ record { kind = rules.Late; target = record { 0 = 5 }; causes = record { event = record { 0 = 0 }; range = ends } ∷ [] }
      ∷ record { kind = rules.Late; target = record { 0 = 7 }; causes = record { event = record { 0 = 2 }; range = ends } ∷ [] }
      ∷ record { kind = rules.Lin; target = record { 0 = 7 }; causes = record { event = record { 0 = 5 }; range = now } ∷ [] }
      ∷ record { kind = rules.Lin; target = record { 0 = 4 }; causes = record { event = record { 0 = 3 }; range = ends } ∷ [] }
      ∷ [];
}
parts_nets_wires = refl

pub origins_of_parts_nets_wires : (drawn_of two_parts).origins ≡ (Pin 0 1 ∷ []) ∷ (Edge 0 ∷ []) ∷ (Edge 0 ∷ []) ∷ (Pin 0 1 ∷ []) ∷ (Wire 0 ∷ []) ∷ []
origins_of_parts_nets_wires = refl

pub wire_row_in_cycle_1 : (drawn_of two_parts).rows ≡ record { kind = Ask; from = record { 0 = 0 }; to = record { 0 = 7 }; origin = Wire 1 } ∷ []
wire_row_in_cycle_1 = refl

-- ---- limits

-- What each limit allows. All events and 61 rows take 999,424 cells. All events and 127 constraints with two or more causes take 2,097,152
-- search cells.
pub at_all_limits : first_passed (counts_by MAX_EVENTS 65536 61 127) ≡ None
at_all_limits = refl

pub at_rows : first_passed (counts_by 244 0 4096 0) ≡ None
at_rows = refl

pub at_cells : first_passed (counts_by 1000 0 1000 0) ≡ None
at_cells = refl

-- what each limit does not allow; the first limit that is passed is the answer
pub past_events : first_passed (counts_by (MAX_EVENTS + 1) 65537 4097 600) ≡ Some (counted Events (MAX_EVENTS + 1))
past_events = refl

pub past_constraints : first_passed (counts_by MAX_EVENTS 65537 4097 600) ≡ Some (counted Constraints 65537)
past_constraints = refl

pub past_rows : first_passed (counts_by MAX_EVENTS 65536 4097 600) ≡ Some (counted Rows 4097)
past_rows = refl

pub past_cells : first_passed (counts_by 1000 0 1250 0) ≡ Some (counted Cells 1250000)
past_cells = refl

pub past_search_cells : first_passed (counts_by MAX_EVENTS 512 0 128) ≡ Some (counted SearchCells 2113536)
past_search_cells = refl
