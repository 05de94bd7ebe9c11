-- A line is read next if and only if it has no fault.
use Rattle.std.proofs.Common.{◌≡◌, ◌+◌, ◌≤◌, ◌==◌, ℕ, pos, Bool, true, false, if◌then◌else◌, List, [], ◌∷◌, ◌++◌, All, length, Option, Some, None, nat_le, int_le, int_lt, sym, ap, refl, subst}
use Rattle.std.specs.Option.{option_or}
use Rattle.std.proofs.lemmas.Bool.{eq-eqb, eqb-true, le-leb, leb-true}
use Rattle.std.proofs.lemmas.List.Elements.{All-cons, All-head, All-nil, All-tail}
use Rattle.itv_base.specs.declared.names.EdgeName.{EdgeName}
use Rattle.itv_base.specs.declared.names.EventId.{EventId}
use Rattle.itv_base.proofs.Integers.{test_from_lt, test_from_le, lt_from_test, le_from_test}
use Rattle.itv_base.proofs.Options.{some_and}
use Rattle.event_graph.specs.declared.edge.Edge.{Edge}
use Rattle.event_graph.specs.Edges.{edge}
use Rattle.event_graph.specs.Network.{Net}
use Rattle.event_graph.specs.Proof.{Bound, Case, ClosesByLoop, ClosesByPath, IsUsable, IsWalk, Loop, Nothing, Path, ProofGoal, ProofLine, ProofLeaves, Split, cases_of, path_sum}
use Rattle.event_graph.proofs.ReadingOn.{reads-append}
use Rattle.event_graph.proofs.Causes.{same_event}
use Rattle.cert_checker.specs.declared.check_fault.CheckFault.{CheckFault}
use Rattle.cert_checker.specs.declared.check_fault.CheckFault.TheVariants.{Broken, NotNegative, SumTooGreat, TooLong}
use Rattle.cert_checker.specs.Faults.{behind_line, begin_of, edge_end, fault_of_edge, fault_of_length, fault_of_line, fault_of_loop, fault_of_loop_sum, fault_of_path, fault_of_path_sum, fault_of_walk, is_usable, loop_begin}
use Rattle.cert_checker.specs.Laws.{LinesAreReadOneByOne, NoFaultIsRead}
use Rattle.cert_checker.proofs.Deciding.{first_none, if_none, is_usable_of, none_first, none_split, split_none, usable_is}

none_sum : (b : Bool) (fault : CheckFault) → b ≡ true → (if b then None else Some fault) ≡ None
none_sum b fault is = rw is refl

-- ---- walks

edge_none : (place : ℕ) (at : EventId) (usable : Bool) (o : Option Edge) → fault_of_edge place at usable o ≡ None
    → (e : Edge) × (o ≡ Some e) × (usable ≡ true) × (e.from ≡ at)
edge_none place at usable None h = absurd (cc)
edge_none place at true (Some e) h = (e, refl, refl, same_event e.from at (eqb-true e.from.0 at.0 (if_none (e.from.0 == at.0) (Broken place) h)))
edge_none place at false (Some e) h = absurd (cc)

none_edge : (place : ℕ) (at : EventId) (usable : Bool) (o : Option Edge) (e : Edge) → o ≡ Some e → usable ≡ true → e.from ≡ at → fault_of_edge place at usable o ≡ None
none_edge place at usable o e is_edge is_usable begins = rw (is_edge, is_usable, eq-eqb e.from.0 at.0 (ap (λ (v : EventId). v.0) begins)) refl

-- edges without a fault are a walk along edges that may be used
walk_none : (net : Net) (chosen : Case) (to : EventId) (place : ℕ) (at : EventId) (names : List EdgeName) → fault_of_walk net chosen to place at names ≡ None
    → IsWalk net at names to × All (IsUsable net chosen) names
walk_none net chosen to place at [] h = (same_event at to (eqb-true at.0 to.0 (if_none (at.0 == to.0) (Broken place) h)), All-nil (IsUsable net chosen))
walk_none net chosen to place at (name ∷ names) h =
    let parts = first_none (fault_of_edge place at (is_usable net chosen name) (edge net name)) (fault_of_walk net chosen to (place + 1) (edge_end (edge net name)) names) h in
    let here = edge_none place at (is_usable net chosen name) (edge net name) parts.0 in
    let rest = walk_none net chosen to (place + 1) (edge_end (edge net name)) names parts.1 in
    let on : IsWalk net here.0.to names to = subst (λ o. IsWalk net (edge_end o) names to) here.1 rest.0 in
    (rw here.1 (here.3, on), All-cons (IsUsable net chosen) name names (usable_is net chosen name here.0 here.1 here.2) rest.1)

none_walk : (net : Net) (chosen : Case) (to : EventId) (place : ℕ) (at : EventId) (names : List EdgeName) → IsWalk net at names to → All (IsUsable net chosen) names
    → fault_of_walk net chosen to place at names ≡ None
none_walk net chosen to place at [] walk usable = rw (eq-eqb at.0 to.0 (ap (λ (v : EventId). v.0) walk)) refl
none_walk net chosen to place at (name ∷ names) walk usable =
    let here = some_and (edge net name) (λ e. (e.from ≡ at) × IsWalk net e.to names to) walk in
    let on : IsWalk net (edge_end (edge net name)) names to = rw here.1 here.2.1 in
    none_first (fault_of_edge place at (is_usable net chosen name) (edge net name)) (fault_of_walk net chosen to (place + 1) (edge_end (edge net name)) names)
    (none_edge place at (is_usable net chosen name) (edge net name) here.0 here.1 (is_usable_of net chosen name (All-head (IsUsable net chosen) name names usable)) here.2.0)
    (none_walk net chosen to (place + 1) (edge_end (edge net name)) names on (All-tail (IsUsable net chosen) name names usable))

-- ---- what closes a case

length_none : (net : Net) (names : List EdgeName) → fault_of_length net names ≡ None → length names ≤ net.events
length_none net names h = leb-true (length names) net.events (if_none (nat_le (length names) net.events) (TooLong (length names)) h)

none_length : (net : Net) (names : List EdgeName) → length names ≤ net.events → fault_of_length net names ≡ None
none_length net names within = rw (le-leb (length names) net.events within) refl

path_none : (net : Net) (goal : ProofGoal) (chosen : Case) (names : List EdgeName) → fault_of_path net goal chosen names ≡ None → ClosesByPath net goal chosen names
path_none net Nothing chosen names h = absurd (cc)
path_none net (Bound from to value) chosen names h =
    let parts = first_none (fault_of_length net names) (option_or (fault_of_walk net chosen to 0 from names) (fault_of_path_sum value (path_sum net names))) h in
    let more = first_none (fault_of_walk net chosen to 0 from names) (fault_of_path_sum value (path_sum net names)) parts.1 in
    let walk = walk_none net chosen to 0 from names more.0 in
    (walk.0, walk.1, le_from_test (path_sum net names) value (if_none (int_le (path_sum net names) value) (SumTooGreat (path_sum net names)) more.1), length_none net names parts.0)

none_path : (net : Net) (goal : ProofGoal) (chosen : Case) (names : List EdgeName) → ClosesByPath net goal chosen names → fault_of_path net goal chosen names ≡ None
none_path net Nothing chosen names closes = absurd closes
none_path net (Bound from to value) chosen names closes =
    none_first (fault_of_length net names) (option_or (fault_of_walk net chosen to 0 from names) (fault_of_path_sum value (path_sum net names)))
    (none_length net names closes.3)
    (none_first (fault_of_walk net chosen to 0 from names) (fault_of_path_sum value (path_sum net names)) (none_walk net chosen to 0 from names closes.0 closes.1)
    (none_sum (int_le (path_sum net names) value) (SumTooGreat (path_sum net names)) (test_from_le (path_sum net names) value closes.2)))

loop_none : (net : Net) (chosen : Case) (names : List EdgeName) → fault_of_loop net chosen names ≡ None → ClosesByLoop net chosen names
loop_none net chosen names h =
    let begin : EventId = loop_begin net names in
    let parts = first_none (fault_of_length net names) (option_or (fault_of_walk net chosen begin 0 begin names) (fault_of_loop_sum (path_sum net names))) h in
    let more = first_none (fault_of_walk net chosen begin 0 begin names) (fault_of_loop_sum (path_sum net names)) parts.1 in
    let walk = walk_none net chosen begin 0 begin names more.0 in
    ((begin, walk.0), walk.1, lt_from_test (path_sum net names) (pos 0) (if_none (int_lt (path_sum net names) (pos 0)) (NotNegative (path_sum net names)) more.1), length_none net names parts.0)

-- a loop that is not empty begins where its first edge begins
loop_walk : (net : Net) (event : EventId) (names : List EdgeName) → IsWalk net event names event → IsWalk net (loop_begin net names) names (loop_begin net names)
loop_walk net event [] walk = refl
loop_walk net event (name ∷ names) walk =
    let here = some_and (edge net name) (λ e. (e.from ≡ event) × IsWalk net e.to names event) walk in
    let begins : begin_of (edge net name) ≡ event = rw here.1 here.2.0 in
    subst (λ (v : EventId). IsWalk net v (name ∷ names) v) (sym begins) walk

none_loop : (net : Net) (chosen : Case) (names : List EdgeName) → ClosesByLoop net chosen names → fault_of_loop net chosen names ≡ None
none_loop net chosen names closes =
    let begin : EventId = loop_begin net names in
    none_first (fault_of_length net names) (option_or (fault_of_walk net chosen begin 0 begin names) (fault_of_loop_sum (path_sum net names))) (none_length net names closes.3)
    (none_first (fault_of_walk net chosen begin 0 begin names) (fault_of_loop_sum (path_sum net names))
    (none_walk net chosen begin 0 begin names (loop_walk net closes.0.0 names closes.0.1) closes.1)
    (none_sum (int_lt (path_sum net names) (pos 0)) (NotNegative (path_sum net names)) (test_from_lt (path_sum net names) (pos 0) closes.2)))

-- ---- lines

reads_none : (net : Net) (goal : ProofGoal) (cases : List Case) (line : ProofLine) (lines : List ProofLine) (left : List Case)
    → (fault_of_line net goal cases line ≡ None) × ProofLeaves net goal (behind_line net cases line) lines left → ProofLeaves net goal cases (line ∷ lines) left
reads_none net goal [] line lines left h = absurd (let e = h.0 in (cc))
reads_none net goal (chosen ∷ cases) (Split number) lines left h = (split_none net chosen number h.0, h.1)
reads_none net goal (chosen ∷ cases) (Path names) lines left h = (path_none net goal chosen names h.0, h.1)
reads_none net goal (chosen ∷ cases) (Loop names) lines left h = (loop_none net chosen names h.0, h.1)

none_reads : (net : Net) (goal : ProofGoal) (cases : List Case) (line : ProofLine) (lines : List ProofLine) (left : List Case) → ProofLeaves net goal cases (line ∷ lines) left
    → (fault_of_line net goal cases line ≡ None) × ProofLeaves net goal (behind_line net cases line) lines left
none_reads net goal [] line lines left reads = absurd reads
none_reads net goal (chosen ∷ cases) (Split number) lines left reads = (none_split net chosen number reads.0, reads.1)
none_reads net goal (chosen ∷ cases) (Path names) lines left reads = (none_path net goal chosen names reads.0, reads.1)
none_reads net goal (chosen ∷ cases) (Loop names) lines left reads = (none_loop net chosen names reads.0, reads.1)

pub lines_are_read_one_by_one : LinesAreReadOneByOne
lines_are_read_one_by_one net goal cases line lines left = (none_reads net goal cases line lines left, reads_none net goal cases line lines left)

-- lines lead to just one list of open cases
pub reads_on : (net : Net) (goal : ProofGoal) (lines more : List ProofLine) (cases mid left : List Case) → ProofLeaves net goal cases lines mid → ProofLeaves net goal cases (lines ++ more) left
    → ProofLeaves net goal mid more left
reads_on net goal [] more cases mid left first whole = subst (λ (cs : List Case). ProofLeaves net goal cs more left) first whole
reads_on net goal (line ∷ lines) more [] mid left first whole = absurd first
reads_on net goal (Split number ∷ lines) more (chosen ∷ cases) mid left first whole = reads_on net goal lines more (cases_of net chosen number ++ cases) mid left first.1 whole.1
reads_on net goal (Path names ∷ lines) more (chosen ∷ cases) mid left first whole = reads_on net goal lines more cases mid left first.1 whole.1
reads_on net goal (Loop names ∷ lines) more (chosen ∷ cases) mid left first whole = reads_on net goal lines more cases mid left first.1 whole.1

pub no_fault_is_read : NoFaultIsRead
no_fault_is_read net goal lines cases line left read = (
  (λ whole. none_reads net goal cases line [] left (reads_on net goal lines (line ∷ []) ([] ∷ []) cases left read whole)),
  (λ h. reads-append net goal lines (line ∷ []) ([] ∷ []) cases left read (reads_none net goal cases line [] left h)),
)
