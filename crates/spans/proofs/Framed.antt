-- A frame, cause by cause and row by row.
use Rattle.std.proofs.Common.{◌≡◌, ◌<◌, ◌≤◌, ◌+◌, ℕ, ℤ, Bool, true, false, IsSomeAnd, List, [], ◌∷◌, ◌++◌, length, map, take, Option, Some, None, option_map, slice_get, refl, sym, ap, subst, ◌∙◌, arith}
use Rattle.std.specs.Prelude.{if◌then◌else◌, unwrap_or}
use Rattle.std.specs.List.{AllZip}
use Rattle.std.proofs.lemmas.List.{length_push, map_push, take_all}
use Rattle.std.proofs.lemmas.List.Elements.{AllZip-push}
use Rattle.itv_base.specs.declared.names.EventId.{EventId}
use Rattle.itv_base.proofs.Lists.{found_below, take_get}
use Rattle.origin.specs.declared.origin.Origin.{Origin}
use Rattle.event_graph.specs.Network.{Constraint, Net, with_constraint}
use Rattle.event_graph.specs.Times.{separation}
use Rattle.event_graph.specs.Widening.{IsWiderCause, IsWiderConstraint}
use Rattle.event_graph.specs.declared.cause.Cause.{Cause}
use Rattle.drawn_networks.specs.Drawn.{Drawn, OriginsFit, name_of}
use Rattle.drawn_networks.specs.declared.row.Row.{Row}
use Rattle.drawn_numbers.specs.Numbers.{origins_of, part_of_target}
use Rattle.drawn_numbers.specs.declared.drawn_number.DrawnNumber.{DrawnNumber}
use Rattle.moves.specs.Covers.{IsTighterRow, cause_counted, constraint_counted, net_counted, row_counted}
use Rattle.moves.specs.Moving.{constraint_moved, any_draws, each_by, kind_moved, row_moved, moved_up, shifted_at}
use Rattle.moves.specs.Step.{bare_drawn, cause_moved, causes_at}
use Rattle.moves.proofs.Lists.{each_next}
use Rattle.moves.proofs.Moved.{fit_length, front_causes, front_moved}
use Rattle.moves.proofs.Drew.{same_count}
use Rattle.spans.specs.Step.{FramesCauses, FramesNet, FramesRows, IsFrameOf, IsFramedCause, IsFramedConstraint, IsFramedKind, IsFramedRange, IsFramedRow, kind_at, range_at}
use Rattle.spans.specs.declared.framed_range.FrameKind.{FrameKind}
use Rattle.spans.specs.declared.framed_range.FrameKind.TheVariants as frames

-- ---- one cause

abbrev moved_if : ℤ → Bool → Cause → Cause
moved_if value is_drawn c = if is_drawn then record c { range = moved_up value c.range } else c

one_framed : (kind : FrameKind) (counts : List ℤ) (target : EventId) (value : ℤ) (is_drawn : Bool) (c framed : Cause) → c.event ≡ framed.event
    → IsFramedRange kind (range_at is_drawn (separation counts c.event target) value c.range) framed.range
    → IsFramedCause kind (cause_counted counts value target (moved_if value is_drawn c)) framed
one_framed frames.Cover counts target value true c framed event within = record { event = event; low = within.0; high = within.1 }
one_framed frames.Cover counts target value false c framed event within = record { event = event; low = within.0; high = within.1 }
one_framed frames.Core counts target value true c framed event within = record { event = sym event; low = within.0; high = within.1 }
one_framed frames.Core counts target value false c framed event within = record { event = sym event; low = within.0; high = within.1 }

-- a relation between the elements of two lists, seen from the other list
turned : {A B : Type 0} (R : B → A → Type 0) (xs : List A) (ys : List B) → AllZip (λ x y. R y x) xs ys → AllZip R ys xs
turned R [] [] all = tt
turned R [] (y ∷ ys) all = absurd all
turned R (x ∷ xs) [] all = absurd all
turned R (x ∷ xs) (y ∷ ys) all = (all.0, turned R xs ys all.1)

-- ---- the causes of a constraint

-- the first causes frame the drawn ones
abbrev pub FrontCauses : FrameKind → List ℤ → Drawn → List DrawnNumber → ℕ → EventId → ℕ → List Cause → ℤ → Type 0
FrontCauses kind counts drawn numbers constraint target k causes value =
    AllZip (IsFramedCause kind) (map (cause_counted counts value target) (front_causes (moved_up value) drawn numbers constraint k)) causes

pub causes_more : (kind : FrameKind) (counts : List ℤ) (drawn : Drawn) (numbers : List DrawnNumber) (constraint k : ℕ) (target : EventId) (part : List ℕ) (origins : List Origin) (c framed : Cause) (o : Origin)
    (is_drawn : Bool) (apart value : ℤ) (old new : List Cause) → OriginsFit drawn.net drawn.origins → part ≡ part_of_target drawn constraint → origins ≡ origins_of drawn constraint
    → slice_get (causes_at drawn.net constraint) k ≡ Some c → slice_get origins k ≡ Some o → is_drawn ≡ any_draws numbers part o → apart ≡ separation counts c.event target
    → c.event ≡ framed.event → IsFramedRange kind (range_at is_drawn apart value c.range) framed.range → FrontCauses kind counts drawn numbers constraint target k old value
    → new ≡ old ++ framed ∷ [] → FrontCauses kind counts drawn numbers constraint target (k + 1) new value
causes_more kind counts drawn numbers constraint k target part origins c framed o is_drawn apart value old new fit is_part is_origins at_c at_o test is_apart event within before pushed =
    let own : slice_get (origins_of drawn constraint) k ≡ Some o = subst (λ (os : List Origin). slice_get os k ≡ Some o) is_origins at_o in
    let own_test : Origin → Bool = any_draws numbers (part_of_target drawn constraint) in
    let right : is_drawn ≡ own_test o = test ∙ ap (λ (p : List ℕ). any_draws numbers p o) is_part in
    let holds : IsFramedRange kind (range_at (own_test o) (separation counts c.event target) value c.range) framed.range =
    subst (λ (b : Bool). IsFramedRange kind (range_at b (separation counts c.event target) value c.range) framed.range) right
    (subst (λ (a : ℤ). IsFramedRange kind (range_at is_drawn a value c.range) framed.range) is_apart within) in
    let here : IsFramedCause kind (cause_counted counts value target (cause_moved (moved_up value) own_test c o)) framed =
    one_framed kind counts target value (own_test o) c framed event holds in
    let next = each_next (cause_moved (moved_up value) own_test) (causes_at drawn.net constraint) (origins_of drawn constraint) k c o (same_count drawn constraint fit) at_c own in
    let whole : map (cause_counted counts value target) (front_causes (moved_up value) drawn numbers constraint (k + 1))
    ≡ map (cause_counted counts value target) (front_causes (moved_up value) drawn numbers constraint k) ++ cause_counted counts value target (cause_moved (moved_up value) own_test c o) ∷ [] =
    ap (λ (cs : List Cause). map (cause_counted counts value target) cs) next
    ∙ map_push (cause_counted counts value target) (front_causes (moved_up value) drawn numbers constraint k) (cause_moved (moved_up value) own_test c o) in
    subst (λ (cs : List Cause). AllZip (IsFramedCause kind) cs new) (sym whole)
    (subst (λ (cs : List Cause). AllZip (IsFramedCause kind) (map (cause_counted counts value target) (front_causes (moved_up value) drawn numbers constraint k)
    ++ cause_counted counts value target (cause_moved (moved_up value) own_test c o) ∷ []) cs) (sym pushed)
    (AllZip-push (IsFramedCause kind) (map (cause_counted counts value target) (front_causes (moved_up value) drawn numbers constraint k)) old
    (cause_counted counts value target (cause_moved (moved_up value) own_test c o)) framed before here))

pub causes_whole : (kind : FrameKind) (counts : List ℤ) (drawn : Drawn) (numbers : List DrawnNumber) (constraint k : ℕ) (target : EventId) (items : List Cause) (value : ℤ) → OriginsFit drawn.net drawn.origins
    → length (origins_of drawn constraint) ≤ k → FrontCauses kind counts drawn numbers constraint target k items value → FramesCauses kind counts drawn numbers constraint target items value
causes_whole kind counts drawn numbers constraint k target items value fit all covers =
    let same : length (origins_of drawn constraint) ≡ length (causes_at drawn.net constraint) = same_count drawn constraint fit in
    let first : take k (causes_at drawn.net constraint) ≡ causes_at drawn.net constraint = take_all k (causes_at drawn.net constraint) (omega (arith, same, all)) in
    let second : take k (origins_of drawn constraint) ≡ origins_of drawn constraint = take_all k (origins_of drawn constraint) all in
    let P : List Cause → List Origin → Type 0 = λ cs os.
    AllZip (IsFramedCause kind) (map (cause_counted counts value target) (each_by (cause_moved (moved_up value) (any_draws numbers (part_of_target drawn constraint))) cs os)) items in
    subst (λ (os : List Origin). P (causes_at drawn.net constraint) os) second (subst (λ (cs : List Cause). P cs (take k (origins_of drawn constraint))) first covers)

-- the events of the first causes
pub events_more : (cs : List Cause) (k : ℕ) (c wide : Cause) (old new : List Cause) → slice_get cs k ≡ Some c → c.event ≡ wide.event
    → map (λ (x : Cause). x.event) old ≡ map (λ (x : Cause). x.event) (take k cs) → new ≡ old ++ wide ∷ []
    → map (λ (x : Cause). x.event) new ≡ map (λ (x : Cause). x.event) (take (k + 1) cs)
events_more cs k c wide old new at event before pushed =
    let v : Cause → EventId = λ x. x.event in
    ap (map v) pushed ∙ (map_push v old wide ∙ (ap (λ (es : List EventId). es ++ v wide ∷ []) before ∙ (ap (λ (e : EventId). map v (take k cs) ++ e ∷ []) (sym event)
    ∙ (sym (map_push v (take k cs) c) ∙ ap (map v) (sym (take_get cs k c at))))))

-- ---- the constraints

constraint_framed : (kind : FrameKind) (c framed : Constraint) → c.kind ≡ framed.kind → c.target ≡ framed.target → AllZip (IsFramedCause kind) c.causes framed.causes
    → IsFramedConstraint kind c framed
constraint_framed frames.Cover c framed same target causes = record { kind = same; target = target; causes = causes }
constraint_framed frames.Core c framed same target causes = record { kind = sym same; target = sym target; causes = turned IsWiderCause c.causes framed.causes causes }

-- the first constraints frame the drawn ones
abbrev pub FrontNet : FrameKind → List ℤ → Drawn → List DrawnNumber → ℕ → List Constraint → ℤ → Type 0
FrontNet kind counts drawn numbers k constraints value =
    AllZip (IsFramedConstraint kind) (map (constraint_counted counts value) (front_moved (moved_up value) drawn numbers k).constraints) constraints

-- the causes of a constraint that is there
causes_there : (kind : FrameKind) (counts : List ℤ) (drawn : Drawn) (numbers : List DrawnNumber) (value : ℤ) (c : Constraint) (o : List Origin) (causes : List Cause) (x : Option Constraint) (y : Option (List Origin))
    → x ≡ Some c → y ≡ Some o
    → AllZip (IsFramedCause kind) (map (cause_counted counts value c.target)
    (each_by (cause_moved (moved_up value) (any_draws numbers (unwrap_or (option_map (λ (d : Constraint). (name_of drawn d.target).part) x) [])))
    (unwrap_or (option_map (λ (d : Constraint). d.causes) x) []) (unwrap_or y []))) causes
    → AllZip (IsFramedCause kind) (constraint_counted counts value (constraint_moved (moved_up value) drawn numbers c o)).causes causes
causes_there kind counts drawn numbers value c o causes x y at_x at_y covers =
    let P : Option Constraint → Option (List Origin) → Type 0 = λ p q.
    AllZip (IsFramedCause kind) (map (cause_counted counts value c.target)
    (each_by (cause_moved (moved_up value) (any_draws numbers (unwrap_or (option_map (λ (d : Constraint). (name_of drawn d.target).part) p) [])))
    (unwrap_or (option_map (λ (d : Constraint). d.causes) p) []) (unwrap_or q []))) causes in
    subst (λ (q : Option (List Origin)). P (Some c) q) at_y (subst (λ (p : Option Constraint). P p y) at_x covers)

pub net_more : (kind : FrameKind) (counts : List ℤ) (drawn : Drawn) (numbers : List DrawnNumber) (k : ℕ) (causes : List Cause) (value : ℤ) (old new : Net) → OriginsFit drawn.net drawn.origins
    → k < length drawn.net.constraints
    → ((target : EventId) → option_map (λ (c : Constraint). c.target) (slice_get drawn.net.constraints k) ≡ Some target → FramesCauses kind counts drawn numbers k target causes value)
    → FrontNet kind counts drawn numbers k old.constraints value
    → IsSomeAnd (slice_get drawn.net.constraints k) (λ c. new ≡ with_constraint old (record c { causes = causes })) → FrontNet kind counts drawn numbers (k + 1) new.constraints value
net_more kind counts drawn numbers k causes value old new fit within covers before pushed =
    let same : length drawn.origins ≡ length drawn.net.constraints = fit_length drawn fit in
    let c = found_below drawn.net.constraints k within in
    let o = found_below drawn.origins k (omega (arith, same, within)) in
    let P : Option Constraint → Type 0 = λ x. IsSomeAnd x (λ d. new ≡ with_constraint old (record d { causes = causes })) in
    let added : new ≡ with_constraint old (record c.0 { causes = causes }) = subst P c.1 pushed in
    let moved : Constraint = constraint_moved (moved_up value) drawn numbers c.0 o.0 in
    let own : AllZip (IsFramedCause kind) (constraint_counted counts value moved).causes causes =
    causes_there kind counts drawn numbers value c.0 o.0 causes (slice_get drawn.net.constraints k) (slice_get drawn.origins k) c.1 o.1
    (covers c.0.target (ap (option_map (λ (d : Constraint). d.target)) c.1)) in
    let here : IsFramedConstraint kind (constraint_counted counts value moved) (record c.0 { causes = causes }) =
    constraint_framed kind (constraint_counted counts value moved) (record c.0 { causes = causes }) refl refl own in
    let front : List Constraint = (front_moved (moved_up value) drawn numbers k).constraints in
    let next : (front_moved (moved_up value) drawn numbers (k + 1)).constraints ≡ front ++ moved ∷ [] =
    each_next (constraint_moved (moved_up value) drawn numbers) drawn.net.constraints drawn.origins k c.0 o.0 same c.1 o.1 in
    let whole : map (constraint_counted counts value) (front_moved (moved_up value) drawn numbers (k + 1)).constraints
    ≡ map (constraint_counted counts value) front ++ constraint_counted counts value moved ∷ [] =
    ap (λ (cs : List Constraint). map (constraint_counted counts value) cs) next ∙ map_push (constraint_counted counts value) front moved in
    subst (λ (cs : List Constraint). AllZip (IsFramedConstraint kind) cs new.constraints) (sym whole)
    (subst (λ (n : Net). AllZip (IsFramedConstraint kind) (map (constraint_counted counts value) front ++ constraint_counted counts value moved ∷ []) n.constraints) (sym added)
    (AllZip-push (IsFramedConstraint kind) (map (constraint_counted counts value) front) old.constraints (constraint_counted counts value moved) (record c.0 { causes = causes }) before here))

net_framed : (kind : FrameKind) (counts : List ℤ) (drawn : Drawn) (numbers : List DrawnNumber) (net : Net) (value : ℤ) → net.events ≡ drawn.net.events
    → AllZip (IsFramedConstraint kind) (net_counted counts value (shifted_at drawn numbers value).net).constraints net.constraints → FramesNet kind counts drawn numbers net value
net_framed frames.Cover counts drawn numbers net value events all = record { events = sym events; constraints = all }
net_framed frames.Core counts drawn numbers net value events all = record {
  events = events;
  constraints = turned IsWiderConstraint (net_counted counts value (shifted_at drawn numbers value).net).constraints net.constraints all;
}

pub net_whole : (kind : FrameKind) (counts : List ℤ) (drawn : Drawn) (numbers : List DrawnNumber) (k : ℕ) (net : Net) (value : ℤ) → OriginsFit drawn.net drawn.origins
    → length drawn.net.constraints ≤ k → net.events ≡ drawn.net.events → FrontNet kind counts drawn numbers k net.constraints value → FramesNet kind counts drawn numbers net value
net_whole kind counts drawn numbers k net value fit all events covers =
    let same : length drawn.origins ≡ length drawn.net.constraints = fit_length drawn fit in
    let first : take k drawn.net.constraints ≡ drawn.net.constraints = take_all k drawn.net.constraints all in
    let second : take k drawn.origins ≡ drawn.origins = take_all k drawn.origins (omega (arith, same, all)) in
    let P : List Constraint → List (List Origin) → Type 0 = λ cs os.
    AllZip (IsFramedConstraint kind) (map (constraint_counted counts value) (each_by (constraint_moved (moved_up value) drawn numbers) cs os)) net.constraints in
    net_framed kind counts drawn numbers net value events
    (subst (λ (os : List (List Origin)). P drawn.net.constraints os) second (subst (λ (cs : List Constraint). P cs (take k drawn.origins)) first covers))

-- ---- the rows

row_framed : (kind : FrameKind) (counts : List ℤ) (value : ℤ) (is_drawn : Bool) (row framed : Row) → row.from ≡ framed.from → row.to ≡ framed.to
    → ((x : ℤ) → IsFramedKind kind (kind_at is_drawn (separation counts row.from row.to) value row.kind) framed.kind x)
    → IsFramedRow kind (row_counted counts value (if is_drawn then record row { kind = kind_moved (moved_up value) row.kind } else row)) framed
row_framed frames.Cover counts value true row framed from to wants = record { from = from; to = to; wants = wants }
row_framed frames.Cover counts value false row framed from to wants = record { from = from; to = to; wants = wants }
row_framed frames.Core counts value true row framed from to wants = record { from = sym from; to = sym to; wants = wants }
row_framed frames.Core counts value false row framed from to wants = record { from = sym from; to = sym to; wants = wants }

-- the first rows frame the drawn ones
abbrev pub FrontRows : FrameKind → List ℤ → Drawn → List DrawnNumber → ℕ → List Row → ℤ → Type 0
FrontRows kind counts drawn numbers k rows value =
    AllZip (IsFramedRow kind) (map (row_counted counts value) (map (row_moved (moved_up value) drawn numbers) (take k drawn.rows))) rows

pub rows_more : (kind : FrameKind) (counts : List ℤ) (drawn : Drawn) (numbers : List DrawnNumber) (given : List Row) (k : ℕ) (row framed : Row) (part : List ℕ) (is_drawn : Bool)
    (apart value : ℤ) (old new : List Row) → given ≡ drawn.rows → slice_get given k ≡ Some row → part ≡ (name_of drawn row.from).part → is_drawn ≡ any_draws numbers part row.origin
    → apart ≡ separation counts row.from row.to → row.from ≡ framed.from → row.to ≡ framed.to → ((x : ℤ) → IsFramedKind kind (kind_at is_drawn apart value row.kind) framed.kind x)
    → FrontRows kind counts drawn numbers k old value → new ≡ old ++ framed ∷ [] → FrontRows kind counts drawn numbers (k + 1) new value
rows_more kind counts drawn numbers given k row framed part is_drawn apart value old new same at is_part test is_apart from to wants before pushed =
    let own : slice_get drawn.rows k ≡ Some row = subst (λ (xs : List Row). slice_get xs k ≡ Some row) same at in
    let own_test : Bool = any_draws numbers (name_of drawn row.from).part row.origin in
    let right : is_drawn ≡ own_test = test ∙ ap (λ (p : List ℕ). any_draws numbers p row.origin) is_part in
    let wanted : (x : ℤ) → IsFramedKind kind (kind_at own_test (separation counts row.from row.to) value row.kind) framed.kind x =
    subst (λ (b : Bool). (x : ℤ) → IsFramedKind kind (kind_at b (separation counts row.from row.to) value row.kind) framed.kind x) right
    (subst (λ (a : ℤ). (x : ℤ) → IsFramedKind kind (kind_at is_drawn a value row.kind) framed.kind x) is_apart wants) in
    let F : Row → Row = λ r. row_counted counts value (row_moved (moved_up value) drawn numbers r) in
    let G : Row → Row = row_moved (moved_up value) drawn numbers in
    let H : Row → Row = row_counted counts value in
    let here : IsFramedRow kind (F row) framed = row_framed kind counts value own_test row framed from to wanted in
    let whole : map H (map G (take (k + 1) drawn.rows)) ≡ map H (map G (take k drawn.rows)) ++ F row ∷ [] =
    ap (λ (rs : List Row). map H (map G rs)) (take_get drawn.rows k row own)
    ∙ (ap (λ (rs : List Row). map H rs) (map_push G (take k drawn.rows) row) ∙ map_push H (map G (take k drawn.rows)) (G row)) in
    subst (λ (rs : List Row). AllZip (IsFramedRow kind) rs new) (sym whole)
    (subst (λ (rs : List Row). AllZip (IsFramedRow kind) (map H (map G (take k drawn.rows)) ++ F row ∷ []) rs) (sym pushed)
    (AllZip-push (IsFramedRow kind) (map H (map G (take k drawn.rows))) old (F row) framed before here))

rows_framed : (kind : FrameKind) (counts : List ℤ) (drawn : Drawn) (numbers : List DrawnNumber) (rows : List Row) (value : ℤ)
    → AllZip (IsFramedRow kind) (map (row_counted counts value) (shifted_at drawn numbers value).rows) rows → FramesRows kind counts drawn numbers rows value
rows_framed frames.Cover counts drawn numbers rows value all = all
rows_framed frames.Core counts drawn numbers rows value all = turned IsTighterRow (map (row_counted counts value) (shifted_at drawn numbers value).rows) rows all

pub rows_whole : (kind : FrameKind) (counts : List ℤ) (drawn : Drawn) (numbers : List DrawnNumber) (k : ℕ) (items : List Row) (value : ℤ) → length drawn.rows ≤ k
    → FrontRows kind counts drawn numbers k items value → FramesRows kind counts drawn numbers items value
rows_whole kind counts drawn numbers k items value all covers =
    rows_framed kind counts drawn numbers items value
    (subst (λ (rs : List Row). AllZip (IsFramedRow kind) (map (row_counted counts value) (map (row_moved (moved_up value) drawn numbers) rs)) items) (take_all k drawn.rows all) covers)

-- a frame of its network and its rows
pub frames_of : (kind : FrameKind) (counts : List ℤ) (drawn : Drawn) (numbers : List DrawnNumber) (net : Net) (rows : List Row) (value : ℤ) → length counts ≡ drawn.net.events
    → FramesNet kind counts drawn numbers net value → FramesRows kind counts drawn numbers rows value → IsFrameOf kind counts drawn numbers (bare_drawn net rows) value
frames_of frames.Cover counts drawn numbers net rows value count on_net on_rows = record { count = count; wider = on_net; tighter = on_rows }
frames_of frames.Core counts drawn numbers net rows value count on_net on_rows = record { count = count; narrower = on_net; looser = on_rows }

-- ---- a constraint that was added

pub added_events : (o : Option Constraint) (causes : List Cause) (old new : Net) → IsSomeAnd o (λ c. new ≡ with_constraint old (record c { causes = causes })) → new.events ≡ old.events
added_events None causes old new added = absurd added
added_events (Some c) causes old new added = ap (λ (n : Net). n.events) added

pub added_count : (o : Option Constraint) (causes : List Cause) (old new : Net) → IsSomeAnd o (λ c. new ≡ with_constraint old (record c { causes = causes }))
    → length new.constraints ≡ length old.constraints + 1
added_count None causes old new added = absurd added
added_count (Some c) causes old new added = ap (λ (n : Net). length n.constraints) added ∙ length_push old.constraints (record c { causes = causes })
