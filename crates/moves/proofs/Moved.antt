-- The network with ranges moved, constraint by constraint and cause by cause.
use Rattle.std.proofs.Common.{◌≡◌, ◌<◌, ◌≤◌, ◌+◌, ◌*◌, ℕ, Bool, true, false, IsTrue, IsSomeAnd, List, [], ◌∷◌, ◌++◌, length, map, take, Option, Some, option_map, slice_get, refl, sym, ap, subst, ◌∙◌, arith, below_more}
use Rattle.std.specs.Prelude.{if◌then◌else◌, unwrap_or}
use Rattle.std.proofs.lemmas.List.{length-map, length-take-le, take_all}
use Rattle.std.proofs.lemmas.Option.{same_Some, slice_get_within}
use Rattle.itv_base.specs.Range.{Ends, IsRange}
use Rattle.itv_base.specs.declared.limits.TheConstants.{MAX_CONSTRAINTS}
use Rattle.itv_base.proofs.Lists.{found_below}
use Rattle.origin.specs.declared.origin.Origin.{Origin}
use Rattle.event_graph.specs.Edges.{cause_choices, choices_of}
use Rattle.event_graph.specs.declared.cause.Cause.{Cause}
use Rattle.event_graph.specs.Network.{Constraint, IsNet, Net, with_constraint}
use Rattle.drawn_networks.specs.Drawn.{Drawn, OriginsFit, name_of}
use Rattle.drawn_numbers.specs.Numbers.{origins_of, part_of_target}
use Rattle.drawn_numbers.specs.declared.drawn_number.DrawnNumber.{DrawnNumber}
use Rattle.moves.specs.Moving.{constraint_moved, any_draws, each_by, net_moved}
use Rattle.moves.specs.Passing.{HasDrawableCauses}
use Rattle.moves.specs.Step.{AreDrawable, HasEventsOf, cause_moved, causes_at, causes_moved}
use Rattle.moves.proofs.Lists.{each_from_zip, each_length, each_next, map_kept, zip_from_each}
use Rattle.moves.proofs.Drew.{same_count}

-- ---- one cause

abbrev moved_if : (Ends → Ends) → Bool → Cause → Cause
moved_if move is_drawn c = if is_drawn then record c { range = move c.range } else c

event_kept : (move : Ends → Ends) (is_drawn : Bool) (c : Cause) → (moved_if move is_drawn c).event ≡ c.event
event_kept move true c = refl
event_kept move false c = refl

range_if : (move : Ends → Ends) (is_drawn : Bool) (c : Cause) → (IsTrue is_drawn → IsRange (move c.range)) → IsTrue is_drawn → IsRange (moved_if move is_drawn c).range
range_if move true c h is = h is
range_if move false c h is = absurd (cc is)

range_back : (move : Ends → Ends) (is_drawn : Bool) (c : Cause) → (IsTrue is_drawn → IsRange (moved_if move is_drawn c).range) → IsTrue is_drawn → IsRange (move c.range)
range_back move true c h is = h is
range_back move false c h is = absurd (cc is)

-- ---- the causes of a constraint

-- the first causes of a constraint, moved
abbrev pub front_causes : (Ends → Ends) → Drawn → List DrawnNumber → ℕ → ℕ → List Cause
front_causes move drawn numbers constraint k =
    each_by (cause_moved move (any_draws numbers (part_of_target drawn constraint))) (take k (causes_at drawn.net constraint)) (take k (origins_of drawn constraint))

-- each range that is drawn among the first causes can be drawn when moved
abbrev pub CauseCanMove : (Ends → Ends) → Drawn → List DrawnNumber → ℕ → ℕ → Type 0
CauseCanMove move drawn numbers constraint k =
    (c : Cause) (o : Origin) → slice_get (causes_at drawn.net constraint) k ≡ Some c → slice_get (origins_of drawn constraint) k ≡ Some o
    → IsTrue (any_draws numbers (part_of_target drawn constraint) o) → IsRange (move c.range)

pub causes_more : (move : Ends → Ends) (drawn : Drawn) (numbers : List DrawnNumber) (constraint k : ℕ) (part : List ℕ) (origins : List Origin) (c : Cause) (o : Origin) (is_drawn : Bool)
    (moved : Cause) (old new : List Cause) → OriginsFit drawn.net drawn.origins → part ≡ part_of_target drawn constraint → origins ≡ origins_of drawn constraint
    → slice_get (causes_at drawn.net constraint) k ≡ Some c → slice_get origins k ≡ Some o → is_drawn ≡ any_draws numbers part o → moved ≡ moved_if move is_drawn c
    → old ≡ front_causes move drawn numbers constraint k → new ≡ old ++ moved ∷ [] → new ≡ front_causes move drawn numbers constraint (k + 1)
causes_more move drawn numbers constraint k part origins c o is_drawn moved old new fit is_part is_origins at_c at_o test is before pushed =
    let own : slice_get (origins_of drawn constraint) k ≡ Some o = subst (λ (os : List Origin). slice_get os k ≡ Some o) is_origins at_o in
    let right : moved ≡ moved_if move (any_draws numbers (part_of_target drawn constraint) o) c =
    is ∙ (ap (λ (b : Bool). moved_if move b c) test ∙ ap (λ (p : List ℕ). moved_if move (any_draws numbers p o) c) is_part) in
    pushed ∙ (ap (λ (cs : List Cause). cs ++ moved ∷ []) before
    ∙ (ap (λ (x : Cause). front_causes move drawn numbers constraint k ++ x ∷ []) right
    ∙ sym (each_next (cause_moved move (any_draws numbers (part_of_target drawn constraint))) (causes_at drawn.net constraint) (origins_of drawn constraint) k c o
    (same_count drawn constraint fit) at_c own)))

pub can_more : (move : Ends → Ends) (drawn : Drawn) (numbers : List DrawnNumber) (constraint k : ℕ) (part : List ℕ) (origins : List Origin) (c : Cause) (o : Origin) (is_drawn : Bool)
    → part ≡ part_of_target drawn constraint → origins ≡ origins_of drawn constraint
    → slice_get (causes_at drawn.net constraint) k ≡ Some c → slice_get origins k ≡ Some o → is_drawn ≡ any_draws numbers part o → (IsTrue is_drawn → IsRange (move c.range))
    → ((j : ℕ) → j < k → CauseCanMove move drawn numbers constraint j) → (j : ℕ) → j < k + 1 → CauseCanMove move drawn numbers constraint j
can_more move drawn numbers constraint k part origins c o is_drawn is_part is_origins at_c at_o test can before =
    let own : slice_get (origins_of drawn constraint) k ≡ Some o = subst (λ (os : List Origin). slice_get os k ≡ Some o) is_origins at_o in
    let right : is_drawn ≡ any_draws numbers (part_of_target drawn constraint) o = test ∙ ap (λ (p : List ℕ). any_draws numbers p o) is_part in
    let here : CauseCanMove move drawn numbers constraint k = λ d p at_d at_p is.
    let same_c : d ≡ c = same_Some d c (sym at_d ∙ at_c) in
    let same_o : p ≡ o = same_Some p o (sym at_p ∙ own) in
    subst (λ (x : Cause). IsRange (move x.range)) (sym same_c)
    (can (right ∙ (ap (λ (x : Origin). any_draws numbers (part_of_target drawn constraint) x) (sym same_o) ∙ is))) in
    below_more (CauseCanMove move drawn numbers constraint) k before here

-- all causes
pub causes_whole : (move : Ends → Ends) (drawn : Drawn) (numbers : List DrawnNumber) (constraint k : ℕ) (items : List Cause) → OriginsFit drawn.net drawn.origins
    → length (origins_of drawn constraint) ≤ k → items ≡ front_causes move drawn numbers constraint k → items ≡ causes_moved move drawn numbers constraint
causes_whole move drawn numbers constraint k items fit all is =
    let same : length (origins_of drawn constraint) ≡ length (causes_at drawn.net constraint) = same_count drawn constraint fit in
    let first : take k (causes_at drawn.net constraint) ≡ causes_at drawn.net constraint = take_all k (causes_at drawn.net constraint) (omega (arith, same, all)) in
    let second : take k (origins_of drawn constraint) ≡ origins_of drawn constraint = take_all k (origins_of drawn constraint) all in
    let by : List Cause → List Origin → List Cause = each_by (cause_moved move (any_draws numbers (part_of_target drawn constraint))) in
    is ∙ (ap (λ (cs : List Cause). by cs (take k (origins_of drawn constraint))) first ∙ ap (λ (os : List Origin). by (causes_at drawn.net constraint) os) second)

pub drawable_whole : (move : Ends → Ends) (drawn : Drawn) (numbers : List DrawnNumber) (constraint k : ℕ) → OriginsFit drawn.net drawn.origins
    → length (origins_of drawn constraint) ≤ k → ((j : ℕ) → j < k → CauseCanMove move drawn numbers constraint j)
    → AreDrawable (any_draws numbers (part_of_target drawn constraint)) (causes_moved move drawn numbers constraint) (origins_of drawn constraint)
drawable_whole move drawn numbers constraint k fit all can =
    let test : Origin → Bool = any_draws numbers (part_of_target drawn constraint) in
    zip_from_each (λ (c : Cause) (o : Origin). IsTrue (test o) → IsRange c.range) (cause_moved move test) (causes_at drawn.net constraint) (origins_of drawn constraint)
    (same_count drawn constraint fit)
    (λ j c o at_c at_o.
    let within : j < length (origins_of drawn constraint) = slice_get_within (origins_of drawn constraint) j o at_o in
    range_if move (test o) c (can j (omega (arith, within, all)) c o at_c at_o))

-- a range that can't be drawn
pub drawable_at : (move : Ends → Ends) (drawn : Drawn) (numbers : List DrawnNumber) (constraint k : ℕ) (part : List ℕ) (origins : List Origin) (c : Cause) (o : Origin) (is_drawn : Bool)
    → part ≡ part_of_target drawn constraint → origins ≡ origins_of drawn constraint
    → slice_get (causes_at drawn.net constraint) k ≡ Some c → slice_get origins k ≡ Some o → is_drawn ≡ any_draws numbers part o
    → AreDrawable (any_draws numbers (part_of_target drawn constraint)) (causes_moved move drawn numbers constraint) (origins_of drawn constraint)
    → IsTrue is_drawn → IsRange (move c.range)
drawable_at move drawn numbers constraint k part origins c o is_drawn is_part is_origins at_c at_o test all is =
    let own_test : Origin → Bool = any_draws numbers (part_of_target drawn constraint) in
    let own : slice_get (origins_of drawn constraint) k ≡ Some o = subst (λ (os : List Origin). slice_get os k ≡ Some o) is_origins at_o in
    let right : is_drawn ≡ own_test o = test ∙ ap (λ (p : List ℕ). any_draws numbers p o) is_part in
    range_back move (own_test o) c
    (each_from_zip (λ (d : Cause) (p : Origin). IsTrue (own_test p) → IsRange d.range) (cause_moved move own_test) (causes_at drawn.net constraint) (origins_of drawn constraint) all k c o at_c own)
    (sym right ∙ is)

-- the moved causes have the events of the causes
pub events_moved : (move : Ends → Ends) (drawn : Drawn) (numbers : List DrawnNumber) (constraint : ℕ) (items : List Cause) → items ≡ causes_moved move drawn numbers constraint
    → HasEventsOf drawn.net constraint items
events_moved move drawn numbers constraint items is =
    let test : Origin → Bool = any_draws numbers (part_of_target drawn constraint) in
    ap (λ (cs : List Cause). map (λ (c : Cause). c.event) cs) is
    ∙ map_kept (λ (c : Cause). c.event) (cause_moved move test) (λ c o. event_kept move (test o) c) (causes_at drawn.net constraint) (origins_of drawn constraint)

-- ---- the constraints

-- the first constraints, moved
abbrev pub front_moved : (Ends → Ends) → Drawn → List DrawnNumber → ℕ → Net
front_moved move drawn numbers k =
    record drawn.net { constraints = each_by (constraint_moved move drawn numbers) (take k drawn.net.constraints) (take k drawn.origins) }

-- each constraint has a list of origins
pub fit_length : (drawn : Drawn) → OriginsFit drawn.net drawn.origins → length drawn.origins ≡ length drawn.net.constraints
fit_length drawn fit =
    sym (length-map drawn.origins length) ∙ (ap length fit ∙ length-map drawn.net.constraints (λ (c : Constraint). length c.causes))

-- the causes of a constraint that is there
causes_there : (move : Ends → Ends) (drawn : Drawn) (numbers : List DrawnNumber) (c : Constraint) (o : List Origin) (x : Option Constraint) (y : Option (List Origin)) → x ≡ Some c → y ≡ Some o
    → each_by (cause_moved move (any_draws numbers (unwrap_or (option_map (λ (d : Constraint). (name_of drawn d.target).part) x) []))) (unwrap_or (option_map (λ (d : Constraint). d.causes) x) [])
    (unwrap_or y []) ≡ (constraint_moved move drawn numbers c o).causes
causes_there move drawn numbers c o x y at_x at_y =
    let by : Option Constraint → Option (List Origin) → List Cause = λ p q. each_by (cause_moved move (any_draws numbers (unwrap_or (option_map (λ (d : Constraint). (name_of drawn d.target).part) p) [])))
    (unwrap_or (option_map (λ (d : Constraint). d.causes) p) []) (unwrap_or q []) in
    ap (λ (p : Option Constraint). by p y) at_x ∙ ap (λ (q : Option (List Origin)). by (Some c) q) at_y

pub net_more : (move : Ends → Ends) (drawn : Drawn) (numbers : List DrawnNumber) (k : ℕ) (causes : List Cause) (old new : Net) → OriginsFit drawn.net drawn.origins
    → k < length drawn.net.constraints → causes ≡ causes_moved move drawn numbers k → old ≡ front_moved move drawn numbers k
    → IsSomeAnd (slice_get drawn.net.constraints k) (λ c. new ≡ with_constraint old (record c { causes = causes })) → new ≡ front_moved move drawn numbers (k + 1)
net_more move drawn numbers k causes old new fit within made before pushed =
    let same : length drawn.origins ≡ length drawn.net.constraints = fit_length drawn fit in
    let c = found_below drawn.net.constraints k within in
    let o = found_below drawn.origins k (omega (arith, same, within)) in
    let P : Option Constraint → Type 0 = λ x. IsSomeAnd x (λ d. new ≡ with_constraint old (record d { causes = causes })) in
    let added : new ≡ with_constraint old (record c.0 { causes = causes }) = subst P c.1 pushed in
    let is : causes ≡ (constraint_moved move drawn numbers c.0 o.0).causes =
    made ∙ causes_there move drawn numbers c.0 o.0 (slice_get drawn.net.constraints k) (slice_get drawn.origins k) c.1 o.1 in
    added ∙ (ap (λ (n : Net). with_constraint n (record c.0 { causes = causes })) before
    ∙ (ap (λ (cs : List Cause). with_constraint (front_moved move drawn numbers k) (record c.0 { causes = cs })) is
    ∙ ap (λ (cs : List Constraint). record drawn.net { constraints = cs })
    (sym (each_next (constraint_moved move drawn numbers) drawn.net.constraints drawn.origins k c.0 o.0 same c.1 o.1))))

-- there is room for each constraint
pub room_more : (move : Ends → Ends) (drawn : Drawn) (numbers : List DrawnNumber) (k : ℕ) (net : Net) → IsNet drawn.net → k < length drawn.net.constraints
    → net ≡ front_moved move drawn numbers k → length net.constraints < MAX_CONSTRAINTS
room_more move drawn numbers k net is_net within is =
    let count : length (front_moved move drawn numbers k).constraints ≡ length (take k drawn.net.constraints) =
    each_length (constraint_moved move drawn numbers) (take k drawn.net.constraints) (take k drawn.origins) in
    let front : length (take k drawn.net.constraints) ≡ k = length-take-le k drawn.net.constraints (omega (arith, within)) in
    let most : length drawn.net.constraints ≤ MAX_CONSTRAINTS = is_net.count in
    subst (λ (n : Net). length n.constraints < MAX_CONSTRAINTS) (sym is) (omega (arith, count, front, within, most))

-- all constraints
pub net_whole : (move : Ends → Ends) (drawn : Drawn) (numbers : List DrawnNumber) (k : ℕ) (net : Net) → OriginsFit drawn.net drawn.origins
    → length drawn.net.constraints ≤ k → net ≡ front_moved move drawn numbers k → net ≡ net_moved move drawn numbers
net_whole move drawn numbers k net fit all is =
    let same : length drawn.origins ≡ length drawn.net.constraints = fit_length drawn fit in
    let first : take k drawn.net.constraints ≡ drawn.net.constraints = take_all k drawn.net.constraints all in
    let second : take k drawn.origins ≡ drawn.origins = take_all k drawn.origins (omega (arith, same, all)) in
    let by : List Constraint → List (List Origin) → Net = λ cs os. record drawn.net { constraints = each_by (constraint_moved move drawn numbers) cs os } in
    is ∙ (ap (λ (cs : List Constraint). by cs (take k drawn.origins)) first ∙ ap (λ (os : List (List Origin)). by drawn.net.constraints os) second)

-- the ranges of the causes of a constraint can be drawn when moved
abbrev pub CanMove : (Ends → Ends) → Drawn → List DrawnNumber → ℕ → Type 0
CanMove move drawn numbers k = AreDrawable (any_draws numbers (part_of_target drawn k)) (causes_moved move drawn numbers k) (origins_of drawn k)

abbrev can_by : (Ends → Ends) → Drawn → List DrawnNumber → Option Constraint → Option (List Origin) → Type 0
can_by move drawn numbers p q =
    AreDrawable (any_draws numbers (unwrap_or (option_map (λ (d : Constraint). (name_of drawn d.target).part) p) []))
    (each_by (cause_moved move (any_draws numbers (unwrap_or (option_map (λ (d : Constraint). (name_of drawn d.target).part) p) [])))
    (unwrap_or (option_map (λ (d : Constraint). d.causes) p) []) (unwrap_or q [])) (unwrap_or q [])

-- what ranges of a moved network wants of a constraint and the origins of its causes
abbrev CanDraw : Drawn → List DrawnNumber → Constraint → List Origin → Type 0
CanDraw drawn numbers c o = AreDrawable (any_draws numbers (name_of drawn c.target).part) c.causes o

pub ranges_whole : (move : Ends → Ends) (drawn : Drawn) (numbers : List DrawnNumber) (k : ℕ) → OriginsFit drawn.net drawn.origins → length drawn.net.constraints ≤ k
    → ((j : ℕ) → j < k → CanMove move drawn numbers j) → HasDrawableCauses (record drawn { net = net_moved move drawn numbers }) numbers
ranges_whole move drawn numbers k fit all can =
    zip_from_each (CanDraw drawn numbers) (constraint_moved move drawn numbers) drawn.net.constraints drawn.origins (fit_length drawn fit)
    (λ j c o at_c at_o.
    let within : j < length drawn.net.constraints = slice_get_within drawn.net.constraints j c at_c in
    let own : can_by move drawn numbers (slice_get drawn.net.constraints j) (slice_get drawn.origins j) = can j (omega (arith, within, all)) in
    subst (λ (p : Option Constraint). can_by move drawn numbers p (Some o)) at_c
    (subst (λ (q : Option (List Origin)). can_by move drawn numbers (slice_get drawn.net.constraints j) q) at_o own))

pub ranges_at : (move : Ends → Ends) (drawn : Drawn) (numbers : List DrawnNumber) (k : ℕ) → OriginsFit drawn.net drawn.origins → k < length drawn.net.constraints
    → HasDrawableCauses (record drawn { net = net_moved move drawn numbers }) numbers → CanMove move drawn numbers k
ranges_at move drawn numbers k fit within all =
    let same : length drawn.origins ≡ length drawn.net.constraints = fit_length drawn fit in
    let c = found_below drawn.net.constraints k within in
    let o = found_below drawn.origins k (omega (arith, same, within)) in
    let own : can_by move drawn numbers (Some c.0) (Some o.0) =
    each_from_zip (CanDraw drawn numbers) (constraint_moved move drawn numbers) drawn.net.constraints drawn.origins all k c.0 o.0 c.1 o.1 in
    subst (λ (p : Option Constraint). can_by move drawn numbers p (slice_get drawn.origins k)) (sym c.1)
    (subst (λ (q : Option (List Origin)). can_by move drawn numbers (Some c.0) q) (sym o.1) own)

-- ---- cause choices

choices_by : (F : Constraint → List Origin → Constraint)
    → ((c : Constraint) (o : List Origin) → choices_of (F c o).kind (length (F c o).causes) ≡ choices_of c.kind (length c.causes))
    → (ks : List Constraint) (drew : List (List Origin)) → cause_choices (each_by F ks drew) ≡ cause_choices ks
choices_by F same [] drew = refl
choices_by F same (c ∷ ks) [] = refl
choices_by F same (c ∷ ks) (o ∷ drew) =
    ap (λ n. n * cause_choices (each_by F ks drew)) (same c o) ∙ ap (λ n. choices_of c.kind (length c.causes) * n) (choices_by F same ks drew)

-- a move leaves the number of cause choices as it is
pub choices_kept : (move : Ends → Ends) (drawn : Drawn) (numbers : List DrawnNumber) (net : Net) → net ≡ net_moved move drawn numbers
    → cause_choices net.constraints ≡ cause_choices drawn.net.constraints
choices_kept move drawn numbers net is =
    ap (λ (n : Net). cause_choices n.constraints) is
    ∙ choices_by (constraint_moved move drawn numbers)
    (λ c o. ap (choices_of c.kind) (each_length (cause_moved move (any_draws numbers (name_of drawn c.target).part)) c.causes o)) drawn.net.constraints drawn.origins
