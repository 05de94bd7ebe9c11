-- The numbers of a drawing, cause by cause.
use Rattle.std.proofs.Common.{◌≡◌, ◌<◌, ◌≤◌, ◌+◌, ℕ, List, [], length, take, zip, fold, Option, Some, option_map, slice_get, sym, ap, subst, ◌∙◌, arith}
use Rattle.std.specs.Prelude.{unwrap_or}
use Rattle.std.proofs.lemmas.List.{take_all}
use Rattle.std.proofs.lemmas.List.Sums.{fold_push}
use Rattle.origin.specs.declared.origin.Origin.{Origin}
use Rattle.event_graph.specs.declared.cause.Cause.{Cause}
use Rattle.event_graph.specs.Network.{Constraint}
use Rattle.drawn_networks.specs.Drawn.{Drawn, OriginsFit, name_of}
use Rattle.drawn_networks.specs.declared.row.Row.{Row}
use Rattle.drawn_numbers.specs.Numbers.{origins_of, part_of_target}
use Rattle.moves.specs.declared.number_seen.NumberSeen.{NumberSeen}
use Rattle.moves.specs.Listed.{all_numbers_of, numbers_of, with_cause, with_causes, with_kind}
use Rattle.moves.specs.Step.{causes_at}
use Rattle.moves.proofs.Lists.{zip_at, zip_short}
use Rattle.moves.proofs.Moved.{fit_length}
use Rattle.itv_base.proofs.Lists.{found_below, take_get}

-- a fold over the first elements, and one more
fold_next : {A B : Type 0} (f : B → A → B) (start old new : B) (xs : List A) (k : ℕ) (x : A) → slice_get xs k ≡ Some x → old ≡ fold f start (take k xs) → new ≡ f old x
    → new ≡ fold f start (take (k + 1) xs)
fold_next f start old new xs k x at before is =
    is ∙ (ap (λ b. f b x) before ∙ (sym (fold_push f start (take k xs) x) ∙ ap (λ ys. fold f start ys) (sym (take_get xs k x at))))

-- the first causes of a constraint, and one more
pub seen_more : (drawn : Drawn) (constraint k : ℕ) (part : List ℕ) (origins : List Origin) (c : Cause) (o : Origin) (start old new : List NumberSeen)
    → part ≡ part_of_target drawn constraint → origins ≡ origins_of drawn constraint → slice_get (causes_at drawn.net constraint) k ≡ Some c → slice_get origins k ≡ Some o
    → old ≡ fold (with_cause (part_of_target drawn constraint)) start (take k (zip (causes_at drawn.net constraint) (origins_of drawn constraint)))
    → new ≡ with_cause part old (c, o)
    → new ≡ fold (with_cause (part_of_target drawn constraint)) start (take (k + 1) (zip (causes_at drawn.net constraint) (origins_of drawn constraint)))
seen_more drawn constraint k part origins c o start old new is_part is_origins at_c at_o before is =
    let own : slice_get (origins_of drawn constraint) k ≡ Some o = subst (λ (os : List Origin). slice_get os k ≡ Some o) is_origins at_o in
    fold_next (with_cause (part_of_target drawn constraint)) start old new (zip (causes_at drawn.net constraint) (origins_of drawn constraint)) k (c, o)
    (zip_at (causes_at drawn.net constraint) (origins_of drawn constraint) k c o at_c own) before (is ∙ ap (λ (p : List ℕ). with_cause p old (c, o)) is_part)

pub seen_whole : (drawn : Drawn) (constraint k : ℕ) (start items : List NumberSeen) → length (origins_of drawn constraint) ≤ k
    → items ≡ fold (with_cause (part_of_target drawn constraint)) start (take k (zip (causes_at drawn.net constraint) (origins_of drawn constraint)))
    → items ≡ fold (with_cause (part_of_target drawn constraint)) start (zip (causes_at drawn.net constraint) (origins_of drawn constraint))
seen_whole drawn constraint k start items all is =
    let short : length (zip (causes_at drawn.net constraint) (origins_of drawn constraint)) ≤ length (origins_of drawn constraint) =
    zip_short (causes_at drawn.net constraint) (origins_of drawn constraint) in
    is ∙ ap (λ (xs : List (Cause × Origin)). fold (with_cause (part_of_target drawn constraint)) start xs)
    (take_all k (zip (causes_at drawn.net constraint) (origins_of drawn constraint)) (omega (arith, short, all)))

-- the causes of a constraint that is there
added_there : (drawn : Drawn) (c : Constraint) (o : List Origin) (x : Option Constraint) (y : Option (List Origin)) (seen : List NumberSeen) → x ≡ Some c → y ≡ Some o
    → fold (with_cause (unwrap_or (option_map (λ (d : Constraint). (name_of drawn d.target).part) x) [])) seen
    (zip (unwrap_or (option_map (λ (d : Constraint). d.causes) x) []) (unwrap_or y [])) ≡ with_causes drawn seen (c, o)
added_there drawn c o x y seen at_x at_y =
    let by : Option Constraint → Option (List Origin) → List NumberSeen = λ p q. fold (with_cause (unwrap_or (option_map (λ (d : Constraint). (name_of drawn d.target).part) p) [])) seen
    (zip (unwrap_or (option_map (λ (d : Constraint). d.causes) p) []) (unwrap_or q [])) in
    ap (λ (p : Option Constraint). by p y) at_x ∙ ap (λ (q : Option (List Origin)). by (Some c) q) at_y

-- the first constraints, and one more
pub numbers_more : (drawn : Drawn) (k : ℕ) (old new : List NumberSeen) → OriginsFit drawn.net drawn.origins → k < length drawn.net.constraints
    → old ≡ fold (with_causes drawn) [] (take k (zip drawn.net.constraints drawn.origins))
    → new ≡ fold (with_cause (part_of_target drawn k)) old (zip (causes_at drawn.net k) (origins_of drawn k))
    → new ≡ fold (with_causes drawn) [] (take (k + 1) (zip drawn.net.constraints drawn.origins))
numbers_more drawn k old new fit within before is =
    let same : length drawn.origins ≡ length drawn.net.constraints = fit_length drawn fit in
    let c = found_below drawn.net.constraints k within in
    let o = found_below drawn.origins k (omega (arith, same, within)) in
    fold_next (with_causes drawn) [] old new (zip drawn.net.constraints drawn.origins) k (c.0, o.0)
    (zip_at drawn.net.constraints drawn.origins k c.0 o.0 c.1 o.1) before
    (is ∙ added_there drawn c.0 o.0 (slice_get drawn.net.constraints k) (slice_get drawn.origins k) old c.1 o.1)

pub numbers_whole : (drawn : Drawn) (k : ℕ) (items : List NumberSeen) → OriginsFit drawn.net drawn.origins → length drawn.net.constraints ≤ k
    → items ≡ fold (with_causes drawn) [] (take k (zip drawn.net.constraints drawn.origins)) → items ≡ numbers_of drawn
numbers_whole drawn k items fit all is =
    let same : length drawn.origins ≡ length drawn.net.constraints = fit_length drawn fit in
    let short : length (zip drawn.net.constraints drawn.origins) ≤ length drawn.origins = zip_short drawn.net.constraints drawn.origins in
    is ∙ ap (λ (xs : List (Constraint × List Origin)). fold (with_causes drawn) [] xs) (take_all k (zip drawn.net.constraints drawn.origins) (omega (arith, short, same, all)))

-- ---- rows

-- some numbers, with the number behind a row
abbrev pub seen_with : Drawn → List NumberSeen → Row → List NumberSeen
seen_with drawn seen row = with_kind (name_of drawn row.from).part seen row.origin row.kind

-- the first rows, and one more
pub rows_more : (drawn : Drawn) (k : ℕ) (rows : List Row) (row : Row) (old new : List NumberSeen) → rows ≡ drawn.rows → slice_get rows k ≡ Some row
    → old ≡ fold (seen_with drawn) (numbers_of drawn) (take k drawn.rows) → new ≡ seen_with drawn old row
    → new ≡ fold (seen_with drawn) (numbers_of drawn) (take (k + 1) drawn.rows)
rows_more drawn k rows row old new same at before is =
    fold_next (seen_with drawn) (numbers_of drawn) old new drawn.rows k row (subst (λ (rs : List Row). slice_get rs k ≡ Some row) same at) before is

pub rows_whole : (drawn : Drawn) (k : ℕ) (items : List NumberSeen) → length drawn.rows ≤ k → items ≡ fold (seen_with drawn) (numbers_of drawn) (take k drawn.rows)
    → items ≡ all_numbers_of drawn
rows_whole drawn k items all is = is ∙ ap (λ (rs : List Row). fold (seen_with drawn) (numbers_of drawn) rs) (take_all k drawn.rows all)
