-- What is drawn of a row.
use Rattle.std.proofs.Common.{◌≡◌, ◌<◌, ℕ, zero, suc, ℤ, List, [], ◌∷◌, All, IsSomeAnd, length, Some, slice_get, unwrap_or, ◌∙◌, sym, ap, subst, arith}
use Rattle.itv_base.specs.Range.{Ends}
use Rattle.event_graph.proofs.EdgesMet.{All-found}
use Rattle.drawn_networks.specs.declared.row.Row.{Row}
use Rattle.drawn_networks.specs.Drawn.{Drawn, IsRowOf, name_of}
use Rattle.redraw.specs.declared.drawn_event.DrawnEvent.{DrawnEvent}
use Rattle.redraw.specs.Narrowing.{narrowed, widest_gap}
use Rattle.redraw.specs.Order.{ordered_events}
use Rattle.redraw.specs.Drawing.{demand_of, nowhere, row_stands, sketch_of, sketched, stands_of}
use Rattle.redraw.specs.Step.{IsStand}
use Rattle.redraw.specs.Text.{redrawn, sketch_text}
use Rattle.redraw.proofs.Same.{narrowed_same}

pub at_row : (drawn : Drawn) (asked : Row) (times : List ℤ) → length times ≡ drawn.net.events → asked.from.0 < drawn.net.events → asked.to.0 < drawn.net.events
    → row_stands drawn.net.events asked (narrowed widest_gap times) ≡ stands_of (ordered_events asked.from asked.to (length times) times)
at_row drawn asked times count in_from in_to =
    narrowed_same drawn.net.events asked times count in_from in_to ∙ ap (λ n. stands_of (ordered_events asked.from asked.to n times)) (sym count)

pub redrawn_is : (drawn : Drawn) (row : ℕ) (asked : Row) (times : List ℤ) → slice_get drawn.rows row ≡ Some asked → length times ≡ drawn.net.events
    → asked.from.0 < drawn.net.events → asked.to.0 < drawn.net.events
    → redrawn drawn row times ≡ sketch_text (sketch_of (name_of drawn) asked.from asked.to (demand_of asked.kind) (stands_of (ordered_events asked.from asked.to (length times) times)))
unfolding redrawn sketched
redrawn_is drawn row asked times there count in_from in_to =
    ap (λ (r : Row). sketch_text (sketch_of (name_of drawn) r.from r.to (demand_of r.kind) (row_stands drawn.net.events r (narrowed widest_gap times)))) (ap (λ o. unwrap_or o nowhere) there)
    ∙ ap (λ ss. sketch_text (sketch_of (name_of drawn) asked.from asked.to (demand_of asked.kind) ss)) (at_row drawn asked times count in_from in_to)

-- the same with the rows and the row number as the code has them
pub redrawn_at : (drawn : Drawn) (rows : List Row) (row number : ℕ) (asked : Row) (range : Ends) (times : List ℤ) → rows ≡ drawn.rows → All (IsRowOf drawn.net) rows → number ≡ row
    → slice_get rows number ≡ Some asked → length times ≡ drawn.net.events → range ≡ demand_of asked.kind
    → sketch_text (sketch_of (name_of drawn) asked.from asked.to range (stands_of (ordered_events asked.from asked.to (length times) times))) ≡ redrawn drawn row times
redrawn_at drawn rows row number asked range times same all at there count demanded =
    let within = All-found (IsRowOf drawn.net) rows number asked there all in
    let shown : slice_get drawn.rows row ≡ Some asked = ap (λ l. slice_get l row) (sym same) ∙ ap (λ n. slice_get rows n) (sym at) ∙ there in
    ap (λ ends. sketch_text (sketch_of (name_of drawn) asked.from asked.to ends (stands_of (ordered_events asked.from asked.to (length times) times)))) demanded
    ∙ sym (redrawn_is drawn row asked times shown count within.0 within.1)

pub stand_at : (n m : ℕ) (stands : List DrawnEvent) → n ≡ m → All (IsStand n) stands → All (IsStand m) stands
stand_at n m stands e h = subst (λ k. All (IsStand k) stands) e h

pub some_within : (rows : List Row) (i : ℕ) (P : Row → Type 0) → IsSomeAnd (slice_get rows i) P → i < length rows
some_within [] i P h = absurd h
some_within (r ∷ rs) zero P h = omega arith
some_within (r ∷ rs) (suc i) P h = omega (arith, some_within rs i P h)

pub some_at : (rows others : List Row) (i : ℕ) (asked : Row) (P : Row → Type 0) → rows ≡ others → slice_get rows i ≡ Some asked → IsSomeAnd (slice_get others i) P → P asked
some_at rows others i asked P same at h = subst (λ o. IsSomeAnd o P) (ap (λ l. slice_get l i) (sym same) ∙ at) h
