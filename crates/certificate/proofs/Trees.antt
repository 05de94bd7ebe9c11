-- Lines of a proof are stored with their edges in one row.
use Rattle.std.proofs.Common.{◌≡◌, ◌+◌, ◌-◌, ◌<◌, ◌≤◌, ℕ, zero, suc, List, [], ◌∷◌, ◌++◌, length, get_or, take, drop, Some, slice_get, refl, sym, ap, subst, ◌∙◌, arith, length-append, zero-add}
use Rattle.std.specs.List.{sum_by}
use Rattle.std.proofs.lemmas.List.{drop-append-le, length-drop, length-take, take-append-le, take_all}
use Rattle.std.proofs.lemmas.List.Sums.{sum_by-append}
use Rattle.std.proofs.Math.Seq.{drop-append_seam}
use Rattle.itv_base.specs.declared.names.EdgeName.{EdgeName}
use Rattle.certificate.specs.declared.stored.Stored.{Stored}
use Rattle.certificate.specs.declared.stored.StoredKind.{StoredKind}
use Rattle.certificate.specs.declared.stored.StoredKind.TheVariants as kinds
use Rattle.certificate.specs.Scribing.{FitsTree, edge_count}
use Rattle.certificate.specs.Step.Stored.{EndsRise, IsSplitEnd, start_from, start_of, stored_line, stored_lines}

-- ---- where edges begin and end

end_above : (start : ℕ) (kind : StoredKind) (end : ℕ) → IsSplitEnd start kind end → start ≤ end
end_above start (kinds.Split constraint) end h = omega arith
end_above start kinds.Path end h = h
end_above start kinds.Loop end h = h

ends_above : (start : ℕ) (stored : List Stored) (last : ℕ) → EndsRise start stored last → start ≤ last
ends_above start [] last h = omega arith
ends_above start (s ∷ stored) last h =
    let here : start ≤ s.end = end_above start s.kind s.end h.0 in
    let rest : s.end ≤ last = ends_above s.end stored last h.1 in
    omega arith

ends_more : (start : ℕ) (stored : List Stored) (last : ℕ) (s : Stored) → EndsRise start stored last → IsSplitEnd last s.kind s.end → EndsRise start (stored ++ s ∷ []) s.end
ends_more start [] last s h e = (subst (λ n. IsSplitEnd n s.kind s.end) (sym h) e, refl)
ends_more start (t ∷ stored) last s h e = (h.0, ends_more t.end stored last s h.1 e)

end_shifts : (kind : StoredKind) (count last : ℕ) → IsSplitEnd 0 kind count → IsSplitEnd last kind (last + count)
end_shifts (kinds.Split constraint) count last h = omega arith
end_shifts kinds.Path count last h = omega arith
end_shifts kinds.Loop count last h = omega arith

-- ---- one line of them

pub starts_at_zero : (stored : List Stored) (k : ℕ) → k ≡ 0 → 0 ≡ start_of stored k
starts_at_zero [] k h = refl
starts_at_zero (s ∷ stored) k h = rw h refl

starts_behind : (start : ℕ) (stored : List Stored) (k : ℕ) (d : Stored) → suc k < length stored → start_from start stored (suc k) ≡ (get_or stored k d).end
starts_behind start [] k d h = absurd (omega arith)
starts_behind start (s ∷ []) zero d h = refl
starts_behind start (s ∷ t ∷ stored) zero d h = refl
starts_behind start (s ∷ stored) (suc k) d h = starts_behind s.end stored k d (omega arith)

pub starts_at_end : (stored : List Stored) (k : ℕ) (d : Stored) → k < length stored → (k ≡ 0 → ⊥) → (get_or stored (k - 1) d).end ≡ start_of stored k
starts_at_end stored zero d h other = absurd (other refl)
starts_at_end stored (suc k) d h other =
    let before : suc k - 1 ≡ k = omega arith in
    rw before (sym (starts_behind 0 stored k d h))

pub stored_at : (start : ℕ) (stored : List Stored) (edges : List EdgeName) (k : ℕ) (d : Stored) → k < length stored
    → slice_get (stored_lines start stored edges) k ≡ Some (stored_line (get_or stored k d).kind (take ((get_or stored k d).end - start_from start stored k) (drop (start_from start stored k) edges)))
stored_at start [] edges k d h = absurd (omega arith)
stored_at start (s ∷ stored) edges zero d h = refl
stored_at start (s ∷ stored) edges (suc k) d h = stored_at s.end stored edges k d (omega arith)

ends_within : (start : ℕ) (stored : List Stored) (last k : ℕ) (d : Stored) → EndsRise start stored last → k < length stored
    → (start_from start stored k ≤ (get_or stored k d).end) × ((get_or stored k d).end ≤ last)
ends_within start [] last k d ends h = absurd (omega arith)
ends_within start (s ∷ stored) last zero d ends h = (end_above start s.kind s.end ends.0, ends_above s.end stored last ends.1)
ends_within start (s ∷ stored) last (suc k) d ends h = ends_within s.end stored last k d ends.1 (omega arith)

pub part_within : (stored : List Stored) (last k : ℕ) (d : Stored) → EndsRise 0 stored last → k < length stored
    → (start_of stored k ≤ (get_or stored k d).end) × ((get_or stored k d).end ≤ last)
part_within stored last k d ends h = ends_within 0 stored last k d ends h

-- the line has its kind and its part of the edges
pub line_is : (stored : List Stored) (all part : List EdgeName) (k start : ℕ) (d : Stored) (kind : StoredKind) → k < length stored → start ≡ start_of stored k
    → part ≡ take ((get_or stored k d).end - start) (drop start all) → (get_or stored k d).kind ≡ kind
    → slice_get (stored_lines 0 stored all) k ≡ Some (stored_line kind part)
line_is stored all part k start d kind h begins is same =
    stored_at 0 stored all k d h ∙ rw (← begins, ← is, same) refl

-- ---- one line more

pub length-stored : (start : ℕ) (stored : List Stored) (edges : List EdgeName) → length (stored_lines start stored edges) ≡ length stored
length-stored start [] edges = refl
length-stored start (s ∷ stored) edges = ap suc (length-stored s.end stored edges)

-- a part of a row of edges is unchanged by what is put after the row
part_same : (start end : ℕ) (all more : List EdgeName) → start ≤ end → end ≤ length all → take (end - start) (drop start (all ++ more)) ≡ take (end - start) (drop start all)
part_same start end all more h k =
    let within : start ≤ length all = omega arith in
    let short : end - start ≤ length (drop start all) = omega (arith, length-drop start all) in
    ap (take (end - start)) (drop-append-le start all more within) ∙ take-append-le (end - start) (drop start all) more short

stored_more : (start : ℕ) (stored : List Stored) (all more : List EdgeName) (s : Stored) → EndsRise start stored (length all) → s.end ≡ length all + length more
    → stored_lines start (stored ++ s ∷ []) (all ++ more) ≡ stored_lines start stored all ++ stored_line s.kind more ∷ []
stored_more start [] all more s ends last =
    let count : s.end - start ≡ length more = omega arith in
    let part : take (s.end - start) (drop start (all ++ more)) ≡ more =
    rw (count, ends) (ap (take (length more)) (drop-append_seam all more) ∙ take_all (length more) more (omega arith)) in
    ap (λ edges. stored_line s.kind edges ∷ []) part
stored_more start (t ∷ stored) all more s ends last =
    let low : start ≤ t.end = end_above start t.kind t.end ends.0 in
    let high : t.end ≤ length all = ends_above t.end stored (length all) ends.1 in
    ap (λ edges. stored_line t.kind edges ∷ stored_lines t.end (stored ++ s ∷ []) (all ++ more)) (part_same start t.end all more low high)
    ∙ ap (λ lines. stored_line t.kind (take (t.end - start) (drop start all)) ∷ lines) (stored_more t.end stored all more s ends.1 last)

-- the ends still rise after a line that is kept
pub kept_ends : (stored : List Stored) (all more : List EdgeName) (kind : StoredKind) (end : ℕ) → EndsRise 0 stored (length all) → IsSplitEnd 0 kind (length more) → end ≡ length (all ++ more)
    → EndsRise 0 (stored ++ (record { kind = kind; end = end }) ∷ []) (length (all ++ more))
kept_ends stored all more kind end ends is last =
    let count : length all + length more ≡ length (all ++ more) = sym (length-append all more) in
    rw (last, ← count) (ends_more 0 stored (length all) (record { kind = kind; end = length all + length more }) ends (end_shifts kind (length more) (length all) is))

pub kept_lines : (stored : List Stored) (all more : List EdgeName) (kind : StoredKind) (end : ℕ) → EndsRise 0 stored (length all) → end ≡ length (all ++ more)
    → stored_lines 0 (stored ++ (record { kind = kind; end = end }) ∷ []) (all ++ more) ≡ stored_lines 0 stored all ++ stored_line kind more ∷ []
kept_lines stored all more kind end ends last =
    stored_more 0 stored all more (record { kind = kind; end = end }) ends (last ∙ length-append all more)

-- ---- the edges of all lines

edges_line : (start end : ℕ) (kind : StoredKind) (all : List EdgeName) → IsSplitEnd start kind end → end ≤ length all
    → edge_count (stored_line kind (take (end - start) (drop start all))) + start ≡ end
edges_line start end (kinds.Split constraint) all is h = omega arith
edges_line start end kinds.Path all is h = omega (arith, length-take (end - start) (drop start all), length-drop start all)
edges_line start end kinds.Loop all is h = omega (arith, length-take (end - start) (drop start all), length-drop start all)

stored_sum : (start : ℕ) (stored : List Stored) (last : ℕ) (all : List EdgeName) → EndsRise start stored last → last ≤ length all
    → sum_by edge_count (stored_lines start stored all) + start ≡ last
stored_sum start [] last all ends h = omega arith
stored_sum start (s ∷ stored) last all ends h =
    let high : s.end ≤ last = ends_above s.end stored last ends.1 in
    let here : edge_count (stored_line s.kind (take (s.end - start) (drop start all))) + start ≡ s.end = edges_line start s.end s.kind all ends.0 (omega arith) in
    let rest : sum_by edge_count (stored_lines s.end stored all) + s.end ≡ last = stored_sum s.end stored last all ends.1 h in
    let whole : sum_by edge_count (stored_lines start (s ∷ stored) all) ≡ edge_count (stored_line s.kind (take (s.end - start) (drop start all))) + sum_by edge_count (stored_lines s.end stored all) =
    sum_by-append edge_count (stored_line s.kind (take (s.end - start) (drop start all)) ∷ []) (stored_lines s.end stored all)
    ∙ ap (λ n. n + sum_by edge_count (stored_lines s.end stored all)) (zero-add (edge_count (stored_line s.kind (take (s.end - start) (drop start all))))) in
    omega arith

edges_in_line : (kind : StoredKind) (edges : List EdgeName) → IsSplitEnd 0 kind (length edges) → edge_count (stored_line kind edges) ≡ length edges
edges_in_line (kinds.Split constraint) edges h = sym h
edges_in_line kinds.Path edges h = refl
edges_in_line kinds.Loop edges h = refl

-- a line that is not kept does not fit beside the lines that are kept
pub too_full : (stored : List Stored) (all edges : List EdgeName) (kind : StoredKind) (line_room edge_room : ℕ) → EndsRise 0 stored (length all) → IsSplitEnd 0 kind (length edges)
    → ((length stored < line_room) × (length all + length edges ≤ edge_room) → ⊥) → FitsTree line_room edge_room (stored_lines 0 stored all ++ stored_line kind edges ∷ []) → ⊥
too_full stored all edges kind line_room edge_room ends is full fits =
    let lines : length (stored_lines 0 stored all ++ stored_line kind edges ∷ []) ≡ length stored + 1 = length-append (stored_lines 0 stored all) (stored_line kind edges ∷ []) ∙ ap (λ n. n + 1) (length-stored 0 stored all) in
    let sum : sum_by edge_count (stored_lines 0 stored all ++ stored_line kind edges ∷ []) ≡ sum_by edge_count (stored_lines 0 stored all) + edge_count (stored_line kind edges) = sum_by-append edge_count (stored_lines 0 stored all) (stored_line kind edges ∷ [])
    ∙ ap (λ n. sum_by edge_count (stored_lines 0 stored all) + n) (zero-add (edge_count (stored_line kind edges))) in
    let all_edges : sum_by edge_count (stored_lines 0 stored all) + 0 ≡ length all = stored_sum 0 stored (length all) all ends (omega arith) in
    let here : edge_count (stored_line kind edges) ≡ length edges = edges_in_line kind edges is in
    let line_fits : length (stored_lines 0 stored all ++ stored_line kind edges ∷ []) ≤ line_room = fits.0 in
    let edges_fit : sum_by edge_count (stored_lines 0 stored all ++ stored_line kind edges ∷ []) ≤ edge_room = fits.1 in
    full (omega arith, omega arith)
