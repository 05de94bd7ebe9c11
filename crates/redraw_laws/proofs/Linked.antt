-- The edges of a drawing are read as links between its marks.
use Rattle.std.proofs.Common.{◌≡◌, ◌+◌, ◌-◌, ◌<◌, ◌≤◌, ◌==◌, ℕ, ◌-ℤ◌, true, false, not, List, [], ◌∷◌, ◌++◌, length, map, filter, filter_map, take, Some, Ok, ◌∙◌, refl, sym, ap, append_assoc, append-nil, add-zero, arith, leb-true, ne_eqb}
use Rattle.std.specs.List.{enumerate_from}
use Rattle.std.specs.Char.{is_ascii_graphic}
use Rattle.std.proofs.lemmas.Bool.{and_parts}
use Rattle.std.proofs.lemmas.List.{map-append}
use Rattle.itv_base.specs.Characters.{is_mark}
use Rattle.itv_base.specs.Cuts.{is_space}
use Rattle.itv_base.specs.Range.{Ends}
use Rattle.itv_base.specs.Reading.{walk}
use Rattle.itv_base.specs.declared.names.EventId.{EventId}
use Rattle.itv_base.specs.declared.names.RuleKind.TheVariants as rules
use Rattle.label_grammar.specs.declared.label.Kind.{Kind}
use Rattle.label_grammar.specs.declared.label.Kind.TheVariants.{Lin, Req}
use Rattle.label_grammar.specs.Edge.{edge_of, timing}
use Rattle.label_grammar.specs.Label.{IsProper, LooseLabel, is_timing_label, spelling, version_1}
use Rattle.label_grammar.specs.Reading.{ends_of}
use Rattle.label_grammar.proofs.Judging.{judged_proper}
use Rattle.label_grammar.proofs.Pieces.{ends_invert}
use Rattle.origin.specs.declared.origin.Origin.TheVariants.{Edge}
use Rattle.sheet.specs.declared.mark.Mark.{Mark}
use Rattle.itv_base.specs.declared.row_kind.RowKind.TheVariants as asked
use Rattle.sheet.specs.Links.{Link, joins, plain, link_of, link_rows, link_rules, number_of, rule_opened, source_of, with_edge}
use Rattle.sheet.specs.Rule.{RuleView}
use Rattle.redraw.specs.declared.drawn_event.DrawnEvent.{DrawnEvent}
use Rattle.redraw.specs.declared.drawn_event.TheConstants.{MOST_DRAWN}
use Rattle.redraw.specs.Drawing.{demand_edge, edge_text, exactly, mark_at, number_in, range_label, step_edges, steps_of}
use Rattle.redraw_laws.proofs.Marks.{is_mark_at}
use Rattle.redraw.proofs.Ordered.{Every}

-- ---- the cut of an edge

not_space : (b : ℕ) → is_mark b ≡ true → is_space b ≡ false
not_space b h =
    let graphic = (and_parts (is_ascii_graphic b) (not (b == 46)) h).0 in
    let least : 33 ≤ b = leb-true 33 b (and_parts _ _ graphic).0 in
    ne_eqb b 32 (λ e. omega arith)

edge_seen : (from to : ℕ) (label : LooseLabel Ends) → is_mark from ≡ true → is_mark to ≡ true → is_timing_label (spelling version_1 label) ≡ true
    → edge_of (edge_text from to label) ≡ timing from to (spelling version_1 label)
unfolding edge_of
edge_seen from to label in_from in_to timed = rw (not_space from in_from, not_space to in_to, timed, in_from, in_to) refl

-- ---- one link

abbrev pub link_by : ℕ → ℕ → Kind → Ends → Link
link_by from to kind ends = record { from = from; to = to; origin = Edge 0; label = range_label kind ends }

-- the link, as edge n gives it
abbrev pub read_of : ℕ → Link → Link
read_of n link = record link { origin = Edge n }

-- links, as the edges from a number on give them
abbrev pub read_from : ℕ → List Link → List Link
read_from n [] = []
read_from n (link ∷ links) = read_of n link ∷ read_from (n + 1) links

-- a link between two marks; its kind is linear or a demand
pub record IsSound (marks : List Mark) (link : Link) : Type 0 where
  pub from : number_of marks (mark_at link.from) ≡ Some link.from
  pub to : number_of marks (mark_at link.to) ≡ Some link.to
  pub from_few : link.from < MOST_DRAWN
  pub to_few : link.to < MOST_DRAWN
  pub label : IsProper version_1 link.label
  pub timing : is_timing_label (spelling version_1 link.label) ≡ true
  pub single : (other : Link) → joins link other ≡ false

abbrev pub link_text : Link → List ℕ
link_text link = edge_text (mark_at link.from) (mark_at link.to) link.label

link_read : (marks : List Mark) (n : ℕ) (link : Link) → IsSound marks link → link_of plain marks n (link_text link) ≡ Ok (Some (read_of n link))
unfolding link_of
link_read marks n link h =
    rw (
      edge_seen (mark_at link.from) (mark_at link.to) link.label (is_mark_at link.from h.from_few) (is_mark_at link.to h.to_few) h.timing,
      judged_proper version_1 ends_of ends_invert (spelling version_1 link.label) link.label h.label refl,
      h.from,
      h.to,
    ) refl

none_joins : (link : Link) (links : List Link) → ((other : Link) → joins link other ≡ false) → filter (joins link) links ≡ []
none_joins link [] h = refl
none_joins link (other ∷ links) h = rw (h other) (none_joins link links h)

edge_read : (marks : List Mark) (n : ℕ) (done : List Link) (link : Link) → IsSound marks link → with_edge plain marks n done (link_text link) ≡ Ok (done ++ read_of n link ∷ [])
edge_read marks n done link h = rw (link_read marks n link h, none_joins (read_of n link) done h.single) refl

pub edges_read : (marks : List Mark) (n : ℕ) (done links : List Link) → Every (IsSound marks) links → walk (with_edge plain marks) n done (map link_text links) ≡ Ok (done ++ read_from n links)
edges_read marks n done [] h = ap Ok (sym (append-nil done))
edges_read marks n done (link ∷ links) h =
    rw (edge_read marks n done link h.0) (edges_read marks (n + 1) (done ++ read_of n link ∷ []) links h.1 ∙ ap Ok (append_assoc done (read_of n link ∷ []) (read_from (n + 1) links)))

-- ---- the links of a drawing

abbrev pub step_link : DrawnEvent → DrawnEvent → Link
step_link before s = link_by before.number s.number Lin (exactly (s.time -ℤ before.time))

abbrev pub step_links : DrawnEvent → List DrawnEvent → List Link
step_links before [] = []
step_links before (s ∷ ss) = step_link before s ∷ step_links s ss

abbrev pub links_by : List DrawnEvent → List Link
links_by [] = []
links_by (s ∷ ss) = step_links s ss

abbrev pub demand_link : List DrawnEvent → EventId → EventId → Ends → Link
demand_link stands from to ends = link_by (number_in stands from) (number_in stands to) Req ends

steps_linked : (before : DrawnEvent) (ss : List DrawnEvent) → step_edges before ss ≡ map link_text (step_links before ss)
steps_linked before [] = refl
steps_linked before (s ∷ ss) = ap (λ l. link_text (step_link before s) ∷ l) (steps_linked s ss)

all_linked : (stands : List DrawnEvent) → steps_of stands ≡ map link_text (links_by stands)
all_linked [] = refl
all_linked (s ∷ ss) = steps_linked s ss

pub edges_linked : (stands : List DrawnEvent) (from to : EventId) (ends : Ends)
    → steps_of stands ++ demand_edge stands from to ends ∷ [] ≡ map link_text (links_by stands ++ demand_link stands from to ends ∷ [])
edges_linked stands from to ends =
    ap (λ l. l ++ demand_edge stands from to ends ∷ []) (all_linked stands) ∙ sym (map-append link_text (links_by stands) (demand_link stands from to ends ∷ []))

-- ---- their rules and rows

abbrev pub lin_rule : Link → RuleView
lin_rule link = record { kind = rules.Lin; target = link.to; causes = source_of link ∷ [] }

lin_rules : (all : List Link) (n : ℕ) (before : DrawnEvent) (ss : List DrawnEvent) (last : Link) → last.label.kind ≡ Req
    → filter_map (λ (at : ℕ × Link). rule_opened all (take at.0 all) at.1 at.1.label.kind) (enumerate_from n (read_from n (step_links before ss ++ last ∷ []))) ≡ map lin_rule (read_from n (step_links before ss))
lin_rules all n before [] last e = rw e refl
lin_rules all n before (s ∷ ss) last e = ap (λ l. lin_rule (read_of n (step_link before s)) ∷ l) (lin_rules all (n + 1) s ss last e)

pub rules_linked : (stands : List DrawnEvent) (from to : EventId) (ends : Ends) → 1 ≤ length stands
    → link_rules (read_from 0 (links_by stands ++ demand_link stands from to ends ∷ [])) ≡ map lin_rule (read_from 0 (links_by stands))
rules_linked [] from to ends some = absurd (omega arith)
rules_linked (s ∷ ss) from to ends some =
    lin_rules (read_from 0 (step_links s ss ++ demand_link (s ∷ ss) from to ends ∷ [])) 0 s ss (demand_link (s ∷ ss) from to ends) refl

steps_ask_nothing : (n : ℕ) (before : DrawnEvent) (ss : List DrawnEvent) (last : Link) → link_rows (read_from n (step_links before ss ++ last ∷ [])) ≡ link_rows (read_of (n + length ss) last ∷ [])
steps_ask_nothing n before [] last = ap (λ k. link_rows (read_of k last ∷ [])) (sym (add-zero n))
steps_ask_nothing n before (s ∷ ss) last =
    let same : (n + 1) + length ss ≡ n + length (s ∷ ss) = omega arith in
    steps_ask_nothing (n + 1) s ss last ∙ ap (λ k. link_rows (read_of k last ∷ [])) same

pub rows_linked : (stands : List DrawnEvent) (from to : EventId) (ends : Ends) → 1 ≤ length stands
    → link_rows (read_from 0 (links_by stands ++ demand_link stands from to ends ∷ []))
    ≡ (record { kind = asked.Req ends; from = number_in stands from; to = number_in stands to; shift = 0; origin = Edge (length stands - 1) }) ∷ []
rows_linked [] from to ends some = absurd (omega arith)
rows_linked (s ∷ ss) from to ends some =
    let last : 0 + length ss ≡ length (s ∷ ss) - 1 = omega arith in
    steps_ask_nothing 0 s ss (demand_link (s ∷ ss) from to ends) ∙ ap (λ k. link_rows (read_of k (demand_link (s ∷ ss) from to ends) ∷ [])) last
