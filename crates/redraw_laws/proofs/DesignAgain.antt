-- The text of a drawing is read again as a design.
use Rattle.std.proofs.Common.{◌≡◌, ◌↔◌, ℕ, ℤ, List, length, All, Some, ◌∙◌, sym, ap, subst, arith}
use Rattle.std.proofs.lemmas.List.{length-map}
use Rattle.std.proofs.lemmas.Str.{is_utf8-from_IsUtf8}
use Rattle.itv_base.specs.Names.{Name}
use Rattle.itv_base.specs.Outside.{Files, file_of}
use Rattle.itv_base.specs.Range.{Ends, IsRange}
use Rattle.itv_base.specs.declared.names.EventId.{EventId}
use Rattle.event_graph.specs.Edges.{cause_choices}
use Rattle.event_graph.specs.Network.{Net}
use Rattle.event_graph.specs.Satisfying.{Satisfies}
use Rattle.event_graph.specs.Times.{shifted}
use Rattle.drawn_networks.specs.Drawn.{Drawn, name_of}
use Rattle.unroll.specs.Drawn.{drawn_of}
use Rattle.slack_report.specs.Entry.{IsName}
use Rattle.design_reading.specs.Design.{design_at}
use Rattle.design_reading.specs.FileReading.{ready, end_over}
use Rattle.redraw.specs.declared.drawn_event.DrawnEvent.{DrawnEvent}
use Rattle.redraw.specs.declared.drawn_event.Timed.{Timed}
use Rattle.redraw.specs.Drawing.{demand_of, drawn_times, sketch_of, stands_of}
use Rattle.redraw.specs.Order.{ordered_events}
use Rattle.redraw.specs.Text.{redrawn, sketch_text}
use Rattle.redraw.proofs.Farther.{stands_same}
use Rattle.redraw.proofs.Rows.{redrawn_is}
use Rattle.redraw_laws.proofs.ReadAgain.{IsPairDrawn, each_long, each_named, pair_drawn}
use Rattle.redraw_laws.proofs.Chain.{chain_satisfied}
use Rattle.redraw_laws.proofs.Sheets.{IsDrawable, sheet_drawn}
use Rattle.redraw_laws.proofs.Short.{sketch_short}
use Rattle.redraw_laws.proofs.Tree.{reads_tree, sketch_tree}
use Rattle.redraw_laws.proofs.Visible.{sketch_plain, sketch_utf8, sketch_visible}
use Rattle.redraw_laws.specs.DesignAgain.{IsRedrawn, RedrawnIsRead}
use Rattle.redraw_laws.proofs.Files.{file_gives, tree_gives}
use Rattle.redraw_laws.proofs.Lone.{chain_choices, design_drawn, net_is, rows_are}

-- ---- what is read

-- the design that the drawing is read as
abbrev again_of : (EventId → Name) → EventId → EventId → Ends → List DrawnEvent → Drawn
again_of name from to ends ss = drawn_of (design_drawn (sheet_drawn name from to ends ss))

redrawn_as : (name : EventId → Name) (from to : EventId) (ends : Ends) (ss : List DrawnEvent) → IsDrawable name from to ends ss → IsRedrawn ss from to ends (again_of name from to ends ss)
redrawn_as name from to ends ss h = record {
  satisfied = λ times. subst (λ (net : Net). Satisfies times net ↔ ((by : ℤ) × (times ≡ shifted (drawn_times ss) by))) (sym (net_is name from to ends ss h.numbers))
      (chain_satisfied (drawn_times ss) times (omega (arith, h.some, length-map ss (λ (s : DrawnEvent). s.time))));
  choices = ap (λ (net : Net). cause_choices net.constraints) (net_is name from to ends ss h.numbers) ∙ chain_choices (drawn_times ss);
  rows = rows_are name from to ends ss;
}

abbrev ReadsAgain : Files → List ℕ → List DrawnEvent → EventId → EventId → Ends → Type 0
ReadsAgain files file ss from to ends = (again : Drawn) × (end_over files (design_at file) ≡ ready again) × IsRedrawn ss from to ends again

pair_again : (drawn : Drawn) (from to : EventId) (ends : Ends) (xs : List Timed) (files : Files) (file : List ℕ) → length drawn.names ≡ drawn.net.events → All IsName drawn.names → IsRange ends
    → IsPairDrawn drawn from to ends xs → file_of files file ≡ Some (sketch_text (sketch_of (name_of drawn) from to ends (stands_of xs))) → ReadsAgain files file (stands_of xs) from to ends
pair_again drawn from to ends xs files file count named range pair there =
    let names = each_named drawn (stands_of xs) count named pair.stand in
    let visible = sketch_visible (name_of drawn) from to ends (stands_of xs) names pair.drawable.marked pair.in_from pair.in_to in (
      again_of (name_of drawn) from to ends (stands_of xs),
      file_gives files file (sketch_text (sketch_of (name_of drawn) from to ends (stands_of xs))) (sketch_tree (sketch_of (name_of drawn) from to ends (stands_of xs)))
          (again_of (name_of drawn) from to ends (stands_of xs)) there
          (sketch_short (name_of drawn) from to ends drawn.net.events (stands_of xs) pair.drawable.few names pair.stand pair.near range)
          (is_utf8-from_IsUtf8 (sketch_text (sketch_of (name_of drawn) from to ends (stands_of xs))) (sketch_utf8 (sketch_of (name_of drawn) from to ends (stands_of xs)) visible))
          (reads_tree (sketch_of (name_of drawn) from to ends (stands_of xs)) (sketch_plain (sketch_of (name_of drawn) from to ends (stands_of xs)) visible))
          (tree_gives (name_of drawn) from to ends (stands_of xs) file pair.drawable (each_long (name_of drawn) (stands_of xs))),
      redrawn_as (name_of drawn) from to ends (stands_of xs) pair.drawable,
    )

pub redrawn_is_read : RedrawnIsRead
redrawn_is_read drawn row asked ends times files file at_row within demands range count named_count named differ there =
    let pair = pair_drawn drawn asked.from asked.to ends times within.0 within.1 differ range in
    let same = stands_same drawn row asked times at_row count within in
    let at : ordered_events asked.from asked.to (length times) times ≡ ordered_events asked.from asked.to drawn.net.events times = ap (λ n. ordered_events asked.from asked.to n times) count in
    let drawing : redrawn drawn row times ≡ sketch_text (sketch_of (name_of drawn) asked.from asked.to ends (stands_of (ordered_events asked.from asked.to drawn.net.events times))) =
    redrawn_is drawn row asked times at_row count within.0 within.1
    ∙ ap (λ kind. sketch_text (sketch_of (name_of drawn) asked.from asked.to (demand_of kind) (stands_of (ordered_events asked.from asked.to (length times) times)))) demands
    ∙ ap (λ xs. sketch_text (sketch_of (name_of drawn) asked.from asked.to ends (stands_of xs))) at in
    subst (λ ss. ReadsAgain files file ss asked.from asked.to ends) (sym (same ∙ ap stands_of at))
    (pair_again drawn asked.from asked.to ends (ordered_events asked.from asked.to drawn.net.events times) files file named_count named range pair (there ∙ ap (λ text. Some text) drawing))
