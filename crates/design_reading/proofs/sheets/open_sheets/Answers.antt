use Rattle.std.specs.Prelude.{⊤}
use Rattle.std.proofs.Common.{◌∙◌, ◌+◌, ap, sym, Some, arith}
use Rattle.itv_base.proofs.Lists.{drop-read}
use Rattle.compose.specs.Sheets.{SheetMap}
use Rattle.design_reading.specs.Design.{sheets_in, sheets_of_files}
use Rattle.design_reading.proofs.Opens.{each_end, each_next, each_stop}
use Rattle.design_reading.proofs.sheets.open_sheets.Goals as goal

pub returns-in_err-open_file : goal.returns-in_err-open_file
returns-in_err-open_file g c =
    let read = c.get.ensures.item ∙ ap Some (sym c.as_text.ensures.text) in
    rw (← c.sheet_names-names.ensures.names)
    (each_stop (sheets_in c.args.netlist.now) (g.H.Shelf.state c.args.shelf.now) (g.H.Shelf.state c.loop-k.shelf) (g.H.Shelf.state c.open_file.new.shelf) (sheets_of_files c.args.netlist.now c.sheet_names-names.result.now) c.sheet_names-names.result.now (c.loop-k.k + 1) c.loop-k.k
    c.as_text.result.now c.loop-k.sheets.entries (drop-read c.sheet_names-names.result.now c.loop-k.k c.as_text.result.now read) c.loop-k.invariant (λ (_ : ⊤). c.open_file.new.sheets.entries) (λ (m : SheetMap). m.entries) c.in_err-open_file.field-0.0 c.from_residual.result
    c.from_residual.ensures.1 c.in_err-open_file.ensures)

pub loop-k-preserved : goal.loop-k-preserved
loop-k-preserved g c =
    let read = c.get.ensures.item ∙ ap Some (sym c.as_text.ensures.text) in
    each_next (sheets_in c.args.netlist.now) (g.H.Shelf.state c.args.shelf.now) (g.H.Shelf.state c.loop-k.shelf) (g.H.Shelf.state c.open_file.new.shelf) (sheets_of_files c.args.netlist.now c.sheet_names-names.result.now) c.sheet_names-names.result.now (c.loop-k.k + 1) c.loop-k.k
    c.as_text.result.now c.loop-k.sheets.entries (drop-read c.sheet_names-names.result.now c.loop-k.k c.as_text.result.now read) c.loop-k.invariant (λ (_ : ⊤). c.open_file.new.sheets.entries) tt c.in_ok-open_file.ensures

pub returns : goal.returns
returns g c =
    rw (← c.sheet_names-names.ensures.names)
    (each_end (sheets_in c.args.netlist.now) (g.H.Shelf.state c.args.shelf.now) (g.H.Shelf.state c.loop-k.shelf) (sheets_of_files c.args.netlist.now c.sheet_names-names.result.now) c.sheet_names-names.result.now (c.loop-k.k + 1) c.loop-k.k (λ (m : SheetMap). m.entries) c.loop-k.sheets
    (omega (arith, c.len-k-end.ensures.count, c.loop-k-test.false)) c.loop-k.invariant)
