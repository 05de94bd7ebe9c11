use Rattle.std.proofs.Common.{◌≡◌, ◌∙◌, ap, sym, length}
use Rattle.std.proofs.lemmas.List.{length-map}
use Rattle.std.proofs.lemmas.Result.{IfOk-at_ok, err_from_is_err_and}
use Rattle.compose.specs.Compose.{composed_on}
use Rattle.compose.specs.Design.{IsDesign}
use Rattle.compose.specs.Sheets.{sheets_of}
use Rattle.compose.proofs.ComposeSteps.{joins-fault, wires-fault, composed-ok}
use Rattle.compose.proofs.PartSheets.{seen}
use Rattle.compose.proofs.WholeDesigns.{composed_whole}
use Rattle.compose.proofs.composing.compose.Goals as goal

pub returns-in_err-joins : goal.returns-in_err-joins
returns-in_err-joins c =
    let p = err_from_is_err_and c.from_residual-in_err-joins.result c.from_residual-in_err-joins.ensures.1 in
    let parts = c.as_slice-parts.ensures.items ∙ c.parts.ensures.parts in
    let drawn : seen c.in_ok-drawn.drawn.items ≡ sheets_of c.args.sheets.now c.args.netlist.now.parts = c.in_ok-drawn.ensures.found ∙ ap (sheets_of c.args.sheets.now) parts in
    rw (p.1, p.2, ← drawn)
    (record { answer = joins-fault c.args.netlist.now (seen c.in_ok-drawn.drawn.items) c.in_err-joins.field-0.0 (rw (parts, c.deref.ensures.value, c.as_slice.ensures.items, c.nets.ensures.nets) at c.in_err-joins.ensures) })

pub returns-in_err-wires : goal.returns-in_err-wires
returns-in_err-wires c =
    let p = err_from_is_err_and c.from_residual-in_err-wires.result c.from_residual-in_err-wires.ensures.1 in
    let parts = c.as_slice-parts.ensures.items ∙ c.parts.ensures.parts in
    let drawn : seen c.in_ok-drawn.drawn.items ≡ sheets_of c.args.sheets.now c.args.netlist.now.parts = c.in_ok-drawn.ensures.found ∙ ap (sheets_of c.args.sheets.now) parts in
    let joined = rw (parts, c.deref.ensures.value, c.as_slice.ensures.items, c.nets.ensures.nets) at c.in_ok-joins.ensures in
    rw (p.1, p.2, ← drawn)
    (record {
      answer = wires-fault c.args.netlist.now (seen c.in_ok-drawn.drawn.items) c.in_ok-joins.joins joined c.in_err-wires.field-0.0
          (rw (parts, c.deref-2.ensures.value, c.as_slice-2.ensures.items, c.wires.ensures.wires) at c.in_err-wires.ensures);
    })

pub invariant_of-result : goal.invariant_of-result
invariant_of-result c =
    let parts = c.as_slice-parts.ensures.items ∙ c.parts.ensures.parts in
    let sheets = seen c.in_ok-drawn.drawn.items in
    let joined = rw (parts, c.deref.ensures.value, c.as_slice.ensures.items, c.nets.ensures.nets) at c.in_ok-joins.ensures in
    let read = rw (parts, c.deref-2.ensures.value, c.as_slice-2.ensures.items, c.wires.ensures.wires) at c.in_ok-wires.ensures in
    let names = rw parts at c.in_ok-parts.ensures in
    let made = composed-ok c.args.netlist.now sheets c.in_ok-joins.joins joined c.in_ok-wires.wires c.cycles-cycles.result c.in_ok-parts.parts read c.cycles-cycles.ensures.cycles names in
    let long : length sheets ≡ length c.args.netlist.now.parts = length-map c.in_ok-drawn.drawn.items (λ s. s.now) ∙ c.in_ok-drawn.ensures.count ∙ ap length parts in
    IfOk-at_ok IsDesign made (composed_whole c.args.netlist.now sheets c.cycles-cycles.ensures.netlist c.in_ok-drawn.ensures.whole long)

pub returns : goal.returns
returns c =
    let parts = c.as_slice-parts.ensures.items ∙ c.parts.ensures.parts in
    let sheets = seen c.in_ok-drawn.drawn.items in
    let drawn : sheets ≡ sheets_of c.args.sheets.now c.args.netlist.now.parts = c.in_ok-drawn.ensures.found ∙ ap (sheets_of c.args.sheets.now) parts in
    let joined = rw (parts, c.deref.ensures.value, c.as_slice.ensures.items, c.nets.ensures.nets) at c.in_ok-joins.ensures in
    let read = rw (parts, c.deref-2.ensures.value, c.as_slice-2.ensures.items, c.wires.ensures.wires) at c.in_ok-wires.ensures in
    let names = rw parts at c.in_ok-parts.ensures in
    let made = composed-ok c.args.netlist.now sheets c.in_ok-joins.joins joined c.in_ok-wires.wires c.cycles-cycles.result c.in_ok-parts.parts read c.cycles-cycles.ensures.cycles names in
    record { answer = ap (composed_on c.args.netlist.now) (sym drawn) ∙ made }
