use Rattle.std.proofs.Common.{◌∙◌, ◌<◌, ◌≤◌, ap, sym, length, map, Err, arith}
use Rattle.std.proofs.lemmas.Bool.{le-leb, lt-leb}
use Rattle.std.proofs.lemmas.List.{length-map}
use Rattle.std.proofs.lemmas.Result.{err_from_is_err_and}
use Rattle.serde_json.specs.View.{view}
use Rattle.itv_base.specs.declared.limits.TheConstants.{MAX_PARTS, MAX_SHEET_NAMES}
use Rattle.netlist.specs.declared.fault.NetlistFault.TheVariants.{TooManySheets}
use Rattle.netlist.specs.Netlist.{sheet_names}
use Rattle.netlist.proofs.NetlistSteps.{parts-none, parts-many, parts-fault, parts-sheets, parts-ok}
use Rattle.netlist.proofs.read.parts_of.Goals as goal

pub returns-in_default-clause-parts : goal.returns-in_default-clause-parts
returns-in_default-clause-parts c = parts-none (view c.args.tree.now) c.args.version (sym c.in_default.ensures)

pub returns-then-count-gt-MAX_PARTS-clause-parts : goal.returns-then-count-gt-MAX_PARTS-clause-parts
returns-then-count-gt-MAX_PARTS-clause-parts c =
    let long = length-map c.in-Some.list.now view in
    let many : MAX_PARTS < length (map view c.in-Some.list.now) = omega (arith, long, c.if-count-gt-MAX_PARTS.true) in
    rw long at (parts-many (view c.args.tree.now) c.args.version _ (sym c.in-Some.ensures) (lt-leb _ _ many))

pub returns-in_err-parts-clause-parts : goal.returns-in_err-parts-clause-parts
returns-in_err-parts-clause-parts c =
    let p = err_from_is_err_and c.from_residual.result c.from_residual.ensures.1 in
    let few : length (map view c.in-Some.list.now) ≤ MAX_PARTS = omega (arith, length-map c.in-Some.list.now view, c.if-count-gt-MAX_PARTS.false) in
    rw (p.1, p.2) (parts-fault (view c.args.tree.now) c.args.version _ (sym c.in-Some.ensures) (le-leb _ _ few) c.in_err-parts.field-0.0 c.in_err-parts.ensures)

pub returns-then-len-gt-MAX_SHEET_NAMES-clause-parts : goal.returns-then-len-gt-MAX_SHEET_NAMES-clause-parts
returns-then-len-gt-MAX_SHEET_NAMES-clause-parts c =
    let few : length (map view c.in-Some.list.now) ≤ MAX_PARTS = omega (arith, length-map c.in-Some.list.now view, c.if-count-gt-MAX_PARTS.false) in
    let names = c.in_ok-sheet_names.ensures ∙ ap sheet_names c.as_slice.ensures.items in
    let many : MAX_SHEET_NAMES < length (sheet_names c.in_ok-parts.parts) = omega (arith, c.len.ensures.count, ap length names, c.if-len-gt-MAX_SHEET_NAMES.true) in
    parts-sheets (view c.args.tree.now) c.args.version _ (sym c.in-Some.ensures) (le-leb _ _ few) _ c.in_ok-parts.ensures (lt-leb _ _ many)
    ∙ ap (λ n. Err (TooManySheets n)) (sym (c.len-then-len-gt-MAX_SHEET_NAMES.ensures.count ∙ ap length names))

pub returns-clause-parts : goal.returns-clause-parts
returns-clause-parts c =
    let few : length (map view c.in-Some.list.now) ≤ MAX_PARTS = omega (arith, length-map c.in-Some.list.now view, c.if-count-gt-MAX_PARTS.false) in
    let names = c.in_ok-sheet_names.ensures ∙ ap sheet_names c.as_slice.ensures.items in
    let some : length (sheet_names c.in_ok-parts.parts) ≤ MAX_SHEET_NAMES = omega (arith, c.len.ensures.count, ap length names, c.if-len-gt-MAX_SHEET_NAMES.false) in
    parts-ok (view c.args.tree.now) c.args.version _ (sym c.in-Some.ensures) (le-leb _ _ few) _ c.in_ok-parts.ensures (le-leb _ _ some)
