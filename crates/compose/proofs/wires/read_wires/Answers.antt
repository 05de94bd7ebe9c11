use Rattle.std.proofs.Common.{◌≡◌, ◌∙◌, [], ◌∷◌, ◌++◌, refl, sym, ap}
use Rattle.std.specs.Option.{option_to_list}
use Rattle.std.proofs.lemmas.Result.{err_from_is_err_and}
use Rattle.label_grammar.specs.Label.{label_view}
use Rattle.origin.specs.declared.origin.Origin.TheVariants.{Wire as FromWire}
use Rattle.sheet.specs.Links.{Link, row_by}
use Rattle.sheet.proofs.EdgeWalk.{ArePlaces-from_StandsFor, link_rows-push}
use Rattle.compose.specs.Wires.{wire_link}
use Rattle.compose.proofs.PartSheets.{seen}
use Rattle.compose.proofs.WireWalk.{wires_full, wire-full, wire-link}
use Rattle.compose.proofs.wires.read_wires.Goals as goal

pub push_link-requires : goal.push_link-requires
push_link-requires c =
    let before = c.loop-n.invariant in
    ArePlaces-from_StandsFor [] before.links c.loop-n.rules.items c.loop-n.places before.stands

pub returns-in_err-push_link : goal.returns-in_err-push_link
returns-in_err-push_link c =
    let p = err_from_is_err_and c.from_residual-in_err-push_link.result c.from_residual-in_err-push_link.ensures.1 in
    let before = c.loop-n.invariant in
    let sheets = seen c.args.sheets.now in
    let raw : Link = record { from = c.number_of.result; to = c.number_of-in-loop-n.result; origin = FromWire c.loop-n.n; label = label_view c.label_of-label.result } in
    let linked : raw ≡ wire_link sheets c.loop-n.n c.in-Some.wire c.in_ok-ends.ends = rw (c.number_of.ensures, c.number_of-in-loop-n.ensures, c.label_of-label.ensures) refl in
    let full = rw linked at (c.in_err-push_link.ensures.adds [] before.links before.stands) in
    rw (p.1, p.2, ← before.left)
    (wires_full c.args.parts.now sheets c.args.wires.now c.loop-n.n before.links c.in_err-push_link.field-0.0
    (wire-full c.args.parts.now sheets c.args.wires.now before.links c.loop-n.n c.index-wires-n.result c.loop-n-test.true c.index-wires-n.is c.in-Some.wire c.in-Some.is c.in_ok-ends.ends c.in_ok-ends.ensures.found c.in_err-push_link.field-0.0 full))

pub loop-n-preserved : goal.loop-n-preserved
loop-n-preserved c =
    let before = c.loop-n.invariant in
    let sheets = seen c.args.sheets.now in
    let raw : Link = record { from = c.number_of.result; to = c.number_of-in-loop-n.result; origin = FromWire c.loop-n.n; label = label_view c.label_of-label.result } in
    let link = wire_link sheets c.loop-n.n c.in-Some.wire c.in_ok-ends.ends in
    let linked : raw ≡ link = rw (c.number_of.ensures, c.number_of-in-loop-n.ensures, c.label_of-label.ensures) refl in
    let added = rw linked at (c.in_ok-push_link.ensures.adds [] before.links before.stands) in
    let row : c.push_row.new.rows ≡ c.loop-n.rows ++ option_to_list (row_by link link.label.kind) = c.in_ok-push_row.ensures.rows ∙ ap (λ (l : Link). c.loop-n.rows ++ option_to_list (row_by l l.label.kind)) linked in
    record {
      links = before.links ++ link ∷ [];
      stands = added.1;
      asked = rw (row, before.asked) (sym (link_rows-push before.links link));
      left = sym (wire-link c.args.parts.now sheets c.args.wires.now before.links c.loop-n.n c.index-wires-n.result c.loop-n-test.true c.index-wires-n.is c.in-Some.wire c.in-Some.is c.in_ok-ends.ends c.in_ok-ends.ensures.found added.0) ∙ before.left;
    }
