use Rattle.std.specs.Prelude.{⊤}
use Rattle.serde_json.specs.View.{view}
use Rattle.design_reading.specs.declared.refusal_place.RefusalPlace.TheVariants.{File}
use Rattle.design_reading.specs.Design.{sheets_at, tree_in}
use Rattle.design_reading.proofs.Opens.{opens_then, opens_up}
use Rattle.design_reading.proofs.sheets.open_file.Goals as goal

pub returns-in_err-tree : goal.returns-in_err-tree
returns-in_err-tree g c =
    opens_up view (λ (_ : ⊤). c.args.sheets.now.entries) (tree_in (File c.args.number) c.args.name.now) (λ tree. sheets_at c.args.netlist.now c.args.number c.args.sheets.now.entries c.args.name.now tree) (g.H.Shelf.state c.args.shelf.now) (g.H.Shelf.state c.open_tree.new.shelf)
    c.in_err-tree.field-0.0 c.from_residual.result c.from_residual.ensures.1 c.in_err-tree.ensures

pub returns : goal.returns
returns g c =
    opens_then view (λ (_ : ⊤). c.read_sheets.new.sheets.entries) (tree_in (File c.args.number) c.args.name.now) (λ tree. sheets_at c.args.netlist.now c.args.number c.args.sheets.now.entries c.args.name.now tree) (g.H.Shelf.state c.args.shelf.now) (g.H.Shelf.state c.open_tree.new.shelf)
    (g.H.Shelf.state c.open_tree.new.shelf) c.in_ok-tree.tree c.read_sheets.result c.in_ok-tree.ensures (c.read_sheets.ensures (g.H.Shelf.state c.open_tree.new.shelf))
