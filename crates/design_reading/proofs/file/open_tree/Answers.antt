use Rattle.std.proofs.Common.{ℕ, List}
use Rattle.serde_json.specs.View.{view}
use Rattle.itv_base.specs.declared.limits.TheConstants.{FILE_LIMIT}
use Rattle.design_reading.specs.FileReading.{file_at}
use Rattle.design_reading.specs.Design.{tree_at}
use Rattle.design_reading.proofs.Opens.{opens_then, opens_up}
use Rattle.design_reading.proofs.file.open_tree.Goals as goal

pub returns-in_err-bytes : goal.returns-in_err-bytes
returns-in_err-bytes g c =
    opens_up (λ (b : List ℕ). b) view (file_at c.args.place c.args.name.now FILE_LIMIT) (λ bytes. tree_at c.args.place bytes) (g.H.Shelf.state c.args.shelf.now) (g.H.Shelf.state c.fetch_file.new.shelf) c.in_err-bytes.field-0.0 c.from_residual.result
    c.from_residual.ensures.1 c.in_err-bytes.ensures.opens

pub returns : goal.returns
returns g c =
    opens_then (λ (b : List ℕ). b) view (file_at c.args.place c.args.name.now FILE_LIMIT) (λ bytes. tree_at c.args.place bytes) (g.H.Shelf.state c.args.shelf.now) (g.H.Shelf.state c.fetch_file.new.shelf) (g.H.Shelf.state c.fetch_file.new.shelf) c.in_ok-bytes.bytes c.read_tree.result
    c.in_ok-bytes.ensures.opens (rw c.as_slice.ensures.items at (c.read_tree.ensures (g.H.Shelf.state c.fetch_file.new.shelf)))
