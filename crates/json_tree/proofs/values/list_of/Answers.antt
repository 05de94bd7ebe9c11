use Rattle.std.proofs.Common.{◌∙◌, ap, sym, Some, map}
use Rattle.std.specs.Prelude.{option_map}
use Rattle.serde_json.specs.View.{view}
use Rattle.json_tree.specs.Words.{elements}
use Rattle.json_tree.proofs.Elements.{elements-items_view}
use Rattle.json_tree.proofs.values.list_of.Goals as goal

pub returns-in-Some : goal.returns-in-Some
returns-in-Some c = ap Some (ap (map view) c.as_slice.ensures.value ∙ sym (elements-items_view c.in-Some.list.now.items)) ∙ ap (option_map elements) c.in-Some.ensures
