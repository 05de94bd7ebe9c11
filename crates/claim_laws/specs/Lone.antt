-- What a lone sheet draws: a file without a netlist, in its one cycle.
use Rattle.std.specs.Prelude.{◌≡◌, ℕ, true, List, ◌++◌, length, map, Some, None, is_some, Ok, codes}
use Rattle.std.specs.List.{filter_map}
use Rattle.std.specs.Str.{is_utf8}
use Rattle.serde_json.specs.Data.{Data, Items}
use Rattle.serde_json.specs.Find.{as_object, get}
use Rattle.serde_json.specs.Read.{read}
use Rattle.itv_base.specs.Outside.{Files, file_of}
use Rattle.wavejson.specs.Drawing.{edge_texts, lanes_in, signal_of}
use Rattle.sheet.specs.declared.mark.Mark.{Mark}
use Rattle.sheet.specs.declared.row.SheetRow.{SheetRow}
use Rattle.sheet.specs.Lanes.{order_rules}
use Rattle.sheet.specs.Links.{Link, link_rows, link_rules, links_of, plain}
use Rattle.sheet.specs.Rule.{RuleView}
use Rattle.sheet.specs.Sheet.{read_marks}
use Rattle.unroll.specs.Cycles.{constraint_in, origins_in, row_in}
use Rattle.drawn_networks.specs.Drawn.{Drawn}

-- the file with a name is a text that reads as this JSON tree, and the tree is an object without the key `itv`
pub record IsLoneFile (files : Files) (name : List ℕ) (tree : Data) : Type 0 where
  pub bytes : List ℕ
  pub is_file : file_of files name ≡ Some bytes
  pub is_text : is_utf8 bytes ≡ true
  pub reads : read bytes ≡ Some tree
  pub is_object : is_some (as_object tree) ≡ true
  pub has_no_key : get (codes "itv") tree ≡ None

-- The events are the marks, as marks of the part `U` in cycle 0. The constraints are the rules all of whose causes are in this cycle, and the rows are those
-- that begin in it.
abbrev pub lone_drawn : List Mark → List RuleView → List SheetRow → Drawn
lone_drawn marks rules rows = record {
  net = record { events = length marks; constraints = filter_map (constraint_in (length marks) 0) rules };
  origins = filter_map (origins_in 0) rules;
  names = map (λ mark. record { part = codes "U"; mark = mark.name; cycle = 0 }) marks;
  rows = filter_map (row_in (length marks) 0) rows;
}

-- The tree draws this as a lone sheet. The lanes have marks, and the texts of the edges are links between them. The rules are the order on the lanes, and then
-- those of the links.
pub record DrawsLone (tree : Data) (drawn : Drawn) : Type 0 where
  pub signal : Items
  pub has_signal : signal_of tree ≡ Some signal
  pub edges : List (List ℕ)
  pub has_edges : edge_texts (get (codes "edge") tree) ≡ Ok edges
  pub marks : List Mark
  pub has_marks : read_marks (lanes_in signal) ≡ Ok marks
  pub links : List Link
  pub has_links : links_of plain marks edges ≡ Ok links
  pub is_drawn : drawn ≡ lone_drawn marks (order_rules (lanes_in signal) ++ link_rules links) (link_rows links)
