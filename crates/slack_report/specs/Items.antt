-- The entries of lines that are stored and of lines that are lent.
use Rattle.std.specs.Prelude.{List, map}
use Rattle.itv_base.specs.Names.{Name, name_view}
use Rattle.event_graph.specs.Lines.{lent_line}
use Rattle.certificate.specs.Owned.{line_view}
use Rattle.slack_report.specs.declared.item.Item.{Item}
use Rattle.slack_report.specs.declared.item.Item.TheVariants as given
use Rattle.slack_report.specs.declared.owned.OwnedItem.{OwnedItem}
use Rattle.slack_report.specs.declared.owned.OwnedItem.TheVariants as items
use Rattle.slack_report.specs.declared.owned.OwnedName.{OwnedName}
use Rattle.slack_report.specs.Entry.{Entry, heading, budget, events, event, proof, finding, times, rows, row, bound, raise, verdict, slack, ending}

-- ---- lines that are stored

abbrev pub owned_name : OwnedName → Name
owned_name name = record { part = name.part; mark = name.mark; cycle = name.cycle }

abbrev pub owned_view : OwnedItem → Entry
owned_view items.Heading = heading
owned_view (items.Budget most) = budget most
owned_view (items.Events count) = events count
owned_view (items.Event number name) = event number (owned_name name)
owned_view (items.Proof line) = proof (line_view line)
owned_view (items.Finding word) = finding word
owned_view (items.Times list) = times list.items
owned_view (items.Rows count) = rows count
owned_view (items.Row number kind from to) = row number kind (owned_name from) (owned_name to)
owned_view (items.Bound which value) = bound which value
owned_view (items.Raise set) = raise set.items
owned_view (items.Verdict word) = verdict word
owned_view (items.Slack value) = slack value
owned_view (items.End word) = ending word

-- the entries of lines that are stored
abbrev pub views : List OwnedItem → List Entry
views items = map owned_view items

-- the entry of a line that is lent
abbrev pub item_view : Item → Entry
item_view given.Heading = heading
item_view (given.Budget most) = budget most
item_view (given.Events count) = events count
item_view (given.Event number name) = event number (name_view name)
item_view (given.Proof line) = proof (lent_line line)
item_view (given.Finding word) = finding word
item_view (given.Times list) = times list.now
item_view (given.Rows count) = rows count
item_view (given.Row number kind from to) = row number kind (name_view from) (name_view to)
item_view (given.Bound which value) = bound which value
item_view (given.Raise set) = raise set.now
item_view (given.Verdict word) = verdict word
item_view (given.Slack value) = slack value
item_view (given.End word) = ending word
