-- A line that was read, and the place after it.
use Rattle.slack_report.specs.declared.owned.OwnedItem.{OwnedItem}
use Rattle.slack_report.specs.declared.place.Place.{Place}
use Rattle.slack_report.specs.Entry.{Entry}
use Rattle.slack_report.specs.Items.{owned_view}

-- a line that was read, and the place after it
abbrev pub step_view : OwnedItem × Place → Entry × Place
step_view step = (owned_view step.0, step.1)
