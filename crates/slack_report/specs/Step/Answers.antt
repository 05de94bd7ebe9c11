-- What the reader answers for a text, with the lines that are stored.
use Rattle.std.specs.Prelude.{◌≡◌, Result, Ok, Err}
use Rattle.std.specs.Global.{Vec}
use Rattle.slack_report.specs.declared.fault.ReportFault.{ReportFault}
use Rattle.slack_report.specs.declared.owned.OwnedItem.{OwnedItem}
use Rattle.slack_report.specs.Step.Answer.{IsFaultOf}
use Rattle.slack_report.specs.Items.{views}
use Rattle.slack_report.specs.Reading.{Read}

abbrev pub IsItemsRead : Result (Vec OwnedItem) ReportFault → Read → Type 0
IsItemsRead (Ok items) read = read ≡ Ok (views items.items)
IsItemsRead (Err fault) read = IsFaultOf fault read
