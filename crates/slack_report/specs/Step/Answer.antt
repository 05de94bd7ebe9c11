-- What the reader within this crate answers for a text.
use Rattle.std.specs.Prelude.{◌≡◌, ◌+◌, ℕ, List, Result, Ok, Err}
use Rattle.slack_report.specs.declared.fault.ReportFault.{ReportFault}
use Rattle.slack_report.specs.declared.fault.ReportFault.TheVariants as faults
use Rattle.slack_report.specs.Entry.{Entry}
use Rattle.slack_report.specs.Reading.{Read}

-- A fault gives the line after the lines that were read, unless memory ran out.
abbrev pub IsFaultOf : ReportFault → Read → Type 0
IsFaultOf (faults.Line line) read = (before : ℕ) × (read ≡ Err before) × (line ≡ before + 1)
IsFaultOf faults.NoMemory read = Unit {0}

-- the answer is what reading the text gives, unless memory ran out
abbrev pub IsAnswer : Result (List Entry) ReportFault → Read → Type 0
IsAnswer (Ok entries) read = read ≡ Ok entries
IsAnswer (Err fault) read = IsFaultOf fault read
