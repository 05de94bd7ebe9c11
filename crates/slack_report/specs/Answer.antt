-- What the reader answers for a text.
use Rattle.std.specs.Prelude.{◌≡◌, ℕ, List, Result, Ok, Err}
use Rattle.slack_report.specs.declared.fault.ReportFault.{ReportFault}
use Rattle.slack_report.specs.declared.fault.ReportFault.TheVariants as faults
use Rattle.slack_report.specs.Entry.{Entry}

-- these lines were read, unless memory ran out
abbrev pub IsRead : Result (List Entry) ReportFault → List Entry → Type 0
IsRead (Ok found) entries = found ≡ entries
IsRead (Err (faults.Line line)) entries = ⊥
IsRead (Err faults.NoMemory) entries = Unit {0}

-- this line was reported as wrong, unless memory ran out
abbrev pub IsLineFault : Result (List Entry) ReportFault → ℕ → Type 0
IsLineFault (Ok found) line = ⊥
IsLineFault (Err (faults.Line named)) line = named ≡ line
IsLineFault (Err faults.NoMemory) line = Unit {0}
