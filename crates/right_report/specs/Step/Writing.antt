-- What a step of a writer of a report promises.
use Rattle.std.specs.Prelude.{Result, Ok, Err}
use Rattle.itv_base.specs.Outside.{SinkState}
use Rattle.drawn_networks.specs.Drawn.{Drawn}
use Rattle.right_report.specs.Right.ReportState.{ReportState}
use Rattle.right_report.specs.Right.Following.{LineClaims}
use Rattle.right_report.specs.Writing.{WroteLines, WroteFront}

-- a step writes lines that lead from a state to the state that its answer names, or a front of such lines if it fails
abbrev pub WritesLines : {B E : Type 0} → LineClaims → Drawn → ReportState → (B → ReportState) → SinkState → SinkState → Result B E → Type 0
WritesLines claims drawn here to old new (Ok x) = WroteLines claims drawn here (to x) old new
WritesLines claims drawn here to old new (Err e) = WroteFront claims drawn here old new
