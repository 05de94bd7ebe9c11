-- Laws on what the jobs write.
use Rattle.std.specs.Prelude.{◌≡◌, ℕ, true, List, All, map, zip}
use Rattle.itv_base.specs.Outside.{ShelfState}
use Rattle.slack_report.specs.Entry.{Entry}
use Rattle.slack_report.specs.Text.{report_text}
use Rattle.right_report.specs.Texts.{IsAcceptedText}
use Rattle.origin.specs.declared.origin.Origin.{Origin}
use Rattle.origin.specs.declared.origin.Origin.TheVariants.{Lane}
use Rattle.event_graph.specs.Network.{Constraint}
use Rattle.event_graph.specs.declared.cause.Cause.{Cause}
use Rattle.drawn_networks.specs.Drawn.{Drawn, name_of}
use Rattle.moves.specs.Listed.{numbers_of}
use Rattle.moves.specs.Moving.{any_draws}
use Rattle.moves.specs.declared.number_seen.NumberSeen.{NumberSeen}
use Rattle.design_reading.specs.Design.{design_at}
use Rattle.design_reading.specs.FileReading.{RunsTo, ready}
use Rattle.job_bounds.specs.Reports.{IsWrittenReport}

-- if the reading of a design gives a drawn network, and job bounds writes a report for it with the lines of proofs, job check accepts the text of
-- this report for the network
abbrev pub OwnReportIsAccepted : Type 0
OwnReportIsAccepted = (shelf : ShelfState) (design : List ℕ) (drawn : Drawn) (most : ℕ) (lines : List Entry) → RunsTo shelf (design_at design) (ready drawn)
    → IsWrittenReport drawn most true lines → IsAcceptedText drawn (report_text lines)

-- what this draws is drawn by a number of a list, if it is not the order of a lane
abbrev pub IsListed : List NumberSeen → List ℕ → Origin → Type 0
IsListed listed part (Lane lane) = Unit {0}
IsListed listed part origin = any_draws (map (λ (seen : NumberSeen). seen.number) listed) part origin ≡ true

-- the numbers of a drawing are all: each cause of each constraint is drawn by one of them, or by the order of a lane
abbrev pub NumbersAreAll : Type 0
NumbersAreAll = (drawn : Drawn)
    → All (λ (drew : Constraint × List Origin). All (λ (at : Cause × Origin). IsListed (numbers_of drawn) (name_of drawn drew.0.target).part at.1) (zip drew.0.causes drew.1))
    (zip drawn.net.constraints drawn.origins)
