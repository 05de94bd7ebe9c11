use Rattle.std.proofs.Common.{length}
use Rattle.slack_report.specs.Reading.{report_in}
use Rattle.slack_report.specs.Step.Within.{IsPlaceWithin}
use Rattle.slack_report.proofs.Gathering.{SoFar}
use Rattle.slack_report.proofs.read.read_items.Given as goal

abbrev pub invariant-loop-line : goal.invariant-loop-line
invariant-loop-line l = record {
  within : IsPlaceWithin l.place;
  so_far : SoFar l.items.items l.place l.rest (report_in l.bytes);
}

abbrev pub decreases-loop-line : goal.decreases-loop-line
decreases-loop-line l = length l.rest
