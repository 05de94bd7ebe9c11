-- What the program keeps true of a place: its numbers fit 32 bits.
use Rattle.std.specs.Prelude.{◌+◌, ◌^◌, ◌<◌}
use Rattle.slack_report.specs.declared.place.Place.{Place}
use Rattle.slack_report.specs.declared.place.Place.TheVariants as at
use Rattle.slack_report.specs.declared.place.Spot.{Spot}

abbrev pub IsSpot : Spot → Type 0
IsSpot spot = spot.next + spot.left < 2 ^ 32

abbrev pub IsPlaceWithin : Place → Type 0
IsPlaceWithin at.Heading = Unit {0}
IsPlaceWithin at.Budget = Unit {0}
IsPlaceWithin at.Events = Unit {0}
IsPlaceWithin (at.Event count number more) = number + more + 1 < 2 ^ 32
IsPlaceWithin (at.Finding count) = Unit {0}
IsPlaceWithin (at.FoundTimes count) = Unit {0}
IsPlaceWithin (at.Rows count) = Unit {0}
IsPlaceWithin (at.Row count number more) = number + more + 1 < 2 ^ 32
IsPlaceWithin (at.Bound spot which) = IsSpot spot
IsPlaceWithin (at.Times spot which raises) = IsSpot spot
IsPlaceWithin (at.Raise spot which) = IsSpot spot
IsPlaceWithin (at.Verdict spot) = IsSpot spot
IsPlaceWithin (at.FailTimes spot) = IsSpot spot
IsPlaceWithin (at.Slack spot) = IsSpot spot
IsPlaceWithin at.End = Unit {0}
IsPlaceWithin at.Nothing = Unit {0}
