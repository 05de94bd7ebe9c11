-- How far the bounds of a pair are inside the ends of a range.
use Rattle.std.specs.Prelude.{ℤ, ◌-ℤ◌, Option, Some, None}
use Rattle.itv_base.specs.Range.{Ends}
use Rattle.requirements.specs.declared.bound.Bound.{Bound}
use Rattle.requirements.specs.declared.bound.Bound.TheVariants.{Closed, Unbounded, Within}
use Rattle.requirements.specs.declared.bound.Slack.{Slack}

-- the least separation less the low end
abbrev pub low_slack : Option ℤ → Bound → Option ℤ
low_slack None least = None
low_slack (Some low) (Closed value) = Some (value -ℤ low)
low_slack (Some low) Unbounded = None
low_slack (Some low) (Within limit attained) = None

-- the high end less the greatest separation
abbrev pub high_slack : Option ℤ → Bound → Option ℤ
high_slack None greatest = None
high_slack (Some high) (Closed value) = Some (high -ℤ value)
high_slack (Some high) Unbounded = None
high_slack (Some high) (Within limit attained) = None

abbrev pub slack_of : Ends → Bound → Bound → Slack
slack_of range least greatest = record { low = low_slack range.low least; high = high_slack range.high greatest }
