-- What a view means: the network that is solved, where a derivation starts and ends, and what its values say of the network.
use Rattle.std.specs.Prelude.{ℤ, List}
use Rattle.itv_base.specs.declared.names.EventId.{EventId}
use Rattle.event_graph.specs.Network.{Net}
use Rattle.falling.specs.Kinds.{negated, negated_times}
use Rattle.slack_report.specs.declared.words.Which.{Which}
use Rattle.slack_report.specs.declared.words.Which.TheVariants.{Max, Min}
use Rattle.drawn_networks.specs.declared.row.Row.{Row}
use Rattle.falling.specs.declared.view.View.{View}
use Rattle.falling.specs.declared.view.View.TheVariants.{Plain, Negated}

-- the network that is solved
abbrev pub seen : View → Net → Net
seen Plain net = net
seen Negated net = negated net

-- the event where the derivation for a bound of a row starts
abbrev pub source : View → Which → Row → EventId
source Plain Max r = r.from
source Plain Min r = r.to
source Negated Max r = r.to
source Negated Min r = r.from

-- the event whose value the derivation gives
abbrev pub target : View → Which → Row → EventId
target Plain which r = source Negated which r
target Negated which r = source Plain which r

-- the values of a derivation as times of the network itself
abbrev pub times_seen : View → List ℤ → List ℤ
times_seen Plain values = values
times_seen Negated values = negated_times values
