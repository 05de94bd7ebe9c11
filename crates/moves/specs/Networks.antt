-- What is found of a network with its rows, and when that is right.
use Rattle.std.specs.Prelude.{Bool, true, false}
use Rattle.event_graph.specs.Bounds.{IsInconsistent}
use Rattle.drawn_networks.specs.Drawn.{Drawn}
use Rattle.moves.specs.Passing.{BreaksRow, Passes}
use Rattle.moves.specs.Step.{IsConsistent}
use Rattle.moves.specs.declared.net_found.NetFound.{NetFound}
use Rattle.moves.specs.declared.net_found.NetFound.TheVariants as nets

-- what is found of a network: every requirement passes, a row breaks, no times satisfy, or times satisfy and nothing more is known, or nothing is known
abbrev pub IsNetFound : Drawn → NetFound → Type 0
IsNetFound drawn nets.Passes = Passes drawn
IsNetFound drawn (nets.Breaks row) = BreaksRow drawn row
IsNetFound drawn nets.Inconsistent = IsInconsistent drawn.net
IsNetFound drawn nets.Open = IsConsistent drawn
IsNetFound drawn nets.Spent = Unit {0}

-- a search was left open
abbrev pub is_net_open : NetFound → Bool
is_net_open nets.Open = true
is_net_open nets.Spent = true
is_net_open found = false
