-- What the calls of this crate do one after another, on the way to a design.
use Rattle.std.specs.Prelude.{List, Result, Ok}
use Rattle.itv_base.specs.Reading.{◌>>=◌}
use Rattle.sheet.specs.Links.{Link, link_rules, link_rows}
use Rattle.compose.specs.declared.fault.JoinFault.{JoinFault}
use Rattle.compose.specs.declared.wires.NumberedWires.{NumberedWires}

-- the rules and rows of links
abbrev pub rules_and_rows : Result (List Link) JoinFault → Result NumberedWires JoinFault
rules_and_rows read = do
  links ← read
  Ok (record { rules = link_rules links; rows = link_rows links })
