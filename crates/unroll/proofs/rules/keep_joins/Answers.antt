use Rattle.compose.specs.Design.{IsJoinOf}
use Rattle.compose.specs.Joins.{pin_joins}
use Rattle.unroll.proofs.BetweenLists.{All-flat_map-at}
use Rattle.unroll.proofs.rules.keep_joins.Goals as goal

pub keep_pin-requires : goal.keep_pin-requires
keep_pin-requires c = All-flat_map-at (IsJoinOf c.args.design.now.sheets) pin_joins c.args.pins.now c.loop-pin.pin-index c.pin-item.result c.loop-pin-test.true c.pin-item.is c.requires
