use Rattle.std.proofs.Common.{◌≡◌, ◌∙◌, ap, sym, Some, refl}
use Rattle.std.specs.Prelude.{find, option_map}
use Rattle.std.specs.Str.{bytes_eq}
use Rattle.sheet.specs.declared.pin.Pin.{Pin}
use Rattle.compose.specs.Nets.{terminal_by, terminal_named}
use Rattle.compose.proofs.PartSheets.{seen, pins-on}
use Rattle.compose.proofs.terminal.terminal_of.Goals as goal

pub returns-in-Some-terminal_named-clause-found : goal.returns-in-Some-terminal_named-clause-found
returns-in-Some-terminal_named-clause-found c =
    let pins = pins-on (seen c.args.sheets.now) c.in-Some.part c.sheet_at.result.now c.sheet_at.ensures in
    let named : terminal_named (seen c.args.sheets.now) c.in-Some.part c.args.text.now.lane ≡ Some c.in-Some-terminal_named.terminal =
    ap (λ pins. option_map (terminal_by c.in-Some.part) (find (λ (pin : Pin). bytes_eq c.args.text.now.lane pin.name) pins)) pins ∙ sym c.in-Some-terminal_named.ensures.found in
    rw (← c.in-Some.ensures.found, named) refl
