use Rattle.std.proofs.Common.{◌≡◌, drop}
use Rattle.std.specs.Prelude.{find}
use Rattle.std.specs.Str.{bytes_eq}
use Rattle.sheet.specs.declared.pin.Pin.{Pin}
use Rattle.compose.proofs.terminal.terminal_named.Given as goal

-- the pins so far have other names
abbrev pub invariant-loop-pin : goal.invariant-loop-pin
invariant-loop-pin l = find (λ (pin : Pin). bytes_eq l.name pin.name) l.pin-items ≡ find (λ (pin : Pin). bytes_eq l.name pin.name) (drop l.pin-index l.pin-items)
