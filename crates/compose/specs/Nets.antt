-- The joins of nets, or the first fault. Parts, nets, pins and marks are numbered from 0.
use Rattle.std.specs.Prelude.{ℕ, ◌+◌, ◌==◌, if◌then◌else◌, ⊤, List, [], ◌∷◌, ◌++◌, Option, position, find, ok_or, option_map, unwrap_or, slice_get, Result, Ok, Err}
use Rattle.std.specs.Str.{bytes_eq}
use Rattle.itv_base.specs.Range.{Ends}
use Rattle.itv_base.specs.Reading.{◌>>=◌, walk, walk_to}
use Rattle.wave_string.specs.declared.mark_kind.MarkKind.{MarkKind}
use Rattle.wave_string.specs.declared.mark_kind.MarkKind.TheVariants.{Bare}
use Rattle.wave_string.specs.Kinds.{may_join}
use Rattle.sheet.specs.declared.mark.Mark.{Mark}
use Rattle.sheet.specs.declared.pin.Pin.{Pin}
use Rattle.sheet.specs.SheetContents.{SheetView}
use Rattle.origin.specs.declared.origin.Origin.TheVariants.{Pin as FromPin}
use Rattle.netlist.specs.declared.part.Part.{Part}
use Rattle.netlist.specs.declared.pin.PinText.{PinText}
use Rattle.netlist.specs.NetlistContents.{PinNetView}
use Rattle.compose.specs.declared.fault.JoinFault.{JoinFault}
use Rattle.compose.specs.declared.fault.JoinFault.TheVariants.{NoPart, NoPin, MarkCounts, KindsDiffer}
use Rattle.compose.specs.declared.joins.Join.{Join}
use Rattle.compose.specs.declared.joins.PinJoins.{PinJoins}
use Rattle.compose.specs.declared.terminal.Terminal.{Terminal}
use Rattle.compose.specs.Joins.{pin_joins}

-- ---- pins

-- the number of the part with a name
abbrev pub part_named : List Part → List ℕ → Option ℕ
part_named parts name = position (λ part. bytes_eq name part.name) parts

-- the pins on the sheet of a part
abbrev pub pins_at : List SheetView → ℕ → List Pin
pins_at sheets part = unwrap_or (option_map (λ (sheet : SheetView). sheet.pins) (slice_get sheets part)) []

-- the marks on the sheet of a part
abbrev pub marks_at : List SheetView → ℕ → List Mark
marks_at sheets part = unwrap_or (option_map (λ (sheet : SheetView). sheet.marks) (slice_get sheets part)) []

abbrev pub terminal_by : ℕ → Pin → Terminal
terminal_by part pin = record { part = part; first = pin.first; count = pin.count }

-- the pin of a part with the name of a lane
abbrev pub terminal_named : List SheetView → ℕ → List ℕ → Option Terminal
terminal_named sheets part name = option_map (terminal_by part) (find (λ (pin : Pin). bytes_eq name pin.name) (pins_at sheets part))

-- pin k of net n, found among the parts
abbrev pub terminal_of : List Part → List SheetView → ℕ → ℕ → PinText → Result Terminal JoinFault
terminal_of parts sheets n k text = do
  part ← ok_or (part_named parts text.part) (NoPart n k)
  ok_or (terminal_named sheets part text.lane) (NoPin n k)

abbrev pub with_terminal : List Part → List SheetView → ℕ → ℕ → List Terminal → PinText → Result (List Terminal) JoinFault
with_terminal parts sheets n k done text = do
  terminal ← terminal_of parts sheets n k text
  Ok (done ++ terminal ∷ [])

-- the pins of net n
abbrev pub terminals_of : List Part → List SheetView → ℕ → List PinText → Result (List Terminal) JoinFault
terminals_of parts sheets n pins = walk (with_terminal parts sheets n) 0 [] pins

-- ---- joins

-- pin k has as many marks as the driver, or its fault
abbrev pub same_count : Terminal → ℕ → ℕ → ⊤ → Terminal → Result ⊤ JoinFault
same_count driver n k done other = if other.count == driver.count then Ok tt else Err (MarkCounts n k driver.count other.count)

-- the kind of the mark with this number; bare where there is no such mark
abbrev pub kind_at : List Mark → ℕ → MarkKind
kind_at marks m = unwrap_or (option_map (λ (mark : Mark). mark.kind) (slice_get marks m)) Bare

-- mark m of the driver may be joined to mark m of pin k, or the fault of this
abbrev pub kinds_fit : List SheetView → Terminal → Terminal → ℕ → ℕ → ℕ → ⊤ → Result ⊤ JoinFault
kinds_fit sheets driver other n k m done =
    if may_join (kind_at (marks_at sheets driver.part) (driver.first + m)) (kind_at (marks_at sheets other.part) (other.first + m)) then Ok tt else Err (KindsDiffer n k m)

-- the marks of the driver and the marks of pin k of net n, joined one by one
abbrev pub pins_joined : ℕ → ℕ → Terminal → Ends → Terminal → PinJoins
pins_joined n k driver delay other = record {
  driver = record { part = driver.part; mark = driver.first };
  driven = record { part = other.part; mark = other.first };
  marks = driver.count;
  delay = delay;
  origin = FromPin n k;
}

-- the joins with all joins of pin k after them, if the kinds of all its marks fit
abbrev pub with_pin : List SheetView → Terminal → Ends → ℕ → ℕ → List Join → Terminal → Result (List Join) JoinFault
with_pin sheets driver delay n k done other = do
  _ ← walk_to (kinds_fit sheets driver other n k) 0 tt driver.count
  Ok (done ++ pin_joins (pins_joined n k driver delay other))

-- the joins with all joins of net n after them, by its pins; all pins have as many marks as the first one, which drives each other one
abbrev pub with_terminals : List SheetView → Ends → ℕ → List Join → List Terminal → Result (List Join) JoinFault
with_terminals sheets delay n done [] = Ok done
with_terminals sheets delay n done (driver ∷ others) = do
  _ ← walk (same_count driver n) 1 tt others
  walk (with_pin sheets driver delay n) 1 done others

abbrev pub with_net : List Part → List SheetView → ℕ → List Join → PinNetView → Result (List Join) JoinFault
with_net parts sheets n done net = do
  terminals ← terminals_of parts sheets n net.pins
  with_terminals sheets net.delay n done terminals

-- the joins of nets: net by net, and within a net pin by pin
abbrev pub joins_of : List Part → List SheetView → List PinNetView → Result (List Join) JoinFault
joins_of parts sheets nets = walk (with_net parts sheets) 0 [] nets
