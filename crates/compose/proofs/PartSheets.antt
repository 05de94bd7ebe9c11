-- The sheets of parts, one by one.
use Rattle.std.proofs.Common.{◌≡◌, ℕ, zero, suc, ◌+◌, ◌<◌, true, List, [], ◌∷◌, ◌++◌, length, map, take, get_or, All, Option, Some, Ok, refl, sym, ap, ◌∙◌, Bor, arith}
use Rattle.std.specs.Prelude.{filter_map, slice_get}
use Rattle.std.proofs.lemmas.List.{take_more, map_push}
use Rattle.std.proofs.lemmas.List.Sums.{sum_by-cons}
use Rattle.std.proofs.lemmas.List.Elements.{All-push, filter_map-append}
use Rattle.sheet.specs.SheetContents.{SheetView}
use Rattle.sheet.specs.Whole.{IsWhole}
use Rattle.compose.specs.declared.terminal.Terminal.{Terminal}
use Rattle.compose.specs.Nets.{kinds_fit, kind_at, marks_at, pins_at}
use Rattle.compose.specs.Numbers.{mark_count}
use Rattle.wave_string.specs.Kinds.{may_join}

-- the sheets that borrows point to
abbrev pub seen : List (Bor SheetView) → List SheetView
seen sheets = map (λ (s : Bor SheetView). s.now) sheets

-- one more part, whose sheet was found
pub sheets_more : {X : Type 0} (h : X → Option SheetView) (parts : List X) (i : ℕ) (part : X) (found new : List (Bor SheetView)) (sheet : Bor SheetView) → i < length parts → part ≡ get_or parts i part
    → seen found ≡ filter_map h (take i parts) → h part ≡ Some sheet.now → new ≡ found ++ sheet ∷ [] → seen new ≡ filter_map h (take (i + 1) parts)
sheets_more h parts i part found new sheet within read so_far is grew =
    let front : take (i + 1) parts ≡ take i parts ++ part ∷ [] = take_more parts i part within ∙ ap (λ x. take i parts ++ x ∷ []) (sym read) in
    let one : filter_map h (part ∷ []) ≡ sheet.now ∷ [] = rw is refl in
    rw (grew, map_push, so_far, front, filter_map-append h (take i parts) (part ∷ []), one) refl

pub sheets_kept : (found new : List (Bor SheetView)) (sheet : Bor SheetView) → All IsWhole (seen found) → IsWhole sheet.now → new ≡ found ++ sheet ∷ [] → All IsWhole (seen new)
sheets_kept found new sheet all whole grew = rw (grew, map_push) (All-push IsWhole (seen found) sheet.now all whole)

-- the pins of a part, by its sheet
pub pins-on : (sheets : List SheetView) (part : ℕ) (sheet : SheetView) → slice_get sheets part ≡ Some sheet → pins_at sheets part ≡ sheet.pins
pins-on sheets part sheet at = rw at refl

-- ---- numbers of marks

-- how many marks stand before the next part
pub marks_more : (sheets : List SheetView) (part : ℕ) → part < length sheets → mark_count (take (part + 1) sheets) ≡ mark_count (take part sheets) + length (marks_at sheets part)
marks_more [] part within = absurd (omega arith)
marks_more (sheet ∷ sheets) zero within = refl
marks_more (sheet ∷ sheets) (suc part) within =
    let next : suc part + 1 ≡ suc (part + 1) = omega arith in
    let longer : mark_count (take (suc part + 1) (sheet ∷ sheets)) ≡ length sheet.marks + mark_count (take (part + 1) sheets) = ap (λ k. mark_count (take k (sheet ∷ sheets))) next ∙ sum_by-cons (λ (s : SheetView). length s.marks) sheet (take (part + 1) sheets) in
    let front : mark_count (take (suc part) (sheet ∷ sheets)) ≡ length sheet.marks + mark_count (take part sheets) = sum_by-cons (λ (s : SheetView). length s.marks) sheet (take part sheets) in
    let same : length (marks_at (sheet ∷ sheets) (suc part)) ≡ length (marks_at sheets part) = refl in
    omega (arith, longer, front, same, marks_more sheets part (omega arith))

-- ---- kinds

pub kinds_same : (sheets : List SheetView) (driver other : Terminal) (n k m : ℕ) → may_join (kind_at (marks_at sheets driver.part) (driver.first + m)) (kind_at (marks_at sheets other.part) (other.first + m)) ≡ true
    → kinds_fit sheets driver other n k m tt ≡ Ok tt
kinds_same sheets driver other n k m fit = rw fit refl
