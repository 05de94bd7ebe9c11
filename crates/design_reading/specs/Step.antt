-- What a reading answers in Rust: words of contracts.
use Rattle.std.specs.Prelude.{◌≡◌, ℕ, Bool, if◌then◌else◌, List, Result, Ok, Err}
use Rattle.itv_base.specs.Outside.{ShelfState}
use Rattle.design_reading.specs.declared.refusal_place.RefusalPlace.{RefusalPlace}
use Rattle.design_reading.specs.declared.refusal.Refusal.{Refusal}
use Rattle.design_reading.specs.declared.stop.Stop.{Stop}
use Rattle.design_reading.specs.declared.stop.Stop.TheVariants.{Refused, ReadFault, NoMemory}
use Rattle.design_reading.specs.FileReading.{FileReading, ready, refused, unread, RunsToEnd}
pub mod Gave
pub mod Lone
pub mod Word

-- What a step of a reading answers, seen by a view: the end of its reading, with what this end leaves of the shelf. Lack of memory may come in
-- place of any end, and leaves the shelf as it was.
abbrev pub Opens : {A B : Type 0} → (B → A) → ShelfState → ShelfState → FileReading A → Result B Stop → Type 0
Opens view old new opening (Ok x) = RunsToEnd old new opening (ready (view x))
Opens view old new opening (Err (Refused place why)) = RunsToEnd old new opening (refused place why)
Opens view old new opening (Err (ReadFault place)) = (name : List ℕ) × RunsToEnd old new opening (unread place name)
Opens view old new opening (Err NoMemory) = new ≡ old

-- what a step that asks for no file answers
abbrev pub ReadsAs : {A B : Type 0} → (B → A) → FileReading A → Result B Stop → Type 0
ReadsAs view opening result = (state : ShelfState) → Opens view state state opening result

-- why a reading gave nothing, given the fault of a reader at a place
abbrev pub stop_of : {F : Type 0} → (F → Bool) → (F → Refusal) → RefusalPlace → F → Stop
stop_of is_memory why place fault = if is_memory fault then NoMemory else Refused place (why fault)
