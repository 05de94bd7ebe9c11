-- What a shelf and a sink in memory are, and what their calls do.
use Rattle.std.specs.Prelude.{◌≡◌, ℕ, ◌+◌, ◌-◌, ◌^◌, ◌==◌, min, Bool, true, false, not, ◌||◌, nat_le, if◌then◌else◌, List, ◌++◌, length, take, Option, Some, None, option_map, is_some, Result, Ok, Err, refl}
use Rattle.std.specs.List.{list_any}
use Rattle.std.specs.Coded.{Coded, code_by, coded×, coded_ℕ, coded_list}
use Rattle.std.specs.Cmp.Lexicographic.{slice_cmp}
use Rattle.std.specs.Ordering.{nat_cmp}
use Rattle.std.specs.FinMap as map
use Rattle.std.specs.Global.{Vec}
use Rattle.itv_base.specs.Outside.{Files, ShelfState, SinkState, file_of, one_more_fault}
use Rattle.itv_base.specs.declared.shelf.FetchFault.{FetchFault}
use Rattle.itv_base.specs.declared.shelf.FetchFault.TheVariants.{Failed, NoMemory}

-- the number of the next call, which stays at the last value of 32 bits
abbrev pub next_call : ℕ → ℕ
next_call calls = min (calls + 1) (2 ^ 32 - 1)

-- the files; the numbers of the calls that are to fail; how many calls and faults there were; and the name that failed last
pub record ShelfMemView : Type 0 where
  pub files : Files
  pub failing : List ℕ
  pub calls : ℕ
  pub faults : ℕ
  pub last : List ℕ

-- the parts of a shelf in memory, as its model is coded
abbrev pub mem_shelf_code : Coded ShelfMemView
mem_shelf_code =
    code_by (Files × (List ℕ × (ℕ × (ℕ × List ℕ)))) (coded× (map.code {R = slice_cmp nat_cmp} (coded_list coded_ℕ) (coded_list coded_ℕ)) (coded× (coded_list coded_ℕ) (coded× coded_ℕ (coded× coded_ℕ (coded_list coded_ℕ)))))
    (λ s. (s.files, (s.failing, (s.calls, (s.faults, s.last))))) (λ p. record { files = p.0; failing = p.1.0; calls = p.1.1.0; faults = p.1.1.1.0; last = p.1.1.1.1 }) (λ _. refl)

-- The state of a shelf in memory. The shelf is faithful if no call is to fail.
abbrev pub shelf_state : ShelfMemView → ShelfState
shelf_state s = record { files = Some s.files; faults = s.faults; last = s.last; is_faithful = length s.failing == 0 }

-- the next fetch fails if it asks for this name: its call is listed, or there is no such file
abbrev pub is_refused : ShelfMemView → List ℕ → Bool
is_refused s name = list_any (λ call. call == s.calls) s.failing || not (is_some (file_of s.files name))

-- what a fetch returns and leaves
abbrev pub MemFetches : ShelfMemView → ShelfMemView → List ℕ → ℕ → Result (Vec ℕ) FetchFault → Type 0
MemFetches old new name most (Ok bytes) =
    (is_refused old name ≡ false) × (option_map (take most) (file_of old.files name) ≡ Some bytes.items) × (new ≡ record old { calls = next_call old.calls })
MemFetches old new name most (Err Failed) =
    (is_refused old name ≡ true) × (new ≡ record old { calls = next_call old.calls; faults = one_more_fault old.faults; last = name })
MemFetches old new name most (Err NoMemory) = new ≡ old

-- what was written, how much may be written, the call that is to fail, and how many calls and faults there were
pub record SinkMemView : Type 0 where
  pub bytes : List ℕ
  pub room : ℕ
  pub failing : Option ℕ
  pub calls : ℕ
  pub faults : ℕ

-- the state of a sink in memory
abbrev pub sink_state : SinkMemView → SinkState
sink_state s = record { written = Some s.bytes; faults = s.faults }

-- the call with this number is the one that is to fail
abbrev pub is_named : Option ℕ → ℕ → Bool
is_named None calls = false
is_named (Some call) calls = call == calls

-- the next put succeeds if it is given this piece: its call is not the named one, and the piece fits
abbrev pub takes : SinkMemView → List ℕ → Bool
takes s piece = if is_named s.failing s.calls then false else nat_le (length s.bytes + length piece) s.room

-- how much of the piece goes in: nothing at the call that is to fail, otherwise as far as it fits
abbrev pub part_taken : SinkMemView → List ℕ → List ℕ
part_taken s piece = if is_named s.failing s.calls then take 0 piece else take (s.room - length s.bytes) piece

-- what a put leaves
abbrev pub after_put : SinkMemView → List ℕ → SinkMemView
after_put s piece = record s {
  bytes = s.bytes ++ part_taken s piece;
  calls = next_call s.calls;
  faults = (if takes s piece then s.faults else one_more_fault s.faults);
}
