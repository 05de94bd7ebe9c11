-- How lines of a proof are stored: the edges of all lines in one row, and for each line its kind and where its edges end.
use Rattle.std.specs.Prelude.{◌≡◌, ◌-◌, ◌≤◌, ℕ, zero, suc, List, [], ◌∷◌, take, drop}
use Rattle.itv_base.specs.declared.names.EdgeName.{EdgeName}
use Rattle.event_graph.specs.Proof.{Loop, Path, ProofLine, Split}
use Rattle.certificate.specs.declared.stored.Stored.{Stored}
use Rattle.certificate.specs.declared.stored.StoredKind.{StoredKind}
use Rattle.certificate.specs.declared.stored.StoredKind.TheVariants as kinds

abbrev pub stored_line : StoredKind → List EdgeName → ProofLine
stored_line (kinds.Split constraint) edges = Split constraint
stored_line kinds.Path edges = Path edges
stored_line kinds.Loop edges = Loop edges

-- the lines; the edges of the first begin at a place
abbrev pub stored_lines : ℕ → List Stored → List EdgeName → List ProofLine
stored_lines start [] edges = []
stored_lines start (s ∷ stored) edges = stored_line s.kind (take (s.end - start) (drop start edges)) ∷ stored_lines s.end stored edges

-- a split has no edges
abbrev pub IsSplitEnd : ℕ → StoredKind → ℕ → Type 0
IsSplitEnd start (kinds.Split constraint) end = end ≡ start
IsSplitEnd start kinds.Path end = start ≤ end
IsSplitEnd start kinds.Loop end = start ≤ end

-- the ends rise from a place to another; a split has no edges
abbrev pub EndsRise : ℕ → List Stored → ℕ → Type 0
EndsRise start [] last = start ≡ last
EndsRise start (s ∷ stored) last = IsSplitEnd start s.kind s.end × EndsRise s.end stored last

-- where the edges of the line of a number begin
abbrev pub start_from : ℕ → List Stored → ℕ → ℕ
start_from start [] k = start
start_from start (s ∷ stored) zero = start
start_from start (s ∷ stored) (suc k) = start_from s.end stored k

abbrev pub start_of : List Stored → ℕ → ℕ
start_of stored k = start_from 0 stored k
