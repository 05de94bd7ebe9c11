-- What the steps of a check promise one another.
use Rattle.std.specs.Prelude.{◌≡◌, ◌≤◌, ◌<◌, ◌++◌, ◌∷◌, ℕ, ℤ, neg_ℤ, false, List, [], All, Option, Some, None, Result, Ok, Err, length, take}
use Rattle.std.specs.List.{AllByRecursion}
use Rattle.std.specs.Str.{IsUtf8}
use denote.Ref.{Bor}
use Rattle.itv_base.specs.Outside.{SinkState}
use Rattle.line_words.specs.Lines.{ended, is_feed, line_of}
use Rattle.line_words.specs.Numbers.{IsLong}
use Rattle.line_words.specs.Words.{Word, split_words}
use Rattle.event_graph.specs.Limits.{IsPrintedTime}
use Rattle.event_graph.specs.Network.{Net}
use Rattle.event_graph.specs.Satisfying.{Satisfies}
use Rattle.falling.specs.DerivationEnds.{AreLimits}
use Rattle.falling.specs.Kinds.{negated}
use Rattle.edge_clauses.specs.Lines.{ClauseLine}
use Rattle.edge_clauses.specs.Proofs.{IsProofAs, lines_of}
use Rattle.clause_texts.specs.Text.{IsClauseLine, SpellsClause}
use Rattle.slack_report.specs.declared.words.Which.{Which}
use Rattle.slack_report.specs.declared.words.Which.TheVariants.{Max, Min}
use Rattle.drawn_networks.specs.declared.row.Row.{Row}
use Rattle.job_settle.specs.declared.finding.Finding.{Finding}
use Rattle.job_settle.specs.declared.finding.Finding.TheVariants.{Consistent, Inconsistent, Open}
use Rattle.job_settle.specs.declared.proof.Proof.{Proof}
use Rattle.job_settle.specs.declared.bound.SettledBound.{SettledBound}
use Rattle.job_settle.specs.declared.bound.SettledBound.TheVariants as settled
use Rattle.job_settle.specs.declared.row.RowFound.{RowFound}
use Rattle.job_confirm.specs.declared.check_stop.CheckStop.{CheckStop}
use Rattle.job_confirm.specs.declared.check_stop.CheckStop.TheVariants.{Refused, NoMemory}
use Rattle.job_confirm.specs.declared.draft.Draft.{Draft}
use Rattle.event_graph.specs.declared.pair.Pair.{Pair}
use Rattle.job_confirm.specs.declared.views.Views.{Views}

-- ---- the text that is compared

-- a draft as the state of a sink
abbrev pub draft_state : Draft → SinkState
draft_state draft = record { written = Some draft.bytes.items; faults = draft.faults }

-- a text has a piece at a place, and `behind` is the place after the piece
pub record IsPieceAt (text : List ℕ) (place : ℕ) (piece : List ℕ) (behind : ℕ) : Type 0 where
  pub within : behind ≤ length text
  pub same : take behind text ≡ take place text ++ piece

-- ---- the network

-- the negation of a network, and the limits of the network
pub record AreViewsOf (net : Net) (views : Views) : Type 0 where
  pub negation_is : views.negation ≡ negated net
  pub limits_are : AreLimits net views.limits

-- times that can be printed and satisfy the network
pub record AreShownTimes (net : Net) (times : List ℤ) : Type 0 where
  pub satisfied : Satisfies times net
  pub printed : All IsPrintedTime times

-- ---- pairs of events

-- the events of a pair are in the network
pub record IsPairOf (net : Net) (pair : Pair) : Type 0 where
  pub from_in : pair.from.0 < net.events
  pub to_in : pair.to.0 < net.events

-- the pair whose greatest separation the proof of a bound is about: for a least bound the reversed pair
abbrev pub pair_of : Which → Row → Pair
pair_of Max row = record { from = row.from; to = row.to }
pair_of Min row = record { from = row.to; to = row.from }

-- the greatest separation of the pair, given the number of the bound
abbrev pub claim_of : Which → ℤ → ℤ
claim_of Max value = value
claim_of Min value = neg_ℤ value

-- ---- what a check gives for a text that is right

-- memory ran out; no line is refused
abbrev pub IsWant : CheckStop → Type 0
IsWant (Refused left) = ⊥
IsWant NoMemory = Unit {0}

-- something was read of which a fact holds, unless memory ran out
abbrev pub Gives : {A : Type 0} → (A → Type 0) → Result A CheckStop → Type 0
Gives P (Ok x) = P x
Gives P (Err stop) = IsWant stop

-- no line is refused
abbrev pub GivesSome : {A : Type 0} → Result A CheckStop → Type 0
GivesSome result = Gives (λ found. Unit {0}) result

-- ---- lines that stand next

-- the text begins with this line, and `more` stands after the line's end
pub record Begins (text line more : List ℕ) : Type 0 where
  pub is_line : AllByRecursion (λ b. is_feed b ≡ false) line
  pub text_is : text ≡ ended line ++ more

-- the text begins with the line of these words, which is cut into just these words
pub record BeginsWith (text : List ℕ) (words : List Word) (more : List ℕ) : Type 0 where
  pub begins : Begins text (line_of words) more
  pub parts : split_words (line_of words) ≡ words
  pub is_text : IsUtf8 (line_of words)

-- the text begins with a line that is no line of a proof
pub record BeginsOther (text : List ℕ) : Type 0 where
  pub line : List ℕ
  pub more : List ℕ
  pub begins : Begins text line more
  pub other : (l : ClauseLine) → SpellsClause line l → ⊥

-- the parts are this line and the text after its end
abbrev pub IsCutAs : Option (Bor (List ℕ) × Bor (List ℕ)) → List ℕ → List ℕ → Type 0
IsCutAs None line more = ⊥
IsCutAs (Some parts) line more = (parts.0.now ≡ line) × (parts.1.now ≡ more)

-- ---- the same data, wherever it lies in memory

-- the proofs have one view, one claim and the same lines
pub record IsSameProof (a b : Proof) : Type 0 where
  pub view : a.view ≡ b.view
  pub claim : a.claim ≡ b.claim
  pub lines : lines_of a.lines.items ≡ lines_of b.lines.items

abbrev pub IsSameFinding : Finding → Finding → Type 0
IsSameFinding (Consistent a) (Consistent b) = a.items ≡ b.items
IsSameFinding (Consistent a) (Inconsistent b) = ⊥
IsSameFinding (Consistent a) Open = ⊥
IsSameFinding (Inconsistent a) (Consistent b) = ⊥
IsSameFinding (Inconsistent a) (Inconsistent b) = IsSameProof a b
IsSameFinding (Inconsistent a) Open = ⊥
IsSameFinding Open (Consistent b) = ⊥
IsSameFinding Open (Inconsistent b) = ⊥
IsSameFinding Open Open = Unit {0}

abbrev pub IsSameBound : SettledBound → SettledBound → Type 0
IsSameBound (settled.Closed value times proof) (settled.Closed other others also) = (value ≡ other) × (times.items ≡ others.items) × IsSameProof proof also
IsSameBound (settled.Closed value times proof) (settled.Unbounded others set) = ⊥
IsSameBound (settled.Closed value times proof) settled.Open = ⊥
IsSameBound (settled.Unbounded times ray) (settled.Closed other others also) = ⊥
IsSameBound (settled.Unbounded times ray) (settled.Unbounded others set) = (times.items ≡ others.items) × (ray.items ≡ set.items)
IsSameBound (settled.Unbounded times ray) settled.Open = ⊥
IsSameBound settled.Open (settled.Closed other others also) = ⊥
IsSameBound settled.Open (settled.Unbounded others set) = ⊥
IsSameBound settled.Open settled.Open = Unit {0}

pub record IsSameRow (a b : RowFound) : Type 0 where
  pub greatest : IsSameBound a.greatest b.greatest
  pub least : IsSameBound a.least b.least
  pub past : a.past.items ≡ b.past.items

abbrev pub AreSameRows : List RowFound → List RowFound → Type 0
AreSameRows [] [] = Unit {0}
AreSameRows [] (other ∷ others) = ⊥
AreSameRows (row ∷ rows) [] = ⊥
AreSameRows (row ∷ rows) (other ∷ others) = IsSameRow row other × AreSameRows rows others

-- ---- proofs that stand next

-- a proof for a pair, whose claim has 64 bits and whose lines have texts
pub record IsShownProof (net : Net) (pair : Pair) (proof : Proof) : Type 0 where
  pub proves : IsProofAs proof.view net pair.from pair.to proof.claim proof.lines.items
  pub fits : IsLong proof.claim
  pub forms : All IsClauseLine (lines_of proof.lines.items)
