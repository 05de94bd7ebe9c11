-- The text of a line of a proof by clauses.
use Rattle.std.specs.Prelude.{◌≡◌, ◌<◌, ◌^◌, ℕ, ℤ, List, [], ◌∷◌, ◌++◌, map, codes, All}
use Rattle.std.specs.List.{flat_map}
use Rattle.itv_base.specs.Numerals.{number_text, signed_text}
use Rattle.certificate.specs.Text.{IsEdgeName, edge_word}
use Rattle.line_words.specs.Words.{Word}
use Rattle.line_words.specs.Lines.{ended, line_of}
use Rattle.line_words.specs.Numbers.{IsLong}
use Rattle.event_graph.specs.declared.edge.Edge.{Edge}
use Rattle.falling.specs.declared.view.View.{View}
use Rattle.falling.specs.declared.view.View.TheVariants.{Plain, Negated}
use Rattle.edge_clauses.specs.declared.basis.Basis.{Basis}
use Rattle.edge_clauses.specs.declared.basis.Basis.TheVariants.{ByEdge, Either, ByChoice, ByKept}
use Rattle.edge_clauses.specs.declared.basis.WalkStep.{WalkStep}
use Rattle.edge_clauses.specs.Lines.{Assume, ClauseLine, Close, Fall, Know, Loop, Rise}

-- ---- which lines have a text

-- the numbers of both events fit 32 bits, and the weight fits 64 bits with a sign
abbrev pub IsDifference : Edge → Type 0
IsDifference e = (e.from.0 < 2 ^ 32) × (e.to.0 < 2 ^ 32) × IsLong e.weight

-- each number of the basis fits its bits
abbrev pub IsBasisName : Basis → Type 0
IsBasisName (ByEdge edge) = IsEdgeName edge
IsBasisName (Either e) = IsDifference e
IsBasisName (ByChoice constraint) = constraint < 2 ^ 32
IsBasisName (ByKept clause) = clause < 2 ^ 32

abbrev pub IsStepName : WalkStep → Type 0
IsStepName step = IsBasisName step.basis × (step.through < 2 ^ 32)

-- each number of the line fits 32 bits, and each bound and weight fits 64 bits with a sign
abbrev pub IsClauseLine : ClauseLine → Type 0
IsClauseLine (Fall event value basis) = (event.0 < 2 ^ 32) × IsLong value × IsBasisName basis
IsClauseLine (Rise event value basis) = (event.0 < 2 ^ 32) × IsLong value × IsBasisName basis
IsClauseLine (Know e basis) = IsDifference e × IsBasisName basis
IsClauseLine (Loop event steps clause) = (event.0 < 2 ^ 32) × All IsStepName steps × All IsDifference clause
IsClauseLine (Assume edges) = All IsDifference edges
IsClauseLine Close = Unit {0}

-- ---- its text

-- an edge: the event that it leads from, `>`, the event that it leads to, `:` and its weight
abbrev pub difference_word : Edge → Word
difference_word e = number_text e.from.0 ++ (62 ∷ (number_text e.to.0 ++ (58 ∷ signed_text e.weight)))

-- where a clause comes from: an always-edge by its name, `E` and an edge of which either it or its opposite is met, `C` and the number of a constraint
-- with a choice, or `K` and the number of a kept clause
abbrev pub basis_word : Basis → Word
basis_word (ByEdge edge) = edge_word edge
basis_word (Either e) = 69 ∷ difference_word e
basis_word (ByChoice constraint) = 67 ∷ number_text constraint
basis_word (ByKept clause) = 75 ∷ number_text clause

-- a step: the place of its edge in its clause, `/` and where the clause comes from
abbrev pub step_word : WalkStep → Word
step_word step = number_text step.through ++ (47 ∷ basis_word step.basis)

abbrev pub clause_words : ClauseLine → List Word
clause_words (Fall event value basis) = codes "fall" ∷ number_text event.0 ∷ signed_text value ∷ basis_word basis ∷ []
clause_words (Rise event value basis) = codes "rise" ∷ number_text event.0 ∷ signed_text value ∷ basis_word basis ∷ []
clause_words (Know e basis) = codes "know" ∷ difference_word e ∷ basis_word basis ∷ []
clause_words (Loop event steps clause) = codes "loop" ∷ number_text event.0 ∷ (map step_word steps ++ codes "keep" ∷ map difference_word clause)
clause_words (Assume edges) = codes "assume" ∷ map difference_word edges
clause_words Close = codes "close" ∷ []

-- the line with its end
abbrev pub clause_line_text : ClauseLine → List ℕ
clause_line_text line = ended (line_of (clause_words line))

-- the text is the text of the line, without its line end
pub record SpellsClause (text : List ℕ) (line : ClauseLine) : Type 0 where
  pub form : IsClauseLine line
  pub text_is : text ≡ line_of (clause_words line)

-- ---- what stands before the lines of a proof

-- whether the lines are a proof in the network or in its negation
abbrev pub view_word : View → Word
view_word Plain = codes "plain"
view_word Negated = codes "negated"

abbrev pub view_text : View → List ℕ
view_text view = ended (line_of (codes "view" ∷ view_word view ∷ []))

-- the separation that no satisfying times exceed, as the lines prove
abbrev pub claim_text : ℤ → List ℕ
claim_text claim = ended (line_of (codes "claim" ∷ signed_text claim ∷ []))

-- the view, the claim and the lines
abbrev pub proof_text : View → ℤ → List ClauseLine → List ℕ
proof_text view claim lines = view_text view ++ (claim_text claim ++ flat_map clause_line_text lines)
