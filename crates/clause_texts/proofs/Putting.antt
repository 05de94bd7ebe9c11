-- A line of a proof as a writer puts it, piece by piece.
use Rattle.std.proofs.Common.{◌≡◌, ℕ, ◌+◌, ◌<◌, ℤ, List, [], ◌∷◌, ◌++◌, map, length, get_or, drop, codes, Result, refl, sym, subst, ap, ◌∙◌, append_assoc, add-one, drop-cons}
use Rattle.std.specs.List.{flat_map}
use Rattle.std.proofs.lemmas.List.{map-append}
use Rattle.std.proofs.lemmas.List.Concat.{flat_map-append}
use Rattle.std.specs.Bool.{⊤}
use Rattle.itv_base.specs.Numerals.{number_text, signed_text}
use Rattle.itv_base.specs.Outside.{CutShort, Puts, SinkState, grown}
use Rattle.itv_base.specs.declared.names.EdgeName.{EdgeName}
use Rattle.itv_base.specs.declared.names.EventId.{EventId}
use Rattle.itv_base.proofs.Written.{cut_more, cut_then, puts_same, puts_then}
use Rattle.line_words.specs.Words.{Word}
use Rattle.line_words.specs.Lines.{ended, line_of, spaced}
use Rattle.line_words.proofs.Printing.{join_spaced}
use Rattle.certificate.specs.Text.{edge_word, side_letter}
use Rattle.event_graph.specs.declared.edge.Edge.{Edge}
use Rattle.falling.specs.declared.view.View.{View}
use Rattle.edge_clauses.specs.declared.basis.Basis.{Basis}
use Rattle.edge_clauses.specs.declared.basis.WalkStep.{WalkStep}
use Rattle.edge_clauses.specs.declared.line.StoredLine.{StoredLine}
use Rattle.edge_clauses.specs.Lines.{ClauseLine, Fall, Know, Loop, Rise}
use Rattle.edge_clauses.specs.Proofs.{lines_of, line_of as stored_line_of}
use Rattle.clause_texts.specs.Text.{basis_word, claim_text, clause_line_text, difference_word, proof_text, step_word, view_text}

-- ---- texts of three pieces

-- three pieces make the whole text
pub record Parts (a b c whole : List ℕ) : Type 0 where
  pub join : a ++ (b ++ c) ≡ whole

module _ {a b c whole : List ℕ} (parts : Parts a b c whole) where
  -- a front of the first piece is put
  pub first_cut : (old new : SinkState) → CutShort old new a → CutShort old new whole
  first_cut old new cut = subst (CutShort old new) parts.join (cut_more old new a (b ++ c) cut)

  -- the first piece is put, and a front of the second
  pub second_cut : (old first_put new : SinkState) → first_put ≡ grown old a → CutShort first_put new b → CutShort old new whole
  second_cut old first_put new p cut = subst (CutShort old new) parts.join (cut_then old first_put new a (b ++ c) p (cut_more first_put new b c cut))

  -- two pieces are put, and the third or a front of it
  pub third_puts : {E : Type 0} (old first_put second_put new : SinkState) (r : Result ⊤ E) → first_put ≡ grown old a → second_put ≡ grown first_put b
      → Puts second_put new c r → Puts old new whole r
  third_puts old first_put second_put new r p q last =
      puts_same old new (a ++ (b ++ c)) whole r parts.join (puts_then old first_put new a (b ++ c) r p (puts_then first_put second_put new b c r q last))

-- ---- lines by their pieces

four_words : (a b c d : Word) → (a ++ spaced b) ++ (spaced c ++ ended (spaced d)) ≡ ended (line_of (a ∷ b ∷ c ∷ d ∷ []))
four_words a b c d = simp append_assoc

pub fall_parts : (event : EventId) (value : ℤ) (basis : Basis)
    → Parts (codes "fall" ++ spaced (number_text event.0)) (spaced (signed_text value)) (ended (spaced (basis_word basis))) (clause_line_text (Fall event value basis))
fall_parts event value basis = record { join = four_words (codes "fall") (number_text event.0) (signed_text value) (basis_word basis) }

pub rise_parts : (event : EventId) (value : ℤ) (basis : Basis)
    → Parts (codes "rise" ++ spaced (number_text event.0)) (spaced (signed_text value)) (ended (spaced (basis_word basis))) (clause_line_text (Rise event value basis))
rise_parts event value basis = record { join = four_words (codes "rise") (number_text event.0) (signed_text value) (basis_word basis) }

pub know_parts : (e : Edge) (basis : Basis) → Parts (codes "know") (spaced (difference_word e)) (ended (spaced (basis_word basis))) (clause_line_text (Know e basis))
know_parts e basis = record { join = three_words (codes "know") (difference_word e) (basis_word basis) }
  where
    three_words : (a b c : Word) → a ++ (spaced b ++ ended (spaced c)) ≡ ended (line_of (a ∷ b ∷ c ∷ []))
    three_words a b c = simp append_assoc

-- the steps, the word `keep` and the clause of a loop, each word after a space
abbrev pub kept_text : List WalkStep → List Edge → List ℕ
kept_text steps clause = flat_map spaced (map step_word steps) ++ (spaced (codes "keep") ++ flat_map spaced (map difference_word clause))

pub kept_parts : (steps : List WalkStep) (clause : List Edge)
    → Parts (flat_map spaced (map step_word steps)) (spaced (codes "keep")) (flat_map spaced (map difference_word clause)) (kept_text steps clause)
kept_parts steps clause = record { join = refl }

pub loop_parts : (event : EventId) (steps : List WalkStep) (clause : List Edge)
    → Parts (codes "loop" ++ spaced (number_text event.0)) (kept_text steps clause) (10 ∷ []) (clause_line_text (Loop event steps clause))
loop_parts event steps clause = record { join = many_words (codes "loop") (number_text event.0) (map step_word steps) (codes "keep") (map difference_word clause) }
  where
    spaced_append : (words others : List Word) → flat_map spaced (words ++ others) ≡ flat_map spaced words ++ flat_map spaced others
    spaced_append [] others = refl
    spaced_append (word ∷ words) others =
        ap (λ rest. spaced word ++ rest) (spaced_append words others) ∙ sym (append_assoc (spaced word) (flat_map spaced words) (flat_map spaced others))

    pieces : (a b f k o : List ℕ) → (a ++ b) ++ ((f ++ (k ++ o)) ++ 10 ∷ []) ≡ (a ++ (b ++ (f ++ (k ++ o)))) ++ 10 ∷ []
    pieces a b f k o = simp append_assoc

    many_words : (a b : Word) (words : List Word) (key : Word) (others : List Word)
        → (a ++ spaced b) ++ ((flat_map spaced words ++ (spaced key ++ flat_map spaced others)) ++ 10 ∷ []) ≡ ended (line_of (a ∷ b ∷ (words ++ key ∷ others)))
    many_words a b words key others =
        let whole : line_of (a ∷ b ∷ (words ++ key ∷ others)) ≡ a ++ (spaced b ++ (flat_map spaced words ++ (spaced key ++ flat_map spaced others))) =
        join_spaced a (b ∷ (words ++ key ∷ others)) ∙ ap (λ rest. a ++ (spaced b ++ rest)) (spaced_append words (key ∷ others)) in
        pieces a (spaced b) (flat_map spaced words) (spaced key) (flat_map spaced others) ∙ sym (ap ended whole)

-- the pieces of a proof; the claim that is passed on is the given one
pub proof_parts : (view : View) (claim passed : ℤ) (lines : List ClauseLine) → passed ≡ claim
    → Parts (view_text view) (claim_text passed) (flat_map clause_line_text lines) (proof_text view claim lines)
proof_parts view claim passed lines e = record { join = ap (λ z. view_text view ++ (claim_text z ++ flat_map clause_line_text lines)) e }

-- ---- names of edges

-- what stands after the constraint of a name
abbrev pub behind : EdgeName → List ℕ
behind edge = 46 ∷ (number_text edge.cause ++ side_letter edge.side)

module _ (front : List ℕ) (edge : EdgeName) where
  -- a front of the constraint is put
  pub name_cut : (old new : SinkState) → CutShort old new (front ++ number_text edge.constraint) → CutShort old new (front ++ edge_word edge)
  name_cut old new cut =
      subst (CutShort old new) (append_assoc front (number_text edge.constraint) (behind edge)) (cut_more old new (front ++ number_text edge.constraint) (behind edge) cut)

  -- the constraint is put, and then the cause and the side, or a front of them
  pub name_puts : {E : Type 0} (old first_put new : SinkState) (r : Result ⊤ E) → first_put ≡ grown old (front ++ number_text edge.constraint)
      → Puts first_put new (behind edge) r → Puts old new (front ++ edge_word edge) r
  name_puts old first_put new r p last =
      puts_same old new ((front ++ number_text edge.constraint) ++ behind edge) (front ++ edge_word edge) r (append_assoc front (number_text edge.constraint) (behind edge))
      (puts_then old first_put new (front ++ number_text edge.constraint) (behind edge) r p last)

-- ---- lists by their first element and the others

-- the lines from a place on
pub lines_more : (lines : List StoredLine) (i : ℕ) (d line : StoredLine) → i < length lines → line ≡ get_or lines i d
    → flat_map clause_line_text (lines_of (drop i lines)) ≡ clause_line_text (stored_line_of line) ++ flat_map clause_line_text (lines_of (drop (i + 1) lines))
lines_more lines i d line h e = rw (e, add-one, drop-cons lines i d h) refl

-- the lines of a batch, and the lines after it
pub batch_first : (all batch rest : List StoredLine) → all ≡ batch ++ rest
    → flat_map clause_line_text (lines_of all) ≡ flat_map clause_line_text (lines_of batch) ++ flat_map clause_line_text (lines_of rest)
batch_first all batch rest e =
    ap (λ lines. flat_map clause_line_text (lines_of lines)) e ∙ ap (flat_map clause_line_text) (map-append stored_line_of batch rest)
    ∙ flat_map-append clause_line_text (lines_of batch) (lines_of rest)
