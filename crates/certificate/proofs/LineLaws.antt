-- A line of a proof is read from its text, and from no other.
use Rattle.std.proofs.Common.{◌≡◌, ◌^◌, ◌-◌, ◌<◌, ◌≤◌, ℕ, true, List, [], ◌∷◌, ◌++◌, map, codes, Option, Some, None, option_map, Result, Ok, Err, refl, sym, ap, subst, ◌∙◌, arith}
use Rattle.std.specs.Prelude.{All, IfOk, IsErrOf}
use Rattle.std.specs.List.{take_while}
use Rattle.std.specs.Char.{is_ascii_digit}
use Rattle.std.specs.Str.{IsUtf8}
use Rattle.std.proofs.lemmas.Option.{none-some, same_Some}
use Rattle.itv_base.specs.Cuts.{after_while, stripped}
use Rattle.itv_base.specs.Numerals.{number_text}
use Rattle.itv_base.specs.declared.names.EdgeName.{EdgeName}
use Rattle.itv_base.specs.declared.names.Side.{Side}
use Rattle.itv_base.specs.declared.names.Side.TheVariants.{Lower, Upper}
use Rattle.itv_base.proofs.Cuts.{stripped_some}
use Rattle.itv_base.proofs.Numerals.{digits-text}
use Rattle.itv_base.proofs.Runs.{front_of_run, rest_of_run, run_whole, stops}
use Rattle.itv_base.proofs.Options.{mapped_some}
use Rattle.event_graph.specs.Proof.{Loop, Path, ProofLine, Split}
use Rattle.line_words.specs.Words.{◌>>=◌, Word, is_word, keyed, many, one, or_else, split_words, when}
use Rattle.line_words.specs.Lines.{line_of}
use Rattle.line_words.specs.Numbers.{number_in}
use Rattle.line_words.proofs.Inverts.{Inverts, bind_some, either_takes, keyed_inverts, last_some, many_inverts, one_inverts, pick_some}
use Rattle.line_words.proofs.NumberLaws.{number_inverts}
use Rattle.line_words.proofs.Plain.{ArePlain, is_plain, line_is_text, map_plain, number_plain, plain_append, split-join}
use Rattle.std.proofs.lemmas.List.Splits.{join_with_byte-slice_split}
use Rattle.certificate.specs.declared.fault.LineFault.{LineFault}
use Rattle.certificate.specs.declared.fault.LineFault.TheVariants.{BadLine, NoMemory}
use Rattle.certificate.specs.declared.line.OwnedLine.{OwnedLine}
use Rattle.certificate.specs.Answer.{IsReadAs}
use Rattle.certificate.specs.Step.Answer.{IsLineRead}
use Rattle.certificate.specs.Owned.{line_view}
use Rattle.certificate.specs.Text.{IsEdgeName, IsProofLine, Spells, edge_word, proof_line, proof_words, side_letter}
use Rattle.certificate.specs.Reading.{cause_in, edge_in, proof_in, side_in}
use Rattle.certificate.specs.Step.Reading.{line_in}

-- ---- edges

side_takes : (word : Word) (side : Side) → side_in word ≡ Some side → word ≡ side_letter side
side_takes word side e =
    pick_some word (codes "u") Upper side (when (is_word word (codes "l")) (Some Lower)) (λ s. word ≡ side_letter s) e
    (λ is. is)
    (λ other. last_some word (codes "l") Lower side (λ s. word ≡ side_letter s) other (λ is. is))

side_again : (side : Side) → side_in (side_letter side) ≡ Some side
side_again Upper = refl
side_again Lower = refl

pub below_from : (n : ℕ) → n ≤ 2 ^ 32 - 1 → n < 2 ^ 32
below_from n h = omega arith

pub to_below : (n : ℕ) → n < 2 ^ 32 → n ≤ 2 ^ 32 - 1
to_below n h = omega arith

short_inverts : Inverts (number_in (2 ^ 32 - 1)) number_text (λ n. n < 2 ^ 32)
short_inverts =
    let i = number_inverts (2 ^ 32 - 1) in record {
      takes = λ word n e. let t = i.takes word n e in (t.0, below_from n t.1);
      again = λ n h. i.again n (to_below n h);
    }

cause_takes : (constraint : ℕ) (word : Word) (edge : EdgeName) → cause_in constraint word ≡ Some edge → constraint < 2 ^ 32
    → (number_text constraint ++ (46 ∷ word) ≡ edge_word edge) × IsEdgeName edge
cause_takes constraint word edge e small =
    let digits = take_while is_ascii_digit word in
    let rest = after_while is_ascii_digit word in
    let a = bind_some (number_in (2 ^ 32 - 1) digits) (λ cause. side_in rest >>= λ side. Some (record { constraint = constraint; cause = cause; side = side })) edge e in
    let b = bind_some (side_in rest) (λ side. Some (record { constraint = constraint; cause = a.0; side = side })) edge a.2 in
    let number = short_inverts.takes digits a.0 a.1 in
    let word_is : word ≡ number_text a.0 ++ side_letter b.0 = run_whole is_ascii_digit word ∙ ap (λ x. x ++ rest) number.0 ∙ ap (λ x. number_text a.0 ++ x) (side_takes rest b.0 b.1) in
    let whole : number_text constraint ++ (46 ∷ word) ≡ number_text constraint ++ (46 ∷ (number_text a.0 ++ side_letter b.0)) = ap (λ x. number_text constraint ++ (46 ∷ x)) word_is in
    subst (λ (x : EdgeName). (number_text constraint ++ (46 ∷ word) ≡ edge_word x) × IsEdgeName x) (same_Some (record { constraint = constraint; cause = a.0; side = b.0 }) edge b.2) (whole, (small, number.1))

edge_takes : (word : Word) (edge : EdgeName) → edge_in word ≡ Some edge → (word ≡ edge_word edge) × IsEdgeName edge
unfolding edge_in
edge_takes word edge e =
    let digits = take_while is_ascii_digit word in
    let rest = after_while is_ascii_digit word in
    let a = bind_some (number_in (2 ^ 32 - 1) digits) (λ constraint. stripped (codes ".") rest >>= cause_in constraint) edge e in
    let b = bind_some (stripped (codes ".") rest) (cause_in a.0) edge a.2 in
    let number = short_inverts.takes digits a.0 a.1 in
    let t = cause_takes a.0 b.0 edge b.2 number.1 in
    (run_whole is_ascii_digit word ∙ ap (λ x. x ++ rest) number.0 ∙ ap (λ x. number_text a.0 ++ x) (stripped_some (codes ".") rest b.0 b.1) ∙ t.0, t.1)

letter_ends : (side : Side) → stops is_ascii_digit (side_letter side) ≡ true
letter_ends Upper = refl
letter_ends Lower = refl

cause_again : (edge : EdgeName) → IsEdgeName edge → cause_in edge.constraint (number_text edge.cause ++ side_letter edge.side) ≡ Some edge
cause_again edge form =
    let front = front_of_run is_ascii_digit (number_text edge.cause) (side_letter edge.side) (digits-text edge.cause) (letter_ends edge.side) in
    let behind = rest_of_run is_ascii_digit (number_text edge.cause) (side_letter edge.side) (digits-text edge.cause) (letter_ends edge.side) in
    rw (front, behind, short_inverts.again edge.cause form.1, side_again edge.side) refl

edge_again : (edge : EdgeName) → IsEdgeName edge → edge_in (edge_word edge) ≡ Some edge
unfolding edge_in
edge_again edge form =
    let rest : Word = 46 ∷ (number_text edge.cause ++ side_letter edge.side) in
    let front = front_of_run is_ascii_digit (number_text edge.constraint) rest (digits-text edge.constraint) refl in
    let behind = rest_of_run is_ascii_digit (number_text edge.constraint) rest (digits-text edge.constraint) refl in
    rw (front, behind, short_inverts.again edge.constraint form.0) (cause_again edge form)

pub edge_inverts : Inverts edge_in edge_word IsEdgeName
edge_inverts = record { takes = edge_takes; again = edge_again }

-- ---- lines

split_invert : Inverts (keyed (codes "split") (one (number_in (2 ^ 32 - 1)))) (λ n. codes "split" ∷ number_text n ∷ []) (λ n. n < 2 ^ 32)
split_invert = keyed_inverts (codes "split") (one (number_in (2 ^ 32 - 1))) (λ n. number_text n ∷ []) (λ n. n < 2 ^ 32) (one_inverts (number_in (2 ^ 32 - 1)) number_text (λ n. n < 2 ^ 32) short_inverts)

edges_invert : (key : Word) → Inverts (keyed key (many edge_in)) (λ edges. key ∷ map edge_word edges) (All IsEdgeName)
edges_invert key = keyed_inverts key (many edge_in) (map edge_word) (All IsEdgeName) (many_inverts edge_in edge_word IsEdgeName edge_inverts)

abbrev Taken : List Word → ProofLine → Type 0
Taken words line = (words ≡ proof_words line) × IsProofLine line

proof_takes : (words : List Word) (line : ProofLine) → proof_in words ≡ Some line → Taken words line
unfolding proof_in
proof_takes words line e =
    either_takes Split (keyed (codes "split") (one (number_in (2 ^ 32 - 1)))) (or_else (option_map Path (keyed (codes "path") (many edge_in) words)) (option_map Loop (keyed (codes "loop") (many edge_in) words))) words line (Taken words) e
    (λ n h. split_invert.takes words n h)
    (λ others. either_takes Path (keyed (codes "path") (many edge_in)) (option_map Loop (keyed (codes "loop") (many edge_in) words)) words line (Taken words) others
    (λ edges h. (edges_invert (codes "path")).takes words edges h)
    (λ last. let m = mapped_some Loop (keyed (codes "loop") (many edge_in) words) line last in
    subst (Taken words) m.2 ((edges_invert (codes "loop")).takes words m.0 m.1)))

proof_again : (line : ProofLine) → IsProofLine line → proof_in (proof_words line) ≡ Some line
unfolding proof_in
proof_again (Split constraint) form = rw (split_invert.again constraint form) refl
proof_again (Path edges) form = rw ((edges_invert (codes "path")).again edges form) refl
proof_again (Loop edges) form = rw ((edges_invert (codes "loop")).again edges form) refl

pub proof_inverts : Inverts proof_in proof_words IsProofLine
proof_inverts = record { takes = proof_takes; again = proof_again }

-- ---- texts

side_plain : (side : Side) → is_plain (side_letter side) ≡ true
side_plain Upper = refl
side_plain Lower = refl

pub edge_plain : (edge : EdgeName) → is_plain (edge_word edge) ≡ true
edge_plain edge =
    plain_append (number_text edge.constraint) (46 ∷ (number_text edge.cause ++ side_letter edge.side)) (number_plain edge.constraint)
    (plain_append (number_text edge.cause) (side_letter edge.side) (number_plain edge.cause) (side_plain edge.side))

-- the words of a line of a proof: a first word and others, all of them plain
pub record LineWords (line : ProofLine) : Type 0 where
  pub first : Word
  pub others : List Word
  pub parts : proof_words line ≡ first ∷ others
  pub plain : ArePlain (first ∷ others)

pub proof_plain : (line : ProofLine) → LineWords line
proof_plain (Split constraint) = record { first = codes "split"; others = number_text constraint ∷ []; parts = refl; plain = (refl, (number_plain constraint, tt)) }
proof_plain (Path edges) = record { first = codes "path"; others = map edge_word edges; parts = refl; plain = (refl, map_plain edge_word edge_plain edges) }
proof_plain (Loop edges) = record { first = codes "loop"; others = map edge_word edges; parts = refl; plain = (refl, map_plain edge_word edge_plain edges) }

-- a line is cut into its words
line_words_are : (line : ProofLine) → split_words (proof_line line) ≡ proof_words line
line_words_are line =
    let w = proof_plain line in
    rw w.parts (split-join w.first w.others w.plain)

-- a text that is read is the text of a line, and the text of a line is read
pub text_is_line : (text : List ℕ) (line : ProofLine) → line_in text ≡ Some line → Spells text line
text_is_line text line e =
    let t = proof_takes (split_words text) line e in record {
      form = t.1;
      text_is = sym (join_with_byte-slice_split 32 text) ∙ ap line_of t.0;
    }

pub line_is_read : (text : List ℕ) (line : ProofLine) → Spells text line → line_in text ≡ Some line
line_is_read text line spells =
    ap proof_in (ap split_words spells.text_is ∙ line_words_are line) ∙ proof_again line spells.form

-- bytes that are no text are no line of a proof
pub no_proof_line : (text : List ℕ) → (IsUtf8 text → ⊥) → line_in text ≡ None
no_proof_line text other = none_at (line_in text) refl
  where
    none_at : (o : Option ProofLine) → line_in text ≡ o → o ≡ None
    none_at None e = refl
    none_at (Some line) e =
        let spells = text_is_line text line e in
        let w = proof_plain line in
        let ascii : IsUtf8 (proof_line line) = rw w.parts (line_is_text (w.first ∷ w.others) w.plain) in
        absurd (other (rw spells.text_is ascii))

-- ---- what is answered

pub tells_ok : (text : List ℕ) (r : Result OwnedLine LineFault) → IsLineRead r (line_in text) → IfOk r (λ line. Spells text (line_view line))
tells_ok text (Ok line) read = text_is_line text (line_view line) read
tells_ok text (Err fault) read = tt

pub tells_only : (text : List ℕ) (r : Result OwnedLine LineFault) → IsLineRead r (line_in text) → (line : ProofLine) → Spells text line → IsReadAs r line
tells_only text (Ok owned) read line spells = same_Some (line_view owned) line (sym read ∙ line_is_read text line spells)
tells_only text (Err BadLine) read line spells = none-some line (sym read ∙ line_is_read text line spells)
tells_only text (Err NoMemory) read line spells = tt

pub tells_bad : (text : List ℕ) (r : Result OwnedLine LineFault) → IsLineRead r (line_in text) → IsErrOf r BadLine → (line : ProofLine) → Spells text line → ⊥
tells_bad text (Ok owned) read bad line spells = cc
tells_bad text (Err BadLine) read bad line spells = none-some line (sym read ∙ line_is_read text line spells)
tells_bad text (Err NoMemory) read bad line spells = absurd (cc)

-- two different lines have different texts
pub line_texts_differ : (a b : ProofLine) → IsProofLine a → IsProofLine b → proof_line a ≡ proof_line b → a ≡ b
line_texts_differ a b p q e =
    same_Some a b (sym (line_is_read (proof_line a) a (record { form = p; text_is = refl })) ∙ line_is_read (proof_line a) b (record { form = q; text_is = e }))
