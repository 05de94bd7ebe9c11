-- A line of a proof is read from its text, and from no other.
use Rattle.std.proofs.Common.{◌≡◌, ◌^◌, ◌<◌, ℕ, ℤ, Bool, true, false, if◌then◌else◌, List, [], ◌∷◌, ◌++◌, map, codes, Option, Some, None, option_map, Result, Ok, Err, refl, sym, ap, subst, ◌∙◌}
use Rattle.std.specs.Prelude.{All, IfOk, IsErrOf}
use Rattle.std.specs.List.{AllByRecursion}
use Rattle.std.specs.Str.{IsUtf8}
use Rattle.std.proofs.lemmas.Option.{none-some, same_Some}
use Rattle.std.proofs.lemmas.List.Elements.{recursion_from_All}
use Rattle.std.proofs.lemmas.List.Splits.{join_with_byte-slice_split}
use Rattle.itv_base.specs.Numerals.{number_text, signed_text}
use Rattle.itv_base.proofs.Options.{mapped_some}
use Rattle.line_words.specs.Words.{◌>>=◌, Word, is_word, keyed, many, or_else, split_words, two}
use Rattle.line_words.specs.Lines.{line_of}
use Rattle.line_words.specs.Numbers.{IsLong, long_in}
use Rattle.line_words.proofs.Inverts.{Inverts, bind_some, keyed_inverts, keyed_takes, many_inverts, two_inverts, word_is, word_same}
use Rattle.line_words.proofs.NumberLaws.{long_inverts}
use Rattle.line_words.proofs.Plain.{ArePlain, line_is_text, map_plain, number_plain, signed_plain, split-join}
use Rattle.certificate.specs.declared.fault.LineFault.{LineFault}
use Rattle.certificate.specs.declared.fault.LineFault.TheVariants.{BadLine, NoMemory}
use Rattle.event_graph.specs.declared.edge.Edge.{Edge}
use Rattle.edge_clauses.specs.declared.basis.Basis.{Basis}
use Rattle.edge_clauses.specs.declared.basis.WalkStep.{WalkStep}
use Rattle.edge_clauses.specs.declared.line.EventBound.{EventBound}
use Rattle.edge_clauses.specs.declared.line.StoredLine.{StoredLine}
use Rattle.edge_clauses.specs.Lines.{Assume, ClauseLine, Close, Fall, Know, Loop, Rise}
use Rattle.edge_clauses.specs.Proofs.{line_of as stored_line_of}
use Rattle.clause_texts.specs.Answer.{IsReadAs}
use Rattle.clause_texts.specs.Step.Answer.{IsClauseRead}
use Rattle.clause_texts.specs.Step.Reading.{assume_in, basis_in, bound_in, bound_of, clause_in, close_in, closing, difference_in, fall_of, first_number, know_in, know_of, line_in, loop_in, loop_of, many_and_many, number_then, parted, rise_in, rise_of, short_in, step_in}
use Rattle.clause_texts.specs.Text.{IsBasisName, IsClauseLine, IsDifference, IsStepName, SpellsClause, basis_word, clause_words, difference_word, step_word}
use Rattle.clause_texts.proofs.WordLaws.{basis_inverts, basis_plain, difference_inverts, difference_plain, one_of, short_inverts, step_inverts, step_plain}

-- ---- words before a word and words after it

parted_is : (key : Word) (words : List Word) (p : List Word × List Word) → parted key words ≡ Some p → words ≡ p.0 ++ key ∷ p.1
parted_is key [] p e = absurd (cc)
parted_is key (word ∷ words) p e = by_test (is_word word key) refl e (parted_is key words)
  where
    by_test : (t : Bool) → is_word word key ≡ t
        → (if t then Some ([], words) else option_map (λ (q : List Word × List Word). (word ∷ q.0, q.1)) (parted key words)) ≡ Some p
        → ((q : List Word × List Word) → parted key words ≡ Some q → words ≡ q.0 ++ key ∷ q.1) → word ∷ words ≡ p.0 ++ key ∷ p.1
    by_test true is h rest =
        subst (λ (q : List Word × List Word). word ∷ words ≡ q.0 ++ key ∷ q.1) (same_Some ([], words) p h) (ap (λ (w : Word). w ∷ words) (word_is word key is))
    by_test false is h rest =
        let m = mapped_some (λ (q : List Word × List Word). (word ∷ q.0, q.1)) (parted key words) p h in
        subst (λ (q : List Word × List Word). word ∷ words ≡ q.0 ++ key ∷ q.1) m.2 (ap (λ (ws : List Word). word ∷ ws) (rest m.0 m.1))

-- no word is this one
abbrev AreOthers : Word → List Word → Type 0
AreOthers key words = AllByRecursion (λ (word : Word). is_word word key ≡ false) words

parted_again : (key : Word) (front behind : List Word) → AreOthers key front → parted key (front ++ key ∷ behind) ≡ Some (front, behind)
parted_again key [] behind others = rw (word_same key) refl
parted_again key (word ∷ front) behind others = rw others.0 (rw (parted_again key front behind others.1) refl)

both_inverts : {A B : Type 0} (read : Word → Option A) (spell : A → Word) (Form : A → Type 0) (key : Word) (also : Word → Option B) (spell_too : B → Word) (FormToo : B → Type 0)
    → Inverts read spell Form → Inverts also spell_too FormToo → ((x : A) → Form x → is_word (spell x) key ≡ false)
    → Inverts (many_and_many read key also) (λ p. map spell p.0 ++ key ∷ map spell_too p.1) (λ p. All Form p.0 × All FormToo p.1)
both_inverts {A} {B} read spell Form key also spell_too FormToo i j other = record {
  takes = λ words p e.
      let a = bind_some (parted key words) (λ q. many read q.0 >>= λ xs. many also q.1 >>= λ ys. Some (xs, ys)) p e in
      let b = bind_some (many read a.0.0) (λ xs. many also a.0.1 >>= λ ys. Some (xs, ys)) p a.2 in
      let d = bind_some (many also a.0.1) (λ ys. Some (b.0, ys)) p b.2 in
      let first = (many_inverts read spell Form i).takes a.0.0 b.0 b.1 in
      let second = (many_inverts also spell_too FormToo j).takes a.0.1 d.0 d.1 in
      let whole : words ≡ map spell b.0 ++ key ∷ map spell_too d.0 =
      parted_is key words a.0 a.1 ∙ ap (λ (ws : List Word). ws ++ key ∷ a.0.1) first.0 ∙ ap (λ (ws : List Word). map spell b.0 ++ key ∷ ws) second.0 in
      subst (λ (q : List A × List B). (words ≡ map spell q.0 ++ key ∷ map spell_too q.1) × (All Form q.0 × All FormToo q.1)) (same_Some (b.0, d.0) p d.2)
      (whole, (first.1, second.1));
  again = λ p form.
      let front = parted_again key (map spell p.0) (map spell_too p.1) (others p.0 (recursion_from_All Form p.0 form.0)) in
      rw front (rw ((many_inverts read spell Form i).again p.0 form.0) (rw ((many_inverts also spell_too FormToo j).again p.1 form.1) refl));
} where
  others : (xs : List A) → AllByRecursion Form xs → AreOthers key (map spell xs)
  others [] form = tt
  others (x ∷ xs) form = (other x form.0, others xs form.1)

-- ---- a number and what is after it

first_is : (words : List Word) (p : ℕ × List Word) → first_number words ≡ Some p → (words ≡ number_text p.0 ∷ p.1) × (p.0 < 2 ^ 32)
first_is [] p e = absurd (cc)
first_is (word ∷ words) p e =
    let b = bind_some (short_in word) (λ n. Some (n, words)) p e in
    let t = short_inverts.takes word b.0 b.1 in
    subst (λ (q : ℕ × List Word). (word ∷ words ≡ number_text q.0 ∷ q.1) × (q.0 < 2 ^ 32)) (same_Some (b.0, words) p b.2) (ap (λ (w : Word). w ∷ words) t.0, t.1)

numbered_inverts : {A : Type 0} (read : List Word → Option A) (spell : A → List Word) (Form : A → Type 0) → Inverts read spell Form
    → Inverts (number_then read) (λ p. number_text p.0 ∷ spell p.1) (λ p. (p.0 < 2 ^ 32) × Form p.1)
numbered_inverts {A} read spell Form i = record {
  takes = λ words p e.
      let a = bind_some (first_number words) (λ q. read q.1 >>= λ x. Some (q.0, x)) p e in
      let d = bind_some (read a.0.1) (λ x. Some (a.0.0, x)) p a.2 in
      let first = first_is words a.0 a.1 in
      let others = i.takes a.0.1 d.0 d.1 in
      let whole : words ≡ number_text a.0.0 ∷ spell d.0 = first.0 ∙ ap (λ (ws : List Word). number_text a.0.0 ∷ ws) others.0 in
      subst (λ (q : ℕ × A). (words ≡ number_text q.0 ∷ spell q.1) × ((q.0 < 2 ^ 32) × Form q.1)) (same_Some (a.0.0, d.0) p d.2) (whole, (first.1, others.1));
  again = λ p form. rw (short_inverts.again p.0 form.0) (rw (i.again p.1 form.1) refl);
}

-- ---- bounds of events

abbrev LongAndBasis : ℤ × Basis → Type 0
LongAndBasis p = IsLong p.0 × IsBasisName p.1

long_and_basis : Inverts (two long_in basis_in) (λ p. signed_text p.0 ∷ basis_word p.1 ∷ []) LongAndBasis
long_and_basis = two_inverts long_in signed_text IsLong basis_in basis_word IsBasisName long_inverts basis_inverts

number_long_basis : Inverts (number_then (two long_in basis_in)) (λ p. number_text p.0 ∷ signed_text p.1.0 ∷ basis_word p.1.1 ∷ []) (λ p. (p.0 < 2 ^ 32) × LongAndBasis p.1)
number_long_basis = numbered_inverts (two long_in basis_in) (λ p. signed_text p.0 ∷ basis_word p.1 ∷ []) LongAndBasis long_and_basis

abbrev bound_words : EventBound → List Word
bound_words bound = number_text bound.event.0 ∷ signed_text bound.value ∷ basis_word bound.basis ∷ []

abbrev IsNamedBound : EventBound → Type 0
IsNamedBound bound = (bound.event.0 < 2 ^ 32) × IsLong bound.value × IsBasisName bound.basis

bound_inverts : Inverts bound_in bound_words IsNamedBound
bound_inverts = record {
  takes = λ words bound e.
      let m = mapped_some bound_of (number_then (two long_in basis_in) words) bound e in
      let t = number_long_basis.takes words m.0 m.1 in
      subst (λ (b : EventBound). (words ≡ bound_words b) × IsNamedBound b) m.2 (t.0, (t.1.0, t.1.1.0, t.1.1.1));
  again = λ bound form. rw (number_long_basis.again (bound.event.0, (bound.value, bound.basis)) (form.0, (form.1, form.2))) refl;
}

-- ---- lines

bound_line : (key : Word) → Inverts (keyed key bound_in) (λ bound. key ∷ bound_words bound) IsNamedBound
bound_line key = keyed_inverts key bound_in bound_words IsNamedBound bound_inverts

know_inverts : Inverts (keyed (codes "know") (two difference_in basis_in)) (λ p. codes "know" ∷ difference_word p.0 ∷ basis_word p.1 ∷ []) (λ p. IsDifference p.0 × IsBasisName p.1)
know_inverts =
    keyed_inverts (codes "know") (two difference_in basis_in) (λ p. difference_word p.0 ∷ basis_word p.1 ∷ []) (λ p. IsDifference p.0 × IsBasisName p.1)
    (two_inverts difference_in difference_word IsDifference basis_in basis_word IsBasisName difference_inverts basis_inverts)

keep_is_no_step : step_in (codes "keep") ≡ None
unfolding step_in
keep_is_no_step = refl

-- no step is the word `keep`
no_keep : (step : WalkStep) → IsStepName step → is_word (step_word step) (codes "keep") ≡ false
no_keep step form = by_test (is_word (step_word step) (codes "keep")) refl
  where
    by_test : (t : Bool) → is_word (step_word step) (codes "keep") ≡ t → t ≡ false
    by_test true e =
        absurd (none-some step (sym keep_is_no_step ∙ (ap step_in (sym (word_is (step_word step) (codes "keep") e)) ∙ step_inverts.again step form)))
    by_test false e = refl

abbrev kept_words : List WalkStep × List Edge → List Word
kept_words p = map step_word p.0 ++ codes "keep" ∷ map difference_word p.1

abbrev AreNamed : List WalkStep × List Edge → Type 0
AreNamed p = All IsStepName p.0 × All IsDifference p.1

kept_inverts : Inverts (many_and_many step_in (codes "keep") difference_in) kept_words AreNamed
kept_inverts = both_inverts step_in step_word IsStepName (codes "keep") difference_in difference_word IsDifference step_inverts difference_inverts no_keep

loop_inverts : Inverts (keyed (codes "loop") (number_then (many_and_many step_in (codes "keep") difference_in)))
    (λ p. codes "loop" ∷ number_text p.0 ∷ kept_words p.1) (λ p. (p.0 < 2 ^ 32) × AreNamed p.1)
loop_inverts =
    keyed_inverts (codes "loop") (number_then (many_and_many step_in (codes "keep") difference_in)) (λ p. number_text p.0 ∷ kept_words p.1) (λ p. (p.0 < 2 ^ 32) × AreNamed p.1)
    (numbered_inverts (many_and_many step_in (codes "keep") difference_in) kept_words AreNamed kept_inverts)

assume_inverts : Inverts (keyed (codes "assume") (many difference_in)) (λ edges. codes "assume" ∷ map difference_word edges) (All IsDifference)
assume_inverts =
    keyed_inverts (codes "assume") (many difference_in) (map difference_word) (All IsDifference) (many_inverts difference_in difference_word IsDifference difference_inverts)

abbrev Taken : List Word → ClauseLine → Type 0
Taken words line = (words ≡ clause_words line) × IsClauseLine line

closing_takes : (words : List Word) (line : ClauseLine) → closing words ≡ Some line → Taken (codes "close" ∷ words) line
closing_takes [] line e = subst (Taken (codes "close" ∷ [])) (same_Some Close line e) (refl, tt)
closing_takes (word ∷ words) line e = absurd (cc)

close_takes : (words : List Word) (line : ClauseLine) → close_in words ≡ Some line → Taken words line
close_takes words line e =
    let k = keyed_takes (codes "close") closing words line e in
    subst (λ (ws : List Word). Taken ws line) (sym k.1) (closing_takes k.0 line k.2)

assume_takes : (words : List Word) (line : ClauseLine) → or_else (assume_in words) (close_in words) ≡ Some line → Taken words line
assume_takes words line e =
    one_of Assume (keyed (codes "assume") (many difference_in) words) (close_in words) line (Taken words) e
    (λ edges h. assume_inverts.takes words edges h) (close_takes words line)

loop_takes : (words : List Word) (line : ClauseLine) → or_else (loop_in words) (or_else (assume_in words) (close_in words)) ≡ Some line → Taken words line
loop_takes words line e =
    one_of loop_of (keyed (codes "loop") (number_then (many_and_many step_in (codes "keep") difference_in)) words) (or_else (assume_in words) (close_in words)) line (Taken words) e
    (λ p h. let t = loop_inverts.takes words p h in (t.0, (t.1.0, t.1.1.0, t.1.1.1))) (assume_takes words line)

know_takes : (words : List Word) (line : ClauseLine) → or_else (know_in words) (or_else (loop_in words) (or_else (assume_in words) (close_in words))) ≡ Some line → Taken words line
know_takes words line e =
    one_of know_of (keyed (codes "know") (two difference_in basis_in) words) (or_else (loop_in words) (or_else (assume_in words) (close_in words))) line (Taken words) e
    (λ p h. know_inverts.takes words p h) (loop_takes words line)

rise_takes : (words : List Word) (line : ClauseLine)
    → or_else (rise_in words) (or_else (know_in words) (or_else (loop_in words) (or_else (assume_in words) (close_in words)))) ≡ Some line → Taken words line
rise_takes words line e =
    one_of rise_of (keyed (codes "rise") bound_in words) (or_else (know_in words) (or_else (loop_in words) (or_else (assume_in words) (close_in words)))) line (Taken words) e
    (λ bound h. (bound_line (codes "rise")).takes words bound h) (know_takes words line)

clause_takes : (words : List Word) (line : ClauseLine) → clause_in words ≡ Some line → Taken words line
unfolding clause_in
clause_takes words line e =
    one_of fall_of (keyed (codes "fall") bound_in words)
    (or_else (rise_in words) (or_else (know_in words) (or_else (loop_in words) (or_else (assume_in words) (close_in words))))) line (Taken words) e
    (λ bound h. (bound_line (codes "fall")).takes words bound h) (rise_takes words line)

clause_again : (line : ClauseLine) → IsClauseLine line → clause_in (clause_words line) ≡ Some line
unfolding clause_in
clause_again (Fall event value basis) form = rw ((bound_line (codes "fall")).again (record { event = event; value = value; basis = basis }) form) refl
clause_again (Rise event value basis) form = rw ((bound_line (codes "rise")).again (record { event = event; value = value; basis = basis }) form) refl
clause_again (Know e basis) form = rw (know_inverts.again (e, basis) form) refl
clause_again (Loop event steps clause) form = rw (loop_inverts.again (event.0, (steps, clause)) (form.0, (form.1, form.2))) refl
clause_again (Assume edges) form = rw (assume_inverts.again edges form) refl
clause_again Close form = refl

-- ---- texts

append_plain : (front behind : List Word) → ArePlain front → ArePlain behind → ArePlain (front ++ behind)
append_plain [] behind all more = more
append_plain (word ∷ front) behind all more = (all.0, append_plain front behind all.1 more)

loop_plain : (event : ℕ) (steps : List WalkStep) (clause : List Edge) → ArePlain (number_text event ∷ (map step_word steps ++ codes "keep" ∷ map difference_word clause))
loop_plain event steps clause = (
  number_plain event,
  append_plain (map step_word steps) (codes "keep" ∷ map difference_word clause) (map_plain step_word step_plain steps)
      (refl, map_plain difference_word difference_plain clause),
)

-- the words of a line of a proof: a first word and others, all of them plain
pub record LineWords (line : ClauseLine) : Type 0 where
  pub first : Word
  pub others : List Word
  pub parts : clause_words line ≡ first ∷ others
  pub plain : ArePlain (first ∷ others)

pub clause_plain : (line : ClauseLine) → LineWords line
clause_plain (Fall event value basis) = record {
  first = codes "fall";
  others = number_text event.0 ∷ signed_text value ∷ basis_word basis ∷ [];
  parts = refl;
  plain = (refl, (number_plain event.0, (signed_plain value, (basis_plain basis, tt))));
}
clause_plain (Rise event value basis) = record {
  first = codes "rise";
  others = number_text event.0 ∷ signed_text value ∷ basis_word basis ∷ [];
  parts = refl;
  plain = (refl, (number_plain event.0, (signed_plain value, (basis_plain basis, tt))));
}
clause_plain (Know e basis) = record {
  first = codes "know";
  others = difference_word e ∷ basis_word basis ∷ [];
  parts = refl;
  plain = (refl, (difference_plain e, (basis_plain basis, tt)));
}
clause_plain (Loop event steps clause) = record {
  first = codes "loop";
  others = number_text event.0 ∷ (map step_word steps ++ codes "keep" ∷ map difference_word clause);
  parts = refl;
  plain = (refl, loop_plain event.0 steps clause);
}
clause_plain (Assume edges) = record { first = codes "assume"; others = map difference_word edges; parts = refl; plain = (refl, map_plain difference_word difference_plain edges) }
clause_plain Close = record { first = codes "close"; others = []; parts = refl; plain = (refl, tt) }

-- a line is cut into its words
line_words_are : (line : ClauseLine) → split_words (line_of (clause_words line)) ≡ clause_words line
line_words_are line =
    let w = clause_plain line in
    rw w.parts (split-join w.first w.others w.plain)

-- a text that is read is the text of a line, and the text of a line is read
pub text_is_line : (text : List ℕ) (line : ClauseLine) → line_in text ≡ Some line → SpellsClause text line
text_is_line text line e =
    let t = clause_takes (split_words text) line e in record {
      form = t.1;
      text_is = sym (join_with_byte-slice_split 32 text) ∙ ap line_of t.0;
    }

pub line_is_read : (text : List ℕ) (line : ClauseLine) → SpellsClause text line → line_in text ≡ Some line
line_is_read text line spells =
    ap clause_in (ap split_words spells.text_is ∙ line_words_are line) ∙ clause_again line spells.form

-- bytes that are no text are no line of a proof
pub no_clause_line : (text : List ℕ) → (IsUtf8 text → ⊥) → line_in text ≡ None
no_clause_line text other = none_at (line_in text) refl
  where
    none_at : (o : Option ClauseLine) → line_in text ≡ o → o ≡ None
    none_at None e = refl
    none_at (Some line) e =
        let spells = text_is_line text line e in
        let w = clause_plain line in
        let ascii : IsUtf8 (line_of (clause_words line)) = rw w.parts (line_is_text (w.first ∷ w.others) w.plain) in
        absurd (other (rw spells.text_is ascii))

-- ---- what is answered

pub tells_ok : (text : List ℕ) (r : Result StoredLine LineFault) → IsClauseRead r (line_in text) → IfOk r (λ line. SpellsClause text (stored_line_of line))
tells_ok text (Ok line) read = text_is_line text (stored_line_of line) read
tells_ok text (Err fault) read = tt

pub tells_only : (text : List ℕ) (r : Result StoredLine LineFault) → IsClauseRead r (line_in text) → (line : ClauseLine) → SpellsClause text line → IsReadAs r line
tells_only text (Ok stored) read line spells = same_Some (stored_line_of stored) line (sym read ∙ line_is_read text line spells)
tells_only text (Err BadLine) read line spells = none-some line (sym read ∙ line_is_read text line spells)
tells_only text (Err NoMemory) read line spells = tt

pub tells_bad : (text : List ℕ) (r : Result StoredLine LineFault) → IsClauseRead r (line_in text) → IsErrOf r BadLine → (line : ClauseLine) → SpellsClause text line → ⊥
tells_bad text (Ok stored) read bad line spells = cc
tells_bad text (Err BadLine) read bad line spells = none-some line (sym read ∙ line_is_read text line spells)
tells_bad text (Err NoMemory) read bad line spells = absurd (cc)

-- at most one line has a given text
pub lines_differ : (text : List ℕ) (a b : ClauseLine) → SpellsClause text a → SpellsClause text b → a ≡ b
lines_differ text a b p q = same_Some a b (sym (line_is_read text a p) ∙ line_is_read text b q)
