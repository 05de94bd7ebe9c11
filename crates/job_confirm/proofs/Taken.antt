-- The lines of a right proof are read and taken, one after another.
use Rattle.std.proofs.Common.{◌≡◌, ◌+◌, ◌<◌, ◌≤◌, ℕ, ℤ, List, [], ◌∷◌, ◌++◌, length, codes, Option, Some, None, refl, sym, ap, subst, ◌∙◌, append_assoc, append-nil, length-append, arith}
use Rattle.std.specs.Prelude.{All, Result, Ok, Err, IfOk, IfSome, IsSomeAnd, OnOk}
use Rattle.std.specs.Global.{Vec}
use Rattle.std.specs.List.{AllByRecursion, flat_map}
use Rattle.std.proofs.lemmas.List.{map-append}
use Rattle.std.proofs.lemmas.List.Elements.{recursion_from_All}
use Rattle.std.proofs.lemmas.Option.{none-some}
use Rattle.itv_base.specs.Numerals.{signed_text}
use Rattle.line_words.specs.Lines.{ended, line_of}
use Rattle.line_words.specs.Words.{Word, split_words}
use Rattle.line_words.proofs.Cutting.{IsLine as IsTextLine}
use Rattle.line_words.proofs.Plain.{ArePlain, join_line, signed_plain, split-join}
use Rattle.requirements.specs.declared.consistency.Consistency.TheVariants.{Inconsistent}
use Rattle.slack_report.specs.declared.words.Which.{Which}
use Rattle.slack_report.specs.declared.words.Which.TheVariants.{Max, Min}
use Rattle.slack_report.specs.Entry as line
use Rattle.slack_report.specs.Text.{entry_text, which_word, words_of}
use Rattle.requirements.specs.declared.bound.Bound.TheVariants as bounds
use Rattle.event_graph.specs.Network.{Net}
use Rattle.falling.specs.declared.view.View.{View}
use Rattle.falling.specs.declared.view.View.TheVariants.{Plain, Negated}
use Rattle.edge_clauses.specs.Lines.{ClauseLine, Goal, IsClauseProof, IsLine, IsOver, ProofLeads, State, starting}
use Rattle.edge_clauses.specs.Checking.{ClauseCheckerView}
use Rattle.edge_clauses.specs.declared.line.StoredLine.{StoredLine}
use Rattle.edge_clauses.specs.Proofs.{IsProving, line_of as stored_line, lines_of}
use Rattle.clause_texts.specs.Step.Reading.{clause_in}
use Rattle.clause_texts.specs.Text.{IsClauseLine, SpellsClause, claim_text, clause_line_text, clause_words, view_text, view_word}
use Rattle.clause_texts.proofs.LineLaws.{clause_plain, line_is_read}
use Rattle.job_confirm.specs.declared.check_stop.CheckStop.{CheckStop}
use Rattle.job_confirm.specs.Step.{Begins, BeginsOther, Gives}
use Rattle.job_confirm.proofs.Determined.{rest_leads}
use Rattle.job_confirm.proofs.Lines.{number_stands, words_stand}

-- ---- lines that stand next

view_plain : (view : View) → ArePlain (codes "view" ∷ view_word view ∷ [])
view_plain Plain = (refl, (refl, tt))
view_plain Negated = (refl, (refl, tt))

pub view_stands : (text : List ℕ) (view : View) (more : List ℕ) → text ≡ view_text view ++ more → Begins text (line_of (codes "view" ∷ view_word view ∷ [])) more
view_stands text view more e = record { is_line = join_line (codes "view" ∷ view_word view ∷ []) (view_plain view); text_is = e }

pub claim_stands : (text : List ℕ) (claim : ℤ) (more : List ℕ) → text ≡ claim_text claim ++ more → Begins text (line_of (codes "claim" ∷ signed_text claim ∷ [])) more
claim_stands text claim more e = record { is_line = join_line (codes "claim" ∷ signed_text claim ∷ []) (refl, (signed_plain claim, tt)); text_is = e }

clause_is_line : (l : ClauseLine) → IsTextLine (line_of (clause_words l))
clause_is_line l =
    let w = clause_plain l in
    rw w.parts (join_line (w.first ∷ w.others) w.plain)

pub clause_stands : (text : List ℕ) (l : ClauseLine) (more : List ℕ) → text ≡ clause_line_text l ++ more → Begins text (line_of (clause_words l)) more
clause_stands text l more e = record { is_line = clause_is_line l; text_is = e }

-- ---- lines that end a proof

bound_no_line : (which : Which) (value : ℤ) → clause_in (which_word which ∷ signed_text value ∷ []) ≡ None
unfolding clause_in
bound_no_line Max value = refl
bound_no_line Min value = refl

finding_no_line : clause_in (codes "finding" ∷ codes "inconsistent" ∷ []) ≡ None
unfolding clause_in
finding_no_line = refl

no_clause : (words : List Word) (l : ClauseLine) → split_words (line_of words) ≡ words → clause_in words ≡ None → SpellsClause (line_of words) l → ⊥
no_clause words l parts none spells = none-some l (sym (ap clause_in parts ∙ none) ∙ line_is_read (line_of words) l spells)

-- the number of a bound is no line of its proof
pub number_other : (which : Which) (value : ℤ) (more : List ℕ) → BeginsOther (entry_text (line.bound which (bounds.Closed value)) ++ more)
number_other which value more =
    let stands = number_stands (entry_text (line.bound which (bounds.Closed value)) ++ more) which value more refl in record {
      line = line_of (which_word which ∷ signed_text value ∷ []);
      more = more;
      begins = stands.begins;
      other = λ l spells. no_clause (which_word which ∷ signed_text value ∷ []) l stands.parts (bound_no_line which value) spells;
    }

pub finding_begins : (text more : List ℕ) → text ≡ entry_text (line.finding Inconsistent) ++ more → Begins text (line_of (codes "finding" ∷ codes "inconsistent" ∷ [])) more
unfolding words_of
finding_begins text more e = (words_stand text (codes "finding") (codes "inconsistent" ∷ []) more (refl, (refl, tt)) e).begins

-- the line of an inconsistent finding is no line of its proof
pub finding_other : (more : List ℕ) → BeginsOther (entry_text (line.finding Inconsistent) ++ more)
finding_other more = record {
  line = line_of (codes "finding" ∷ codes "inconsistent" ∷ []);
  more = more;
  begins = finding_begins (entry_text (line.finding Inconsistent) ++ more) more refl;
  other = λ l spells. no_clause (codes "finding" ∷ codes "inconsistent" ∷ []) l (split-join (codes "finding") (codes "inconsistent" ∷ []) (refl, (refl, tt))) finding_no_line spells;
}

-- ---- the lines of a proof

-- some lines of a proof were read, and the text that is left has the others
pub record AreLeft (shown : List ClauseLine) (more : List ℕ) (read : List ClauseLine) (rest : List ℕ) : Type 0 where
  pub left : List ClauseLine
  pub all : read ++ left ≡ shown
  pub forms : AllByRecursion IsClauseLine left
  pub stands : rest ≡ flat_map clause_line_text left ++ more

-- however a right proof goes on, its lines so far were read, at least one byte for each
abbrev pub IsReading : Net → Goal → List ℕ → ℕ → List StoredLine → List ℕ → Type 0
IsReading net goal text number read rest = (shown : List StoredLine) (more : List ℕ) → IsClauseProof net goal (lines_of shown) → All IsClauseLine (lines_of shown) → BeginsOther more
    → text ≡ flat_map clause_line_text (lines_of shown) ++ more → AreLeft (lines_of shown) more (lines_of read) rest × (number + length rest ≤ length text)

pub starts_reading : (net : Net) (goal : Goal) (text rest : List ℕ) (read : List StoredLine) → read ≡ [] → rest ≡ text → IsReading net goal text 0 read rest
starts_reading net goal text rest read none same shown more proof forms other stands = (
  record {
    left = lines_of shown;
    all = ap (λ (ls : List StoredLine). lines_of ls ++ lines_of shown) none;
    forms = recursion_from_All IsClauseLine (lines_of shown) forms;
    stands = same ∙ stands;
  },
  omega (arith, ap length same),
)

-- the first of the lines that are left, or none
pub first_left : (shown : List ClauseLine) (more : List ℕ) (read : List ClauseLine) (rest : List ℕ) → AreLeft shown more read rest → BeginsOther more
    → (found : Option StoredLine)
    → ((text after : List ℕ) → Begins rest text after → IfSome found (λ l. SpellsClause text (stored_line l)))
    → ((text after : List ℕ) (l : ClauseLine) → Begins rest text after → SpellsClause text l → IsSomeAnd found (λ r. stored_line r ≡ l))
    → IfSome found (λ r. (others : List ClauseLine) × (read ++ stored_line r ∷ others ≡ shown) × AllByRecursion IsClauseLine others
    × Begins rest (line_of (clause_words (stored_line r))) (flat_map clause_line_text others ++ more))
first_left shown more read rest h other None some is = tt
first_left shown more read rest h other (Some r) some is = by_left h.left h.all h.forms h.stands where
  by_left : (left : List ClauseLine) → read ++ left ≡ shown → AllByRecursion IsClauseLine left → rest ≡ flat_map clause_line_text left ++ more
      → (others : List ClauseLine) × (read ++ stored_line r ∷ others ≡ shown) × AllByRecursion IsClauseLine others
      × Begins rest (line_of (clause_words (stored_line r))) (flat_map clause_line_text others ++ more)
  by_left [] all forms stands =
      let begins : Begins rest other.line other.more = record { is_line = other.begins.is_line; text_is = stands ∙ other.begins.text_is } in
      absurd (other.other (stored_line r) (some other.line other.more begins))
  by_left (l ∷ others) all forms stands =
      let after : List ℕ = flat_map clause_line_text others ++ more in
      let begins : Begins rest (line_of (clause_words l)) after =
      clause_stands rest l after (stands ∙ append_assoc (clause_line_text l) (flat_map clause_line_text others) more) in
      let same : stored_line r ≡ l = is (line_of (clause_words l)) after l begins (record { form = forms.0; text_is = refl }) in (
        others,
        subst (λ (x : ClauseLine). read ++ x ∷ others ≡ shown) (sym same) all,
        forms.1,
        subst (λ (x : ClauseLine). Begins rest (line_of (clause_words x)) after) (sym same) begins,
      )

-- no line is left where none is read
pub none_left : (shown : List ClauseLine) (more : List ℕ) (read : List ClauseLine) (rest : List ℕ) → AreLeft shown more read rest
    → ((text after : List ℕ) (l : ClauseLine) → Begins rest text after → SpellsClause text l → ⊥) → (read ≡ shown) × (rest ≡ more)
none_left shown more read rest h none = by_left h.left h.all h.forms h.stands where
  by_left : (left : List ClauseLine) → read ++ left ≡ shown → AllByRecursion IsClauseLine left → rest ≡ flat_map clause_line_text left ++ more → (read ≡ shown) × (rest ≡ more)
  by_left [] all forms stands = (sym (append-nil read) ∙ all, stands)
  by_left (l ∷ others) all forms stands =
      let after : List ℕ = flat_map clause_line_text others ++ more in
      absurd (none (line_of (clause_words l)) after l (clause_stands rest l after (stands ∙ append_assoc (clause_line_text l) (flat_map clause_line_text others) more))
      (record { form = forms.0; text_is = refl }))

some_bytes : (line more : List ℕ) → 0 < length (ended line ++ more)
some_bytes line more = omega (arith, length-append (line ++ 10 ∷ []) more, length-append line (10 ∷ []))

-- no line is left where no byte is left
pub spent_left : (shown : List ClauseLine) (more : List ℕ) (read : List ClauseLine) (rest : List ℕ) → AreLeft shown more read rest → length rest ≡ 0 → (read ≡ shown) × (rest ≡ more)
spent_left shown more read rest h none = none_left shown more read rest h (λ text after l begins spells.
    let some = some_bytes text after in let same = ap length begins.text_is in absurd (omega (arith, some, same, none)))

-- ---- what the checker does

-- the lines so far lead to the state of the checker, so the others lead on from there
pub goes_on : (net : Net) (goal : Goal) (check : ClauseCheckerView) (read : List StoredLine) (others : List ClauseLine) → IsProving net (record { check = check; lines = read }) → check.goal ≡ goal
    → IsClauseProof net goal (lines_of read ++ others) → (after : State) × ProofLeads net check.goal check.state others after × IsOver check.goal after
goes_on net goal check read others proving same proof =
    let (after, leads, over) = subst (λ (g : Goal). IsClauseProof net g (lines_of read ++ others)) (sym same) proof in
    (after, rest_leads net check.goal (starting net check.goal.from) (lines_of read) others check.state after proving.lines leads, over)

-- the next line of a right proof is taken
pub is_taken : (net : Net) (goal : Goal) (check : ClauseCheckerView) (read : List StoredLine) (l : ClauseLine) (others : List ClauseLine) → IsProving net (record { check = check; lines = read }) → check.goal ≡ goal
    → IsClauseProof net goal (lines_of read ++ l ∷ others) → ((next : State) → IsLine net check.goal check.state l next → ⊥) → ⊥
is_taken net goal check read l others proving same proof refused =
    let (after, (next, is, leads), over) = goes_on net goal check read (l ∷ others) proving same proof in refused next is

-- after all lines of a right proof the checker is over
pub is_over : (net : Net) (goal : Goal) (check : ClauseCheckerView) (read shown : List StoredLine) → IsProving net (record { check = check; lines = read }) → check.goal ≡ goal
    → lines_of read ≡ lines_of shown → IsClauseProof net goal (lines_of shown) → IsOver check.goal check.state
is_over net goal check read shown proving same all proof =
    let (after, leads, over) =
    goes_on net goal check read [] proving same (subst (λ (ls : List ClauseLine). IsClauseProof net goal ls) (sym (append-nil (lines_of read) ∙ all)) proof) in
    subst (λ (s : State). IsOver check.goal s) (sym leads) over

-- ---- steps of the reading

-- the line that was read was taken
pub reads_taken : (net : Net) (goal : Goal) (check : ClauseCheckerView) (text rest : List ℕ) (number : ℕ) (read : List StoredLine) (r : StoredLine) → IsReading net goal text number read rest
    → IsProving net (record { check = check; lines = read }) → check.goal ≡ goal
    → ((line after : List ℕ) → Begins rest line after → SpellsClause line (stored_line r))
    → ((line after : List ℕ) (l : ClauseLine) → Begins rest line after → SpellsClause line l → stored_line r ≡ l)
    → ((next : State) → IsLine net check.goal check.state (stored_line r) next → ⊥)
    → (shown : List StoredLine) (more : List ℕ) → IsClauseProof net goal (lines_of shown) → All IsClauseLine (lines_of shown) → BeginsOther more
    → text ≡ flat_map clause_line_text (lines_of shown) ++ more → ⊥
reads_taken net goal check text rest number read r reading proving same some is refused shown more proof forms other stands =
    let (left, many) = reading shown more proof forms other stands in
    let (others, all, forms, begins) = first_left (lines_of shown) more (lines_of read) rest left other (Some r) some is in
    is_taken net goal check read (stored_line r) others proving same (subst (λ (ls : List ClauseLine). IsClauseProof net goal ls) (sym all) proof) refused

-- one line more was read
pub reads_more : (net : Net) (goal : Goal) (text rest next : List ℕ) (number : ℕ) (read grown : List StoredLine) (r : StoredLine) → IsReading net goal text number read rest
    → ((line after : List ℕ) → Begins rest line after → SpellsClause line (stored_line r))
    → ((line after : List ℕ) (l : ClauseLine) → Begins rest line after → SpellsClause line l → stored_line r ≡ l)
    → grown ≡ read ++ r ∷ [] → ((line after : List ℕ) → Begins rest line after → next ≡ after) → IsReading net goal text (number + 1) grown next
reads_more net goal text rest next number read grown r reading some is grows passed shown more proof forms other stands =
    let (left, many) = reading shown more proof forms other stands in
    let (others, all, forms, begins) = first_left (lines_of shown) more (lines_of read) rest left other (Some r) some is in
    let behind : next ≡ flat_map clause_line_text others ++ more = passed (line_of (clause_words (stored_line r))) _ begins in
    let is_grown : lines_of grown ≡ lines_of read ++ stored_line r ∷ [] = ap lines_of grows ∙ map-append stored_line read (r ∷ []) in (
      record {
        left = others;
        all = ap (λ (ls : List ClauseLine). ls ++ others) is_grown ∙ (append_assoc (lines_of read) (stored_line r ∷ []) others ∙ all);
        forms = forms;
        stands = behind;
      },
      shorter (length text) (length rest) (length next) number many (longer (line_of (clause_words (stored_line r))) (flat_map clause_line_text others ++ more) begins.text_is behind),
    ) where
      longer : (line after : List ℕ) → rest ≡ ended line ++ after → next ≡ after → length next < length rest
      longer line after is_rest is_next =
          omega (arith, ap length is_rest, ap length is_next, length-append (line ++ 10 ∷ []) after, length-append line (10 ∷ []))

      shorter : (total old new number : ℕ) → number + old ≤ total → new < old → number + 1 + new ≤ total
      shorter total old new number most less = omega arith

-- ---- the end of the lines

-- lines that lead to a checker which is over are a proof
pub ended_proves : (net : Net) (goal : Goal) (check : ClauseCheckerView) (lines : List StoredLine) (r : Result (Vec StoredLine) CheckStop) → IsProving net (record { check = check; lines = lines }) → check.goal ≡ goal
    → OnOk r (IsOver check.goal check.state) → IfOk r (λ found. found.items ≡ lines) → IfOk r (λ found. IsClauseProof net goal (lines_of found.items))
ended_proves net goal check lines (Ok found) proving same over is =
    subst (λ (ls : List StoredLine). IsClauseProof net goal (lines_of ls)) (sym is)
    (subst (λ (g : Goal). IsClauseProof net g (lines_of lines)) same (check.state, proving.lines, over))
ended_proves net goal check lines (Err stop) proving same over is = tt

-- all lines of a right proof were read, and the checker is over
pub ended_reads : (shown lines : List StoredLine) (rest more : List ℕ) (r : Result (Vec StoredLine) CheckStop) → lines_of lines ≡ lines_of shown → rest ≡ more
    → Gives (λ found. found.items ≡ lines) r → Gives (λ found. (lines_of shown ≡ lines_of found.items) × (rest ≡ more)) r
ended_reads shown lines rest more (Ok found) all stands is = (sym all ∙ sym (ap lines_of is), stands)
ended_reads shown lines rest more (Err stop) all stands want = want
