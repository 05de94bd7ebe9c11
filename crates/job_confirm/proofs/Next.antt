-- Which kind of finding, or of bound, stands next in a right text.
use Rattle.std.proofs.Common.{◌≡◌, ℕ, ℤ, true, Bool, List, [], ◌∷◌, ◌++◌, codes, get_or, refl, sym, ap, ◌∙◌, append_assoc, arith}
use Rattle.std.specs.Prelude.{Result}
use Rattle.std.specs.Global.{Vec}
use Rattle.std.specs.List.{flat_map}
use Rattle.line_words.specs.Lines.{line_of}
use Rattle.line_words.specs.Words.{Word}
use Rattle.line_words.proofs.Plain.{join_line}
use Rattle.event_graph.specs.Network.{Net}
use Rattle.falling.specs.declared.view.View.{View}
use Rattle.falling.specs.declared.view.View.TheVariants.{Plain, Negated}
use Rattle.requirements.specs.declared.consistency.Consistency.TheVariants as findings
use Rattle.slack_report.specs.declared.words.Which.{Which}
use Rattle.slack_report.specs.declared.words.Which.TheVariants.{Max, Min}
use Rattle.slack_report.specs.Entry as line
use Rattle.slack_report.specs.Text.{entry_text, which_word, words_of}
use Rattle.slack_report.proofs.PlainLines.{which_plain}
use Rattle.requirements.specs.declared.bound.Bound.TheVariants as bounds
use Rattle.drawn_networks.specs.declared.row.Row.{Row}
use Rattle.edge_clauses.specs.Proofs.{lines_of}
use Rattle.clause_texts.specs.Text.{claim_text, clause_line_text, view_text, view_word}
use Rattle.job_settle.specs.declared.finding.Finding.{Finding}
use Rattle.job_settle.specs.declared.finding.Finding.TheVariants.{Consistent, Inconsistent, Open}
use Rattle.job_settle.specs.declared.proof.Proof.{Proof}
use Rattle.job_settle.specs.declared.bound.SettledBound.{SettledBound}
use Rattle.job_settle.specs.declared.bound.SettledBound.TheVariants as settled
use Rattle.job_settle.specs.Answers.{ArePrintedTimes, IsBound, IsEndless, IsFinding, IsNumber, IsRefuted, first_event}
use Rattle.job_settle.specs.Text.{bound_text, finding_text, shown_text}
use Rattle.job_confirm.specs.declared.check_stop.CheckStop.{CheckStop}
use Rattle.job_confirm.specs.Step.{Begins, Gives, IsSameBound, IsSameFinding}
use Rattle.job_confirm.proofs.Taken.{view_stands}

-- ---- lines that differ

differ_at : (a b : List ℕ) (place x y : ℕ) → get_or a place 0 ≡ x → get_or b place 0 ≡ y → (x ≡ y → ⊥) → a ≡ b → ⊥
differ_at a b place x y is other apart same = apart (sym is ∙ (ap (λ bytes. get_or bytes place 0) same ∙ other))

abbrev view_line : View → List ℕ
view_line view = line_of (codes "view" ∷ view_word view ∷ [])

view_first : (view : View) → get_or (view_line view) 0 0 ≡ 118
view_first Plain = refl
view_first Negated = refl

-- ---- findings

spent_begins : (rest more : List ℕ) → rest ≡ finding_text true Open ++ more → Begins rest (codes "finding spent") more
spent_begins rest more e = record { is_line = join_line (codes "finding" ∷ codes "spent" ∷ []) (refl, (refl, tt)); text_is = e }

consistent_begins : (times : Vec ℤ) (rest more : List ℕ) → rest ≡ finding_text true (Consistent times) ++ more
    → Begins rest (codes "finding consistent") (entry_text (line.times times.items) ++ more)
unfolding words_of
consistent_begins times rest more e = record {
  is_line = join_line (codes "finding" ∷ codes "consistent" ∷ []) (refl, (refl, tt));
  text_is = e ∙ append_assoc (entry_text (line.finding findings.Consistent)) (entry_text (line.times times.items)) more;
}

-- a proof begins with its view
pub proof_begins : (proof : Proof) (rest more : List ℕ) → rest ≡ shown_text true proof ++ more
    → Begins rest (view_line proof.view) (claim_text proof.claim ++ (flat_map clause_line_text (lines_of proof.lines.items) ++ more))
proof_begins proof rest more e =
    let claim : List ℕ = claim_text proof.claim in
    let lines : List ℕ = flat_map clause_line_text (lines_of proof.lines.items) in
    view_stands rest proof.view (claim ++ (lines ++ more))
    (e ∙ (append_assoc (view_text proof.view) (claim ++ lines) more ∙ ap (λ text. view_text proof.view ++ text) (append_assoc claim lines more)))

refuted_stands : (proof : Proof) (rest more : List ℕ) → rest ≡ finding_text true (Inconsistent proof) ++ more
    → rest ≡ shown_text true proof ++ (entry_text (line.finding findings.Inconsistent) ++ more)
refuted_stands proof rest more e = e ∙ append_assoc (shown_text true proof) (entry_text (line.finding findings.Inconsistent)) more

module _ (net : Net) (rest : List ℕ) where
  -- the finding is spent where that line stands next
  pub spent_read : ((next after : List ℕ) → Begins rest next after → next ≡ codes "finding spent") → (shown : Finding) (more : List ℕ) → rest ≡ finding_text true shown ++ more
      → IsSameFinding shown Open
  spent_read is (Consistent times) more e =
      absurd (differ_at (codes "finding consistent") (codes "finding spent") 8 99 115 refl refl (λ same. omega arith) (is _ _ (consistent_begins times rest more e)))
  spent_read is (Inconsistent proof) more e =
      absurd (differ_at (view_line proof.view) (codes "finding spent") 0 118 102 (view_first proof.view) refl (λ same. omega arith)
      (is _ _ (proof_begins proof rest _ (refuted_stands proof rest more e))))
  spent_read is Open more e = tt

  -- the finding is consistent where that line stands next
  pub consistent_read : (next : List ℕ) (r : Result Finding CheckStop) → ((line after : List ℕ) → Begins rest line after → line ≡ codes "finding consistent")
      → ((line after : List ℕ) → Begins rest line after → next ≡ after)
      → ((times : Vec ℤ) (more : List ℕ) → ArePrintedTimes net first_event times.items → next ≡ entry_text (line.times times.items) ++ more → Gives (IsSameFinding (Consistent times)) r)
      → (shown : Finding) (more : List ℕ) → IsFinding true net shown → rest ≡ finding_text true shown ++ more → Gives (IsSameFinding shown) r
  consistent_read next r is passed read (Consistent times) more printed e = read times more printed (passed _ _ (consistent_begins times rest more e))
  consistent_read next r is passed read (Inconsistent proof) more refuted e =
      absurd (differ_at (view_line proof.view) (codes "finding consistent") 0 118 102 (view_first proof.view) refl (λ same. omega arith)
      (is _ _ (proof_begins proof rest _ (refuted_stands proof rest more e))))
  consistent_read next r is passed read Open more nothing e =
      absurd (differ_at (codes "finding spent") (codes "finding consistent") 8 115 99 refl refl (λ same. omega arith) (is _ _ (spent_begins rest more e)))

  -- the finding is inconsistent where neither line stands next
  pub refuted_read : (r : Result Finding CheckStop) → ((line after : List ℕ) → Begins rest line after → line ≡ codes "finding spent" → ⊥)
      → ((line after : List ℕ) → Begins rest line after → line ≡ codes "finding consistent" → ⊥)
      → ((proof : Proof) (more : List ℕ) → IsRefuted true net proof
      → rest ≡ shown_text true proof ++ (entry_text (line.finding findings.Inconsistent) ++ more) → Gives (IsSameFinding (Inconsistent proof)) r)
      → (shown : Finding) (more : List ℕ) → IsFinding true net shown → rest ≡ finding_text true shown ++ more → Gives (IsSameFinding shown) r
  refuted_read r not_spent not_consistent read (Consistent times) more printed e = absurd (not_consistent _ _ (consistent_begins times rest more e) refl)
  refuted_read r not_spent not_consistent read (Inconsistent proof) more refuted e = read proof more refuted (refuted_stands proof rest more e)
  refuted_read r not_spent not_consistent read Open more nothing e = absurd (not_spent _ _ (spent_begins rest more e) refl)

-- ---- bounds

abbrev pub spent_key : Which → List ℕ
spent_key which = line_of (which_word which ∷ codes "spent" ∷ [])

abbrev pub endless_key : Which → List ℕ
endless_key which = line_of (which_word which ∷ codes "unbounded" ∷ [])

keys_differ : (which : Which) → spent_key which ≡ endless_key which → ⊥
keys_differ Max same = differ_at (spent_key Max) (endless_key Max) 4 115 117 refl refl (λ e. omega arith) same
keys_differ Min same = differ_at (spent_key Min) (endless_key Min) 4 115 117 refl refl (λ e. omega arith) same

key_first : (which : Which) (word : Word) → get_or (line_of (which_word which ∷ word ∷ [])) 0 0 ≡ 109
key_first Max word = refl
key_first Min word = refl

not_key : (view : View) (which : Which) (word : Word) → view_line view ≡ line_of (which_word which ∷ word ∷ []) → ⊥
not_key view which word same =
    differ_at (view_line view) (line_of (which_word which ∷ word ∷ [])) 0 118 109 (view_first view) (key_first which word) (λ e. omega arith) same

spent_bound_begins : (which : Which) (rest more : List ℕ) → rest ≡ bound_text true which settled.Open ++ more → Begins rest (spent_key which) more
spent_bound_begins which rest more e = record { is_line = join_line (which_word which ∷ codes "spent" ∷ []) (which_plain which, (refl, tt)); text_is = e }

endless_begins : (which : Which) (times : Vec ℤ) (ray : Vec Bool) (rest more : List ℕ) → rest ≡ bound_text true which (settled.Unbounded times ray) ++ more
    → Begins rest (endless_key which) (entry_text (line.times times.items) ++ (entry_text (line.raise ray.items) ++ more))
unfolding words_of
endless_begins which times ray rest more e =
    let word : List ℕ = entry_text (line.bound which bounds.Unbounded) in
    let first : List ℕ = entry_text (line.times times.items) in
    let second : List ℕ = entry_text (line.raise ray.items) in record {
      is_line = join_line (which_word which ∷ codes "unbounded" ∷ []) (which_plain which, (refl, tt));
      text_is = e ∙ (append_assoc word (first ++ second) more ∙ ap (λ text. word ++ text) (append_assoc first second more));
    }

number_begins : (which : Which) (value : ℤ) (times : Vec ℤ) (proof : Proof) (rest more : List ℕ) → rest ≡ bound_text true which (settled.Closed value times proof) ++ more
    → rest ≡ shown_text true proof ++ (entry_text (line.bound which (bounds.Closed value)) ++ (entry_text (line.times times.items) ++ more))
number_begins which value times proof rest more e =
    let shown : List ℕ = shown_text true proof in
    let number : List ℕ = entry_text (line.bound which (bounds.Closed value)) in
    let last : List ℕ = entry_text (line.times times.items) in
    e ∙ (append_assoc shown (number ++ last) more ∙ ap (λ text. shown ++ text) (append_assoc number last more))

module _ (net : Net) (which : Which) (row : Row) (rest : List ℕ) where
  -- the bound is spent where that line stands next
  pub spent_bound_read : ((next after : List ℕ) → Begins rest next after → next ≡ spent_key which) → (shown : SettledBound) (more : List ℕ) → rest ≡ bound_text true which shown ++ more
      → IsSameBound shown settled.Open
  spent_bound_read is (settled.Closed value times proof) more e =
      absurd (not_key proof.view which (codes "spent") (is _ _ (proof_begins proof rest _ (number_begins which value times proof rest more e))))
  spent_bound_read is (settled.Unbounded times ray) more e = absurd (keys_differ which (sym (is _ _ (endless_begins which times ray rest more e))))
  spent_bound_read is settled.Open more e = tt

  -- there is no bound where that line stands next
  pub endless_read : (next : List ℕ) (r : Result SettledBound CheckStop) → ((line after : List ℕ) → Begins rest line after → line ≡ endless_key which)
      → ((line after : List ℕ) → Begins rest line after → next ≡ after)
      → ((times : Vec ℤ) (ray : Vec Bool) (more : List ℕ) → IsEndless net which row times.items ray.items
      → next ≡ entry_text (line.times times.items) ++ (entry_text (line.raise ray.items) ++ more) → Gives (IsSameBound (settled.Unbounded times ray)) r)
      → (shown : SettledBound) (more : List ℕ) → IsBound true net which row shown → rest ≡ bound_text true which shown ++ more → Gives (IsSameBound shown) r
  endless_read next r is passed read (settled.Closed value times proof) more number e =
      absurd (not_key proof.view which (codes "unbounded") (is _ _ (proof_begins proof rest _ (number_begins which value times proof rest more e))))
  endless_read next r is passed read (settled.Unbounded times ray) more endless e = read times ray more endless (passed _ _ (endless_begins which times ray rest more e))
  endless_read next r is passed read settled.Open more nothing e = absurd (keys_differ which (is _ _ (spent_bound_begins which rest more e)))

  -- the bound is a number where neither line stands next
  pub number_read : (r : Result SettledBound CheckStop) → ((line after : List ℕ) → Begins rest line after → line ≡ spent_key which → ⊥)
      → ((line after : List ℕ) → Begins rest line after → line ≡ endless_key which → ⊥)
      → ((value : ℤ) (times : Vec ℤ) (proof : Proof) (more : List ℕ) → IsNumber true net which row value times.items proof
      → rest ≡ shown_text true proof ++ (entry_text (line.bound which (bounds.Closed value)) ++ (entry_text (line.times times.items) ++ more))
      → Gives (IsSameBound (settled.Closed value times proof)) r)
      → (shown : SettledBound) (more : List ℕ) → IsBound true net which row shown → rest ≡ bound_text true which shown ++ more → Gives (IsSameBound shown) r
  number_read r not_spent not_endless read (settled.Closed value times proof) more number e = read value times proof more number (number_begins which value times proof rest more e)
  number_read r not_spent not_endless read (settled.Unbounded times ray) more endless e = absurd (not_endless _ _ (endless_begins which times ray rest more e) refl)
  number_read r not_spent not_endless read settled.Open more nothing e = absurd (not_spent _ _ (spent_bound_begins which rest more e) refl)
