-- A report has at most one first wrong line, and a report in which each line meets the check has none.
use Rattle.std.proofs.Common.{◌≡◌, ◌+◌, ℕ, ℤ, List, [], ◌∷◌, ◌++◌, Some, IsSomeAnd, inl, inr, refl, sym, ap, subst, ◌∙◌, append-nil, append_assoc}
use Rattle.event_graph.specs.Network.{Net}
use Rattle.event_graph.specs.Proof.{Case, IsProof, Loop, Nothing, Path, ProofGoal, ProofLine, Split, cases_of}
use Rattle.event_graph.specs.Proof as proofs
use Rattle.requirements.specs.declared.bound.Bound.{Bound}
use Rattle.requirements.specs.declared.bound.Bound.TheVariants.{Closed}
use Rattle.requirements.specs.declared.consistency.Consistency.TheVariants.{Consistent, Inconsistent, Open}
use Rattle.slack_report.specs.declared.words.Which.{Which}
use Rattle.slack_report.specs.Entry.{Entry, bound, budget, finding, heading, proof, times}
use Rattle.drawn_networks.specs.Drawn.{Drawn}
use Rattle.right_report.specs.Right.ReportState.{ReportState, NextBound, CurrentRow, at_heading, at_budget, at_events, at_event, at_finding, at_known, at_rows, at_row, at_bound, at_times, at_raise, at_verdict, at_past, at_slack, at_end, at_last, behind_bound, behind_finding, behind_times, which_of}
use Rattle.right_report.specs.Right.Following.{LineClaims, MayBound, MayFind, MayFollow, LinesLead}
use Rattle.right_report.specs.Checked.{checked}
use Rattle.right_report.specs.Laws.{CheckedHasNoWrong, OneFirstWrong}
use Rattle.right_report.specs.Shown.{goal_of}
use Rattle.right_report.specs.Wrong.{IsFine, IsFirstWrong, IsLineRefused, IsWrong, Takes, goal_ahead}
use Rattle.right_report.proofs.Findings.{same_finding}
use Rattle.itv_base.proofs.Options.{some_and}

-- ---- a line leads to one state

same_times : (a b : List ℤ) → times a ≡ times b → a ≡ b
same_times a b e = cc

same_proof : (a b : ProofLine) → proof a ≡ proof b → a ≡ b
same_proof a b e = cc

same_bound : (which : Which) (a b : Bound) → bound which a ≡ bound which b → a ≡ b
same_bound which a b e = cc

module _ (claims : LineClaims) (drawn : Drawn) (line : Entry) (next other : ReportState) where
  find_one : (lines : List ProofLine) → MayFind claims lines line next → MayFind claims lines line other → next ≡ other
  find_one lines (inl a) (inl b) = a.2 ∙ ap (λ more. at_finding (lines ++ more ∷ [])) (same_proof a.0 b.0 (sym a.1 ∙ b.1)) ∙ sym b.2
  find_one lines (inl a) (inr b) = let e : proof a.0 ≡ finding b.0 = sym a.1 ∙ b.1 in absurd (cc)
  find_one lines (inr a) (inl b) = let e : finding a.0 ≡ proof b.0 = sym a.1 ∙ b.1 in absurd (cc)
  find_one lines (inr a) (inr b) = a.3 ∙ ap behind_finding (same_finding a.0 b.0 (sym a.1 ∙ b.1)) ∙ sym b.3

  bind_one : (current : CurrentRow) (coming : NextBound) (lines : List ProofLine) → MayBound claims current coming lines line next → MayBound claims current coming lines line other → next ≡ other
  bind_one current coming lines (inl a) (inl b) = a.2 ∙ ap (λ more. at_bound current coming (lines ++ more ∷ [])) (same_proof a.0 b.0 (sym a.1 ∙ b.1)) ∙ sym b.2
  bind_one current coming lines (inl a) (inr b) = let e : proof a.0 ≡ bound (which_of coming) b.0 = sym a.1 ∙ b.1 in absurd (cc)
  bind_one current coming lines (inr a) (inl b) = let e : bound (which_of coming) a.0 ≡ proof b.0 = sym a.1 ∙ b.1 in absurd (cc)
  bind_one current coming lines (inr a) (inr b) = a.3 ∙ ap (behind_bound current coming) (same_bound (which_of coming) a.0 b.0 (sym a.1 ∙ b.1)) ∙ sym b.3

  pub follow_one : (here : ReportState) → MayFollow claims drawn here line next → MayFollow claims drawn here line other → next ≡ other
  follow_one at_heading a b = a.1 ∙ sym b.1
  follow_one at_budget a b = a.2 ∙ sym b.2
  follow_one at_events a b = a.1 ∙ sym b.1
  follow_one (at_event number (name ∷ names)) a b = a.1 ∙ sym b.1
  follow_one (at_event number []) a b = find_one [] a b
  follow_one (at_finding lines) a b = find_one lines a b
  follow_one at_known a b = a.3 ∙ sym b.3
  follow_one (at_rows word) a b = a.1 ∙ sym b.1
  follow_one (at_row tally number []) a b = a.1 ∙ sym b.1
  follow_one (at_row tally number (r ∷ later)) a b = a.1 ∙ sym b.1
  follow_one (at_bound current coming lines) a b = bind_one current coming lines a b
  follow_one (at_times current coming value) a b = a.3 ∙ ap (behind_times current coming value) (same_times a.0 b.0 (sym a.1 ∙ b.1)) ∙ sym b.3
  follow_one (at_raise current coming list) a b = a.3 ∙ sym b.3
  follow_one (at_verdict current range least most) a b = a.1 ∙ sym b.1
  follow_one (at_past current range least most) a b = a.3 ∙ sym b.3
  follow_one (at_slack tally number later range least most) a b = a.1 ∙ sym b.1
  follow_one (at_end word) a b = a.1 ∙ sym b.1
  follow_one at_last a b = absurd a

-- ---- there is one first wrong line

wrong_not_fine : (drawn : Drawn) (here next : ReportState) (line : Entry) (rest : List Entry) → IsWrong drawn here line rest → IsFine drawn here line rest next → ⊥
wrong_not_fine drawn here next line rest (inl bars) fine = bars next fine.0
wrong_not_fine drawn here next line rest (inr refused) fine = fine.1 refused

one_from : (drawn : Drawn) (lines : List Entry) (here : ReportState) (m n : ℕ) → IsFirstWrong drawn here lines m → IsFirstWrong drawn here lines n → m ≡ n
one_from drawn [] here m n a b = a.1 ∙ sym b.1
one_from drawn (line ∷ lines) here m n (inl a) (inl b) = a.1 ∙ sym b.1
one_from drawn (line ∷ lines) here m n (inl a) (inr b) = absurd (wrong_not_fine drawn here b.0 line lines a.0 b.2)
one_from drawn (line ∷ lines) here m n (inr a) (inl b) = absurd (wrong_not_fine drawn here a.0 line lines b.0 a.2)
one_from drawn (line ∷ lines) here m n (inr a) (inr b) =
    let same : a.0 ≡ b.0 = follow_one (checked drawn.net) drawn line a.0 b.0 here a.2.0 b.2.0 in
    let later : a.1 ≡ b.1 = one_from drawn lines b.0 a.1 b.1 (subst (λ x. IsFirstWrong drawn x lines a.1) same a.3) b.3 in
    a.4 ∙ ap (λ x. x + 1) later ∙ sym b.4

pub one_first_wrong : OneFirstWrong
one_first_wrong drawn lines m n a b = one_from drawn lines at_heading m n a b

-- ---- reading accepts a front of a proof

pub reads_front : (net : Net) (goal : ProofGoal) (lines more : List ProofLine) (cases left : List Case) → proofs.ProofLeaves net goal cases (lines ++ more) left
    → (mid : List Case) × proofs.ProofLeaves net goal cases lines mid
reads_front net goal [] more cases left h = (cases, refl)
reads_front net goal (line ∷ lines) more [] left h = absurd h
reads_front net goal (Split number ∷ lines) more (chosen ∷ cases) left h = let r = reads_front net goal lines more (cases_of net chosen number ++ cases) left h.1 in (r.0, (h.0, r.1))
reads_front net goal (Path names ∷ lines) more (chosen ∷ cases) left h = let r = reads_front net goal lines more cases left h.1 in (r.0, (h.0, r.1))
reads_front net goal (Loop names ∷ lines) more (chosen ∷ cases) left h = let r = reads_front net goal lines more cases left h.1 in (r.0, (h.0, r.1))

taken : (net : Net) (goal : ProofGoal) (lines more : List ProofLine) → IsProof net goal (lines ++ more) → Takes net goal lines
taken net goal lines more h = reads_front net goal lines more ([] ∷ []) [] h

-- ---- in a report that meets the check no line is refused

-- some lines complete these to a whole proof
abbrev Completes : Net → ProofGoal → List ProofLine → Type 0
Completes net goal lines = (more : List ProofLine) × IsProof net goal (lines ++ more)

complete_now : (net : Net) (goal : ProofGoal) (lines : List ProofLine) → IsProof net goal lines → Completes net goal lines
complete_now net goal lines h = ([], subst (IsProof net goal) (sym (append-nil lines)) h)

complete_later : (net : Net) (goal : ProofGoal) (lines : List ProofLine) (line : ProofLine) → Completes net goal (lines ++ line ∷ []) → Completes net goal lines
complete_later net goal lines line h = (line ∷ h.0, subst (IsProof net goal) (append_assoc lines (line ∷ []) h.0) h.1)

module _ (drawn : Drawn) (goal : ProofGoal) where
  found_now : (lines : List ProofLine) (next : ReportState) → Some Nothing ≡ Some goal → MayFind (checked drawn.net) lines (finding Inconsistent) next → IsProof drawn.net goal lines
  found_now lines next e (inl h) = let clash : finding Inconsistent ≡ proof h.0 = h.1 in absurd (cc)
  found_now lines next e (inr h) =
      let word : h.0 ≡ Inconsistent = sym (same_finding Inconsistent h.0 h.1) in
      let same : Nothing ≡ goal = cc in
      subst (λ g. IsProof drawn.net g lines) same (subst (λ w. (checked drawn.net).finding lines w) word h.2)

  bound_now : (current : CurrentRow) (coming : NextBound) (lines : List ProofLine) (next : ReportState) (which : Which) (value : ℤ) → Some (goal_of current.row coming value) ≡ Some goal
      → MayBound (checked drawn.net) current coming lines (bound which (Closed value)) next → IsProof drawn.net goal lines
  bound_now current coming lines next which value e (inl h) = let clash : bound which (Closed value) ≡ proof h.0 = h.1 in absurd (cc)
  bound_now current coming lines next which value e (inr h) =
      let all : bound which (Closed value) ≡ bound (which_of coming) h.0 = h.1 in
      let same_value : h.0 ≡ Closed value = cc in
      let same : goal_of current.row coming value ≡ goal = cc in
      let claims = subst (λ v. (checked drawn.net).bound current.tally.found current.row coming lines v) same_value h.2 in
      subst (λ g. IsProof drawn.net g lines) same claims.1.1

  by_find : (rest : List Entry) (line : ProofLine) (lines : List ProofLine) (next : ReportState) → MayFind (checked drawn.net) lines (proof line) next → LinesLead (checked drawn.net) drawn next rest at_last
      → ((more : ProofLine) → LinesLead (checked drawn.net) drawn (at_finding (lines ++ more ∷ [])) rest at_last → Completes drawn.net goal (lines ++ more ∷ [])) → Completes drawn.net goal lines
  by_find rest line lines next (inl m) h later = complete_later drawn.net goal lines m.0 (later m.0 (subst (λ x. LinesLead (checked drawn.net) drawn x rest at_last) m.2 h))
  by_find rest line lines next (inr m) h later = let clash : proof line ≡ finding m.0 = m.1 in absurd (cc)

  -- if something is to be shown in a report that meets the check, later lines complete the proof
  ahead_find : (rest : List Entry) (front lines : List ProofLine) → goal_ahead (at_finding front) rest ≡ Some goal → LinesLead (checked drawn.net) drawn (at_finding lines) rest at_last
      → Completes drawn.net goal lines
  ahead_find [] front lines is h = absurd (cc)
  ahead_find (proof line ∷ rest) front lines is h = by_find rest line lines h.0 h.1 h.2 (λ more read. ahead_find rest front (lines ++ more ∷ []) is read)
  ahead_find (finding Inconsistent ∷ rest) front lines is h = complete_now drawn.net goal lines (found_now lines h.0 is h.1)
  ahead_find (line ∷ rest) front lines is h = absurd (cc)

  by_bound : (rest : List Entry) (current : CurrentRow) (coming : NextBound) (line : ProofLine) (lines : List ProofLine) (next : ReportState) → MayBound (checked drawn.net) current coming lines (proof line) next
      → LinesLead (checked drawn.net) drawn next rest at_last
      → ((more : ProofLine) → LinesLead (checked drawn.net) drawn (at_bound current coming (lines ++ more ∷ [])) rest at_last → Completes drawn.net goal (lines ++ more ∷ [])) → Completes drawn.net goal lines
  by_bound rest current coming line lines next (inl m) h later = complete_later drawn.net goal lines m.0 (later m.0 (subst (λ x. LinesLead (checked drawn.net) drawn x rest at_last) m.2 h))
  by_bound rest current coming line lines next (inr m) h later = let clash : proof line ≡ bound (which_of coming) m.0 = m.1 in absurd (cc)

  ahead_bound : (rest : List Entry) (current : CurrentRow) (coming : NextBound) (front lines : List ProofLine) → goal_ahead (at_bound current coming front) rest ≡ Some goal
      → LinesLead (checked drawn.net) drawn (at_bound current coming lines) rest at_last → Completes drawn.net goal lines
  ahead_bound [] current coming front lines is h = absurd (cc)
  ahead_bound (proof line ∷ rest) current coming front lines is h = by_bound rest current coming line lines h.0 h.1 h.2 (λ more read. ahead_bound rest current coming front (lines ++ more ∷ []) is read)
  ahead_bound (bound which (Closed value) ∷ rest) current coming front lines is h = complete_now drawn.net goal lines (bound_now current coming lines h.0 which value is h.1)
  ahead_bound (line ∷ rest) current coming front lines is h = absurd (cc)

event_ahead : (number : ℕ) (rest : List Entry) → goal_ahead (at_event number []) rest ≡ goal_ahead (at_finding []) rest
event_ahead number [] = refl
event_ahead number (proof line ∷ rest) = event_ahead number rest
event_ahead number (finding Consistent ∷ rest) = refl
event_ahead number (finding Inconsistent ∷ rest) = refl
event_ahead number (finding Open ∷ rest) = refl
event_ahead number (line ∷ rest) = refl

-- no line of a proof before the finding is refused
refused_find : (drawn : Drawn) (front : List ProofLine) (line : ProofLine) (rest : List Entry) (next : ReportState) → MayFind (checked drawn.net) front (proof line) next
    → LinesLead (checked drawn.net) drawn next rest at_last → IsSomeAnd (goal_ahead (at_finding front) rest) (λ goal. Takes drawn.net goal (front ++ line ∷ []) → ⊥) → ⊥
refused_find drawn front line rest next (inr m) more refused = let clash : proof line ≡ finding m.0 = m.1 in absurd (cc)
refused_find drawn front line rest next (inl m) more refused =
    let g = some_and (goal_ahead (at_finding front) rest) (λ goal. Takes drawn.net goal (front ++ line ∷ []) → ⊥) refused in
    let read = subst (λ x. LinesLead (checked drawn.net) drawn x rest at_last) m.2 more in
    let whole = ahead_find drawn g.0 rest front (front ++ m.0 ∷ []) g.1 read in
    g.2 (subst (λ l. Takes drawn.net g.0 (front ++ l ∷ [])) (sym (same_proof line m.0 m.1)) (taken drawn.net g.0 (front ++ m.0 ∷ []) whole.0 whole.1))

-- no line of a proof before a bound is refused
refused_bound : (drawn : Drawn) (current : CurrentRow) (coming : NextBound) (front : List ProofLine) (line : ProofLine) (rest : List Entry) (next : ReportState)
    → MayBound (checked drawn.net) current coming front (proof line) next → LinesLead (checked drawn.net) drawn next rest at_last
    → IsSomeAnd (goal_ahead (at_bound current coming front) rest) (λ goal. Takes drawn.net goal (front ++ line ∷ []) → ⊥) → ⊥
refused_bound drawn current coming front line rest next (inr m) more refused = let clash : proof line ≡ bound (which_of coming) m.0 = m.1 in absurd (cc)
refused_bound drawn current coming front line rest next (inl m) more refused =
    let g = some_and (goal_ahead (at_bound current coming front) rest) (λ goal. Takes drawn.net goal (front ++ line ∷ []) → ⊥) refused in
    let read = subst (λ x. LinesLead (checked drawn.net) drawn x rest at_last) m.2 more in
    let whole = ahead_bound drawn g.0 rest current coming front (front ++ m.0 ∷ []) g.1 read in
    g.2 (subst (λ l. Takes drawn.net g.0 (front ++ l ∷ [])) (sym (same_proof line m.0 m.1)) (taken drawn.net g.0 (front ++ m.0 ∷ []) whole.0 whole.1))

proof_not_refused : (drawn : Drawn) (here : ReportState) (line : ProofLine) (rest : List Entry) (next : ReportState) → MayFollow (checked drawn.net) drawn here (proof line) next
    → LinesLead (checked drawn.net) drawn next rest at_last → IsLineRefused drawn.net here (proof line) rest → ⊥
proof_not_refused drawn at_heading line rest next h more refused = let clash : proof line ≡ heading = h.0 in absurd (cc)
proof_not_refused drawn at_budget line rest next h more refused = let clash : proof line ≡ budget h.0 = h.1 in absurd (cc)
proof_not_refused drawn at_events line rest next h more refused = absurd (cc h.0)
proof_not_refused drawn (at_event number (name ∷ names)) line rest next h more refused = absurd (cc h.0)
proof_not_refused drawn (at_event number []) line rest next h more refused =
    refused_find drawn [] line rest next h more (subst (λ o. IsSomeAnd o (λ goal. Takes drawn.net goal ([] ++ line ∷ []) → ⊥)) (event_ahead number rest) refused)
proof_not_refused drawn (at_finding lines) line rest next h more refused = refused_find drawn lines line rest next h more refused
proof_not_refused drawn at_known line rest next h more refused = absurd (cc h.1)
proof_not_refused drawn (at_rows word) line rest next h more refused = absurd (cc h.0)
proof_not_refused drawn (at_row tally number []) line rest next h more refused = absurd (cc h.0)
proof_not_refused drawn (at_row tally number (r ∷ later)) line rest next h more refused = absurd (cc h.0)
proof_not_refused drawn (at_bound current coming lines) line rest next h more refused = refused_bound drawn current coming lines line rest next h more refused
proof_not_refused drawn (at_times current coming value) line rest next h more refused = absurd (cc h.1)
proof_not_refused drawn (at_raise current coming list) line rest next h more refused = absurd (cc h.1)
proof_not_refused drawn (at_verdict current range least most) line rest next h more refused = absurd (cc h.0)
proof_not_refused drawn (at_past current range least most) line rest next h more refused = absurd (cc h.1)
proof_not_refused drawn (at_slack tally number later range least most) line rest next h more refused = absurd (cc h.0)
proof_not_refused drawn (at_end word) line rest next h more refused = absurd (cc h.0)
proof_not_refused drawn at_last line rest next h more refused = h

not_refused : (drawn : Drawn) (here : ReportState) (line : Entry) (rest : List Entry) (next : ReportState) → MayFollow (checked drawn.net) drawn here line next → LinesLead (checked drawn.net) drawn next rest at_last
    → IsLineRefused drawn.net here line rest → ⊥
not_refused drawn here (proof line) rest next h more refused = proof_not_refused drawn here line rest next h more refused
not_refused drawn here line rest next h more refused = refused

none_from : (drawn : Drawn) (lines : List Entry) (here : ReportState) (number : ℕ) → LinesLead (checked drawn.net) drawn here lines at_last → IsFirstWrong drawn here lines number → ⊥
none_from drawn [] here number h w = w.0 h
none_from drawn (line ∷ lines) here number h (inl w) = wrong_not_fine drawn here h.0 line lines w.0 (h.1, not_refused drawn here line lines h.0 h.1 h.2)
none_from drawn (line ∷ lines) here number h (inr w) =
    let same : h.0 ≡ w.0 = follow_one (checked drawn.net) drawn line h.0 w.0 here h.1 w.2.0 in
    none_from drawn lines w.0 w.1 (subst (λ x. LinesLead (checked drawn.net) drawn x lines at_last) same h.2) w.3

pub checked_has_no_wrong : CheckedHasNoWrong
checked_has_no_wrong drawn lines number h w = none_from drawn lines at_heading number h w
