-- What findings and bounds decide after proof lines.
use Rattle.std.proofs.Common.{◌≡◌, ◌↔◌, ℕ, Bool, true, false, IsTrue, List, [], ◌∷◌, Some, None, inl, inr, refl, sym, ap, subst, ◌∙◌}
use Rattle.event_graph.specs.Network.{Net}
use Rattle.event_graph.specs.Proof.{Nothing, ProofLine}
use Rattle.requirements.specs.declared.bound.Bound.{Bound}
use Rattle.requirements.specs.declared.bound.Bound.TheVariants as bounds
use Rattle.requirements.specs.declared.consistency.Consistency.{Consistency}
use Rattle.requirements.specs.declared.consistency.Consistency.TheVariants as findings
use Rattle.slack_report.specs.declared.words.Which.{Which}
use Rattle.slack_report.specs.Entry.{Entry, bound, finding, proof}
use Rattle.right_report.specs.Right.ReportState as places
use Rattle.right_report.specs.Right.ReportState.{ReportState, at_bound, at_event, behind_bound, behind_finding, which_of}
use Rattle.drawn_networks.specs.Drawn.{Drawn}
use Rattle.right_report.specs.Right.Following.{MayFind, MayFollow}
use Rattle.right_report.specs.Checked.{IsWithinTimes, ProvesBound, ProvesFinding, checked}
use Rattle.right_report.specs.Wrong.{goal_by}
use Rattle.right_report.proofs.Findings.{same_finding}
use Rattle.job_check.specs.declared.stage.Stage.{Stage}
use Rattle.job_check.specs.Step.Bounds.{goal_for}
use Rattle.job_check.specs.Step.Groups.{IsWholeFor, found_behind}
use Rattle.job_check.specs.Step.Stages.{Decides, Fits, at_of, is_proof}

-- ---- the finding

find_follows : (drawn : Drawn) (number : ℕ) (lines : List ProofLine) (line : Entry) (next : ReportState) → MayFind (checked drawn.net) lines line next
    → MayFollow (checked drawn.net) drawn (found_behind number lines) line next
find_follows drawn number [] line next h = h
find_follows drawn number (first ∷ lines) line next h = h

follows_find : (drawn : Drawn) (number : ℕ) (lines : List ProofLine) (line : Entry) (next : ReportState) → MayFollow (checked drawn.net) drawn (found_behind number lines) line next
    → MayFind (checked drawn.net) lines line next
follows_find drawn number [] line next h = h
follows_find drawn number (first ∷ lines) line next h = h

finding_told : (net : Net) (number : ℕ) (lines : List ProofLine) (line : Entry) (word : Consistency) (whole : Bool) → line ≡ finding word
    → IsWholeFor net (goal_by (at_event number []) line) lines whole → word ≡ findings.Inconsistent → IsWholeFor net (Some Nothing) lines whole
finding_told net number lines line findings.Consistent whole is current e = absurd (cc e)
finding_told net number lines line findings.Inconsistent whole is current e = subst (λ x. IsWholeFor net (goal_by (at_event number []) x) lines whole) is current
finding_told net number lines line findings.Open whole is current e = absurd (cc e)

module _ (drawn : Drawn) (net : Net) (number : ℕ) (lines : List ProofLine) (line : Entry) (word : Consistency) (whole test : Bool) (on : net ≡ drawn.net) (is : line ≡ finding word)
    (proves : (word ≡ findings.Inconsistent → IsWholeFor net (Some Nothing) lines whole) → (IsTrue test ↔ ProvesFinding net lines word))
    (current : IsWholeFor drawn.net (goal_by (at_event number []) line) lines whole) where
  tells : IsTrue test ↔ ProvesFinding drawn.net lines word
  tells =
      let on_net : IsWholeFor net (goal_by (at_event number []) line) lines whole = subst (λ n. IsWholeFor n (goal_by (at_event number []) line) lines whole) (sym on) current in
      subst (λ n. IsTrue test ↔ ProvesFinding n lines word) on (proves (finding_told net number lines line word whole is on_net))

  pub finding_some : (stage : Stage) → test ≡ true → at_of drawn stage ≡ behind_finding word → Fits drawn stage → Decides drawn (found_behind number lines) line (Some stage)
  finding_some stage holds behind fits = (
    find_follows drawn number lines line (at_of drawn stage) (inr (word, is, tells.0 holds, behind)),
    ap is_proof is,
    fits,
  )

  pub finding_none : test ≡ false → Decides drawn (found_behind number lines) line None
  finding_none fails = λ next h. refused next (follows_find drawn number lines line next h)
    where
      refused : (next : ReportState) → MayFind (checked drawn.net) lines line next → ⊥
      refused next (inl h) = let clash : finding word ≡ proof h.0 = sym is ∙ h.1 in absurd (cc clash)
      refused next (inr h) =
          let same : h.0 ≡ word = same_finding h.0 word (sym h.1 ∙ is) in
          let clash : true ≡ false = sym (tells.1 (subst (ProvesFinding drawn.net lines) same h.2)) ∙ fails in
          absurd (cc clash)

-- ---- a bound

goal_is : (current : places.CurrentRow) (coming : places.NextBound) (which : Which) (value : Bound) → goal_by (at_bound current coming []) (bound which value) ≡ goal_for current.row coming value
goal_is current coming which (bounds.Closed value) = refl
goal_is current coming which bounds.Unbounded = refl
goal_is current coming which (bounds.Within limit attained) = refl

module _ (drawn : Drawn) (net : Net) (current : places.CurrentRow) (coming : places.NextBound) (lines : List ProofLine) (line : Entry) (which : Which) (value : Bound) (whole test : Bool)
    (on : net ≡ drawn.net) (is : line ≡ bound which value)
    (proves : IsWholeFor net (goal_for current.row coming value) lines whole → (IsTrue test ↔ (IsWithinTimes value × ProvesBound net current.tally.found current.row coming lines value)))
    (tells_whole : IsWholeFor drawn.net (goal_by (at_bound current coming []) line) lines whole) where
  pub bound_some : (stage : Stage) → which ≡ which_of coming → test ≡ true → at_of drawn stage ≡ behind_bound current coming value → Fits drawn stage
      → Decides drawn (at_bound current coming lines) line (Some stage)
  bound_some stage same holds behind fits =
      let goal : goal_by (at_bound current coming []) line ≡ goal_for current.row coming value = ap (goal_by (at_bound current coming [])) is ∙ goal_is current coming which value in
      let wanted : IsWholeFor net (goal_for current.row coming value) lines whole =
      subst (λ n. IsWholeFor n (goal_for current.row coming value) lines whole) (sym on) (subst (λ o. IsWholeFor drawn.net o lines whole) goal tells_whole) in
      let fine = subst (λ n. IsWithinTimes value × ProvesBound n current.tally.found current.row coming lines value) on ((proves wanted).0 holds) in
      (inr (value, is ∙ ap (λ w. bound w value) same, fine, behind), ap is_proof is, fits)
