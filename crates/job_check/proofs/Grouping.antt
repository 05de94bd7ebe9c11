-- Proof lines before a finding or a bound.
use Rattle.std.proofs.Common.{◌≡◌, ◌+◌, ◌<◌, ◌≤◌, ℕ, zero, suc, Bool, false, List, [], ◌∷◌, ◌++◌, length, drop, map, Option, Some, None, IsSomeAnd, Ok, Err, slice_get, inl, inr, refl, sym, ap, subst, ◌∙◌, arith, append-nil, append_assoc}
use Rattle.std.proofs.Math.Seq.{drop-nil}
use Rattle.event_graph.specs.Network.{Net}
use Rattle.event_graph.specs.Proof.{Case, IsProof, Loop, Path, ProofGoal, ProofLine, Split, cases_of}
use Rattle.event_graph.specs.Proof as proofs
use Rattle.requirements.specs.declared.bound.Bound.TheVariants as bounds
use Rattle.requirements.specs.declared.consistency.Consistency.TheVariants as findings
use Rattle.slack_report.specs.Entry.{Entry, bound, finding, proof}
use Rattle.right_report.specs.Right.ReportState.{ReportState, at_last}
use Rattle.drawn_networks.specs.Drawn.{Drawn}
use Rattle.right_report.specs.Right.Following.{MayFollow, LinesLead}
use Rattle.right_report.specs.Checked.{checked}
use Rattle.right_report.specs.Wrong.{IsFine, IsFirstWrong, IsLineRefused, Takes, goal_ahead, goal_by, proof_so_far}
use Rattle.right_report.proofs.FirstWrong.{reads_front}
use Rattle.job_check.specs.declared.proof_group.ProofGroup.{ProofGroup}
use Rattle.job_check.specs.declared.proof_group.ProofGroup.TheVariants as groups
use Rattle.job_check.specs.declared.stage.Stage.{Stage}
use Rattle.job_check.specs.Step.Groups.{ChecksFor, IsWholeFor, behind_lines, proof_front}
use Rattle.job_check.specs.Step.Stages.{Decides, at_of, is_proof}
use Rattle.job_check.specs.Step.CheckWalks.{IsWrongFrom, CheckLeads, StepsOn}
use Rattle.job_check.proofs.Leading.{end_wrong, leads_then, line_leads, line_wrong}
use Rattle.itv_base.proofs.Options.{some_and}

-- ---- reading proof lines

-- the same lines lead to the same list of open cases
pub reads_same : (net : Net) (goal : ProofGoal) (lines : List ProofLine) (cases a b : List Case) → proofs.ProofLeaves net goal cases lines a → proofs.ProofLeaves net goal cases lines b → a ≡ b
reads_same net goal [] cases a b x y = sym x ∙ y
reads_same net goal (line ∷ lines) [] a b x y = absurd x
reads_same net goal (Split number ∷ lines) (chosen ∷ cases) a b x y = reads_same net goal lines (cases_of net chosen number ++ cases) a b x.1 y.1
reads_same net goal (Path names ∷ lines) (chosen ∷ cases) a b x y = reads_same net goal lines cases a b x.1 y.1
reads_same net goal (Loop names ∷ lines) (chosen ∷ cases) a b x y = reads_same net goal lines cases a b x.1 y.1

-- ---- what lines are to show

goal_some : (o : Option ProofGoal) (P : ProofGoal → Type 0) (g : ProofGoal) → o ≡ Some g → P g → IsSomeAnd o P
goal_some None P g is h = absurd (cc)
goal_some (Some x) P g is h = let same : g ≡ x = cc in subst P same h

same_goal : (o : Option ProofGoal) (g h : ProofGoal) → o ≡ Some g → o ≡ Some h → g ≡ h
same_goal None g h a b = absurd (cc)
same_goal (Some x) g h a b = cc

-- more proof lines in front leave the goal as it is
ahead_past : (here : ReportState) (more : List ProofLine) (rest : List Entry) → goal_ahead here (map proof more ++ rest) ≡ goal_ahead here rest
ahead_past here [] rest = refl
ahead_past here (line ∷ more) rest = ahead_past here more rest

pub ahead_other : (here : ReportState) (line : Entry) (rest : List Entry) → is_proof line ≡ false → goal_ahead here (line ∷ rest) ≡ goal_by here line
ahead_other here (proof line) rest other = absurd (cc other)
ahead_other here line rest other = refl

-- the goal does not depend on the lines before
by_same : (drawn : Drawn) (group : ProofGroup) (lines : List ProofLine) (line : Entry) → goal_by (behind_lines drawn group lines) line ≡ goal_by (behind_lines drawn group []) line
by_same drawn (groups.Finding number) [] line = refl
by_same drawn (groups.Finding number) (first ∷ lines) (finding findings.Consistent) = refl
by_same drawn (groups.Finding number) (first ∷ lines) (finding findings.Inconsistent) = refl
by_same drawn (groups.Finding number) (first ∷ lines) (finding findings.Open) = refl
by_same drawn (groups.Finding number) (first ∷ lines) line = refl
by_same drawn (groups.Bound current coming) lines (bound word (bounds.Closed value)) = refl
by_same drawn (groups.Bound current coming) lines (bound word bounds.Unbounded) = refl
by_same drawn (groups.Bound current coming) lines (bound word (bounds.Within limit attained)) = refl
by_same drawn (groups.Bound current coming) lines line = refl

ahead_same : (drawn : Drawn) (group : ProofGroup) (lines : List ProofLine) (rest : List Entry) → goal_ahead (behind_lines drawn group lines) rest ≡ goal_ahead (behind_lines drawn group []) rest
ahead_same drawn group lines [] = refl
ahead_same drawn group lines (proof line ∷ rest) = ahead_same drawn group lines rest
ahead_same drawn group lines (line ∷ rest) = by_same drawn group lines line

-- ---- the states among proof lines

so_far : (drawn : Drawn) (group : ProofGroup) (lines : List ProofLine) → proof_so_far (behind_lines drawn group lines) ≡ lines
so_far drawn (groups.Finding number) [] = refl
so_far drawn (groups.Finding number) (line ∷ lines) = refl
so_far drawn (groups.Bound current coming) lines = refl

follows : (drawn : Drawn) (group : ProofGroup) (lines : List ProofLine) (line : ProofLine)
    → MayFollow (checked drawn.net) drawn (behind_lines drawn group lines) (proof line) (behind_lines drawn group (lines ++ line ∷ []))
follows drawn (groups.Finding number) [] line = inl (line, refl, refl)
follows drawn (groups.Finding number) (first ∷ lines) line = inl (line, refl, refl)
follows drawn (groups.Bound current coming) lines line = inl (line, refl, refl)

pub not_last : (drawn : Drawn) (group : ProofGroup) (lines : List ProofLine) → behind_lines drawn group lines ≡ at_last → ⊥
not_last drawn (groups.Finding number) [] is = absurd (cc is)
not_last drawn (groups.Finding number) (first ∷ lines) is = absurd (cc is)
not_last drawn (groups.Bound current coming) lines is = absurd (cc is)

-- ---- lines that are taken are fine

append_nothing : (xs : List ProofLine) → xs ≡ [] ++ xs
append_nothing xs = refl

-- `count` lines lead from a state to another
record Passes (drawn : Drawn) (here : ReportState) (lines : List Entry) (next : ReportState) (behind : List Entry) (count : ℕ) : Type 0 where
  reads : LinesLead (checked drawn.net) drawn next behind at_last → LinesLead (checked drawn.net) drawn here lines at_last
  wrong : (number : ℕ) → IsFirstWrong drawn next behind number → IsFirstWrong drawn here lines (number + count)

module _ (drawn : Drawn) (group : ProofGroup) where
  line_fine : (before ls all : List ProofLine) (line : ProofLine) (rest : List Entry) → all ≡ before ++ line ∷ ls
      → ((g : ProofGoal) → goal_ahead (behind_lines drawn group []) rest ≡ Some g → Takes drawn.net g all)
      → IsFine drawn (behind_lines drawn group before) (proof line) (map proof ls ++ rest) (behind_lines drawn group (before ++ line ∷ []))
  line_fine before ls all line rest is taken = (
    follows drawn group before line,
    λ refused.
        let g = some_and (goal_ahead (behind_lines drawn group before) (map proof ls ++ rest)) (λ goal. Takes drawn.net goal (proof_so_far (behind_lines drawn group before) ++ line ∷ []) → ⊥) refused in
        let whole = taken g.0 (sym (ahead_same drawn group before rest) ∙ (sym (ahead_past (behind_lines drawn group before) ls rest) ∙ g.1)) in
        let parts : all ≡ (before ++ line ∷ []) ++ ls = is ∙ sym (append_assoc before (line ∷ []) ls) in
        let front = reads_front drawn.net g.0 (before ++ line ∷ []) ls ([] ∷ []) whole.0 (subst (λ xs. proofs.ProofLeaves drawn.net g.0 ([] ∷ []) xs whole.0) parts whole.1) in
        g.2 (subst (λ xs. Takes drawn.net g.0 (xs ++ line ∷ [])) (sym (so_far drawn group before)) front),
  )

  group_passes : (before ls all : List ProofLine) (rest : List Entry) → all ≡ before ++ ls
      → ((g : ProofGoal) → goal_ahead (behind_lines drawn group []) rest ≡ Some g → Takes drawn.net g all)
      → Passes drawn (behind_lines drawn group before) (map proof ls ++ rest) (behind_lines drawn group all) rest (length ls)
  group_passes before [] all rest is taken =
      let same : before ≡ all = sym (is ∙ append-nil before) in
      subst (λ xs. Passes drawn (behind_lines drawn group before) rest (behind_lines drawn group xs) rest 0) same (record {
        reads = λ r. r;
        wrong = λ number w. (let e : number ≡ number + 0 = omega arith in subst (IsFirstWrong drawn (behind_lines drawn group before) rest) e w);
      })
  group_passes before (line ∷ ls) all rest is taken =
      let later = group_passes (before ++ line ∷ []) ls all rest (is ∙ sym (append_assoc before (line ∷ []) ls)) taken in
      record {
        reads = λ r. (behind_lines drawn group (before ++ line ∷ []), follows drawn group before line, later.reads r);
        wrong = λ number w. inr (
          behind_lines drawn group (before ++ line ∷ []),
          number + length ls,
          line_fine before ls all line rest is taken,
          later.wrong number w,
          omega arith,
        );
      }

  -- the first line that is not taken is the first wrong one
  group_refused : (before : List ProofLine) (line : ProofLine) (more : List ProofLine) (rest : List Entry) (g : ProofGoal) → goal_ahead (behind_lines drawn group []) rest ≡ Some g
      → Takes drawn.net g before → (Takes drawn.net g (before ++ line ∷ []) → ⊥)
      → IsFirstWrong drawn (behind_lines drawn group []) (map proof before ++ (proof line ∷ (map proof more ++ rest))) (0 + length before)
  group_refused before line more rest g is taken fails =
      let passes =
      group_passes [] before before (proof line ∷ (map proof more ++ rest)) (append_nothing before)
      (λ h e. subst (λ x. Takes drawn.net x before) (same_goal (goal_ahead (behind_lines drawn group []) rest) g h is (sym (ahead_past (behind_lines drawn group []) more rest) ∙ e)) taken) in
      let refused : IsLineRefused drawn.net (behind_lines drawn group before) (proof line) (map proof more ++ rest) =
      goal_some (goal_ahead (behind_lines drawn group before) (map proof more ++ rest)) (λ goal. Takes drawn.net goal (proof_so_far (behind_lines drawn group before) ++ line ∷ []) → ⊥) g
      (ahead_past (behind_lines drawn group before) more rest ∙ (ahead_same drawn group before rest ∙ is))
      (λ takes. fails (subst (λ xs. Takes drawn.net g (xs ++ line ∷ [])) (so_far drawn group before) takes)) in
      passes.wrong 0 (inl (inr refused, refl))

-- ---- the lines of a report

pub front_parts : (lines : List Entry) → lines ≡ map proof (proof_front lines) ++ drop (length (proof_front lines)) lines
front_parts [] = refl
front_parts (proof line ∷ rest) = ap (λ xs. proof line ∷ xs) (front_parts rest)
front_parts (line ∷ rest) = refl

front_other : (lines : List Entry) (line : Entry) → slice_get lines (length (proof_front lines)) ≡ Some line → is_proof line ≡ false
front_other [] line is = absurd (cc is)
front_other (proof first ∷ rest) line is = front_other rest line is
front_other (first ∷ rest) line is = let same : first ≡ line = cc in subst (λ x. is_proof x ≡ false) same refl

pub drop_drop : {X : Type 0} (a b : ℕ) (xs : List X) → drop b (drop a xs) ≡ drop (a + b) xs
drop_drop zero b xs = let e : b ≡ 0 + b = omega arith in ap (λ k. drop k xs) e
drop_drop (suc a) b [] = drop-nil b ∙ sym (drop-nil (suc a + b))
drop_drop (suc a) b (x ∷ xs) = let e : suc (a + b) ≡ suc a + b = omega arith in drop_drop a b xs ∙ ap (λ k. drop k (x ∷ xs)) e

get-drop : {X : Type 0} (a b : ℕ) (xs : List X) → slice_get (drop a xs) b ≡ slice_get xs (a + b)
get-drop zero b xs = let e : b ≡ 0 + b = omega arith in ap (slice_get xs) e
get-drop (suc a) b [] = refl
get-drop (suc a) b (x ∷ xs) = let e : suc (a + b) ≡ suc a + b = omega arith in get-drop a b xs ∙ ap (slice_get (x ∷ xs)) e

-- the line after the proof lines is no proof line
pub end_other : (lines : List Entry) (start end : ℕ) (line : Entry) → end ≡ start + length (proof_front (drop start lines)) → slice_get lines end ≡ Some line → is_proof line ≡ false
end_other lines start end line is there =
    front_other (drop start lines) line (get-drop start (length (proof_front (drop start lines))) lines ∙ subst (λ k. slice_get lines k ≡ Some line) is there)

map-append : (xs ys : List ProofLine) → map proof (xs ++ ys) ≡ map proof xs ++ map proof ys
map-append [] ys = refl
map-append (x ∷ xs) ys = ap (λ l. proof x ∷ l) (map-append xs ys)

module _ (drawn : Drawn) (group : ProofGroup) (lines : List Entry) (start end : ℕ) (is_end : end ≡ start + length (proof_front (drop start lines))) where
  parts : drop start lines ≡ map proof (proof_front (drop start lines)) ++ drop end lines
  parts =
      front_parts (drop start lines)
      ∙ ap (λ xs. map proof (proof_front (drop start lines)) ++ xs) (drop_drop start (length (proof_front (drop start lines))) lines ∙ ap (λ k. drop k lines) (sym is_end))

  -- if the proof lines are taken for their goal, or have no goal, they lead to the line after them
  pub group_leads : ((g : ProofGoal) → goal_ahead (behind_lines drawn group []) (drop end lines) ≡ Some g → Takes drawn.net g (proof_front (drop start lines)))
      → CheckLeads drawn lines (behind_lines drawn group []) start (behind_lines drawn group (proof_front (drop start lines))) end
  group_leads taken =
      let passes = group_passes drawn group [] (proof_front (drop start lines)) (proof_front (drop start lines)) (drop end lines) (append_nothing (proof_front (drop start lines))) taken in
      record {
        reads = λ r. subst (λ xs. LinesLead (checked drawn.net) drawn (behind_lines drawn group []) xs at_last) (sym parts) (passes.reads r);
        wrong = λ number w. (
          w.0 + length (proof_front (drop start lines)),
          subst (λ xs. IsFirstWrong drawn (behind_lines drawn group []) xs (w.0 + length (proof_front (drop start lines)))) (sym parts) (passes.wrong w.0 w.1),
          (let sum : number ≡ end + w.0 = w.2 in omega arith),
        );
      }

  -- if the report ends with proof lines, the line that is missing is wrong
  pub group_ends : length lines ≤ end → drop end lines ≡ [] → IsWrongFrom drawn lines (behind_lines drawn group []) start end
  group_ends past none =
      let leads = group_leads (λ g is. absurd (let e : goal_ahead (behind_lines drawn group []) [] ≡ Some g = subst (λ xs. goal_ahead (behind_lines drawn group []) xs ≡ Some g) none is in cc e)) in
      leads.wrong end (end_wrong drawn lines (behind_lines drawn group (proof_front (drop start lines))) end past (not_last drawn group (proof_front (drop start lines))))

  module _ (line : Entry) (there : slice_get lines end ≡ Some line) (rest : List Entry) (is_rest : drop end lines ≡ line ∷ rest) (other : is_proof line ≡ false) where
    ahead_is : goal_ahead (behind_lines drawn group []) (drop end lines) ≡ goal_by (behind_lines drawn group []) line
    ahead_is = ap (goal_ahead (behind_lines drawn group [])) is_rest ∙ ahead_other (behind_lines drawn group []) line rest other

    -- a line of the proof is the first wrong one
    pub refused_step : (wanted : Option ProofGoal) (number : ℕ) → goal_by (behind_lines drawn group []) line ≡ wanted
        → ChecksFor drawn.net wanted (proof_front (drop start lines)) start (Err number) → IsWrongFrom drawn lines (behind_lines drawn group []) start number
    refused_step None number is checks = absurd (cc checks.1)
    refused_step (Some g) number is checks =
        let first = group_refused drawn group checks.before checks.refused checks.more (drop end lines) g (ahead_is ∙ is) checks.taken checks.fails in
        let spelled : drop start lines ≡ map proof checks.before ++ (proof checks.refused ∷ (map proof checks.more ++ drop end lines)) =
        parts ∙ ap (λ xs. map proof xs ++ drop end lines) checks.parts ∙ ap (λ xs. xs ++ drop end lines) (map-append checks.before (checks.refused ∷ checks.more))
        ∙ append_assoc (map proof checks.before) (proof checks.refused ∷ map proof checks.more) (drop end lines) in (
          0 + length checks.before,
          subst (λ xs. IsFirstWrong drawn (behind_lines drawn group []) xs (0 + length checks.before)) (sym spelled) first,
          (let sum : number ≡ start + length checks.before = checks.is_number in omega arith),
        )

    takes_for : (wanted : Option ProofGoal) (whole : Bool) → ChecksFor drawn.net wanted (proof_front (drop start lines)) start (Ok whole)
        → (g : ProofGoal) → wanted ≡ Some g → Takes drawn.net g (proof_front (drop start lines))
    takes_for None whole checks g is = absurd (cc is)
    takes_for (Some x) whole checks g is = let same : x ≡ g = cc in subst (λ y. Takes drawn.net y (proof_front (drop start lines))) same (checks.cases, checks.reads)

    -- what the checker says of all the proof lines
    pub told_of : (wanted : Option ProofGoal) (whole : Bool) → ChecksFor drawn.net wanted (proof_front (drop start lines)) start (Ok whole)
        → IsWholeFor drawn.net wanted (proof_front (drop start lines)) whole
    told_of None whole checks = tt
    told_of (Some g) whole checks = (
      λ is. subst (proofs.ProofLeaves drawn.net g ([] ∷ []) (proof_front (drop start lines))) (checks.is_whole.0 is) checks.reads,
      λ proves. checks.is_whole.1 (reads_same drawn.net g (proof_front (drop start lines)) ([] ∷ []) checks.cases [] checks.reads proves),
    )

    fine_leads : (wanted : Option ProofGoal) (whole : Bool) → goal_by (behind_lines drawn group []) line ≡ wanted → ChecksFor drawn.net wanted (proof_front (drop start lines)) start (Ok whole)
        → CheckLeads drawn lines (behind_lines drawn group []) start (behind_lines drawn group (proof_front (drop start lines))) end
    fine_leads wanted whole is checks = group_leads (λ g e. takes_for wanted whole checks g (sym is ∙ (sym ahead_is ∙ e)))

    pub passed_step : (whole : Bool) (stage : Stage) → ChecksFor drawn.net (goal_by (behind_lines drawn group []) line) (proof_front (drop start lines)) start (Ok whole)
        → Decides drawn (behind_lines drawn group (proof_front (drop start lines))) line (Some stage) → end < length lines
        → StepsOn drawn lines (behind_lines drawn group []) start stage (end + 1)
    passed_step whole stage checks decided within =
        let here : ReportState = behind_lines drawn group (proof_front (drop start lines)) in
        record {
          leads =
              leads_then drawn lines (behind_lines drawn group []) here (at_of drawn stage) start end (end + 1) (fine_leads (goal_by (behind_lines drawn group []) line) whole refl checks)
              (line_leads drawn lines here end line there stage decided);
          fits = decided.2;
          more = omega arith;
          within = omega arith;
        }

    pub wrong_step : (whole : Bool) → ChecksFor drawn.net (goal_by (behind_lines drawn group []) line) (proof_front (drop start lines)) start (Ok whole)
        → Decides drawn (behind_lines drawn group (proof_front (drop start lines))) line None → IsWrongFrom drawn lines (behind_lines drawn group []) start end
    wrong_step whole checks decided =
        (fine_leads (goal_by (behind_lines drawn group []) line) whole refl checks).wrong end
        (line_wrong drawn lines (behind_lines drawn group (proof_front (drop start lines))) end line there decided)
