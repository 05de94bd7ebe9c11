-- The same data have the same text, wherever they lie in memory.
use Rattle.std.proofs.Common.{◌≡◌, ℕ, ℤ, true, if◌then◌else◌, List, [], ◌∷◌, ◌++◌, map, refl, ap, ◌∙◌}
use Rattle.itv_base.specs.Range.{Ends}
use Rattle.itv_base.specs.declared.row_kind.RowKind.{RowKind}
use Rattle.itv_base.specs.declared.row_kind.RowKind.TheVariants as kinds
use Rattle.requirements.specs.Slacks.{slack_of}
use Rattle.requirements.specs.Verdicts.{verdict_of}
use Rattle.requirements.specs.declared.bound.BothBounds.{BothBounds}
use Rattle.requirements.specs.declared.bound.Bound.{Bound}
use Rattle.requirements.specs.declared.bound.Bound.TheVariants as bounds
use Rattle.requirements.specs.declared.consistency.Consistency.TheVariants as findings
use Rattle.slack_report.specs.declared.words.Which.{Which}
use Rattle.slack_report.specs.Entry as line
use Rattle.slack_report.specs.Text.{entry_text}
use Rattle.right_report.specs.Right.ReportState.{end_word, is_fail, tally_of}
use Rattle.right_report.specs.RowTally.{kinds_of, with_rows}
use Rattle.drawn_networks.specs.declared.row.Row.{Row}
use Rattle.edge_clauses.specs.Proofs.{lines_of}
use Rattle.clause_texts.specs.Text.{proof_text}
use Rattle.job_settle.specs.declared.finding.Finding.{Finding}
use Rattle.job_settle.specs.declared.finding.Finding.TheVariants.{Consistent, Inconsistent, Open}
use Rattle.job_settle.specs.declared.proof.Proof.{Proof}
use Rattle.job_settle.specs.declared.bound.SettledBound.{SettledBound}
use Rattle.job_settle.specs.declared.bound.SettledBound.TheVariants as settled
use Rattle.job_settle.specs.declared.row.RowFound.{RowFound}
use Rattle.job_settle.specs.Answers.{both_of, bound_of}
use Rattle.job_settle.specs.Text.{bound_text, ending_of, finding_text, judged_text, shown_text}
use Rattle.job_confirm.specs.Step.{AreSameRows, IsSameBound, IsSameFinding, IsSameProof, IsSameRow}

pub proof_same : (a b : Proof) → IsSameProof a b → shown_text true a ≡ shown_text true b
proof_same a b s =
    ap (λ view. proof_text view a.claim (lines_of a.lines.items)) s.view
    ∙ (ap (λ claim. proof_text b.view claim (lines_of a.lines.items)) s.claim ∙ ap (λ lines. proof_text b.view b.claim lines) s.lines)

pub finding_same : (a b : Finding) → IsSameFinding a b → finding_text true a ≡ finding_text true b
finding_same (Consistent a) (Consistent b) s = ap (λ times. entry_text (line.finding findings.Consistent) ++ entry_text (line.times times)) s
finding_same (Consistent a) (Inconsistent b) s = absurd s
finding_same (Consistent a) Open s = absurd s
finding_same (Inconsistent a) (Consistent b) s = absurd s
finding_same (Inconsistent a) (Inconsistent b) s = ap (λ text. text ++ entry_text (line.finding findings.Inconsistent)) (proof_same a b s)
finding_same (Inconsistent a) Open s = absurd s
finding_same Open (Consistent b) s = absurd s
finding_same Open (Inconsistent b) s = absurd s
finding_same Open Open s = refl

abbrev closed_text : Which → ℤ → List ℤ → List ℕ → List ℕ
closed_text which value times proof = proof ++ (entry_text (line.bound which (bounds.Closed value)) ++ entry_text (line.times times))

pub bound_same : (which : Which) (a b : SettledBound) → IsSameBound a b → bound_text true which a ≡ bound_text true which b
bound_same which (settled.Closed value times proof) (settled.Closed other others also) s =
    ap (λ v. closed_text which v times.items (shown_text true proof)) s.0
    ∙ (ap (λ ts. closed_text which other ts (shown_text true proof)) s.1 ∙ ap (λ text. closed_text which other others.items text) (proof_same proof also s.2))
bound_same which (settled.Closed value times proof) (settled.Unbounded others set) s = absurd s
bound_same which (settled.Closed value times proof) settled.Open s = absurd s
bound_same which (settled.Unbounded times ray) (settled.Closed other others also) s = absurd s
bound_same which (settled.Unbounded times ray) (settled.Unbounded others set) s =
    ap (λ ts. entry_text (line.bound which bounds.Unbounded) ++ (entry_text (line.times ts) ++ entry_text (line.raise ray.items))) s.0
    ∙ ap (λ r. entry_text (line.bound which bounds.Unbounded) ++ (entry_text (line.times others.items) ++ entry_text (line.raise r))) s.1
bound_same which (settled.Unbounded times ray) settled.Open s = absurd s
bound_same which settled.Open (settled.Closed other others also) s = absurd s
bound_same which settled.Open (settled.Unbounded others set) s = absurd s
bound_same which settled.Open settled.Open s = refl

pub bound_of_same : (a b : SettledBound) → IsSameBound a b → bound_of a ≡ bound_of b
bound_of_same (settled.Closed value times proof) (settled.Closed other others also) s = ap bounds.Closed s.0
bound_of_same (settled.Closed value times proof) (settled.Unbounded others set) s = absurd s
bound_of_same (settled.Closed value times proof) settled.Open s = absurd s
bound_of_same (settled.Unbounded times ray) (settled.Closed other others also) s = absurd s
bound_of_same (settled.Unbounded times ray) (settled.Unbounded others set) s = refl
bound_of_same (settled.Unbounded times ray) settled.Open s = absurd s
bound_of_same settled.Open (settled.Closed other others also) s = absurd s
bound_of_same settled.Open (settled.Unbounded others set) s = absurd s
bound_of_same settled.Open settled.Open s = refl

abbrev judged_as : Ends → Bound → Bound → List ℤ → List ℕ
judged_as range least greatest past =
    entry_text (line.verdict (verdict_of range least greatest))
    ++ ((if is_fail (verdict_of range least greatest) then entry_text (line.times past) else []) ++ entry_text (line.slack (slack_of range least greatest)))

pub judged_same : (kind : RowKind) (a b : RowFound) → IsSameRow a b → judged_text kind a ≡ judged_text kind b
judged_same kinds.Ask a b s = refl
judged_same (kinds.Req range) a b s =
    ap (λ bound. judged_as range bound (bound_of a.greatest) a.past.items) (bound_of_same a.least b.least s.least)
    ∙ (ap (λ bound. judged_as range (bound_of b.least) bound a.past.items) (bound_of_same a.greatest b.greatest s.greatest)
    ∙ ap (λ past. judged_as range (bound_of b.least) (bound_of b.greatest) past) s.past)

abbrev both_as : Bound → Bound → BothBounds
both_as least greatest = record { least = least; greatest = greatest }

both_same : (a b : RowFound) → IsSameRow a b → both_of a ≡ both_of b
both_same a b s =
    ap (λ bound. both_as bound (bound_of a.greatest)) (bound_of_same a.least b.least s.least)
    ∙ ap (λ bound. both_as (bound_of b.least) bound) (bound_of_same a.greatest b.greatest s.greatest)

bounds_same : (found other : List RowFound) → AreSameRows found other → map both_of found ≡ map both_of other
bounds_same [] [] s = refl
bounds_same [] (o ∷ others) s = absurd s
bounds_same (f ∷ found) [] s = absurd s
bounds_same (f ∷ found) (o ∷ others) s = ap (λ b. b ∷ map both_of found) (both_same f o s.0) ∙ ap (λ bs. both_of o ∷ bs) (bounds_same found others s.1)

pub ending_same : (rows : List Row) (a b : Finding) (found other : List RowFound) → IsSameFinding a b → AreSameRows found other → ending_of rows a found ≡ ending_of rows b other
ending_same rows (Consistent a) (Consistent b) found other s r =
    ap (λ bs. end_word (with_rows (tally_of findings.Consistent) (kinds_of rows) bs)) (bounds_same found other r)
ending_same rows (Consistent a) (Inconsistent b) found other s r = absurd s
ending_same rows (Consistent a) Open found other s r = absurd s
ending_same rows (Inconsistent a) (Consistent b) found other s r = absurd s
ending_same rows (Inconsistent a) (Inconsistent b) found other s r = refl
ending_same rows (Inconsistent a) Open found other s r = absurd s
ending_same rows Open (Consistent b) found other s r = absurd s
ending_same rows Open (Inconsistent b) found other s r = absurd s
ending_same rows Open Open found other s r = refl
