-- A line that may stand at a place is read there from its words.
use Rattle.std.proofs.Common.{◌≡◌, ℕ, true, eqb, List, [], ◌∷◌, codes, Some, None, option_map, refl, ap, subst}
use Rattle.std.proofs.lemmas.Bool.{eqb-true}
use Rattle.std.proofs.lemmas.Option.{cond_some, same_Some}
use Rattle.itv_base.specs.Names.{Name}
use Rattle.certificate.specs.Reading.{proof_in}
use Rattle.certificate.proofs.LineLaws.{proof_inverts}
use Rattle.line_words.specs.Words.{◌>>=◌, Word, keyed, one, or_else}
use Rattle.line_words.proofs.Inverts.{bind_some}
use Rattle.requirements.specs.declared.bound.Bound.{Bound}
use Rattle.itv_base.specs.declared.row_kind.RowKind.{RowKind}
use Rattle.requirements.specs.declared.consistency.Consistency.{Consistency}
use Rattle.slack_report.specs.declared.words.Which.{Which}
use Rattle.slack_report.specs.declared.words.Which.TheVariants as sorts
use Rattle.slack_report.specs.declared.place.Place.{Place}
use Rattle.slack_report.specs.declared.place.Place.TheVariants as at
use Rattle.slack_report.specs.Entry.{Entry, HasBoundForm, IsReportEntry, IsName, heading, budget, events, event, proof, finding, times, rows, row, bound, raise, verdict, slack, ending}
use Rattle.slack_report.specs.Order.{OrderStep, events_at, is_which, next}
use Rattle.slack_report.specs.Reading.{bound_in, entry_at, finding_in, step_at}
use Rattle.slack_report.specs.Text.{bound_words, finding_word, which_word, words_of}
use Rattle.slack_report.proofs.LineLaws.{bound_line, budget_line, ending_line, entry_takes, event_line, events_line, finding_line, raise_line, row_line, rows_line, slack_line, times_line, verdict_line}

event_again : (count expected more number : ℕ) (name : Name) → IsName name → number ≡ expected → entry_at (at.Event count expected more) (words_of (event number name)) ≡ Some (event number name)
unfolding entry_at words_of
event_again count expected more number name form same = rw same (ap (option_map (event expected)) ((event_line expected).again name form))

row_again : (count expected more number : ℕ) (kind : RowKind) (from to : Name) → IsReportEntry count (row number kind from to) → number ≡ expected
    → entry_at (at.Row count expected more) (words_of (row number kind from to)) ≡ Some (row number kind from to)
unfolding entry_at words_of
row_again count expected more number kind from to form same = rw same (ap (option_map (λ x. row expected x.0 x.1 x.2)) ((row_line expected).again (kind, from, to) form))

which_is : (word which : Which) → is_which word which ≡ true → word ≡ which
which_is sorts.Max sorts.Max h = refl
which_is sorts.Max sorts.Min h = absurd (cc)
which_is sorts.Min sorts.Max h = absurd (cc)
which_is sorts.Min sorts.Min h = refl

no_proof : (which : Which) (words : List Word) → proof_in (which_word which ∷ words) ≡ None
unfolding proof_in
no_proof sorts.Max words = refl
no_proof sorts.Min words = refl

no_proof_found : (words : List Word) → proof_in (codes "finding" ∷ words) ≡ None
unfolding proof_in
no_proof_found words = refl

found_again : (word : Consistency)
    → or_else (option_map proof (proof_in (codes "finding" ∷ finding_word word ∷ []))) (option_map finding (keyed (codes "finding") (one finding_in) (codes "finding" ∷ finding_word word ∷ []))) ≡ Some (finding word)
found_again word = rw (no_proof_found (finding_word word ∷ [])) (ap (option_map finding) (finding_line.again word tt))

bound_again : (which : Which) (value : Bound) → HasBoundForm value
    → or_else (option_map proof (proof_in (which_word which ∷ bound_words value))) (option_map (bound which) (keyed (which_word which) bound_in (which_word which ∷ bound_words value))) ≡ Some (bound which value)
bound_again which value form = rw (no_proof which (bound_words value)) (ap (option_map (bound which)) ((bound_line which).again value form))

pub entry_again : (place : Place) (entry : Entry) (behind : Place) → IsReportEntry (events_at place) entry → next place entry ≡ Some behind → entry_at place (words_of entry) ≡ Some entry
unfolding entry_at words_of
entry_again at.Heading heading behind form leads = refl
entry_again at.Budget (budget most) behind form leads = rw (budget_line.again most form) refl
entry_again at.Events (events number) behind form leads = rw (events_line.again number form) refl
entry_again (at.Event count expected more) (event number name) behind form leads =
    event_again count expected more number name form (eqb-true number expected (cond_some (eqb number expected) _ behind leads).0)
entry_again (at.Finding count) (proof line) behind form leads = rw (proof_inverts.again line form) refl
entry_again (at.Finding count) (finding word) behind form leads = found_again word
entry_again (at.FoundTimes count) (times list) behind form leads = rw ((times_line count).again list form) refl
entry_again (at.Rows count) (rows number) behind form leads = rw (rows_line.again number form) refl
entry_again (at.Row count expected more) (row number kind from to) behind form leads =
    row_again count expected more number kind from to form (eqb-true number expected (cond_some (eqb number expected) _ behind leads).0)
entry_again (at.Bound spot which) (proof line) behind form leads = rw (proof_inverts.again line form) refl
entry_again (at.Bound spot which) (bound word value) behind form leads =
    let same : word ≡ which = which_is word which (cond_some (is_which word which) _ behind leads).0 in
    rw same (bound_again which value form)
entry_again (at.Times spot which raises) (times list) behind form leads = rw ((times_line spot.events).again list form) refl
entry_again (at.Raise spot which) (raise set) behind form leads = rw ((raise_line spot.events).again set form) refl
entry_again (at.Verdict spot) (verdict word) behind form leads = rw (verdict_line.again word tt) refl
entry_again (at.FailTimes spot) (times list) behind form leads = rw ((times_line spot.events).again list form) refl
entry_again (at.Slack spot) (slack value) behind form leads = rw (slack_line.again (value.low, value.high) form) refl
entry_again at.End (ending word) behind form leads = rw (ending_line.again word tt) refl
entry_again place entry behind form leads = absurd (cc)

-- ---- with the place after it

pub step_takes : (place : Place) (words : List Word) (step : Entry × Place) → step_at place words ≡ Some step → (words ≡ words_of step.0) × OrderStep place step.0 step.1
step_takes place words step e =
    let a = bind_some (entry_at place words) (λ entry. next place entry >>= λ behind. Some (entry, behind)) step e in
    let b = bind_some (next place a.0) (λ behind. Some (a.0, behind)) step a.2 in
    let t = entry_takes place words a.0 a.1 in
    let both : (words ≡ words_of a.0) × OrderStep place a.0 b.0 = (t.0, record { is_entry = t.1; leads = b.1 }) in
    subst (λ (p : Entry × Place). (words ≡ words_of p.0) × OrderStep place p.0 p.1) (same_Some (a.0, b.0) step b.2) both

pub step_again : (place : Place) (entry : Entry) (behind : Place) → OrderStep place entry behind → step_at place (words_of entry) ≡ Some (entry, behind)
step_again place entry behind steps = rw (entry_again place entry behind steps.is_entry steps.leads, steps.leads) refl
