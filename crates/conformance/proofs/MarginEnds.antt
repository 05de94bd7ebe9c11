-- What the ends of runs of job margin say over known files.
use Rattle.std.proofs.Common.{◌≡◌, ◌∙◌, ℕ, ℤ, Bool, true, false, List, [], ◌∷◌, Option, Some, None, refl, sym, subst}
use Rattle.std.specs.Prelude.{IfSome}
use Rattle.std.specs.List.{AllZip}
use Rattle.event_graph.specs.Bounds.{IsInconsistent}
use Rattle.itv_base.specs.Outside.{Files, grown}
use Rattle.itv_base.specs.declared.names.Side.TheVariants.{Upper}
use Rattle.drawn_networks.specs.Drawn.{Drawn}
use Rattle.job_base.specs.Ending.{answer_of}
use Rattle.job_base.specs.declared.answer.Answer.{Answer}
use Rattle.job_base.specs.declared.answer.Answer.TheVariants as answers
use Rattle.slack_report.specs.declared.words.EndWord.{EndWord}
use Rattle.slack_report.specs.declared.words.EndWord.TheVariants as endings
use Rattle.design_plan.specs.Notes.{plan_notes}
use Rattle.design_plan.specs.Plan.{PlanView}
use Rattle.moves.specs.Found.{IsEndMargin}
use Rattle.moves.specs.Listed.{numbers_of}
use Rattle.moves.specs.Passing.{BreaksRow, Passes}
use Rattle.moves.specs.declared.margin.Margin.{Margin}
use Rattle.moves.specs.declared.margin.Margin.TheVariants.{Until}
use Rattle.moves.specs.declared.number_seen.NumberSeen.{NumberSeen}
use Rattle.moves.proofs.Thresholds.{margin_is_threshold}
use Rattle.job_margin.specs.Margin.{AnswersMargin, AreNumbersFound, EndsBy, IsNumberFound}
use Rattle.job_margin.specs.Text.{are_left_open, end_of}
use Rattle.job_margin.specs.declared.number_found.NumberFound.{NumberFound}
use Rattle.command_words.specs.Task.{margin}
use Rattle.itv_cli.specs.Job.{Answers, list_at, planned_at}
use Rattle.itv_cli.specs.Run.{Call, HasAnswered, OutcomeMeans}
use Rattle.itv_cli.specs.declared.outcome.Outcome.{Outcome}
use Rattle.itv_cli.specs.declared.outcome.Outcome.TheVariants as ends
use Rattle.itv_cli.specs.declared.ready.Ready.TheVariants as given
use Rattle.design_reading.specs.FileReading.{gives, ◌>>=◌}
use Rattle.conformance.specs.Clients.{AsksMargin, HasSafeHighs, IsReportEnd, IsSafeHigh}
use Rattle.conformance.proofs.JobEnds.{answered_by}
use Rattle.conformance.proofs.KnownFiles.{answer_over, few_then, never_refused, same_ready, told_behind}

-- ---- what is found of numbers

-- a high end that has a margin is safe
safe_end : (drawn : Drawn) (budget : ℕ) (seen : NumberSeen) (found : Option Margin) → IfSome found (IsEndMargin drawn budget seen.number Upper)
    → (most : ℤ) (row : ℕ) → found ≡ Some (Until most row) → IsEndMargin drawn budget seen.number Upper (Until most row)
safe_end drawn budget seen None is most row e = absurd (cc e)
safe_end drawn budget seen (Some spared) is most row e = let same : spared ≡ Until most row = cc e in subst (IsEndMargin drawn budget seen.number Upper) same is

safe_high : (drawn : Drawn) (budget : ℕ) (seen : NumberSeen) (found : NumberFound) → IsNumberFound drawn budget seen found → IsSafeHigh drawn seen found
safe_high drawn budget seen found is = λ most row e by within.
    (margin_is_threshold drawn budget seen.number Upper most row (safe_end drawn budget seen found.ends.high is.ends.high most row e)).1 by within

safe_highs : (drawn : Drawn) (budget : ℕ) (seen : List NumberSeen) (found : List NumberFound) → AllZip (IsNumberFound drawn budget) seen found → AllZip (IsSafeHigh drawn) seen found
safe_highs drawn budget [] [] all = tt
safe_highs drawn budget [] (f ∷ found) all = absurd all
safe_highs drawn budget (s ∷ seen) [] all = absurd all
safe_highs drawn budget (s ∷ seen) (f ∷ found) all = (safe_high drawn budget s f all.0, safe_highs drawn budget seen found all.1)

-- ---- what the answer says

passes_by : (drawn : Drawn) (budget : ℕ) (AreRight : List NumberFound → Type 0) (word : EndWord) (is_left : Bool) (found : List NumberFound) → EndsBy drawn budget AreRight word found
    → answers.AllPass ≡ answer_of (end_of word is_left) → Passes drawn × AreRight found
passes_by drawn budget AreRight endings.Pass false found is e = is
passes_by drawn budget AreRight endings.Pass true found is e = absurd (cc e)
passes_by drawn budget AreRight endings.Fail is_left found is e = absurd (cc e)
passes_by drawn budget AreRight endings.Inconsistent is_left found is e = absurd (cc e)
passes_by drawn budget AreRight endings.Undecided is_left found is e = absurd (cc e)

breaks_by : (drawn : Drawn) (budget : ℕ) (AreRight : List NumberFound → Type 0) (word : EndWord) (is_left : Bool) (found : List NumberFound) → EndsBy drawn budget AreRight word found
    → answers.SomeFail ≡ answer_of (end_of word is_left) → (row : ℕ) × BreaksRow drawn row
breaks_by drawn budget AreRight endings.Fail is_left found is e = is.0
breaks_by drawn budget AreRight endings.Pass true found is e = absurd (cc e)
breaks_by drawn budget AreRight endings.Pass false found is e = absurd (cc e)
breaks_by drawn budget AreRight endings.Inconsistent is_left found is e = absurd (cc e)
breaks_by drawn budget AreRight endings.Undecided is_left found is e = absurd (cc e)

none_by : (drawn : Drawn) (budget : ℕ) (AreRight : List NumberFound → Type 0) (word : EndWord) (is_left : Bool) (found : List NumberFound) → EndsBy drawn budget AreRight word found
    → answers.Inconsistent ≡ answer_of (end_of word is_left) → IsInconsistent drawn.net
none_by drawn budget AreRight endings.Inconsistent is_left found is e = is.0
none_by drawn budget AreRight endings.Pass true found is e = absurd (cc e)
none_by drawn budget AreRight endings.Pass false found is e = absurd (cc e)
none_by drawn budget AreRight endings.Fail is_left found is e = absurd (cc e)
none_by drawn budget AreRight endings.Undecided is_left found is e = absurd (cc e)

-- ---- runs

module _ (call : Call) (files : Files) (budget : ℕ) (plan : PlanView) (drawn : Drawn) (known : call.shelf_before.files ≡ Some files) (asks : AsksMargin call.words files budget plan drawn) where
  said : (answer : Answer) (m : HasAnswered call answer) → AnswersMargin (plan_notes plan) drawn None budget answer m.text
  said answer m =
      let a = answer_over call files (margin asks.design None budget) answer m.text known m refl (record { words = asks.words; own = refl }) in
      let (other, plans, comes) = told_behind files (planned_at asks.design) (λ (p : PlanView × Drawn). list_at p.1 None >>= (λ numbers. gives (given.Margin p.0 p.1 numbers budget))) a.given a.reads in
      let same : other ≡ (plan, drawn) = same_ready other (plan, drawn) (sym plans ∙ asks.plans) in
      let is : given.Margin other.0 other.1 None budget ≡ a.given = few_then files other.0 other.1 budget a.given comes in
      subst (λ (p : PlanView × Drawn). Answers (given.Margin p.0 p.1 None budget) answer m.text) same (subst (λ g. Answers g answer m.text) (sym is) a.answers)

  pub margin_wrote : (result : Outcome) → OutcomeMeans call result → (end : IsReportEnd result)
      → (text : List ℕ) × AnswersMargin (plan_notes plan) drawn None budget (answer_of end.0) text × (call.sink_after ≡ grown call.sink_before text)
  margin_wrote result means end =
      let m = answered_by call result (answer_of end.0) (λ same. never_refused end.0 (sym same)) means end.1 in (m.text, said (answer_of end.0) m, m.wrote)

  pub margin_passes : (result : Outcome) → OutcomeMeans call result → result ≡ ends.AllPass → Passes drawn
  margin_passes result means e =
      let a = said answers.AllPass (answered_by call result answers.AllPass (λ same. cc same) means e) in
      (passes_by drawn budget (AreNumbersFound drawn budget None) a.word (are_left_open a.found) a.found a.is_ending a.is_answer).0

  pub margin_safe : (result : Outcome) → OutcomeMeans call result → result ≡ ends.AllPass
      → (text : List ℕ) × HasSafeHighs (plan_notes plan) drawn text × (call.sink_after ≡ grown call.sink_before text)
  margin_safe result means e =
      let m = answered_by call result answers.AllPass (λ same. cc same) means e in
      let a = said answers.AllPass m in
      let all = (passes_by drawn budget (AreNumbersFound drawn budget None) a.word (are_left_open a.found) a.found a.is_ending a.is_answer).1 in
      (m.text, record { word = a.word; found = a.found; is_text = a.is_text; safe = safe_highs drawn budget (numbers_of drawn) a.found all }, m.wrote)

  pub margin_breaks : (result : Outcome) → OutcomeMeans call result → result ≡ ends.SomeFail → (row : ℕ) × BreaksRow drawn row
  margin_breaks result means e =
      let a = said answers.SomeFail (answered_by call result answers.SomeFail (λ same. cc same) means e) in
      breaks_by drawn budget (AreNumbersFound drawn budget None) a.word (are_left_open a.found) a.found a.is_ending a.is_answer

  pub margin_none : (result : Outcome) → OutcomeMeans call result → result ≡ ends.Inconsistent → IsInconsistent drawn.net
  margin_none result means e =
      let a = said answers.Inconsistent (answered_by call result answers.Inconsistent (λ same. cc same) means e) in
      none_by drawn budget (AreNumbersFound drawn budget None) a.word (are_left_open a.found) a.found a.is_ending a.is_answer
