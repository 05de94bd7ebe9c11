-- When a budget may leave a search open.
use Rattle.std.proofs.Common.{◌≡◌, ◌<◌, ◌∙◌, ℕ, Bool, true, false, if◌then◌else◌, List, Some, refl, sym, subst}
use Rattle.event_graph.specs.Edges.{cause_choices}
use Rattle.event_graph.specs.Network.{IsNet}
use Rattle.job_base.specs.declared.answer.Answer.{Answer}
use Rattle.job_base.specs.declared.answer.Answer.TheVariants as answers
use Rattle.slack_report.specs.declared.words.EndWord.{EndWord}
use Rattle.slack_report.specs.declared.words.EndWord.TheVariants as endings
use Rattle.slack_report.specs.Entry.{Entry}
use Rattle.drawn_networks.specs.Drawn.{Drawn}
use Rattle.right_report.specs.ReportContents.{end_in}
use Rattle.right_report.proofs.Undecided.{bare_undecided_is_below, shown_undecided_is_below}
use Rattle.job_base.specs.Ending.{answer_of}
use Rattle.job_bounds.specs.Reports.{IsWrittenReport, Reports, Sums}
use Rattle.job_bounds.specs.declared.summary.Summary.{Summary}
use Rattle.job_bounds.proofs.WrittenLaws.{written_is_bare, written_is_shown}
use Rattle.job_self.specs.Summary.{AnswersSummary}
use Rattle.job_redraw.specs.Redraw.{AnswersRedraw, AnswersEndWord, is_wide}
use Rattle.command_words.specs.declared.job.SearchJob.TheVariants.{Redraw}
use Rattle.itv_cli.specs.Bounds.{AnswersBounds, DecidesWithin}
use Rattle.itv_cli.specs.Job.{Answers}
use Rattle.itv_cli.specs.declared.ready.Ready.TheVariants as ready

-- a written report that ends undecided has too low a budget
written_below : (drawn : Drawn) (most : ℕ) (cert : Bool) (lines : List Entry) → IsNet drawn.net → IsWrittenReport drawn most cert lines → end_in lines ≡ Some endings.Undecided
    → most < cause_choices drawn.net.constraints
written_below drawn most true lines net w e = shown_undecided_is_below drawn most lines net (written_is_shown drawn most lines w) e
written_below drawn most false lines net w e = bare_undecided_is_below drawn most lines net (written_is_bare drawn most lines w) e

undecided_word : (word : EndWord) → answer_of word ≡ answers.Undecided → word ≡ endings.Undecided
undecided_word endings.Pass e = absurd (cc)
undecided_word endings.Fail e = absurd (cc)
undecided_word endings.Inconsistent e = absurd (cc)
undecided_word endings.Undecided e = refl

-- so an answer is undecided only if the budget is too low
pub decides : (drawn : Drawn) (most : ℕ) (cert : Bool) (lines : List Entry) (summary : Summary) (answer : Answer) → IsNet drawn.net → IsWrittenReport drawn most cert lines → Sums summary lines
    → answer ≡ answer_of summary.end → DecidesWithin drawn most answer
decides drawn most cert lines summary answer net w sums is undecided =
    written_below drawn most cert lines net w
    (subst (λ word. end_in lines ≡ Some word) (undecided_word summary.end (sym is ∙ undecided)) sums.ends)

-- what a report is as an answer of job bounds
pub answers_bounds : (drawn : Drawn) (most : ℕ) (cert : Bool) (summary : Summary) (answer : Answer) (text : List ℕ) → IsNet drawn.net → answer ≡ answer_of summary.end
    → Reports drawn most cert summary text → AnswersBounds drawn most cert answer text
answers_bounds drawn most cert summary answer text net is reports = record {
  summary = summary;
  reports = reports;
  is_answer = is;
  decides = decides drawn most cert reports.lines summary answer net reports.is_written reports.sums is;
}

-- what a summary is as an answer of job self
pub answers_generated : (drawn : Drawn) (size most : ℕ) (answer : Answer) (text : List ℕ) → IsNet drawn.net → AnswersSummary drawn size most answer text
    → Answers (ready.Generated drawn size most) answer text
answers_generated drawn size most answer text net s = (s, decides drawn most false s.comes.lines s.summary answer net s.comes.is_written s.comes.sums s.is_answer)

-- ---- drawings

drawn_or_refused : (is_wide : Bool) → (if is_wide then answers.DesignRefused else answers.SomeFail) ≡ answers.Undecided → ⊥
drawn_or_refused true e = cc e
drawn_or_refused false e = cc e

says_undecided : (drawn : Drawn) (lines : List Entry) (word : EndWord) (answer : Answer) (text : List ℕ) → AnswersEndWord drawn lines word answer text → answer ≡ answers.Undecided → word ≡ endings.Undecided
says_undecided drawn lines endings.Pass answer text s e = absurd (cc (s.0, e))
says_undecided drawn lines endings.Fail answer text s e = absurd (drawn_or_refused (is_wide drawn s.failed) (sym s.is_answer ∙ e))
says_undecided drawn lines endings.Inconsistent answer text s e = absurd (cc (s.0, e))
says_undecided drawn lines endings.Undecided answer text s e = refl

-- what a drawing is as an answer of job redraw
pub answers_redraw : (drawn : Drawn) (most : ℕ) (answer : Answer) (text : List ℕ) → IsNet drawn.net → AnswersRedraw drawn most answer text → Answers (ready.Searched drawn Redraw most) answer text
answers_redraw drawn most answer text net a = (
  a,
  λ undecided. written_below drawn most false a.lines net a.is_written
      (subst (λ word. end_in a.lines ≡ Some word) (says_undecided drawn a.lines a.word answer text a.says undecided) a.ends),
)
