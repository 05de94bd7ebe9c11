-- The whole text of the job.
use Rattle.std.proofs.Common.{◌≡◌, ℕ, Bool, true, false, List, Option, Some, None, sym, ap, subst, ◌∙◌}
use Rattle.drawn_networks.specs.Drawn.{Drawn}
use Rattle.job_base.specs.Ending.{answer_of}
use Rattle.job_base.specs.declared.answer.Answer.{Answer}
use Rattle.origin.specs.NotesKept.{NotesKept}
use Rattle.slack_report.specs.declared.words.EndWord.{EndWord}
use Rattle.slack_report.specs.declared.words.EndWord.TheVariants.{Pass, Fail, Inconsistent, Undecided}
use Rattle.moves.specs.declared.number_seen.NumberSeen.{NumberSeen}
use Rattle.job_margin.specs.Margin.{AnswersMargin, AreNumbersFound, EndsBy}
use Rattle.job_margin.specs.Step.{AreFoundOf, EndsByOf, IsListOf}
use Rattle.job_margin.specs.Text.{are_left_open, end_of, margin_text}
use Rattle.job_margin.specs.declared.number_found.NumberFound.{NumberFound}

-- what is right of the numbers is right of the list
ending_as : (drawn : Drawn) (budget : ℕ) (P Q : List NumberFound → Type 0) (word : EndWord) (found : List NumberFound) → (P found → Q found) → EndsBy drawn budget P word found → EndsBy drawn budget Q word found
ending_as drawn budget P Q Pass found more is = (is.0, more is.1)
ending_as drawn budget P Q Fail found more is = (is.0, more is.1)
ending_as drawn budget P Q Inconsistent found more is = is
ending_as drawn budget P Q Undecided found more is = is

pub answers_margin : (noted : NotesKept) (drawn : Drawn) (budget : ℕ) (seen : List NumberSeen) (as_one : Bool) (list : Option (List NumberSeen)) (word : EndWord) (found : List NumberFound) (answer : Answer) (text : List ℕ)
    → EndsByOf drawn budget seen as_one word found → text ≡ margin_text noted word seen found → answer ≡ answer_of (end_of word (are_left_open found)) → IsListOf drawn seen as_one list
    → AnswersMargin noted drawn list budget answer text
answers_margin noted drawn budget seen true list word found answer text ending is_text is_answer of =
    subst (λ l. AnswersMargin noted drawn l budget answer text) (sym of) (record {
      word = word;
      found = found;
      is_ending = ending_as drawn budget (AreFoundOf drawn budget seen true) (AreNumbersFound drawn budget (Some seen)) word found (λ are. are) ending;
      is_text = is_text;
      is_answer = is_answer;
    })
answers_margin noted drawn budget seen false list word found answer text ending is_text is_answer of =
    subst (λ l. AnswersMargin noted drawn l budget answer text) (sym of.0) (record {
      word = word;
      found = found;
      is_ending = ending_as drawn budget (AreFoundOf drawn budget seen false) (AreNumbersFound drawn budget None) word found (λ are. subst (λ s. AreFoundOf drawn budget s false found) of.1 are) ending;
      is_text = is_text ∙ ap (λ s. margin_text noted word s found) of.1;
      is_answer = is_answer;
    })
