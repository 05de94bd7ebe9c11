-- What a job answers, according to the word at the end of its text.
use Rattle.slack_report.specs.declared.words.EndWord.{EndWord}
use Rattle.slack_report.specs.declared.words.EndWord.TheVariants as ends
use Rattle.job_base.specs.declared.answer.Answer.{Answer}
use Rattle.job_base.specs.declared.answer.Answer.TheVariants.{AllPass, SomeFail, Inconsistent, Undecided}

abbrev pub answer_of : EndWord → Answer
answer_of ends.Pass = AllPass
answer_of ends.Fail = SomeFail
answer_of ends.Inconsistent = Inconsistent
answer_of ends.Undecided = Undecided
