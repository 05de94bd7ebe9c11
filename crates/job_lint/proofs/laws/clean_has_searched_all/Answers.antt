use Rattle.job_lint.proofs.Cleaning.{clean_has_searched_all}
use Rattle.job_lint.proofs.laws.clean_has_searched_all.Goals as goal

pub returns : goal.returns
returns c = record { law = clean_has_searched_all }
