-- What the steps of job self promise one another.
use Rattle.std.specs.Prelude.{ℕ, List, [], ◌∷◌}
use Rattle.itv_base.specs.Numerals.{number_text}
use Rattle.job_self.specs.Summary.{words_text}
use Rattle.job_self.specs.declared.write.Count.{Count}

-- the line of a number, with the word for what it counts
abbrev pub count_text : Count → List ℕ
count_text c = words_text (c.word.now ∷ number_text c.count ∷ [])
