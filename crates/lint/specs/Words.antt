-- The words of warnings: how each is printed, and which of them a note can silence.
use Rattle.std.specs.Prelude.{ℕ, Bool, true, false, List, codes}
use Rattle.lint.specs.declared.warning_word.WarningWord.{WarningWord}
use Rattle.lint.specs.declared.warning_word.WarningWord.TheVariants.{Rows, Arrows, Comment, Word, Note, Key, Unit as UnitOf, Both, Single, Period, Drivers, Own, Held, Again, Wave, Kinds, Itself, Delay, Before, Tied}

abbrev pub word_text : WarningWord → List ℕ
word_text Rows = codes "rows"
word_text Arrows = codes "arrows"
word_text Comment = codes "comment"
word_text Word = codes "word"
word_text Note = codes "note"
word_text Key = codes "key"
word_text UnitOf = codes "unit"
word_text Both = codes "both"
word_text Single = codes "single"
word_text Period = codes "period"
word_text Drivers = codes "drivers"
word_text Own = codes "own"
word_text Held = codes "held"
word_text Again = codes "again"
word_text Wave = codes "wave"
word_text Kinds = codes "kinds"
word_text Itself = codes "self"
word_text Delay = codes "delay"
word_text Before = codes "before"
word_text Tied = codes "tied"

-- a note that ends with `(meant)` silences the warning: what it says may be intended
abbrev pub can_be_meant : WarningWord → Bool
can_be_meant Rows = false
can_be_meant Arrows = false
can_be_meant Comment = false
can_be_meant Word = false
can_be_meant Note = false
can_be_meant Key = false
can_be_meant UnitOf = true
can_be_meant Both = true
can_be_meant Single = true
can_be_meant Period = true
can_be_meant Drivers = false
can_be_meant Own = true
can_be_meant Held = false
can_be_meant Again = true
can_be_meant Wave = false
can_be_meant Kinds = true
can_be_meant Itself = true
can_be_meant Delay = true
can_be_meant Before = true
can_be_meant Tied = true
