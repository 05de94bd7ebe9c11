-- The words of lines as the program writes them: words of contracts within this crate.
use Rattle.itv_base.specs.Numerals.{number_text}
use Rattle.line_words.specs.Words as line
use Rattle.design_reading.specs.declared.put.Word.{Word}
use Rattle.design_reading.specs.declared.put.Word.TheVariants.{Text, Number, Count}

-- how a word is spelled
abbrev pub word_spelled : Word → line.Word
word_spelled (Text text) = text.now
word_spelled (Number number) = number_text number
word_spelled (Count count) = number_text count
