-- The warnings of the drawing, by their words and shapes.
use Rattle.std.specs.Prelude.{ℕ}
use Rattle.origin.specs.declared.origin.Origin.{Origin}
use Rattle.compose.specs.declared.mark.DesignMark.{DesignMark}
use Rattle.lint.specs.declared.about.About.TheVariants as abouts
use Rattle.lint.specs.declared.warning.DrawnPlace.{DrawnPlace}
use Rattle.lint.specs.declared.warning.Warning.{Warning}
use Rattle.lint.specs.declared.warning_word.WarningWord.{WarningWord}
use Rattle.lint.specs.declared.warning_word.WarningWord.TheVariants as words

abbrev pub warning_of_place : WarningWord → DrawnPlace → Warning
warning_of_place word place = record { word = word; about = abouts.Place place }

abbrev pub warning_of_two : WarningWord → DrawnPlace → DrawnPlace → Warning
warning_of_two word first other = record { word = word; about = abouts.Two first other }

abbrev pub nothing_asked : Warning
nothing_asked = record { word = words.Rows; about = abouts.Nothing }

abbrev pub comment_at : DrawnPlace → Warning
comment_at place = warning_of_place words.Comment place

abbrev pub word_at : DrawnPlace → Warning
word_at place = warning_of_place words.Word place

abbrev pub note_at : DrawnPlace → Warning
note_at place = warning_of_place words.Note place

abbrev pub near_key_at : ℕ → ℕ → Warning
near_key_at part key = record { word = words.Key; about = abouts.SheetKey part key }

abbrev pub stray_key_at : ℕ → Warning
stray_key_at key = record { word = words.Key; about = abouts.NetlistKey key }

abbrev pub tiny_at : DrawnPlace → Warning
tiny_at place = warning_of_place words.Unit place

abbrev pub tiny_net_at : ℕ → Warning
tiny_net_at net = record { word = words.Unit; about = abouts.Net net }

abbrev pub both_of : DrawnPlace → DrawnPlace → Warning
both_of first other = warning_of_two words.Both first other

abbrev pub single_at : DrawnPlace → Warning
single_at place = warning_of_place words.Single place

abbrev pub periods_of : DrawnPlace → DrawnPlace → Warning
periods_of first other = warning_of_two words.Period first other

abbrev pub follows_of : DesignMark → DrawnPlace → Warning
follows_of mark by = record { word = words.Period; about = abouts.Follows mark by }

abbrev pub drivers_of : DesignMark → Origin → Origin → Warning
drivers_of mark first other = record { word = words.Drivers; about = abouts.Drivers mark first other }

abbrev pub own_of : DesignMark → Origin → Origin → Warning
own_of mark by edge = record { word = words.Own; about = abouts.Driven mark by edge }

abbrev pub held_of : DesignMark → Origin → Origin → Warning
held_of mark by edge = record { word = words.Held; about = abouts.Driven mark by edge }
