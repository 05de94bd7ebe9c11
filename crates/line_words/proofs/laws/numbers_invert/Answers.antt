use Rattle.std.proofs.Common.{◌≤◌}
use Rattle.itv_base.specs.Numerals.{end_text, number_text, signed_text}
use Rattle.line_words.specs.Numbers.{IsLong, IsLongOrOpen, long_in, number_in, open_in}
use Rattle.line_words.proofs.Inverting.{are_inverse}
use Rattle.line_words.proofs.NumberLaws.{long_inverts, number_inverts, open_inverts}
use Rattle.line_words.proofs.laws.numbers_invert.Goals as goal

pub returns : goal.returns
returns c = record {
  numbers = λ limit. are_inverse (number_in limit) number_text (λ n. n ≤ limit) (number_inverts limit);
  longs = are_inverse long_in signed_text IsLong long_inverts;
  opens = are_inverse open_in end_text IsLongOrOpen open_inverts;
}
