use Rattle.std.specs.Char.{is_ascii_digit}
use Rattle.itv_base.proofs.Cuts.{run_ends, digit_is_ascii}
use Rattle.itv_base.proofs.scan.split_digits.Goals as goal

pub split_at-requires : goal.split_at-requires
split_at-requires c = run_ends is_ascii_digit digit_is_ascii c.args.text.now _ c.utf8.text (cc)
