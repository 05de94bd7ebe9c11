use Rattle.std.proofs.Common.{◌≡◌, ◌<◌, ℕ, true, arith}
use Rattle.std.proofs.lemmas.Bool.Decides.{nat_tests}
use Rattle.itv_base.proofs.Cuts.{run_ends}
use Rattle.slack_report.specs.Reading.{is_end_byte}
use Rattle.slack_report.proofs.read_word.split_end.Goals as goal

end_byte_is_ascii : (b : ℕ) → is_end_byte b ≡ true → b < 128
end_byte_is_ascii b h = grind (arith, nat_tests)

pub split_at-requires : goal.split_at-requires
split_at-requires c = run_ends is_end_byte end_byte_is_ascii c.args.text.now _ c.utf8.text (cc)
