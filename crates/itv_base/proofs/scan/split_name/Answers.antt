use Rattle.itv_base.specs.Characters.{is_name_byte}
use Rattle.itv_base.proofs.Cuts.{run_ends, name_byte_is_ascii}
use Rattle.itv_base.proofs.scan.split_name.Goals as goal

pub split_at-requires : goal.split_at-requires
split_at-requires c = run_ends is_name_byte name_byte_is_ascii c.args.text.now _ c.utf8.text (cc)
