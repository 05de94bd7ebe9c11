use Rattle.std.proofs.Common.{◌≡◌, take, string_bytes}
use Rattle.job_files.specs.Files.{files_text}
use Rattle.job_files.proofs.write.lines_of.Given as goal

abbrev pub invariant-loop-k : goal.invariant-loop-k
invariant-loop-k l = string_bytes l.text ≡ files_text (take l.k l.names)
