use Rattle.std.proofs.Common.{◌≡◌, [], drop}
use Rattle.itv_base.specs.Reading.{walk}
use Rattle.line_words.specs.Views.{texts}
use Rattle.job_margin.specs.Named.{with_named}
use Rattle.job_margin.proofs.named.named_numbers.Given as goal

-- the texts that are left lead on to what all of them give
abbrev pub invariant-loop-k : goal.invariant-loop-k
invariant-loop-k l = walk (with_named l.all) l.k l.named.items (drop l.k (texts l.names)) ≡ walk (with_named l.all) 0 [] (texts l.names)
