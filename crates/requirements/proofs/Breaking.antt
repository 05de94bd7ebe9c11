-- Which end of a range a fail breaks.
use Rattle.std.proofs.Common.{◌≡◌, Bool, true, false, ◌&&◌, cond, None, refl}
use Rattle.itv_base.specs.Range.{Ends}
use Rattle.requirements.specs.Verdicts.{breaks_high, breaks_low, meets_high, meets_low, verdict_of}
use Rattle.requirements.specs.declared.bound.Bound.{Bound}
use Rattle.requirements.specs.declared.verdict.Verdict.TheVariants as verdicts

fail_high : (high low fine : Bool) → cond high verdicts.FailHigh (cond low verdicts.FailLow (cond fine verdicts.Pass verdicts.Undecided)) ≡ verdicts.FailHigh → high ≡ true
fail_high true low fine e = refl
fail_high false true fine e = absurd (cc e)
fail_high false false true e = absurd (cc e)
fail_high false false false e = absurd (cc e)

fail_low : (high low fine : Bool) → cond high verdicts.FailHigh (cond low verdicts.FailLow (cond fine verdicts.Pass verdicts.Undecided)) ≡ verdicts.FailLow → low ≡ true
fail_low true low fine e = absurd (cc e)
fail_low false true fine e = refl
fail_low false false true e = absurd (cc e)
fail_low false false false e = absurd (cc e)

pub high_breaks : (range : Ends) (least most : Bound) → verdict_of range least most ≡ verdicts.FailHigh → breaks_high range.high most ≡ true
high_breaks range least most e = fail_high (breaks_high range.high most) (breaks_low range.low least) (meets_high range.high most && meets_low range.low least) e

pub low_breaks : (range : Ends) (least most : Bound) → verdict_of range least most ≡ verdicts.FailLow → breaks_low range.low least ≡ true
low_breaks range least most e = fail_low (breaks_high range.high most) (breaks_low range.low least) (meets_high range.high most && meets_low range.low least) e

pub none_high : (most : Bound) → breaks_high None most ≡ true → ⊥
none_high most e = cc e

pub none_low : (least : Bound) → breaks_low None least ≡ true → ⊥
none_low least e = cc e
