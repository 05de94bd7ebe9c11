use Rattle.std.proofs.Common.{◌≡◌, ◌<◌, ℕ, true, List, get_or, Some, slice_get, sym, arith}
use Rattle.std.specs.Str.{IsCharBoundary, IsUtf8}
use Rattle.std.proofs.lemmas.Bool.Decides.{nat_tests}
use Rattle.std.proofs.lemmas.Option.{get_or_from_slice_get, slice_get_within}
use Rattle.std.proofs.lemmas.Str.{IsCharBoundary-after_ascii}
use Rattle.itv_base.specs.Characters.{is_mark}
use Rattle.slack_report.proofs.read_word.split_mark.Goals as goal

mark_is_ascii : (b : ℕ) → is_mark b ≡ true → b < 128
mark_is_ascii b h = grind (arith, nat_tests)

behind_mark : (text bytes : List ℕ) (mark : ℕ) → IsUtf8 text → bytes ≡ text → Some mark ≡ slice_get bytes 0 → true ≡ is_mark mark → IsCharBoundary text 1
behind_mark text bytes mark utf8 same first is =
    let here : slice_get text 0 ≡ Some mark = rw same at (sym first) in
    let small : mark < 128 = mark_is_ascii mark (sym is) in
    let mark_is : get_or text 0 0 ≡ mark = get_or_from_slice_get text 0 mark 0 here in
    IsCharBoundary-after_ascii text 0 utf8 (slice_get_within text 0 mark here) (rw mark_is small)

pub split_at-requires : goal.split_at-requires
split_at-requires c = behind_mark c.args.text.now c.as_bytes.result.now _ c.utf8.text c.as_bytes.ensures.value c.in_ok-mark.ensures.value c.if-not-is_mark.ensures.test
