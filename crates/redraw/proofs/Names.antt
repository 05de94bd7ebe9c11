-- Names that have the form of names have different texts.
use Rattle.std.proofs.Common.{◌≡◌, ◌<◌, inl, inr, ℕ, zero, suc, List, [], ◌∷◌, length, get_or, Some, slice_get, unwrap_or, ◌∙◌, refl, sym, ap, arith}
use Rattle.std.proofs.lemmas.Bool.{cases_order}
use Rattle.itv_base.specs.Names.{Name}
use Rattle.drawn_networks.specs.Drawn.{nameless}
use Rattle.slack_report.specs.Entry.{IsName}
use Rattle.slack_report.specs.Reading.{name_in}
use Rattle.slack_report.specs.Text.{name_word}
use Rattle.slack_report.proofs.WordLaws.{name_inverts}
use Rattle.redraw.specs.Laws.{OtherNamesDiffer}

pub one_name : (a b : Name) → IsName a → IsName b → name_word a ≡ name_word b → a ≡ b
one_name a b in_a in_b same = one (sym (name_inverts.again a in_a) ∙ ap name_in same ∙ name_inverts.again b in_b) where
  one : Some a ≡ Some b → a ≡ b
  one e = cc e

name_got : (names : List Name) (i : ℕ) → i < length names → unwrap_or (slice_get names i) nameless ≡ get_or names i nameless
name_got [] i within = absurd (omega arith)
name_got (n ∷ ns) zero within = refl
name_got (n ∷ ns) (suc i) within = name_got ns i (omega arith)

-- if no name occurs twice, two events have different texts
pub names_differ : OtherNamesDiffer
names_differ drawn count named once a b in_a in_b same =
    let there_a : a.0 < length drawn.names = omega arith in
    let there_b : b.0 < length drawn.names = omega arith in
    let at_a = name_got drawn.names a.0 there_a in
    let at_b = name_got drawn.names b.0 there_b in
    let one : get_or drawn.names a.0 nameless ≡ get_or drawn.names b.0 nameless =
    one_name (get_or drawn.names a.0 nameless) (get_or drawn.names b.0 nameless) (named a.0 nameless there_a) (named b.0 nameless there_b)
    (ap name_word (sym at_a) ∙ same ∙ ap name_word at_b) in
    elim (cases_order a.0 b.0) [
      | inl is ↦ is
      | inr apart ↦ elim apart [
        | inl less ↦ absurd (once a.0 b.0 less there_b one)
        | inr more ↦ absurd (once b.0 a.0 more there_a (sym one))
      ]
    ]
