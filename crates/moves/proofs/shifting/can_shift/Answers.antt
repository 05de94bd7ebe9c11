use Rattle.std.proofs.Common.{◌≡◌, Bool, true, false, not, sym, ◌∙◌, to_z, of_z, w64}
use Rattle.std.proofs.lemmas.Int.{to_z-of_z}
use Rattle.moves.proofs.shifting.can_shift.Goals as goal

-- what is there is not missing
there : (some none : Bool) → some ≡ not none → none ≡ false → some ≡ true
there some true e is = absurd (cc is)
there some false e is = e

not_there : (some none : Bool) → some ≡ not none → none ≡ true → some ≡ true → ⊥
not_there some true e none is = cc
not_there some false e none is = cc

pub returns-then-is_none : goal.returns-then-is_none
returns-then-is_none c =
    let kept : to_z w64 (of_z w64 c.args.by) ≡ c.args.by = to_z-of_z w64 c.args.by c.ranges.by in
    let ranges = rw kept at c.in_ok-moved_network.ensures.ranges in
    record { can = (λ is. absurd (cc is), λ all. absurd (not_there _ c.is_none.result c.is_none.ensures c.if-is_none.true (ranges.1 all.0))) }

pub returns : goal.returns
returns c =
    let kept : to_z w64 (of_z w64 c.args.by) ≡ c.args.by = to_z-of_z w64 c.args.by c.ranges.by in
    let causes = rw kept at c.in_ok-moved_network.ensures.ranges in
    let rows = rw kept at c.in_ok-moved_rows.ensures.ranges in
    let some = there _ c.is_none.result c.is_none.ensures c.if-is_none.false in
    record { can = (λ is. (causes.0 some, rows.0 (sym c.is_some.ensures ∙ is)), λ all. c.is_some.ensures ∙ rows.1 all.1) }
