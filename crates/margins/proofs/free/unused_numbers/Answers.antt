use Rattle.std.proofs.Common.{◌≡◌, ◌<◌, ◌≤◌, ◌∷◌, [], ◌++◌, List, Some, Option, Bor, length, get_or, false, slice_get, sym, ap, ◌∙◌, subst, arith}
use Rattle.std.specs.Prelude.{Contains, IfSome}
use Rattle.std.specs.Global.{Vec}
use Rattle.std.proofs.lemmas.List.{get_or_past}
use Rattle.std.proofs.lemmas.List.Elements.{Contains-push}
use Rattle.std.proofs.lemmas.Option.{slice_get-get_or}
use Rattle.drawn_numbers.specs.declared.drawn_number.DrawnNumber.{DrawnNumber}
use Rattle.moves.specs.Step.{lent}
use Rattle.moves.specs.declared.number_seen.NumberSeen.{NumberSeen}
use Rattle.margins.proofs.Standing.{lent_push, pushed_kept, there_next}
use Rattle.margins.proofs.free.unused_numbers.Goals as goal
use Rattle.margins.proofs.free.unused_numbers.Goals.{then-k-unused+then-unused-k+in_ok-push, else-k-unused, else-k-unused-via-then-k-unused+else-unused-k, else-k-unused-via-else-k-unused}

pub loop-k-preserved : goal.loop-k-preserved
loop-k-preserved c =
    let old = lent c.loop-k.numbers.items in
    let seen = c.args.opening.now.seen.now in
    there_next c.args.opening.now c.args.start c.loop-k.k old (lent c.if-k-unused.numbers.items) c.loop-k.invariant
    (λ n among. elim c.if-k-unused.branch [
      | then-k-unused+then-unused-k+in_ok-push w ↦
          let number = (get_or c.args.opening.now.seen.now c.loop-k.k w.index-seen-k.result).number in
          let same : lent c.if-k-unused.numbers.items ≡ lent c.loop-k.numbers.items ++ number ∷ [] =
          ap (λ (v : Vec (Bor DrawnNumber)). lent v.items) w.numbers-is ∙ (ap lent w.in_ok-push.ensures.items ∙ lent_push c.loop-k.numbers.items _) in
          subst (λ (xs : List DrawnNumber). Contains xs n) (sym same) (pushed_kept old number n among)
      | else-k-unused w ↦ subst (λ (v : Vec (Bor DrawnNumber)). Contains (lent v.items) n) (sym w.numbers-is) among
    ])
    (λ marked. elim c.if-k-unused.branch [
      | then-k-unused+then-unused-k+in_ok-push w ↦
          let number = (get_or c.args.opening.now.seen.now c.loop-k.k w.index-seen-k.result).number in
          let same : lent c.if-k-unused.numbers.items ≡ lent c.loop-k.numbers.items ++ number ∷ [] =
          ap (λ (v : Vec (Bor DrawnNumber)). lent v.items) w.numbers-is ∙ (ap lent w.in_ok-push.ensures.items ∙ lent_push c.loop-k.numbers.items _) in
          let within : c.loop-k.k < length seen = omega (arith, c.loop-k-test.true, c.requires.end) in
          let at : slice_get seen c.loop-k.k ≡ Some (get_or seen c.loop-k.k w.index-seen-k.result) = slice_get-get_or seen c.loop-k.k w.index-seen-k.result within in
          let here : Contains (lent c.if-k-unused.numbers.items) number = subst (λ (xs : List DrawnNumber). Contains xs number) (sym same) (Contains-push old number) in
          subst (λ (o : Option NumberSeen). IfSome o (λ (s : NumberSeen). Contains (lent c.if-k-unused.numbers.items) s.number)) (sym at) here
      | else-k-unused w ↦
          elim w.else-k-unused.branch [
            | else-k-unused-via-then-k-unused+else-unused-k u ↦ absurd (cc (marked, u.if-unused-k.false))
            | else-k-unused-via-else-k-unused u ↦
                let past : length c.args.opening.now.unused.now ≤ c.loop-k.k = omega (arith, u.if-k-unused.false) in
                absurd (cc (marked, get_or_past c.args.opening.now.unused.now c.loop-k.k false past))
          ]
    ])
