use Rattle.std.proofs.Common.{◌≡◌, ◌<◌, ◌+◌, List, [], ℤ, length, get_or, inr, refl, ◌∙◌, sym, subst, arith}
use Rattle.std.specs.Prelude.{unwrap_or}
use Rattle.std.proofs.lemmas.Bool.{both_ways}
use Rattle.std.proofs.lemmas.List.{length-set}
use Rattle.std.proofs.lemmas.List.Elements.{All-set}
use Rattle.whatif.specs.Session.{HasPlaces, IsSearchedAnew, KeptBound, MayKeepFrom}
use Rattle.whatif.specs.Step.Bounds.{IsCloseBound, IsPairIn}
use Rattle.whatif.proofs.Settled.{as_before, same_here, settles, settles_kept}
use Rattle.whatif.proofs.settling.settle_bounds.Goals as goal
use Rattle.whatif.proofs.settling.settle_bounds.Goals.{then-keeps, else-keeps}

pub keeps-requires-clause-pair : goal.keeps-requires-clause-pair
keeps-requires-clause-pair c =
    let within : c.loop-k.k < length c.args.bounds.now = omega (arith, c.loop-k-test.true, c.loop-k.invariant.3) in
    subst (IsPairIn c.args.net.now.events) (sym (as_before (MayKeepFrom c.args.was c.args.net.now) (IsSearchedAnew c.args.net.now c.args.budget (unwrap_or c.args.work.now.known []))
    c.args.bounds.now c.loop-k.bounds c.loop-k.k c.loop-k.change.kept c.loop-k.change.searched c.index-bounds-k.result c.loop-k.invariant.6))
    (c.requires.pairs c.loop-k.k c.index-bounds-k.result within)

pub keeps-requires-clause-close : goal.keeps-requires-clause-close
keeps-requires-clause-close c consistent =
    let within : c.loop-k.k < length c.args.bounds.now = omega (arith, c.loop-k-test.true, c.loop-k.invariant.3) in
    subst IsCloseBound (sym (as_before (MayKeepFrom c.args.was c.args.net.now) (IsSearchedAnew c.args.net.now c.args.budget (unwrap_or c.args.work.now.known []))
    c.args.bounds.now c.loop-k.bounds c.loop-k.k c.loop-k.change.kept c.loop-k.change.searched c.index-bounds-k.result c.loop-k.invariant.6))
    (c.requires.close consistent c.loop-k.k c.index-bounds-k.result within)

pub search-requires-clause-pair : goal.search-requires-clause-pair
search-requires-clause-pair c =
    let within : c.loop-k.k < length c.args.bounds.now = omega (arith, c.loop-k-test.true, c.loop-k.invariant.3) in
    subst (IsPairIn c.args.net.now.events) (sym (as_before (MayKeepFrom c.args.was c.args.net.now) (IsSearchedAnew c.args.net.now c.args.budget (unwrap_or c.args.work.now.known []))
    c.args.bounds.now c.loop-k.bounds c.loop-k.k c.loop-k.change.kept c.loop-k.change.searched c.index-bounds-k-else-keeps.result c.loop-k.invariant.6))
    (c.requires.pairs c.loop-k.k c.index-bounds-k-else-keeps.result within)

pub search-requires-clause-close : goal.search-requires-clause-close
search-requires-clause-close c consistent =
    let within : c.loop-k.k < length c.args.bounds.now = omega (arith, c.loop-k-test.true, c.loop-k.invariant.3) in
    subst IsCloseBound (sym (as_before (MayKeepFrom c.args.was c.args.net.now) (IsSearchedAnew c.args.net.now c.args.budget (unwrap_or c.args.work.now.known []))
    c.args.bounds.now c.loop-k.bounds c.loop-k.k c.loop-k.change.kept c.loop-k.change.searched c.index-bounds-k-else-keeps.result c.loop-k.invariant.6))
    (c.requires.close consistent c.loop-k.k c.index-bounds-k-else-keeps.result within)

pub loop-k-preserved : goal.loop-k-preserved
loop-k-preserved c =
    let May : KeptBound → Type 0 = MayKeepFrom c.args.was c.args.net.now in
    let known : List ℤ = unwrap_or c.args.work.now.known [] in
    let Searched : KeptBound → KeptBound → Type 0 = IsSearchedAnew c.args.net.now c.args.budget known in
    let inv = c.loop-k.invariant in
    let within : c.loop-k.k < length c.args.bounds.now = omega (arith, c.loop-k-test.true, c.loop-k.invariant.3) in
    let within_now : c.loop-k.k < length c.loop-k.bounds = omega (arith, c.loop-k-test.true, c.loop-k.invariant.3) in
    let room : c.keeps.new.checker.room ≡ c.args.checker.now.room = c.keeps.ensures.room ∙ inv.2 in
    elim c.if-keeps.branch [
      | then-keeps w ↦
          (let kept : (c.loop-k.change.kept + 1) + c.loop-k.change.searched ≡ c.loop-k.k + 1 = omega (arith, c.loop-k.invariant.4) in
          rw (w.work-is, w.bounds-is, w.change-is) (
            inv.0,
            inv.1,
            room,
            inv.3,
            kept,
            inv.5,
            settles_kept May Searched c.args.bounds.now c.loop-k.bounds c.loop-k.k c.loop-k.change.kept c.loop-k.change.searched c.index-bounds-k.result inv.6 within within_now
                c.index-bounds-k.is (subst May (sym c.index-bounds-k.is) (c.keeps.ensures.keeps.0 w.if-keeps.true)),
          ))
      | else-keeps w ↦
          (let a : KeptBound = w.index-bounds-k-else-keeps.result in
          let same : a ≡ c.index-bounds-k.result = same_here c.loop-k.bounds c.loop-k.k a c.index-bounds-k.result within_now w.index-bounds-k-else-keeps.is c.index-bounds-k.is in
          let no : May a → ⊥ = λ may. both_ways c.keeps.result w.if-keeps.false (c.keeps.ensures.keeps.1 (subst May (same ∙ c.index-bounds-k.is) may)) in
          let raw : IsSearchedAnew c.args.net.now c.args.budget (unwrap_or c.loop-k.work.known []) (get_or c.loop-k.bounds c.loop-k.k a) w.search.new.self = w.search.ensures.searched in
          let searched : Searched a w.search.new.self =
          subst (λ o. IsSearchedAnew c.args.net.now c.args.budget (unwrap_or o []) a w.search.new.self) inv.1
          (subst (λ x. IsSearchedAnew c.args.net.now c.args.budget (unwrap_or c.loop-k.work.known []) x w.search.new.self) (sym w.index-bounds-k-else-keeps.is) raw) in
          let count : c.loop-k.change.kept + (c.loop-k.change.searched + 1) ≡ c.loop-k.k + 1 = omega (arith, c.loop-k.invariant.4) in
          rw (w.work-is, w.bounds-is, w.change-is) (
            w.search.ensures.made,
            w.search.ensures.known ∙ inv.1,
            room,
            length-set c.loop-k.bounds c.loop-k.k w.search.new.self ∙ inv.3,
            count,
            All-set (HasPlaces c.args.net.now.events) c.loop-k.bounds c.loop-k.k w.search.new.self w.search.ensures.places inv.5,
            settles May Searched c.args.bounds.now c.loop-k.bounds c.loop-k.k c.loop-k.change.kept c.loop-k.change.searched c.loop-k.change.kept (c.loop-k.change.searched + 1) a
                w.search.new.self inv.6 within within_now w.index-bounds-k-else-keeps.is (inr (no, searched, refl, refl)),
          ))
    ]
