use Rattle.std.proofs.Common.{◌≡◌, ◌+◌, ◌++◌, ◌∷◌, [], List, ℕ, ◌∙◌, ap, sym, take}
use Rattle.std.proofs.lemmas.List.{append_assoc}
use Rattle.itv_base.proofs.Lists.{take_get}
use Rattle.design_reading.proofs.files.push_all.Goals as goal

-- a front with one more text, after others
one_more : (old now new others : List (List ℕ)) (k : ℕ) (name : List ℕ) → now ≡ old ++ take k others → new ≡ now ++ name ∷ [] → take (k + 1) others ≡ take k others ++ name ∷ [] → new ≡ old ++ take (k + 1) others
one_more old now new others k name is put more = put ∙ ap (λ ns. ns ++ name ∷ []) is ∙ append_assoc old (take k others) (name ∷ []) ∙ ap (λ ns. old ++ ns) (sym more)

pub loop-k-preserved : goal.loop-k-preserved
loop-k-preserved c =
    one_more _ _ _ c.args.others.now c.loop-k.k c.as_text.result.now c.loop-k.invariant c.in_ok-push.ensures.ok
    (take_get c.args.others.now c.loop-k.k c.get.result.now c.get.ensures.item ∙ ap (λ (t : List ℕ). take c.loop-k.k c.args.others.now ++ t ∷ []) (sym c.as_text.ensures.text))
