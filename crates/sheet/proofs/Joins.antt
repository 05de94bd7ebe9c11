-- Which links are causes of one constraint: a test of their kinds, targets and tags.
use Rattle.std.proofs.Common.{◌≡◌, ℕ, Bool, true, false, ◌&&◌, ◌==◌, List, Option, Some, None, refl, ap, sym, ◌∙◌}
use Rattle.std.proofs.lemmas.Bool.{eqb-true, eq-eqb}
use Rattle.std.proofs.lemmas.Slice.Eq.{bytes_eq-Decides}
use Rattle.label_grammar.specs.declared.label.Kind.{Kind}
use Rattle.label_grammar.specs.declared.label.Kind.TheVariants.{Lin, Late, Early, Req, Ask}
use Rattle.sheet.specs.Links.{Link, same_kind, same_tag, joins}
use Rattle.sheet.specs.Step.{is_cause}
use Rattle.itv_base.proofs.Bools.{both_true, same_test}

same_kind-same : (a b : Kind) → same_kind a b ≡ true → (a ≡ b) × (is_cause a ≡ true)
same_kind-same Lin b e = cc
same_kind-same Req b e = cc
same_kind-same Ask b e = cc
same_kind-same Late Late e = (refl, refl)
same_kind-same Late Lin e = cc
same_kind-same Late Early e = cc
same_kind-same Late Req e = cc
same_kind-same Late Ask e = cc
same_kind-same Early Early e = (refl, refl)
same_kind-same Early Lin e = cc
same_kind-same Early Late e = cc
same_kind-same Early Req e = cc
same_kind-same Early Ask e = cc

same_kind-itself : (a : Kind) → is_cause a ≡ true → same_kind a a ≡ true
same_kind-itself Lin e = cc
same_kind-itself Late e = refl
same_kind-itself Early e = refl
same_kind-itself Req e = cc
same_kind-itself Ask e = cc

same_tag-same : (a b : Option (List ℕ)) → same_tag a b ≡ true → a ≡ b
same_tag-same None None e = refl
same_tag-same None (Some b) e = cc
same_tag-same (Some a) None e = cc
same_tag-same (Some a) (Some b) e = ap Some ((bytes_eq-Decides a b).0 e)

same_tag-itself : (a : Option (List ℕ)) → same_tag a a ≡ true
same_tag-itself None = refl
same_tag-itself (Some a) = (bytes_eq-Decides a a).1 refl

-- two links that join have one kind, one target and one tag
pub record IsSameGroup (a b : Link) : Type 0 where
  pub cause : is_cause a.label.kind ≡ true
  pub kind : a.label.kind ≡ b.label.kind
  pub target : a.to ≡ b.to
  pub tag : a.label.tag ≡ b.label.tag

pub IsSameGroup-from_joins : (a b : Link) → joins a b ≡ true → IsSameGroup a b
IsSameGroup-from_joins a b e =
    let kinds = both_true (same_kind a.label.kind b.label.kind) ((a.to == b.to) && same_tag a.label.tag b.label.tag) e in
    let rest = both_true (a.to == b.to) (same_tag a.label.tag b.label.tag) kinds.1 in
    let same = same_kind-same a.label.kind b.label.kind kinds.0 in
    record { cause = same.1; kind = same.0; target = eqb-true a.to b.to rest.0; tag = same_tag-same a.label.tag b.label.tag rest.1 }

pub joins-from_IsSameGroup : (a b : Link) → IsSameGroup a b → joins a b ≡ true
joins-from_IsSameGroup a b same =
    rw (← same.kind, ← same.target, ← same.tag, same_kind-itself a.label.kind same.cause, eq-eqb a.to a.to refl, same_tag-itself a.label.tag)

-- ---- joining is an equivalence of causes

pub joins-same : (a b m : Link) → joins a b ≡ true → joins a m ≡ joins b m
joins-same a b m e =
    let same = IsSameGroup-from_joins a b e in
    rw (same.kind, same.target, same.tag)

pub joins-itself : (a : Link) → is_cause a.label.kind ≡ true → joins a a ≡ true
joins-itself a cause = joins-from_IsSameGroup a a (record { cause = cause; kind = refl; target = refl; tag = refl })

pub joins-cause : (a b : Link) → joins a b ≡ true → is_cause a.label.kind ≡ true
joins-cause a b e = (IsSameGroup-from_joins a b e).cause

joins-back : (a b : Link) → joins a b ≡ true → joins b a ≡ true
joins-back a b e = sym (joins-same a b a e) ∙ joins-itself a (joins-cause a b e)

pub joins-comm : (a b : Link) → joins a b ≡ joins b a
joins-comm a b = same_test (joins a b) (joins b a) (joins-back a b) (joins-back b a)

-- no link joins a link that is no cause
pub joins-no_cause : (a b : Link) → is_cause a.label.kind ≡ false → joins a b ≡ false
joins-no_cause a b no_cause = by_false (joins a b) (joins-cause a b)
  where
    by_false : (p : Bool) → (p ≡ true → is_cause a.label.kind ≡ true) → p ≡ false
    by_false false f = refl
    by_false true f = sym (f refl) ∙ no_cause
