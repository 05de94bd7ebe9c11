-- What the view of a network says of its choices.
use Rattle.std.proofs.Common.{◌≡◌, ℕ, Option, Some, None, Ok, refl}
use Rattle.itv_base.specs.declared.names.RuleKind.TheVariants.{Late, Early}
use Rattle.event_graph.specs.Network.{Net}
use Rattle.falling.specs.declared.view.View.TheVariants.{Plain, Negated}
use Rattle.falling.specs.Kinds.{IsPlain, first_choice}
use Rattle.falling.specs.Step.Kinds.{IsNegatable}
use Rattle.falling.specs.View.{IsViewOf, view_by}

pub plain_view : (net : Net) → IsViewOf net Plain → IsPlain net
plain_view net is = go (first_choice Early net) (first_choice Late net) is
  where
    go : (early late : Option ℕ) → view_by early late ≡ Ok Plain → early ≡ None
    go None late is = refl
    go (Some early) None is = absurd (cc is)
    go (Some early) (Some late) is = absurd (cc is)

pub negated_view : (net : Net) → IsViewOf net Negated → IsNegatable net
negated_view net is = go (first_choice Early net) (first_choice Late net) is
  where
    go : (early late : Option ℕ) → view_by early late ≡ Ok Negated → late ≡ None
    go None late is = absurd (cc is)
    go (Some early) None is = refl
    go (Some early) (Some late) is = absurd (cc is)

-- a network has one view
pub one_view : (net : Net) → IsViewOf net Plain → IsViewOf net Negated → ⊥
one_view net plain negated = cc (plain, negated)
