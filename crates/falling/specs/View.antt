-- The view of a network: which network is solved.
use Rattle.std.specs.Prelude.{◌≡◌, ℕ, Option, Some, None, Result, Ok, Err}
use Rattle.itv_base.specs.declared.names.RuleKind.TheVariants.{Late, Early}
use Rattle.event_graph.specs.Network.{Net}
use Rattle.falling.specs.declared.fault.Mixed.{Mixed}
use Rattle.falling.specs.declared.view.View.{View}
use Rattle.falling.specs.declared.view.View.TheVariants.{Plain, Negated}
use Rattle.falling.specs.Kinds.{first_choice}

-- the view by the first earliest choice and the first latest choice; with both there is no view
abbrev pub view_by : Option ℕ → Option ℕ → Result View Mixed
view_by None late = Ok Plain
view_by (Some early) None = Ok Negated
view_by (Some early) (Some late) = Err (record { late = late; early = early })

abbrev pub view_of : Net → Result View Mixed
view_of net = view_by (first_choice Early net) (first_choice Late net)

-- the network has this view
abbrev pub IsViewOf : Net → View → Type 0
IsViewOf net view = view_of net ≡ Ok view
