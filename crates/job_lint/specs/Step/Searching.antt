-- What is known while rows are searched.
use Rattle.std.specs.Prelude.{◌≡◌, ◌≤◌}
use Rattle.event_graph.specs.Edges.{cause_choices}
use Rattle.drawn_networks.specs.Drawn.{Drawn}
use Rattle.explanations.specs.Apart.{net_apart}
use Rattle.extremes.specs.Ready.{IsReady}
use Rattle.extremes.specs.declared.extremes.Extremes.{Extremes}
use Rattle.job_lint.specs.declared.apart.WithoutOrder.{WithoutOrder}
use Rattle.job_lint.specs.declared.apart.WithoutOrder.TheVariants as apart
use Rattle.job_lint.specs.declared.apart.ApartSearch.{ApartSearch}
use Rattle.job_lint.specs.declared.rows.RowSearch.{RowSearch}

-- ---- the network apart

-- a search of the network apart is ready
pub record IsApartSearch (network : Drawn) (search : ApartSearch) : Type 0 where
  pub net : search.net ≡ net_apart network
  pub ready : IsReady search.net search.extremes

-- the network apart is the drawn network, or a search of it is ready, or nothing is known of it
abbrev pub IsApartFor : Drawn → WithoutOrder → Type 0
IsApartFor network apart.Same = net_apart network ≡ network.net
IsApartFor network (apart.Ready search) = IsApartSearch network search
IsApartFor network apart.Open = Unit {0}

-- the budget is no less than the number of cause choices of a drawn network
abbrev pub IsEnoughIn : Drawn → Extremes → Type 0
IsEnoughIn network extremes = cause_choices network.net.constraints ≤ extremes.budget

abbrev pub IsApartEnough : Drawn → WithoutOrder → Type 0
IsApartEnough network apart.Same = Unit {0}
IsApartEnough network (apart.Ready search) = IsEnoughIn network search.extremes
IsApartEnough network apart.Open = ⊥

-- ---- rows

-- the memory for the rows of a drawn network
pub record IsRowSearch (network : Drawn) (search : RowSearch) : Type 0 where
  pub ready : IsReady network.net search.extremes
  pub chains : search.chains.events ≡ network.net.events
  pub apart : IsApartFor network search.apart

-- the budget of the memory for rows is enough
pub record IsRowEnough (network : Drawn) (search : RowSearch) : Type 0 where
  pub whole : IsEnoughIn network search.extremes
  pub apart : IsApartEnough network search.apart
