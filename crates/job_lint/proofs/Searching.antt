-- Searches of the network apart and of rows.
use Rattle.std.proofs.Common.{◌≡◌, ◌≤ℤ◌, ◌≤◌, ◌<◌, ◌+◌, ℕ, ℤ, false, ◌||◌, List, [], ◌∷◌, ◌++◌, All, get_or, length, take, refl, sym, subst, ap, ◌∙◌, arith}
use Rattle.std.specs.List.{AllZip}
use Rattle.std.proofs.lemmas.List.{take_more, take_all}
use Rattle.std.proofs.lemmas.List.Elements.{All-push}
use Rattle.itv_base.specs.declared.names.EventId.{EventId}
use Rattle.event_graph.specs.Edges.{cause_choices}
use Rattle.event_graph.specs.Network.{IsNet, Net}
use Rattle.event_graph.specs.Satisfying.{Satisfies}
use Rattle.event_graph.specs.Times.{separation}
use Rattle.chains.specs.Chain.{AreBest, IsChain}
use Rattle.drawn_networks.specs.Drawn.{Drawn}
use Rattle.drawn_networks.specs.declared.row.Row.{Row}
use Rattle.explanations.specs.Apart.{net_apart}
use Rattle.explanations.specs.Answers.{Explains}
use Rattle.explanations.proofs.Wider.{apart_is_wider}
use Rattle.explanations.proofs.Settling.{fewer_choices}
use Rattle.extremes.specs.Found.{IsAttainedBy, IsConsistency}
use Rattle.requirements.specs.declared.consistency.Consistency.TheVariants as consistency
use Rattle.job_lint.specs.declared.row_seen.RowSeen.{RowSeen}
use Rattle.job_lint.specs.declared.rows.RowSearch.{RowSearch}
use Rattle.job_lint.specs.Found.{IsRowSeen, is_order_open, is_pair_open, is_row_open}
use Rattle.job_lint.specs.Step.Searching.{IsRowEnough, IsRowSearch}

-- ---- cause choices of the network apart

-- a budget that is enough for the drawn network is enough for the network apart
pub enough_apart : (network : Drawn) (net : Net) (budget : ℕ) → IsNet network.net → net ≡ net_apart network → cause_choices network.net.constraints ≤ budget
    → cause_choices net.constraints ≤ budget
enough_apart network net budget is_net is enough =
    let fewer : cause_choices (net_apart network).constraints ≤ cause_choices network.net.constraints =
    fewer_choices network.net.events network.net.constraints network.origins is_net.constraints in
    let here : cause_choices net.constraints ≤ cause_choices network.net.constraints =
    subst (λ (n : Net). cause_choices n.constraints ≤ cause_choices network.net.constraints) (sym is) fewer in
    omega (arith, here, enough)

-- where times satisfy the drawn network, the network apart is not inconsistent
pub apart_consistent : (network : Drawn) (net : Net) → net ≡ net_apart network → IsConsistency network.net consistency.Consistent
    → IsConsistency net consistency.Inconsistent → ⊥
apart_consistent network net is some none =
    none some.0 (subst (λ (n : Net). Satisfies some.0 n) (sym is) (apart_is_wider network some.0 some.1))

-- ---- pairs

-- times that attain the greatest separation are the best
pub are_best : (net : Net) (from to : EventId) (value : ℤ) (times : List ℤ) → IsAttainedBy net from to value times → AreBest net times from to
are_best net from to value times is = record {
  satisfies = is.satisfies;
  most = λ others sat. subst (λ z. separation others from to ≤ℤ z) (sym is.attains) (is.greatest.most others sat);
}

-- ---- rows

pub row_settles : (found : RowSeen) → is_pair_open found.greatest ≡ false → is_pair_open found.least ≡ false → is_order_open found.passes ≡ false → is_row_open found ≡ false
row_settles found greatest least passes = rw (greatest, least, passes) refl

-- one row more
pub rows_more : (network : Drawn) (rows : List Row) (found : List RowSeen) (row : Row) (last : RowSeen) → AllZip (IsRowSeen network) rows found
    → IsRowSeen network row last → AllZip (IsRowSeen network) (rows ++ row ∷ []) (found ++ last ∷ [])
rows_more network [] [] row last before is = (is, tt)
rows_more network [] (f ∷ found) row last before is = absurd before
rows_more network (r ∷ rows) [] row last before is = absurd before
rows_more network (r ∷ rows) (f ∷ found) row last before is = (before.0, rows_more network rows found row last before.1 is)

-- the first rows are seen, and if the budget was enough at first, it still is, and nothing of them is open
pub record AreSeenSoFar (network : Drawn) (first search : RowSearch) (count : ℕ) (rows : List Row) (found : List RowSeen) : Type 0 where
  pub holds : IsRowSearch network search
  pub are : AllZip (IsRowSeen network) (take count rows) found
  pub enough : IsRowEnough network first → IsRowEnough network search × All (λ (row : RowSeen). is_row_open row ≡ false) found

pub none_seen : (network : Drawn) (search : RowSearch) (rows : List Row) (found : List RowSeen) → IsRowSearch network search → found ≡ []
    → AreSeenSoFar network search search 0 rows found
none_seen network search rows found is none = record {
  holds = is;
  are = subst (λ (fs : List RowSeen). AllZip (IsRowSeen network) [] fs) (sym none) tt;
  enough = λ enough. (enough, subst (All (λ (row : RowSeen). is_row_open row ≡ false)) (sym none) (λ k d within. absurd (omega arith)));
}

pub one_seen : (network : Drawn) (first search after : RowSearch) (count : ℕ) (rows : List Row) (found more : List RowSeen) (row : Row) (last : RowSeen) → count < length rows
    → row ≡ get_or rows count row → AreSeenSoFar network first search count rows found → more ≡ found ++ last ∷ [] → IsRowSearch network after → IsRowSeen network row last
    → (IsRowEnough network search → IsRowEnough network after) → (IsRowEnough network search → is_row_open last ≡ false)
    → AreSeenSoFar network first after (count + 1) rows more
one_seen network first search after count rows found more row last within at so_far pushed is_search is enough settles =
    let next : take (count + 1) rows ≡ take count rows ++ row ∷ [] = take_more rows count row within ∙ ap (λ (r : Row). take count rows ++ r ∷ []) (sym at) in
    record {
      holds = is_search;
      are = subst (λ (fs : List RowSeen). AllZip (IsRowSeen network) (take (count + 1) rows) fs) (sym pushed)
          (subst (λ (rs : List Row). AllZip (IsRowSeen network) rs (found ++ last ∷ [])) (sym next) (rows_more network (take count rows) found row last so_far.are is));
      enough = λ start.
          let here = so_far.enough start in
          (enough here.0, subst (All (λ (row : RowSeen). is_row_open row ≡ false)) (sym pushed) (All-push (λ (row : RowSeen). is_row_open row ≡ false) found last here.1 (settles here.0)));
    }

-- all rows are seen
pub all_seen : (network : Drawn) (first search : RowSearch) (count : ℕ) (rows : List Row) (found : List RowSeen) → length rows ≤ count
    → AreSeenSoFar network first search count rows found → AllZip (IsRowSeen network) rows found
all_seen network first search count rows found all so_far = subst (λ (rs : List Row). AllZip (IsRowSeen network) rs found) (take_all count rows all) so_far.are
