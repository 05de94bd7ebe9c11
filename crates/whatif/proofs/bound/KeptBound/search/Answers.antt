use Rattle.std.proofs.Common.{◌≡◌, List, Bool, ℤ, Some, [], length, ◌∙◌, ap, sym, subst}
use Rattle.std.specs.Prelude.{unwrap_or}
use Rattle.std.specs.Vec.{with_items}
use Rattle.std.proofs.lemmas.List.{with_items_is}
use Rattle.requirements.specs.declared.bound.Bound.TheVariants.{Unbounded}
use Rattle.whatif.specs.Session.{IsSearchedAnew, KeptBound}
use Rattle.whatif.specs.Step.Keeping.{KeeperView}
use Rattle.whatif.proofs.Bounds.{searched_is}
use Rattle.whatif.proofs.bound.KeptBound.search.Goals as goal

pub returns-clause-searched : goal.returns-clause-searched
returns-clause-searched c =
    let old : KeptBound = record {
      pair = c.self.inside.pair;
      answer = c.self.inside.answer;
      times = c.self.inside.times.items;
      ray = c.self.inside.ray.items;
      proof = c.self.inside.keeper.lines;
    } in
    let answer = c.search_pair-answer.result in
    let work = c.search_pair-answer.new.work in
    let known : List ℤ = unwrap_or c.args.work.now.known [] in
    let ray : List Bool = (with_items c.self.inside.ray c.take_ray.new.ray).items in
    let shown : ray ≡ c.take_ray.new.ray =
    with_items_is c.self.inside.ray c.take_ray.new.ray (c.take_ray.auto.ray ∙ ap length c.deref_mut.ensures.value ∙ sym c.self.inside.ray.ok.0) in
    let same : answer ≡ Unbounded → ray ≡ work.ray = λ unbounded. shown ∙ (c.take_ray.ensures.ray unbounded ∙ c.ray.ensures) in
    let empty : c.begin.new.self.lines ≡ Some [] = ap (λ (k : KeeperView). k.lines) c.begin.ensures.empty in
    let lines_fit = ap (λ (k : KeeperView). k.line_room) c.begin.ensures.empty ∙ c.self.invariant.0 in
    let edges_fit = ap (λ (k : KeeperView). k.edge_room) c.begin.ensures.empty ∙ c.self.invariant.1 in
    let times : c.copy_from_slice.new.self.items ≡ work.times = c.copy_from_slice.ensures.items ∙ c.times.ensures in
    let left = c.search_pair-answer.ensures.searched in
    let searched = searched_is c.args.net.now c.args.budget work.leaves old known work.times work.ray ray answer c.begin.new.self c.search_pair-answer.new.keeper
    c.keep_by.new.keeper left.0 empty lines_fit edges_fit left.1 left.2 same c.keep_by.ensures in
    subst (λ (o : KeptBound). IsSearchedAnew c.args.net.now c.args.budget known o (record {
      pair = c.self.inside.pair;
      answer = answer;
      times = c.copy_from_slice.new.self.items;
      ray = ray;
      proof = c.keep_by.new.keeper.lines;
    })) c.self.view_is
    (subst (λ ts. IsSearchedAnew c.args.net.now c.args.budget known old (record { pair = c.self.inside.pair; answer = answer; times = ts; ray = ray; proof = c.keep_by.new.keeper.lines }))
    (sym times) searched)
