use Rattle.std.proofs.Common.{ℕ, ◌+◌, List}
use Rattle.design_reading.specs.FileReading.{within_limit}
use Rattle.design_reading.proofs.Opens.{opens_fetched}
use Rattle.design_reading.proofs.file.fetch_file.Goals as goal

pub returns-in-Ok : goal.returns-in-Ok
returns-in-Ok g c = record {
  opens = opens_fetched (λ (b : List ℕ). b) c.args.place c.args.name.now (c.args.limit + 1) (within_limit c.args.place c.args.limit) c.in-Ok.bytes.items (g.H.Shelf.state c.args.shelf.now) (g.H.Shelf.state c.fetch.new.self) c.judge_length.result
      c.in-Ok.ensures.fetches.0 c.in-Ok.ensures.fetches.2 c.judge_length.ensures;
}
