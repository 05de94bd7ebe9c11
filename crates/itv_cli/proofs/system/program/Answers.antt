use Rattle.std.proofs.Common.{None, false, drop, map, string_bytes}
use Rattle.std.specs.IoError.{error_kind}
use Rattle.std.specs.Vec.Iter.{into_iter_items}
use Rattle.itv_cli.proofs.Statuses.{ends_with, without_memory}
use Rattle.itv_cli.proofs.system.program.Goals as goal

pub returns-in-Ok : goal.returns-in-Ok
returns-in-Ok g c = record {
  status = ends_with (λ given. drop 1 (map string_bytes (into_iter_items given))) error_kind c.args-in-Ok.result
      (record { files = None; faults = c.run_words.new.shelf.faults; last = c.run_words.new.shelf.last; is_faithful = false })
      (record { written = None; faults = c.run_words.new.sink }) _ (rw (c.in-Ok.ensures.fresh, c.new-in-Ok.ensures.fresh) at c.run_words.ensures.status);
}

pub returns-in-Err : goal.returns-in-Err
returns-in-Err g c = record { status = without_memory _ c.status_of.ensures }
