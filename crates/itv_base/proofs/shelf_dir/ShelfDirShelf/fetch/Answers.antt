use Rattle.std.proofs.Common.{refl}
use Rattle.itv_base.proofs.shelf_dir.ShelfDirShelf.fetch.Goals as goal

pub returns-in-Ok : goal.returns-in-Ok
returns-in-Ok g c = record { fetches = (refl, c.in-Ok.ensures.few, tt) }
