-- What the reading for a task answers, by what its steps do.
use Rattle.std.proofs.Common.{◌≡◌, ℕ, true, List, Some, None, IsNone, Result, Ok, Err, refl, sym, ap, subst}
use Rattle.itv_base.specs.Memory.{ShelfMemView, shelf_state}
use Rattle.itv_base.specs.Outside.{FailedFor, Files, IsMissing, ShelfState, file_of}
use Rattle.design_gen.specs.Files.{IsDesignShelf, design_files}
use Rattle.design_reading.specs.declared.stop.Stop.{Stop}
use Rattle.design_reading.specs.declared.stop.Stop.TheVariants.{Refused, ReadFault, NoMemory}
use Rattle.design_reading.proofs.Opens.{told_ready, told_refused, told_unread}
use Rattle.design_reading.specs.Step.{Opens}
use Rattle.command_words.specs.Task.{Task, generated}
use Rattle.itv_cli.specs.declared.ready.Ready.{Ready}
use Rattle.itv_cli.specs.Job.{made_for, opening}
use Rattle.itv_cli.specs.Step.{OpensFor, OpensMade}

-- what is read from the files of the shelf
pub opens_shelf : (old new : ShelfState) (asked : Task) (r : Result Ready Stop) → made_for asked ≡ None → Opens (λ given. given) old new (opening asked) r → OpensFor old new asked r
opens_shelf old new asked (Ok given) own h = rw own h
opens_shelf old new asked (Err (Refused place why)) own h = rw own h
opens_shelf old new asked (Err (ReadFault place)) own h = rw own h
opens_shelf old new asked (Err NoMemory) own h = h

-- what is read from made files, while the shelf stays unchanged
pub opens_made : (standing : ShelfState) (files : Files) (asked : Task) (r : Result Ready Stop) → made_for asked ≡ Some files → OpensMade files asked r → OpensFor standing standing asked r
opens_made standing files asked (Ok given) made h = rw made (h, refl)
opens_made standing files asked (Err (Refused place why)) made h = rw made (h, refl)
opens_made standing files asked (Err (ReadFault place)) made h = rw made (h.0, (h.1, refl))
opens_made standing files asked (Err NoMemory) made h = refl

-- ---- a made shelf

module _ (size most : ℕ) (made : ShelfMemView) (after : ShelfState) (is : IsDesignShelf size made) where
  files_are : (shelf_state made).files ≡ Some (design_files size)
  files_are = ap (λ s. (shelf_state s).files) is

  faithful_is : (shelf_state made).is_faithful ≡ true
  faithful_is = ap (λ s. (shelf_state s).is_faithful) is

  -- a file whose fetch failed is not there
  missing_in : (name : List ℕ) → FailedFor name (shelf_state made) after → IsNone (file_of (design_files size) name)
  missing_in name h = subst (λ standing. IsMissing standing name) files_are (h.missing faithful_is)

  -- what is read from a shelf with the made files is what these files decide
  pub opens_design : (r : Result Ready Stop) → Opens (λ given. given) (shelf_state made) after (opening (generated size most)) r → OpensMade (design_files size) (generated size most) r
  opens_design (Ok given) h = sym (told_ready (shelf_state made) (design_files size) (opening (generated size most)) given files_are h.0)
  opens_design (Err (Refused place why)) h = sym (told_refused (shelf_state made) (design_files size) (opening (generated size most)) place why files_are h.0)
  opens_design (Err (ReadFault place)) h =
      (h.0, sym (told_unread (shelf_state made) (design_files size) (opening (generated size most)) place h.0 files_are (missing_in h.0 h.1.1) h.1.0))
  opens_design (Err NoMemory) h = tt
