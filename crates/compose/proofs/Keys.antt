-- Keys of sheets.
use Rattle.std.proofs.Common.{◌≡◌, true}
use Rattle.compose.specs.declared.sheet_key.SheetKey.{SheetKey}
use Rattle.compose.specs.contracts.sheet_key.SheetKeyEq.TheImpl.Laws.{laws-law}
use Rattle.compose.specs.Sheets.{same_key}

-- a key is the same as itself
pub same_key_itself : (key : SheetKey) → same_key key key ≡ true
same_key_itself key = laws-law.refl key
