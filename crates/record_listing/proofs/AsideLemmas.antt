-- Calls of which the earlier ones were set aside.
use Rattle.std.proofs.Common.{◌≡◌, List, ◌++◌, ap}
use Rattle.folder_shelf.specs.Calls.{Call}
use Rattle.folder_shelf.specs.Reading.{AreReading}
use Rattle.record_listing.specs.ByPath.{ByReadsAside}

pub set_aside : {IsSo : List Call → Type 0} (old aside new : List Call) → aside ≡ old → AreReading new → IsSo new → ByReadsAside IsSo old aside new
set_aside old aside new is reading so = record { calls = new; noted = ap (λ (l : List Call). new ++ l) is; reading = reading; so = so }
