-- What the calls on an open file leave that read it.
use Rattle.std.specs.Prelude.{◌≡◌, ℕ, ◌*◌, Bool, List, slice_index, Option, Result}
use Rattle.arrayvec.specs.ArrayVec.{ArrayVec}
use Rattle.io_state.specs.declared.fault.Fault.{Fault}
use Rattle.io_state.specs.declared.position.Position.{Position}
use Rattle.io_state.specs.declared.modes.Relation.{Relation}
use Rattle.indexed_file.specs.declared.answer.Found.{Found}
use Rattle.pages.specs.ShownPages.{ShownPages}
use Rattle.pages.specs.PageCalls.{ReadsPages}
use Rattle.open_file.specs.Stands.{heights_of}
use Rattle.open_file.specs.Asked.{OfHonestPages, AsksFor, AsksAlone, pages_to_read, pages_to_seek}
use Rattle.open_file.specs.Asked.{most_by_key, most_by_unique_key}
use Rattle.open_file.specs.Faults.{ReadsFile}
use Rattle.open_file.specs.Reading.{FindsByValue, FindsNext, Seeks, TellsHighest, TellsThere}
use Rattle.open_file.specs.Steps.{KeepsEachFile}
use Rattle.open_file.specs.declared.open_file.OpenFile.{OpenFile}

-- the first record by key k that has a value is looked for, and read into the area
pub record ReadsByKey {S : Type 0} (shown : ShownPages S) (opened : OpenFile) (k : ℕ) (value : List ℕ)
    (before after : S) (old new : List ℕ) (result : Result (Option Found) Fault) : Type 0 where
  pub finds : FindsByValue shown opened k value before after old new result
  pub once : AsksFor shown (most_by_key opened k) before after
  pub alone : AsksAlone shown opened k (most_by_unique_key opened k) before after
  pub reads : ReadsFile shown opened.broken (pages_to_read shown opened before k) before after result

-- the first record by key k that a position admits is looked for, and read into the area; only the
-- path of the file is another then
pub record ReadsNext {S : Type 0} (shown : ShownPages S) (opened now : OpenFile) (k : ℕ) (position : Position)
    (before after : S) (old new : List ℕ) (result : Result (Option Found) Fault) : Type 0 where
  pub finds : FindsNext shown opened k position before after old new result
  pub stands : OfHonestPages shown before after (KeepsEachFile opened now)
  pub rest : now ≡ record opened { path = now.path }
  pub reads : ReadsFile shown opened.broken (pages_to_read shown opened before k) before after result

-- the first value of key k that begins so related to an operand is looked for
pub record SeeksByKey {S : Type 0} (shown : ShownPages S) (opened : OpenFile) (k : ℕ) (relation : Relation)
    (operand : List ℕ) (before after : S) (result : Result (Option (ArrayVec ℕ)) Fault) : Type 0 where
  pub found : OfHonestPages shown before after (λ live. Seeks opened live k relation operand result)
  pub reads : ReadsFile shown opened.broken (pages_to_seek shown opened before k) before after result

-- the greatest prime value is looked for
pub record SeeksHighest {S : Type 0} (shown : ShownPages S) (opened : OpenFile) (before after : S)
    (result : Result (Option (ArrayVec ℕ)) Fault) : Type 0 where
  pub found : OfHonestPages shown before after (λ live. TellsHighest opened live result)
  pub reads : ReadsFile shown opened.broken (pages_to_seek shown opened before 0) before after result

-- it is looked whether some record has the value of key k that this one has
pub record LooksForRecord {S : Type 0} (shown : ShownPages S) (opened : OpenFile) (k : ℕ) (bytes : List ℕ)
    (before after : S) (result : Result Bool Fault) : Type 0 where
  pub found : OfHonestPages shown before after (λ live. TellsThere opened live k bytes result)
  pub reads : ReadsPages shown (2 * slice_index (heights_of opened) k) before after result
