-- What a call on an open file is lent: pages that may be asked for, and an area for a record.
use Rattle.std.specs.Prelude.{◌≡◌, ℕ, ◌-◌, ◌≤◌, ◌<◌, List, length, slice_index_or}
use Rattle.pages.specs.ShownPages.{ShownPages}
use Rattle.key_index.specs.declared.alt_index.AltIndex.{AltIndex}
use Rattle.open_file.specs.Stands.{IsShaped}
use Rattle.open_file.specs.declared.open_file.OpenFile.{OpenFile}

-- the pages may be asked for, and the parts are made for the schema
pub record LendsPages {S : Type 0} (shown : ShownPages S) (pages : S) (opened : OpenFile) : Type 0 where
  pub ready : shown.IsReady pages
  pub shaped : IsShaped opened

-- the pages may be asked for and changed
pub record LendsToChange {S : Type 0} (shown : ShownPages S) (pages : S) : Type 0 where
  pub ready : shown.IsReady pages
  pub «open» : shown.CanChange pages

-- the pages may be asked for, the parts are made for the schema, and the area is as long as the
-- greatest record
pub record LendsArea {S : Type 0} (shown : ShownPages S) (pages : S) (opened : OpenFile)
    (bytes : List ℕ) : Type 0 where
  pub ready : shown.IsReady pages
  pub shaped : IsShaped opened
  pub area : length bytes ≡ opened.schema.greatest

-- the same for a look by key k, which the schema has
pub record LendsAreaBy {S : Type 0} (shown : ShownPages S) (pages : S) (opened : OpenFile) (k : ℕ)
    (bytes : List ℕ) : Type 0 where
  pub ready : shown.IsReady pages
  pub shaped : IsShaped opened
  pub key : k < length opened.schema.keys
  pub area : length bytes ≡ opened.schema.greatest

-- the pages may be asked for, the parts are made for the schema, and it has key k
pub record LendsByKey {S : Type 0} (shown : ShownPages S) (pages : S) (opened : OpenFile)
    (k : ℕ) : Type 0 where
  pub ready : shown.IsReady pages
  pub shaped : IsShaped opened
  pub key : k < length opened.schema.keys

-- the same for a record that is long enough to have a value of each key
pub record LendsRecord {S : Type 0} (shown : ShownPages S) (pages : S) (opened : OpenFile) (k : ℕ)
    (bytes : List ℕ) : Type 0 where
  pub ready : shown.IsReady pages
  pub shaped : IsShaped opened
  pub key : k < length opened.schema.keys
  pub least : opened.schema.least ≤ length bytes

-- k is the number of an alternate key
pub record IsAlternate (opened : OpenFile) (k : ℕ) : Type 0 where
  pub some : 1 ≤ k
  pub within : k ≤ length opened.alternates.items

-- and this is its index
pub record IsAlternateBy (opened : OpenFile) (k : ℕ) (index : AltIndex) : Type 0 where
  pub some : 1 ≤ k
  pub within : k ≤ length opened.alternates.items
  pub index_is : index ≡ slice_index_or opened.alternates.items (k - 1) index

-- the pages may be asked for, for a look by an alternate key
pub record LendsByAlternate {S : Type 0} (shown : ShownPages S) (pages : S) (opened : OpenFile)
    (k : ℕ) : Type 0 where
  pub ready : shown.IsReady pages
  pub key : IsAlternate opened k

-- the same, by its index
pub record LendsByIndex {S : Type 0} (shown : ShownPages S) (pages : S) (opened : OpenFile) (k : ℕ)
    (index : AltIndex) : Type 0 where
  pub ready : shown.IsReady pages
  pub key : IsAlternateBy opened k index

-- pages and an area are lent for a record that an alternate key leads to
pub record LendsAreaByAlternate {S : Type 0} (shown : ShownPages S) (pages : S) (opened : OpenFile)
    (k : ℕ) (bytes : List ℕ) : Type 0 where
  pub lent : LendsArea shown pages opened bytes
  pub key : IsAlternate opened k

-- pages are lent for a look behind a value of an alternate key
pub record LendsBehind {S : Type 0} (shown : ShownPages S) (pages : S) (opened : OpenFile) (k : ℕ)
    (index : AltIndex) (value : List ℕ) : Type 0 where
  pub lent : LendsPages shown pages opened
  pub key : IsAlternateBy opened k index
  pub short : length value ≤ 250
