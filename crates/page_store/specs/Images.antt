-- What a crash may leave of a file.
use Rattle.std.specs.Prelude.{◌≡◌, ℕ, ◌+◌, ◌<◌, leb, ltb, Bool, true, false, ◌&&◌, ◌||◌, IsTrue, List, []}
use Rattle.std.specs.Prelude.{◌∷◌, length, slice_index, fold, Option, Some, None, is_some, unwrap_or}
use Rattle.std.specs.Prelude.{MatchOption}
use Rattle.page_store.specs.DeviceFile.{FileStep, created, wrote, synced, DeviceFile, content}

-- what a crash cannot touch: the bytes at the last sync, if there was one; whether the file was
-- made since; the ranges written since
pub record Durable : Type 0 where
  pub base : Option (List ℕ)
  pub made : Bool
  pub ranges : List (ℕ × ℕ)

-- after one more step
abbrev pub after_step : Durable → FileStep → Durable
after_step d created = record { base = d.base; made = true; ranges = [] }
after_step d (wrote at n) = record { base = d.base; made = d.made; ranges = (at, n) ∷ d.ranges }
after_step d (synced bytes) = record { base = Some bytes; made = false; ranges = [] }

-- after more steps
abbrev pub durable_from : Durable → List FileStep → Durable
durable_from d log = fold after_step d log

-- before the first step
abbrev pub nothing : Durable
nothing = record { base = None; made = false; ranges = [] }

-- after these steps
abbrev pub durable : List FileStep → Durable
durable log = durable_from nothing log

-- i lies in one of the ranges
abbrev pub covered : List (ℕ × ℕ) → ℕ → Bool
covered [] i = false
covered (r ∷ rs) i = (leb r.0 i && ltb i (r.0 + r.1)) || covered rs i

-- outside the ranges the image has the bytes of the last sync and no others; inside them it may
-- have any, or end
pub record IsImage (base : List ℕ) (ranges : List (ℕ × ℕ)) (c : List ℕ) : Type 0 where
  pub kept : (i : ℕ) → i < length base → covered ranges i ≡ false → i < length c
  pub each : (i : ℕ) → i < length c → covered ranges i ≡ false → (i < length base)
      × (slice_index c i ≡ slice_index base i)

-- the images that a crash may leave, of a file of which it cannot touch this
abbrev pub MayLeave : Durable → Option (List ℕ) → Type 0
MayLeave d c = MatchOption c (d.base ≡ None)
    (λ bytes. IsTrue (is_some d.base || d.made) × IsImage (unwrap_or d.base []) d.ranges bytes)

-- the images that a crash now may leave: nothing at all where the file was never synced
abbrev pub Leaves : DeviceFile → Option (List ℕ) → Type 0
Leaves file c =
    let d = fold after_step (record { base = None; made = false; ranges = [] }) file.log in
    MatchOption c (d.base ≡ None)
    (λ bytes. IsTrue (is_some d.base || d.made) × IsImage (unwrap_or d.base []) d.ranges bytes)

-- a crash now leaves what reads give, and nothing else
abbrev pub IsSettled : DeviceFile → Type 0
IsSettled file = (c : Option (List ℕ)) → Leaves file c → c ≡ Some (content file)
