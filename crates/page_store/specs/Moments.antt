-- What every crash since an earlier moment may have left.
use Rattle.std.specs.Prelude.{◌≡◌, ℕ, List, [], ◌∷◌, ◌++◌, Option, Some, None}
use Rattle.page_store.specs.DeviceFile.{FileStep, DeviceFile}
use Rattle.page_store.specs.Images.{Durable, after_step, durable, MayLeave, Leaves}
use Rattle.page_store.specs.ShelfState.{ShelfState, unit_file}

-- each image at each moment, from this one through these steps, has P
abbrev pub AtEachMoment : (Option (List ℕ) → Type 0) → Durable → List FileStep → Type 0
AtEachMoment P d [] = (c : Option (List ℕ)) → MayLeave d c → P c
AtEachMoment P d (s ∷ more) = ((c : Option (List ℕ)) → MayLeave d c → P c)
    × AtEachMoment P (after_step d s) more

-- the file went from old to new, and at each moment on the way each image has P
pub record Throughout (P : Option (List ℕ) → Type 0) (old new : DeviceFile) : Type 0 where
  pub more : List FileStep
  pub goes_on : new.log ≡ old.log ++ more
  pub each : AtEachMoment P (durable old.log) more

-- c begins as d does: absent as absent, there as there, and its first byte, if it has one, is that of d
abbrev pub Begins : Option (List ℕ) → Option (List ℕ) → Type 0
Begins c None = c ≡ None
Begins None (Some d) = ⊥
Begins (Some []) (Some d) = Unit {0}
Begins (Some (x ∷ c)) (Some []) = ⊥
Begins (Some (x ∷ c)) (Some (y ∷ d)) = x ≡ y

-- some image before begins as c does
abbrev pub BeginsBefore : DeviceFile → Option (List ℕ) → Type 0
BeginsBefore old c = (d : Option (List ℕ)) × Leaves old d × Begins c d

-- at each moment each image begins as some image from before
abbrev pub Quiet : DeviceFile → DeviceFile → Type 0
Quiet old new = Throughout (BeginsBefore old) old new

-- the file of the unit went quietly
abbrev pub IsQuiet : ℕ → ShelfState → ShelfState → Type 0
IsQuiet unit old new = Quiet (unit_file old unit) (unit_file new unit)
