-- Where the records of a file come from, and how they are given one after another.
use Rattle.std.specs.Prelude.{◌≡◌, ℕ, Bool, true, false, List, [], ◌∷◌, ◌++◌, length}
use Rattle.record_layout.specs.Schema.{Schema}
use Rattle.indexed_file.specs.Sound.{is_length}

-- of sources that are for these schemas, gave these records by now, the latest of which is this one, and
-- have ended where this is so
module _ {R : Type 0} (schema : R → Schema) (given : R → List (List ℕ)) (latest : R → List ℕ)
    (has_ended : R → Type 0) where
  -- one more record was given, which has from the least to the greatest length
  pub record GivesRecord (old new : R) : Type 0 where
    pub given_is : given new ≡ given old ++ latest new ∷ []
    pub is_long : is_length (schema old) (length (latest new)) ≡ true

  -- no record was given, since no more come
  pub record EndsRecords (old new : R) : Type 0 where
    pub given_is : given new ≡ given old
    pub ended : has_ended new

  -- a call that goes on to the next record: there is one, or there is none
  abbrev pub GivesNext : (old new : R) → Bool → Type 0
  GivesNext old new true = GivesRecord old new
  GivesNext old new false = EndsRecords old new
