-- Answers that are held back, and then handed to the writer. All of this is ours.
use Rattle.std.specs.Prelude.{◌≡◌, ◌<◌, ◌⊎◌, ℕ, List, [], ◌++◌, length, Option, Result, OnOk, OnErr}
use Rattle.std.specs.Io.KnownBytes.{Appends}
use Rattle.streams.specs.declared.output.Refused.{Refused}
use Rattle.serve.specs.Input.{BeginsWithFrame}

-- the writer took all that was held
abbrev pub HandsAllOver : (written written_after : Option (List ℕ)) → (held held_after : List ℕ) → Type 0
HandsAllOver written written_after held held_after = Appends written written_after held × (held_after ≡ [])

-- the writer refused what was held: it has a front of that, or all and did not hand it on
abbrev pub RefusesHeld : (written written_after : Option (List ℕ)) → (held : List ℕ) → Type 0
RefusesHeld written written_after held =
    (0 < length held) × ((front : List ℕ) × (rest : List ℕ) × (held ≡ front ++ rest)
    × Appends written written_after front)

-- the writer took all that was held, or refused it
pub record SendsHeld (old new : Option (List ℕ)) (held held_after : List ℕ)
    (result : Result (Unit {0}) Refused) : Type 0 where
  pub taken : OnOk result (HandsAllOver old new held held_after)
  pub refused : OnErr result (RefusesHeld old new held)

-- before the input is asked on, the writer took all that was held; or the next frame had come
-- whole, and nothing was done
abbrev pub MakesWayForInput : (ahead : List ℕ) → (written written_after : Option (List ℕ))
    → (held held_after : List ℕ) → Type 0
MakesWayForInput ahead written written_after held held_after =
    (BeginsWithFrame ahead × Appends written written_after [] × (held_after ≡ held))
    ⊎ HandsAllOver written written_after held held_after

-- the writer took what was held, and refused the frame behind it: it has a front of that, or all
-- and did not hand it on
abbrev pub RefusesNext : (written written_after : Option (List ℕ)) → (held frame : List ℕ) → Type 0
RefusesNext written written_after held frame =
    (front : List ℕ) × (rest : List ℕ) × (frame ≡ front ++ rest)
    × Appends written written_after (held ++ front)
