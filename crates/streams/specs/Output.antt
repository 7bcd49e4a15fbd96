-- What is left in a writer, and held back from it.
use Rattle.std.specs.Prelude.{◌≡◌, ◌<◌, ◌≤◌, ◌⊎◌, ℕ, List, [], ◌++◌, length, take, Option, Result, OnOk}
use Rattle.std.specs.Prelude.{OnErr}
use Rattle.std.specs.Io.KnownBytes.{Appends}
use Rattle.streams.specs.declared.output.Refused.{Refused}

-- the writer took a proper front of the text, which may be empty
abbrev pub AppendsFront : Option (List ℕ) → Option (List ℕ) → List ℕ → Type 0
AppendsFront old new text = (front : List ℕ) × (rest : List ℕ) × (text ≡ front ++ rest) × (0 < length rest)
    × Appends old new front

-- the writer took so many bytes from the front of the text, and at least one
abbrev pub TakesSome : (old new : Option (List ℕ)) → (text : List ℕ) → ℕ → Type 0
TakesSome old new text n = (n ≤ length text) × (0 < n) × Appends old new (take n text)

-- the writer took all that was held, and nothing is held any more; or it refused it, and took a
-- proper front
pub record HandsHeldOver (old new : Option (List ℕ)) (held held_after : List ℕ)
    (result : Result (Unit {0}) Refused) : Type 0 where
  pub written : OnOk result (Appends old new held)
  pub empty : OnOk result (held_after ≡ [])
  pub refused : OnErr result (AppendsFront old new held)

-- the text is held behind that which was held before, or alone where the writer took that
abbrev pub AddsText : (written written_after : Option (List ℕ)) → (held held_after text : List ℕ) → Type 0
AddsText written written_after held held_after text =
    (Appends written written_after [] × (held_after ≡ held ++ text))
    ⊎ (Appends written written_after held × (held_after ≡ text))

-- the text is held behind that which was held before; but the writer took as much from the front as
-- is no longer held
pub record HoldsText (written written_after : Option (List ℕ)) (held held_after text : List ℕ) : Type 0 where
  pub taken : List ℕ
  pub text_is : held ++ text ≡ taken ++ held_after
  pub appends : Appends written written_after taken
