-- Texts that grow, and the room that is set aside for a line. All of this is ours.
use Rattle.std.specs.Prelude.{◌≡◌, ℕ, ◌+◌, ◌<◌, ◌≤◌, List, ◌++◌, length, Vec, vec_len, vec_capacity}
use Rattle.std.specs.Prelude.{Result, Ok, Err}
use Rattle.record_text.specs.declared.form.Form.{Form}
use Rattle.record_text.specs.Lines.{line_in}

-- a text has more behind it now, and no less room
pub record Grows {Z : Type 0} (old new : Vec ℕ Z) (more : List ℕ) : Type 0 where
  pub items : new.items ≡ old.items ++ more
  pub capacity : vec_capacity old ≤ vec_capacity new

-- a text had no room for so much more
abbrev pub LacksTextRoom : {Z : Type 0} → Vec ℕ Z → List ℕ → Type 0
LacksTextRoom text more = vec_capacity text < vec_len text + length more

-- more was added to a text; or it had no room for that
abbrev pub AddsInRoom : {Z E : Type 0} → (old new : Vec ℕ Z) → List ℕ → Result Unit E → Type 0
AddsInRoom old new more (Ok done) = Grows old new more
AddsInRoom old new more (Err fault) = LacksTextRoom old more

-- so many bytes are room for the line of each record that has at most so many
abbrev pub IsLineRoom : Form → (most room : ℕ) → Type 0
IsLineRoom form most room = (bytes : List ℕ) → length bytes ≤ most → length (line_in form bytes) ≤ room
