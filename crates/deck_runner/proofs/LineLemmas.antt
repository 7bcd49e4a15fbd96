-- A text that stands as it is.
use Rattle.std.proofs.Common.{◌≡◌, ℕ, List, [], ◌∷◌, flat_map, true, refl, ap}
use Rattle.std.specs.List.{list_all}
use Rattle.std.proofs.lemmas.Bool.{and_parts}
use Rattle.deck_runner.specs.Line.{is_plain, shown_byte}

-- bytes that stand as themselves
pub shown_plain : (bytes : List ℕ) → list_all is_plain bytes ≡ true → flat_map shown_byte bytes ≡ bytes
shown_plain [] plain = refl
shown_plain (byte ∷ bytes) plain =
    let parts = and_parts (is_plain byte) (list_all is_plain bytes) plain in
    rw parts.0 (ap (λ rest. byte ∷ rest) (shown_plain bytes parts.1))
