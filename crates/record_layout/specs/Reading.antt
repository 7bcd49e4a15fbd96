-- How a picture is read: a group at a time.
use Rattle.std.specs.Prelude.{◌≡◌, ℕ, ◌==◌, Bool, ◌||◌, if◌then◌else◌, List, [], ◌∷◌, take, drop, min, nat_lt}
use Rattle.std.specs.Prelude.{Option, Some, None}
use Rattle.std.specs.Option.{option_map}
use Rattle.std.specs.Borrow.{Bor}
use Rattle.std.specs.List.{prefix_len}
use Rattle.std.specs.Char.{is_ascii_digit}
use Rattle.record_layout.specs.Picture.{number}

-- the rest behind a closing parenthesis, where one comes next
abbrev pub behind_close : List ℕ → Option (List ℕ)
behind_close [] = None
behind_close (b ∷ rest) = if b == 41 then Some rest else None

-- behind an opening parenthesis: the size, and the rest
abbrev pub size_at : List ℕ → Option (ℕ × List ℕ)
size_at bytes =
    let end = prefix_len is_ascii_digit bytes in
    if nat_lt 0 (number (take end bytes)) then option_map (λ rest. (number (take end bytes), rest))
    (behind_close (drop end bytes)) else None

abbrev pub behind_symbol : List ℕ → Option (ℕ × List ℕ)
behind_symbol [] = Some (1, [])
behind_symbol (b ∷ rest) = if b == 40 then size_at rest else Some (1, b ∷ rest)

-- the symbol of a numeric item is 9, that of any other X, in either case of letter
abbrev pub is_symbol : Bool → ℕ → Bool
is_symbol numeric byte = if numeric then byte == 57 else byte == 88 || byte == 120

abbrev pub group_at : Bool → List ℕ → Option (ℕ × List ℕ)
group_at numeric [] = None
group_at numeric (b ∷ rest) = if is_symbol numeric b then behind_symbol rest else None

-- sizes are counted up to one past the greatest record
abbrev pub capped_size : ℕ → ℕ
capped_size n = min n 4001

-- the size, capped, and the rest are those that are read
abbrev pub IsCappedCut : Option (ℕ × List ℕ) → Option (ℕ × Bor (List ℕ)) → Type 0
IsCappedCut None None = Unit {0}
IsCappedCut None (Some _) = ⊥
IsCappedCut (Some _) None = ⊥
IsCappedCut (Some cut) (Some found) = (found.0 ≡ capped_size cut.0) × (found.1.now ≡ cut.1)
