-- Heights of trees.
use Rattle.std.proofs.Common.{◌≡◌, ℕ, suc, ◌+◌, ◌-◌, ◌≤◌, ◌<◌, List, length, ap, sym, ◌∙◌, arith}
use Rattle.std.specs.Prelude.{map, slice_index, slice_index_or}
use Rattle.key_index.specs.declared.alt_index.AltIndex.{AltIndex}
use Rattle.key_index.specs.declared.prime_index.PrimeIndex.{PrimeIndex}
use Rattle.key_index.specs.Standing.{alt_height}
use Rattle.open_file.specs.Stands.{heights_in}
use Rattle.std.proofs.lemmas.List.{length-map, get_or-map}

-- a height for each key
pub heights_many : (prime : PrimeIndex) (indexes : List AltIndex) → length (heights_in prime indexes) ≡ length indexes + 1
heights_many prime indexes = simp length-map (omega arith)

pub mapped_at : (indexes : List AltIndex) (j : ℕ) (index : AltIndex) → j < length indexes → index ≡ slice_index_or indexes j index → slice_index (map alt_height indexes) j ≡ alt_height index
mapped_at indexes j index within is = get_or-map alt_height indexes j index 0 within ∙ ap alt_height (sym is)

-- the height of an alternate index, by its key
pub height_by_key : (prime : PrimeIndex) (indexes : List AltIndex) (k : ℕ) (index : AltIndex) → 1 ≤ k → k ≤ length indexes → index ≡ slice_index_or indexes (k - 1) index → slice_index (heights_in prime indexes) k ≡ alt_height index
height_by_key prime indexes k index some within is =
    let e : k ≡ suc (k - 1) = omega (arith, some) in
    rw e (mapped_at indexes (k - 1) index (omega (arith, some, within)) is)
