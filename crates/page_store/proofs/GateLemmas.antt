-- What the first byte that was read says of a file.
use Rattle.std.proofs.Common.{◌≡◌, ◌≤◌, ℕ, List, [], ◌∷◌, length, take, drop, slice_index, sym, ap, ◌∙◌, subst, arith, refl}
use Rattle.page_store.specs.DeviceFile.{DeviceFile, IsWithin, content}
use Rattle.page_store.specs.Calls.{ReadsBytes, Synced}
use Rattle.page_store.specs.Gate.{IsClosed, Opens}
use Rattle.page_store.proofs.StartLemmas.{opens_open}
use Rattle.page_store.specs.ShelfState.{ShelfState, OnlyAnswers, unit_file}

first_of : (s bytes : List ℕ) → length bytes ≡ 1 → 1 ≤ length s → bytes ≡ take (length bytes) (drop 0 s) → (rest : List ℕ) × (s ≡ slice_index bytes 0 ∷ rest)
first_of [] bytes one long is = absurd (omega arith)
first_of (x ∷ s) bytes one long is =
    let first : slice_index bytes 0 ≡ x = ap (λ (b : List ℕ). slice_index b 0) (is ∙ ap (λ (n : ℕ). take n (drop 0 (x ∷ s))) one) in
    (s, ap (λ (y : ℕ). y ∷ s) (sym first))

pub closed_from : (f : DeviceFile) (bytes : List ℕ) → length bytes ≡ 1 → IsWithin 1 f → ReadsBytes f 0 bytes → slice_index bytes 0 ≡ 67 → IsClosed (content f)
closed_from f bytes one within read is = let e = first_of (content f) bytes one within.long read.is in subst IsClosed (sym e.1) is

pub opens_from : (f h : DeviceFile) (bytes : List ℕ) → length bytes ≡ 1 → IsWithin 1 f → ReadsBytes f 0 bytes → (slice_index bytes 0 ≡ 67 → ⊥) → Synced f h → Opens f h
opens_from f h bytes one within read not so = let e = first_of (content f) bytes one within.long read.is in opens_open f h (slice_index bytes 0) e.0 e.1 not so

-- a call that only answers leaves the unit's file
pub same_file : (old new : ShelfState) (unit : ℕ) → OnlyAnswers old new → unit_file new unit ≡ unit_file old unit
same_file old new unit only = rw (only.file, only.names) refl
