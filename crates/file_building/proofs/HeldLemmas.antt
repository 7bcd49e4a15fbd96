-- Entries that are held as bytes, one behind another.
use Rattle.std.proofs.Common.{◌≡◌, ℕ, zero, suc, ◌+◌, ◌-◌, ◌*◌, ◌/◌, ◌≤◌, ◌<◌, Bool, true, false, List, [], ◌∷◌, ◌++◌, length, take, drop, map, refl, ap, sym, subst, ◌∙◌, arith, length-drop, length-append, cond, inl, inr}
use Rattle.std.specs.Prelude.{slice_range, slice_index, slice_index_or, if◌then◌else◌}
use Rattle.std.specs.List.{filter}
use Rattle.std.proofs.lemmas.List.{map-append, length-map, length-take-le}
use Rattle.std.proofs.Math.Nat.{mul-div_cancel}
use Rattle.pages.specs.Each.{Each}
use Rattle.pages.specs.Chunks.{chunks}
use Rattle.pages.proofs.ChunkLemmas.{chunks_joined, one_chunk, length-chunks}
use Rattle.record_heap.specs.Chain.{IsOneOf}
use Rattle.key_index.specs.declared.entry.AltEntry.{AltEntry}
use Rattle.key_index.specs.Stored.{alt_entry_in, alt_bytes}
use Rattle.byteorder.specs.Numbers.{length-bytes_high_first}
use Rattle.file_building.specs.Alternates.{FitIndex}
use Rattle.file_building.specs.declared.ranked.Ranked.{Ranked}
use Rattle.file_building.specs.Entries.{entry_in, ranked_entries}
use Rattle.file_building.proofs.EntryLemmas.{chunk_more, no_chunks}

-- ---- runs of whole chunks

times : (n size : ℕ) → (n + 1) * size ≡ n * size + size
times n size = omega arith

pub none_whole : (size : ℕ) (bytes : List ℕ) → 1 ≤ size → bytes ≡ [] → length bytes ≡ length bytes / size * size
none_whole size bytes some none =
    let no : length bytes ≡ 0 * size = ap length none ∙ omega arith in
    let count : length bytes / size ≡ 0 = ap (λ (n : ℕ). n / size) no ∙ mul-div_cancel 0 some in
    no ∙ ap (λ (n : ℕ). n * size) (sym count)

pub none_counted : (size : ℕ) (bytes : List ℕ) → 1 ≤ size → bytes ≡ [] → length bytes / size ≡ 0
none_counted size bytes some none =
    let no : length bytes ≡ 0 * size = ap length none ∙ omega arith in
    ap (λ (n : ℕ). n / size) no ∙ mul-div_cancel 0 some

module _ (size : ℕ) (bytes item : List ℕ) (some : 1 ≤ size) (whole : length bytes ≡ length bytes / size * size) (one : length item ≡ size) where
  long_more : length (bytes ++ item) ≡ (length bytes / size + 1) * size
  long_more = length-append bytes item ∙ omega (arith, whole, one, times (length bytes / size) size)

  pub count_more : length (bytes ++ item) / size ≡ length bytes / size + 1
  count_more = ap (λ (n : ℕ). n / size) long_more ∙ mul-div_cancel (length bytes / size + 1) some

  pub whole_more : length (bytes ++ item) ≡ length (bytes ++ item) / size * size
  whole_more = long_more ∙ ap (λ (n : ℕ). n * size) (sym count_more)

  single : chunks size 1 item ≡ item ∷ []
  single = ap (λ (l : List ℕ). chunks size 1 l) (sym (nil_behind item)) ∙ one_chunk size 0 item [] one ∙ ap (λ (l : List (List ℕ)). item ∷ l) (no_chunks size [])
    where
      nil_behind : (xs : List ℕ) → xs ++ [] ≡ xs
      nil_behind [] = refl
      nil_behind (x ∷ xs) = ap (λ (l : List ℕ). x ∷ l) (nil_behind xs)

  pub held_chunks : chunks size (length (bytes ++ item) / size) (bytes ++ item) ≡ chunks size (length bytes / size) bytes ++ item ∷ []
  held_chunks = ap (λ (n : ℕ). chunks size n (bytes ++ item)) count_more ∙ chunks_joined size (length bytes / size) 1 bytes item whole
      ∙ ap (λ (l : List (List ℕ)). chunks size (length bytes / size) bytes ++ l) single

  pub held_more : (w : ℕ) (e : AltEntry) → alt_entry_in w item ≡ e
      → map (alt_entry_in w) (chunks size (length (bytes ++ item) / size) (bytes ++ item)) ≡ map (alt_entry_in w) (chunks size (length bytes / size) bytes) ++ e ∷ []
  held_more w e is = ap (map (alt_entry_in w)) held_chunks ∙ map-append (alt_entry_in w) (chunks size (length bytes / size) bytes) (item ∷ [])
      ∙ ap (λ (x : AltEntry). map (alt_entry_in w) (chunks size (length bytes / size) bytes) ++ x ∷ []) is

-- ---- one chunk after another

pub within_run : (size i count long : ℕ) → i < count → long ≡ count * size → (i + 1) * size ≤ long
within_run size i count long within is = by_rest (count - (i + 1)) (omega (arith, within))
  where
    by_rest : (rest : ℕ) → count ≡ (i + 1) + rest → (i + 1) * size ≤ long
    by_rest rest sum =
        let split : ((i + 1) + rest) * size ≡ (i + 1) * size + rest * size = omega arith in
        let all : long ≡ ((i + 1) + rest) * size = is ∙ ap (λ (n : ℕ). n * size) sum in
        omega (arith, split, all)

pub cut_long : (size i : ℕ) (bytes : List ℕ) → (i + 1) * size ≤ length bytes → slice_range bytes (i * size) ((i + 1) * size) ≡ take size (drop (i * size) bytes)
cut_long size i bytes within =
    let long : (i + 1) * size - i * size ≡ size = omega (arith, times i size) in
    ap (λ (n : ℕ). take n (drop (i * size) bytes)) long

-- as many bytes as before, or an entry's more
pub whole_if : (size : ℕ) (bytes item new : List ℕ) (b : Bool) → 1 ≤ size → length bytes ≡ length bytes / size * size → length item ≡ size
    → new ≡ (if b then bytes ++ item else bytes) → length new ≡ length new / size * size
whole_if size bytes item new true some whole one is = subst (λ (l : List ℕ). length l ≡ length l / size * size) (sym is) (whole_more size bytes item some whole one)
whole_if size bytes item new false some whole one is = subst (λ (l : List ℕ). length l ≡ length l / size * size) (sym is) whole

-- the bytes of an entry are as many as one has
pub entry_long : (w p : ℕ) (e : AltEntry) → length e.value.items ≡ w → length e.prime.items ≡ p → length (alt_bytes e) ≡ w + 8 + p
entry_long w p e value prime = simp (length-append, length-bytes_high_first) (omega (arith, value, prime))

-- the cut of a run has the length of an entry
pub cut_whole : (size i : ℕ) (bytes : List ℕ) → (i + 1) * size ≤ length bytes → length (slice_range bytes (i * size) ((i + 1) * size)) ≡ size
cut_whole size i bytes within =
    ap length (cut_long size i bytes within) ∙ length-take-le size (drop (i * size) bytes) (omega (arith, within, times i size, length-drop (i * size) bytes))

-- and so the entry that it is has these lengths
pub value_long : (w p : ℕ) (bytes : List ℕ) → length bytes ≡ w + 8 + p → length (take w bytes) ≡ w
value_long w p bytes long = length-take-le w bytes (omega (arith, long))

pub prime_long : (w p : ℕ) (bytes : List ℕ) → length bytes ≡ w + 8 + p → length (drop (w + 8) bytes) ≡ p
prime_long w p bytes long = length-drop (w + 8) bytes ∙ omega (arith, long)

-- one more of the entries that were looked at
pub looked_more : (w size i : ℕ) (bytes : List ℕ) (e : AltEntry) → (i + 1) * size ≤ length bytes → e ≡ alt_entry_in w (slice_range bytes (i * size) ((i + 1) * size))
    → map (alt_entry_in w) (chunks size (i + 1) bytes) ≡ map (alt_entry_in w) (chunks size i bytes) ++ e ∷ []
looked_more w size i bytes e within is =
    ap (map (alt_entry_in w)) (chunk_more size i bytes)
    ∙ map-append (alt_entry_in w) (chunks size i bytes) (take size (drop (i * size) bytes) ∷ [])
    ∙ ap (λ (x : AltEntry). map (alt_entry_in w) (chunks size i bytes) ++ x ∷ []) (ap (alt_entry_in w) (sym (cut_long size i bytes within)) ∙ sym is)

pub ranked_more : (old : List Ranked) (r : Ranked) (e : AltEntry) (before : List AltEntry) → ranked_entries old ≡ before → entry_in r ≡ e → ranked_entries (old ++ r ∷ []) ≡ before ++ e ∷ []
ranked_more old r e before had is = map-append entry_in old (r ∷ []) ∙ ap (λ (l : List AltEntry). l ++ entry_in r ∷ []) had ∙ ap (λ (x : AltEntry). before ++ x ∷ []) is

-- each item is a byte
pub each_small : (xs : List ℕ) → ((i : ℕ) → slice_index xs i < 256) → Each (λ b. b < 256) xs
each_small [] all = tt
each_small (x ∷ xs) all = (all 0, each_small xs (λ i. all (suc i)))

-- ---- those that pass a test

module _ {X : Type 0} (test : X → Bool) where
  pub passes : (xs : List X) (x : X) → test x ≡ true → filter test (xs ++ x ∷ []) ≡ filter test xs ++ x ∷ []
  passes [] x hit = ap (λ (b : Bool). cond b (x ∷ []) []) hit
  passes (y ∷ xs) x hit = by_test (test y) (passes xs x hit)
    where
      by_test : (b : Bool) → filter test (xs ++ x ∷ []) ≡ filter test xs ++ x ∷ [] → cond b (y ∷ filter test (xs ++ x ∷ [])) (filter test (xs ++ x ∷ [])) ≡ cond b (y ∷ filter test xs) (filter test xs) ++ x ∷ []
      by_test true rest = ap (λ (l : List X). y ∷ l) rest
      by_test false rest = rest

  pub fails_test : (xs : List X) (x : X) → test x ≡ false → filter test (xs ++ x ∷ []) ≡ filter test xs
  fails_test [] x miss = ap (λ (b : Bool). cond b (x ∷ []) []) miss
  fails_test (y ∷ xs) x miss = by_test (test y) (fails_test xs x miss)
    where
      by_test : (b : Bool) → filter test (xs ++ x ∷ []) ≡ filter test xs → cond b (y ∷ filter test (xs ++ x ∷ [])) (filter test (xs ++ x ∷ [])) ≡ cond b (y ∷ filter test xs) (filter test xs)
      by_test true rest = ap (λ (l : List X). y ∷ l) rest
      by_test false rest = rest

-- ---- the lengths of what is held

pub held_fit : (w p n : ℕ) (bytes : List ℕ) → n * (w + 8 + p) ≤ length bytes → FitIndex w p (map (alt_entry_in w) (chunks (w + 8 + p) n bytes))
unfolding chunks
held_fit w p zero bytes within = tt
held_fit w p (suc n) bytes within =
    let size = w + 8 + p in
    let sum : suc n * size ≡ n * size + size = omega arith in
    let first : length (take size bytes) ≡ size = length-take-le size bytes (omega (arith, within, sum)) in
    let rest = held_fit w p n (drop size bytes) (omega (arith, within, sum, length-drop size bytes)) in
    ((length-take-le w (take size bytes) (omega (arith, first)), length-drop (w + 8) (take size bytes) ∙ omega (arith, first)), rest)

-- so many are held
pub held_many : (w size n : ℕ) (bytes : List ℕ) → length (map (alt_entry_in w) (chunks size n bytes)) ≡ n
held_many w size n bytes = length-map (chunks size n bytes) (alt_entry_in w) ∙ length-chunks size n bytes

-- the entry at a place is one of them
pub ranked_at : (xs : List Ranked) (i : ℕ) (d : Ranked) → i < length xs → IsOneOf (ranked_entries xs) (entry_in (slice_index_or xs i d))
ranked_at [] i d within = absurd (omega (arith, within))
ranked_at (x ∷ xs) zero d within = inl refl
ranked_at (x ∷ xs) (suc i) d within = inr (ranked_at xs i d (omega (arith, within)))
