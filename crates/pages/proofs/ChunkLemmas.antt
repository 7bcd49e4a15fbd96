-- Chunks under edits of the bytes.
use Rattle.std.proofs.Common.{◌≡◌, ℕ, zero, suc, ◌+◌, ◌*◌, ◌-◌, ◌<◌, ◌≤◌, List, ◌∷◌, ◌++◌, length, take, drop, get_or, set, refl, ap, sym, ◌∙◌, arith, append_assoc}
use Rattle.std.proofs.Math.Nat.{zero-add, zero-mul, suc-mul, suc-add, add-mul, one-mul}
use Rattle.std.proofs.lemmas.List.{set_split, take-append-drop, take_at, drop_at, take-append-le, drop-append-le, drop-drop, length-drop, length-take-le, take-take, drop-take}
use Rattle.std.specs.List.{insert, remove, copy_within}
use borrow.Rule.Slice.PartMut.{put_mid, post_of}
use Rattle.pages.specs.Chunks.{chunks}

pub length-chunks : (size n : ℕ) (bytes : List ℕ) → length (chunks size n bytes) ≡ n
unfolding chunks
length-chunks size zero bytes = refl
length-chunks size (suc n) bytes = ap suc (length-chunks size n (drop size bytes))

-- n more chunks behind the first m
pub chunks-add : (size m n : ℕ) (bytes : List ℕ) → chunks size (m + n) bytes ≡ chunks size m bytes ++ chunks size n (drop (m * size) bytes)
unfolding chunks
chunks-add size zero n bytes = rw (zero-add, zero-mul)
chunks-add size (suc m) n bytes =
    let e : suc m * size ≡ size + m * size = suc-mul m size ∙ omega arith in
    rw (suc-add, e, chunks-add size m n (drop size bytes), drop-drop)

-- what lies past the chunks is not seen
pub chunks-append : (size n : ℕ) (xs ys : List ℕ) → n * size ≤ length xs → chunks size n (xs ++ ys) ≡ chunks size n xs
unfolding chunks
chunks-append size zero xs ys h = refl
chunks-append size (suc n) xs ys h =
    let e : suc n * size ≡ n * size + size = suc-mul n size in
    let first : size ≤ length xs = omega arith in
    let rest : n * size ≤ length (drop size xs) = rw length-drop (omega arith) in
    rw (take-append-le size xs ys first, drop-append-le size xs ys first, chunks-append size n (drop size xs) ys rest)

-- chunks of joined runs
pub chunks_joined : (size m n : ℕ) (xs ys : List ℕ) → length xs ≡ m * size → chunks size (m + n) (xs ++ ys) ≡ chunks size m xs ++ chunks size n ys
chunks_joined size m n xs ys h =
    chunks-add size m n (xs ++ ys) ∙ rw (chunks-append size m xs ys (omega arith), drop_at xs ys (m * size) h)

pub one_chunk : (size n : ℕ) (chunk bytes : List ℕ) → length chunk ≡ size → chunks size (suc n) (chunk ++ bytes) ≡ chunk ∷ chunks size n bytes
unfolding chunks
one_chunk size n chunk bytes h = rw (take_at chunk bytes size h, drop_at chunk bytes size h)

pub take-chunks : (size i n : ℕ) (bytes : List ℕ) → i ≤ n → take i (chunks size n bytes) ≡ chunks size i bytes
take-chunks size i n bytes h =
    let e : n ≡ i + (n - i) = omega arith in
    ap (λ (k : ℕ). take i (chunks size k bytes)) e ∙ ap (take i) (chunks-add size i (n - i) bytes)
    ∙ take_at (chunks size i bytes) _ i (length-chunks size i bytes)

pub drop-chunks : (size i n : ℕ) (bytes : List ℕ) → i ≤ n → drop i (chunks size n bytes) ≡ chunks size (n - i) (drop (i * size) bytes)
drop-chunks size i n bytes h =
    let e : n ≡ i + (n - i) = omega arith in
    ap (λ (k : ℕ). drop i (chunks size k bytes)) e ∙ ap (drop i) (chunks-add size i (n - i) bytes)
    ∙ drop_at (chunks size i bytes) _ i (length-chunks size i bytes)

-- the bytes do not matter past the chunks
pub chunks-take : (size n k : ℕ) (bytes : List ℕ) → n * size ≤ k → k ≤ length bytes → chunks size n (take k bytes) ≡ chunks size n bytes
chunks-take size n k bytes h fits =
    sym (chunks-append size n (take k bytes) (drop k bytes) (rw (length-take-le k bytes fits) h)) ∙ ap (chunks size n) (take-append-drop k bytes)

-- the run with a gap that is filled by the chunk
pub chunks_inserted : (size n i : ℕ) (bytes chunk rest : List ℕ) → i ≤ n → n * size ≤ length bytes → length chunk ≡ size
    → chunks size (n + 1) (take (i * size) bytes ++ (chunk ++ (take ((n - i) * size) (drop (i * size) bytes) ++ rest))) ≡ insert (chunks size n bytes) i chunk
chunks_inserted size n i bytes chunk rest h fits same =
    let e : n + 1 ≡ i + suc (n - i) = omega arith in
    let split : n * size ≡ i * size + (n - i) * size = ap (λ (k : ℕ). k * size) (let f : n ≡ i + (n - i) = omega arith in f) ∙ add-mul i (n - i) size in
    let low : i * size ≤ length bytes = omega arith in
    let front : length (take (i * size) bytes) ≡ i * size = length-take-le (i * size) bytes low in
    let high : (n - i) * size ≤ length (drop (i * size) bytes) = rw length-drop (omega arith) in
    let back : (n - i) * size ≤ length (take ((n - i) * size) (drop (i * size) bytes)) = rw (length-take-le ((n - i) * size) (drop (i * size) bytes) high) (omega arith) in
    ap (λ (k : ℕ). chunks size k (take (i * size) bytes ++ (chunk ++ (take ((n - i) * size) (drop (i * size) bytes) ++ rest)))) e
    ∙ chunks_joined size i (suc (n - i)) (take (i * size) bytes) _ front
    ∙ rw (
      chunks-take size i (i * size) bytes (omega arith) low,
      one_chunk size (n - i) chunk (take ((n - i) * size) (drop (i * size) bytes) ++ rest) same,
      chunks-append size (n - i) (take ((n - i) * size) (drop (i * size) bytes)) rest back,
      chunks-take size (n - i) ((n - i) * size) (drop (i * size) bytes) (omega arith) high,
      take-chunks size i n bytes h,
      drop-chunks size i n bytes h,
    )

-- the run with a chunk left out
pub chunks_removed : (size n i : ℕ) (bytes rest : List ℕ) → i < n → n * size ≤ length bytes
    → chunks size (n - 1) (take (i * size) bytes ++ (take ((n - suc i) * size) (drop (suc i * size) bytes) ++ rest)) ≡ remove (chunks size n bytes) i
chunks_removed size n i bytes rest h fits =
    let e : n - 1 ≡ i + (n - suc i) = omega arith in
    let split : n * size ≡ suc i * size + (n - suc i) * size = ap (λ (k : ℕ). k * size) (let f : n ≡ suc i + (n - suc i) = omega arith in f) ∙ add-mul (suc i) (n - suc i) size in
    let step : suc i * size ≡ i * size + size = suc-mul i size in
    let low : i * size ≤ length bytes = omega arith in
    let front : length (take (i * size) bytes) ≡ i * size = length-take-le (i * size) bytes low in
    let high : (n - suc i) * size ≤ length (drop (suc i * size) bytes) = rw length-drop (omega arith) in
    let back : (n - suc i) * size ≤ length (take ((n - suc i) * size) (drop (suc i * size) bytes)) = rw (length-take-le ((n - suc i) * size) (drop (suc i * size) bytes) high) (omega arith) in
    let within : i ≤ n = omega arith in
    let within' : suc i ≤ n = omega arith in
    ap (λ (k : ℕ). chunks size k (take (i * size) bytes ++ (take ((n - suc i) * size) (drop (suc i * size) bytes) ++ rest))) e
    ∙ chunks_joined size i (n - suc i) (take (i * size) bytes) _ front
    ∙ rw (
      chunks-take size i (i * size) bytes (omega arith) low,
      chunks-append size (n - suc i) (take ((n - suc i) * size) (drop (suc i * size) bytes)) rest back,
      chunks-take size (n - suc i) ((n - suc i) * size) (drop (suc i * size) bytes) (omega arith) high,
      take-chunks size i n bytes within,
      drop-chunks size (suc i) n bytes within',
    )

-- the bytes after the tail was moved up by `size` and the chunk was written into the gap
pub insert_bytes : (bytes chunk : List ℕ) (at size k : ℕ) → at + size + k ≤ length bytes
    → put_mid at (at + size - at) (copy_within bytes at (at + k) (at + size)) chunk
    ≡ take at bytes ++ (chunk ++ (take k (drop at bytes) ++ drop (at + size + k) bytes))
insert_bytes bytes chunk at size k fits =
    let low : at + size ≤ length bytes = omega arith in
    let under : at ≤ length (take (at + size) bytes) = rw (length-take-le (at + size) bytes low) (omega arith) in
    let less : at ≤ at + size = omega arith in
    let width : at + size - at ≡ size = omega arith in
    let run : at + k - at ≡ k = omega arith in
    rw (
      width,
      run,
      append_assoc,
      take-append-le at (take (at + size) bytes) (take k (drop at bytes) ++ drop (at + size + k) bytes) under,
      take-take at (at + size) bytes less,
      drop-drop,
      drop_at (take (at + size) bytes) (take k (drop at bytes) ++ drop (at + size + k) bytes) (at + size) (length-take-le (at + size) bytes low),
    )

-- the difference of two multiples
pub times_less : (n i size : ℕ) → i ≤ n → n * size ≡ i * size + (n - i) * size
times_less n i size h = ap (λ (k : ℕ). k * size) (let f : n ≡ i + (n - i) = omega arith in f) ∙ add-mul i (n - i) size

pub insert_is : (bytes chunk : List ℕ) (size n i : ℕ) → i ≤ n → (n + 1) * size ≤ length bytes → length chunk ≡ size
    → chunks size (n + 1) (put_mid (i * size) (i * size + size - i * size) (copy_within bytes (i * size) (n * size) (i * size + size)) chunk) ≡ insert (chunks size n bytes) i chunk
insert_is bytes chunk size n i h fits same =
    let up : (n + 1) * size ≡ n * size + size = add-mul n 1 size ∙ ap (λ (k : ℕ). n * size + k) (one-mul size) in
    let split : n * size ≡ i * size + (n - i) * size = times_less n i size h in
    ap (λ (end : ℕ). chunks size (n + 1) (put_mid (i * size) (i * size + size - i * size) (copy_within bytes (i * size) end (i * size + size)) chunk)) split
    ∙ ap (chunks size (n + 1)) (insert_bytes bytes chunk (i * size) size ((n - i) * size) (omega arith))
    ∙ chunks_inserted size n i bytes chunk _ h (omega arith) same

pub remove_is : (bytes : List ℕ) (size n i : ℕ) → i < n → n * size ≤ length bytes
    → chunks size (n - 1) (copy_within bytes (i * size + size) (n * size) (i * size)) ≡ remove (chunks size n bytes) i
remove_is bytes size n i h fits =
    let within : suc i ≤ n = omega arith in
    let split : n * size ≡ suc i * size + (n - suc i) * size = times_less n (suc i) size within in
    let step : suc i * size ≡ i * size + size = suc-mul i size in
    let run : n * size - (i * size + size) ≡ (n - suc i) * size = omega arith in
    ap (λ (k : ℕ). chunks size (n - 1) (take (i * size) bytes ++ take k (drop (i * size + size) bytes) ++ drop (i * size + k) bytes)) run
    ∙ ap (chunks size (n - 1)) (append_assoc (take (i * size) bytes) (take ((n - suc i) * size) (drop (i * size + size) bytes)) (drop (i * size + (n - suc i) * size) bytes))
    ∙ ap (λ (k : ℕ). chunks size (n - 1) (take (i * size) bytes ++ (take ((n - suc i) * size) (drop k bytes) ++ drop (i * size + (n - suc i) * size) bytes))) (sym step)
    ∙ chunks_removed size n i bytes _ h fits

-- chunk i, and the part of it that is `width` bytes
pub get_or-chunks : (size n i : ℕ) (bytes : List ℕ) (d : List ℕ) → i < n → get_or (chunks size n bytes) i d ≡ take size (drop (i * size) bytes)
unfolding chunks
get_or-chunks size zero i bytes d h = absurd (omega arith)
get_or-chunks size (suc n) zero bytes d h = rw zero-mul
get_or-chunks size (suc n) (suc i) bytes d h =
    let e : suc i * size ≡ size + i * size = suc-mul i size ∙ omega arith in
    let inside : i < n = omega arith in
    get_or-chunks size n i (drop size bytes) d inside ∙ rw (e, drop-drop)

pub times_add : (m n size : ℕ) → (m + n) * size ≡ m * size + n * size
times_add m n size = add-mul m n size

-- the run with other bytes in place of chunk i
pub chunks_set : (size n i : ℕ) (bytes chunk : List ℕ) → i < n → n * size ≤ length bytes → length chunk ≡ size
    → chunks size n (take (i * size) bytes ++ (chunk ++ drop (suc i * size) bytes)) ≡ set (chunks size n bytes) i chunk
chunks_set size n i bytes chunk h fits same =
    let e : n ≡ i + suc (n - suc i) = omega arith in
    let within : i ≤ n = omega arith in
    let within' : suc i ≤ n = omega arith in
    let split : n * size ≡ i * size + (n - i) * size = times_less n i size within in
    let low : i * size ≤ length bytes = omega arith in
    let front : length (take (i * size) bytes) ≡ i * size = length-take-le (i * size) bytes low in
    let inside : i < length (chunks size n bytes) = rw length-chunks h in
    ap (λ (k : ℕ). chunks size k (take (i * size) bytes ++ (chunk ++ drop (suc i * size) bytes))) e
    ∙ chunks_joined size i (suc (n - suc i)) (take (i * size) bytes) _ front
    ∙ rw (chunks-take size i (i * size) bytes (omega arith) low, one_chunk size (n - suc i) chunk (drop (suc i * size) bytes) same)
    (sym (set_split (chunks size n bytes) i chunk inside ∙ rw (take-chunks size i n bytes within, drop-chunks size (suc i) n bytes within')))

-- other bytes in place of chunk i, where the run begins at byte `base`
pub chunks_set_behind : (page part : List ℕ) (base size n i k : ℕ) → i < n → base + n * size ≤ length page → length part ≡ size → k ≡ size
    → chunks size n (drop base (put_mid (base + i * size) k page part)) ≡ set (chunks size n (drop base page)) i part
chunks_set_behind page part base size n i k h fits same width =
    let within : i ≤ n = omega arith in
    let split : n * size ≡ i * size + (n - i) * size = times_less n i size within in
    let step : suc i * size ≡ i * size + size = suc-mul i size in
    let less : suc i ≤ n = omega arith in
    let split' : n * size ≡ suc i * size + (n - suc i) * size = times_less n (suc i) size less in
    let reach : base + i * size ≤ length page = omega arith in
    let low : base ≤ length (take (base + i * size) page) = rw (length-take-le (base + i * size) page reach) (omega arith) in
    let room : n * size ≤ length (drop base page) = rw length-drop (omega arith) in
    let place : base + i * size + k ≡ base + suc i * size = omega arith in
    ap (chunks size n) (drop-append-le base (take (base + i * size) page) (part ++ post_of (base + i * size) k page) low
    ∙ ap (λ (l : List ℕ). l ++ (part ++ post_of (base + i * size) k page)) (drop-take base (i * size) page)
    ∙ ap (λ (l : List ℕ). take (i * size) (drop base page) ++ (part ++ l)) (drop-drop k (base + i * size) page ∙ ap (λ (j : ℕ). drop j page) place ∙ sym (drop-drop (suc i * size) base page)))
    ∙ chunks_set size n i (drop base page) part h room same
