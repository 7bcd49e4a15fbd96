-- The rows of the keys: one more read, one more written.
use Rattle.std.proofs.Common.{◌≡◌, ℕ, ◌+◌, ◌-◌, ◌*◌, ◌<◌, ◌≤◌, List, [], ◌∷◌, ◌++◌, length, map, take, drop, get_or, slice_range, flat_map, zip, min, length-drop, refl, ap, ◌∙◌, arith}
use Rattle.std.proofs.lemmas.List.{map-append, drop-drop, append_assoc, drop_more}
use Rattle.pages.proofs.ChunkLemmas.{chunks-add}
use Rattle.pages.specs.Chunks.{chunks}
use Rattle.record_layout.specs.declared.schema.KeyPart.{KeyPart}
use Rattle.open_file.specs.declared.first_page.TreeNumbers.{TreeNumbers}
use Rattle.open_file.specs.FirstPage.{key_row_bytes}
use Rattle.open_file.specs.FirstPageReading.{key_rows_in}

-- the rows of the keys, each with its tree
abbrev pub key_rows_bytes : List KeyPart → List TreeNumbers → List ℕ
key_rows_bytes parts trees = flat_map (λ row. key_row_bytes row.0 row.1) (zip parts trees)

one_chunk : (bytes : List ℕ) → chunks 16 1 bytes ≡ take 16 bytes ∷ []
unfolding chunks
one_chunk bytes = refl

pub row_more : (page : List ℕ) (k : ℕ) → key_rows_in page (k + 1) ≡ key_rows_in page k ++ slice_range page (64 + 16 * k) (64 + 16 * k + 16) ∷ []
row_more page k =
    let at : 64 + k * 16 ≡ 64 + 16 * k = omega arith in
    let size : 64 + 16 * k + 16 - (64 + 16 * k) ≡ 16 = omega arith in
    chunks-add 16 k 1 (drop 64 page) ∙ ap (λ (r : List (List ℕ)). chunks 16 k (drop 64 page) ++ r) (one_chunk (drop (k * 16) (drop 64 page))
    ∙ rw (drop-drop (k * 16) 64 page, at, size) refl)

-- one row more is read
pub read_more : {X : Type 0} (f : List ℕ → X) (page : List ℕ) (k : ℕ)
    → map f (key_rows_in page (k + 1)) ≡ map f (key_rows_in page k) ++ f (slice_range page (64 + 16 * k) (64 + 16 * k + 16)) ∷ []
read_more f page k = ap (map f) (row_more page k) ∙ map-append f (key_rows_in page k) _

-- one row more is written
pub write_more : (keys : List KeyPart) (trees : List TreeNumbers) (k : ℕ) (part : KeyPart) (tree : TreeNumbers) (rows : List ℕ)
    → k < length keys → k < length trees
    → (rows ++ key_row_bytes (get_or keys k part) (get_or trees k tree)) ++ key_rows_bytes (drop (k + 1) keys) (drop (k + 1) trees) ≡ rows ++ key_rows_bytes (drop k keys) (drop k trees)
write_more keys trees k part tree rows in_keys in_trees =
    rw (drop_more keys k part in_keys, drop_more trees k tree in_trees) (append_assoc rows _ _)

pub row_none : (page : List ℕ) → key_rows_in page 0 ≡ []
unfolding chunks
row_none page = refl

pub length-row : (part : KeyPart) (tree : TreeNumbers) → length (key_row_bytes part tree) ≡ 16
unfolding key_row_bytes
length-row part tree = refl

no_rows : (keys : List KeyPart) (trees : List TreeNumbers) → min (length keys) (length trees) ≡ 0 → key_rows_bytes keys trees ≡ []
no_rows [] trees h = refl
no_rows (key ∷ keys) [] h = refl
no_rows (key ∷ keys) (tree ∷ trees) h = absurd (omega arith)

-- behind the last of them there are no more
pub rows_end : (k : ℕ) (keys : List KeyPart) (trees : List TreeNumbers) → min (length keys) (length trees) ≤ k → key_rows_bytes (drop k keys) (drop k trees) ≡ []
rows_end k keys trees h =
    no_rows (drop k keys) (drop k trees) (omega (arith, length-drop k keys, length-drop k trees))
