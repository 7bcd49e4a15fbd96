-- What is written of a header is read as it was.
use Rattle.std.proofs.Common.{◌≡◌, ℕ, suc, ◌-◌, ◌^◌, ◌<◌, ◌≤◌, ◌==◌, Bool, true, false, if◌then◌else◌, List, [], ◌∷◌, ◌++◌, length, map, min, All, codes, drop, replicate, refl, sym, ap, ◌∙◌, arith}
use Rattle.std.proofs.lemmas.List.{append-nil, append_assoc}
use Rattle.std.proofs.lemmas.Bool.Decides.{Decides-eqb}
use Rattle.byteorder.specs.Endian.{big_number, big_bytes}
use Rattle.byteorder.specs.Numbers.{big_number-reads_back}
use Rattle.pages.specs.Chunks.{chunks}
use Rattle.pages.proofs.ChunkLemmas.{one_chunk}
use Rattle.record_layout.specs.declared.schema.KeyKind.{KeyKind}
use Rattle.record_layout.specs.declared.schema.KeyKind.TheVariants.{Prime, Unique, Duplicates}
use Rattle.record_layout.specs.declared.schema.KeyPart.{KeyPart}
use Rattle.record_layout.specs.Schema.{IsKey, same_kind}
use Rattle.open_file.specs.declared.first_page.Header.{Header}
use Rattle.open_file.specs.declared.first_page.TreeNumbers.{TreeNumbers}
use Rattle.open_file.specs.Bounds.{AreTreeNumbers, IsHeader}
use Rattle.open_file.specs.FirstPage.{first_bytes, header_bytes, key_row_bytes}
use Rattle.open_file.specs.FirstPageReading.{number_in, greatest_in, least_in, key_count_in, key_rows_in, kind_in, part_in, tree_in, numbers_in}
use Rattle.open_file.proofs.KeyRowLemmas.{key_rows_bytes, length-row}

number_back : (n x : ℕ) → x < 256 ^ n → big_number n (big_bytes n x) ≡ x
number_back n x h = ap (big_number n) (sym (append-nil (big_bytes n x))) ∙ big_number-reads_back n x [] h

-- the least length, by the version
told_back : (b : Bool) (least greatest : ℕ) → (b ≡ true → least ≡ greatest)
    → (if (if b then 1 else 2) == 1 then greatest else (if b then 0 else least)) ≡ least
told_back true least greatest same = sym (same refl)
told_back false least greatest same = refl

version_small : (b : Bool) → (if b then 1 else 2) < 256 ^ 2
version_small true = omega arith
version_small false = omega arith

told_small : (b : Bool) (least : ℕ) → least < 256 ^ 2 → (if b then 0 else least) < 256 ^ 2
told_small true least h = omega arith
told_small false least h = h

kind_back : (kind : KeyKind) → kind_in (if same_kind kind Prime then 0 else if same_kind kind Unique then 1 else 2) ≡ kind
kind_back Prime = refl
kind_back Unique = refl
kind_back Duplicates = refl

part_back : (part : KeyPart) (tree : TreeNumbers) → part.offset < 256 ^ 2 → part.length < 256 ^ 2 → part_in (key_row_bytes part tree) ≡ part
unfolding key_row_bytes
part_back part tree offset size = λ i. record { offset = number_back 2 part.offset offset i; length = number_back 2 part.length size i; kind = kind_back part.kind i }

tree_back : (part : KeyPart) (tree : TreeNumbers) → tree.root < 256 ^ 4 → tree_in (key_row_bytes part tree) ≡ tree
unfolding key_row_bytes
tree_back part tree root = λ i. record { height = tree.height; root = number_back 4 tree.root root i }

first_row : (n : ℕ) (part : KeyPart) (tree : TreeNumbers) (rows rest : List ℕ)
    → chunks 16 (suc n) ((key_row_bytes part tree ++ rows) ++ rest) ≡ key_row_bytes part tree ∷ chunks 16 n (rows ++ rest)
first_row n part tree rows rest =
    ap (chunks 16 (suc n)) (append_assoc (key_row_bytes part tree) rows rest) ∙ one_chunk 16 n (key_row_bytes part tree) (rows ++ rest) (length-row part tree)

parts_back : (least : ℕ) (keys : List KeyPart) (trees : List TreeNumbers) (rest : List ℕ) → length trees ≡ length keys → least ≤ 4000 → All (IsKey least) keys
    → map part_in (chunks 16 (length keys) (key_rows_bytes keys trees ++ rest)) ≡ keys
unfolding chunks
parts_back least [] trees rest same limit whole = refl
parts_back least (key ∷ keys) [] rest same limit whole = absurd (omega arith)
parts_back least (key ∷ keys) (tree ∷ trees) rest same limit whole =
    let first : IsKey least key = whole 0 key (omega arith) in
    let later : All (IsKey least) keys = λ j d h. whole (suc j) d (omega arith) in
    ap (map part_in) (first_row (length keys) key tree (key_rows_bytes keys trees) rest)
    ∙ λ i. (part_back key tree (omega (arith, first.within)) (omega (arith, first.short)) i) ∷ (parts_back least keys trees rest (omega arith) limit later i)

trees_back : (pages : ℕ) (keys : List KeyPart) (trees : List TreeNumbers) (rest : List ℕ) → length trees ≡ length keys → pages ≤ 256 ^ 4 → All (AreTreeNumbers pages) trees
    → map tree_in (chunks 16 (length keys) (key_rows_bytes keys trees ++ rest)) ≡ trees
unfolding chunks
trees_back pages [] [] rest same limit whole = refl
trees_back pages [] (tree ∷ trees) rest same limit whole = absurd (omega arith)
trees_back pages (key ∷ keys) [] rest same limit whole = absurd (omega arith)
trees_back pages (key ∷ keys) (tree ∷ trees) rest same limit whole =
    let first : AreTreeNumbers pages tree = whole 0 tree (omega arith) in
    let later : All (AreTreeNumbers pages) trees = λ j d h. whole (suc j) d (omega arith) in
    ap (map tree_in) (first_row (length keys) key tree (key_rows_bytes keys trees) rest)
    ∙ λ i. (tree_back key tree (omega (arith, first.within)) i) ∷ (trees_back pages keys trees rest (omega arith) limit later i)

-- the first page of a file that was closed with a header
abbrev pub closed_page : Header → List ℕ
closed_page header = codes "C" ++ drop 1 (header_bytes header)

-- the page of a header has its numbers
pub numbers_back : (header : Header) → IsHeader header → numbers_in (closed_page header) ≡ header
unfolding numbers_in header_bytes first_bytes
numbers_back header is =
    let page = closed_page header in
    let schema = header.schema in
    let trees = header.trees.items in
    let rest = replicate (4096 - length (first_bytes header ++ key_rows_bytes schema.keys trees)) 0 in
    let same = schema.least == schema.greatest in
    let under : schema.least < 256 ^ 2 = omega (arith, is.schema.limit, is.schema.ordered) in
    let greatest : greatest_in page ≡ schema.greatest = number_back 2 schema.greatest (omega (arith, is.schema.limit)) in
    let version : number_in page 8 2 ≡ (if same then 1 else 2) = number_back 2 _ (version_small same) in
    let least : number_in page 36 2 ≡ (if same then 0 else schema.least) = number_back 2 _ (told_small same schema.least under) in
    let told : least_in page ≡ schema.least =
    (λ i. if version i == 1 then greatest i else least i) ∙ told_back same schema.least schema.greatest (λ e. (Decides-eqb schema.least schema.greatest).0 e) in
    let count : key_count_in page ≡ length schema.keys = let h : min (length schema.keys) 9 ≡ length schema.keys = omega (arith, is.schema.few) in h in
    let keys : map part_in (key_rows_in page (key_count_in page)) ≡ schema.keys =
    ap (λ (n : ℕ). map part_in (key_rows_in page n)) count
    ∙ parts_back schema.least schema.keys trees rest is.trees (omega (arith, is.schema.limit, is.schema.ordered)) is.schema.whole in
    let roots : map tree_in (key_rows_in page (key_count_in page)) ≡ trees =
    ap (λ (n : ℕ). map tree_in (key_rows_in page n)) count
    ∙ trees_back header.pages schema.keys trees rest is.trees (omega (arith, is.room.pages)) is.within.trees in
    λ i. record {
      schema = record { least = told i; greatest = greatest i; keys = keys i };
      pages = number_back 4 header.pages is.room.pages i;
      first_free = number_back 4 header.first_free (omega (arith, is.room.pages, is.within.first_free)) i;
      free = number_back 4 header.free (omega (arith, is.room.pages, is.within.free)) i;
      first_heap = number_back 4 header.first_heap (omega (arith, is.room.pages, is.within.first_heap)) i;
      free_slot_page = number_back 4 header.free_slot_page (omega (arith, is.room.pages, is.within.free_slot)) i;
      free_slot = number_back 2 header.free_slot is.room.slot i;
      next_stamp = number_back 8 header.next_stamp (omega (arith, is.within.limit)) i;
      records = number_back 8 header.records is.room.records i;
      trees = record { items = roots i };
    }
