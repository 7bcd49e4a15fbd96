-- The looks for each key's value, one after another.
use Rattle.std.proofs.Common.{◌≡◌, ℕ, ◌+◌, ◌*◌, ◌≤◌, ◌<◌, ◌^◌, Bool, true, false, List, [], ◌∷◌, length, drop, refl, ap, sym, ◌∙◌, arith}
use Rattle.std.specs.Prelude.{slice_index, slice_index_or, sum_by, not, ◌&&◌, ◌||◌, nat_lt, nat_le, IsTrue}
use Rattle.std.specs.List.{list_any}
use Rattle.std.proofs.Math.Bool.{or-true, or-false}
use Rattle.std.proofs.Math.ListN.{drop_of_length-le}
use Rattle.std.proofs.lemmas.Bool.{and_from, and_right}
use Rattle.std.proofs.lemmas.List.{drop_more}
use Rattle.open_file.proofs.OrderLemmas.{either}
use Rattle.std.proofs.lemmas.List.Sums.{sum_by-cons}
use Rattle.record_layout.specs.declared.schema.KeyPart.{KeyPart}
use Rattle.std.specs.Prelude.{if◌then◌else◌}
use Rattle.record_layout.specs.Schema.{Schema, has_duplicates}
use Rattle.indexed_file.specs.declared.answer.Added.TheVariants.{Done, Clash}
use Rattle.indexed_file.specs.File.{Row, File}
use Rattle.indexed_file.specs.Change.{is_there, clashes, repeats}
use Rattle.indexed_file.specs.Room.{Pages, need_of_add, is_full_to_add}
use Rattle.indexed_file.specs.Answers.{added_answer}

abbrev pub clashes_at : List ℕ → List Row → KeyPart → Bool
clashes_at bytes rows part = not (has_duplicates part) && is_there part bytes rows

abbrev pub repeats_at : List ℕ → List Row → KeyPart → Bool
repeats_at bytes rows part = has_duplicates part && is_there part bytes rows

-- none of the keys before k passes the one test, and whether one of them passes the other is known
pub record HasLooked (clashing repeating : KeyPart → Bool) (keys : List KeyPart) (k : ℕ) (repeated : Bool) : Type 0 where
  pub clash : list_any clashing keys ≡ list_any clashing (drop k keys)
  pub repeat : list_any repeating keys ≡ (repeated || list_any repeating (drop k keys))

-- twice the heights of the trees that are left may still be asked for
pub record IsAsked (start now : ℕ) (heights : List ℕ) (k : ℕ) : Type 0 where
  pub left : now + 2 * sum_by (λ height. height) (drop k heights) ≤ start + 2 * sum_by (λ height. height) heights

pub dropped : {X : Type 0} (xs : List X) (d : X) (k : ℕ) → k < length xs → drop k xs ≡ slice_index_or xs k d ∷ drop (k + 1) xs
dropped xs d k within = drop_more xs k d within

pub all_dropped : {X : Type 0} (xs : List X) (k : ℕ) → length xs ≤ k → drop k xs ≡ []
all_dropped xs k within = drop_of_length-le xs within

module _ (clashing repeating : KeyPart → Bool) (keys : List KeyPart) where
  pub look_start : HasLooked clashing repeating keys 0 false
  look_start = record { clash = refl; repeat = refl }

  from_here : (test : KeyPart → Bool) (d : KeyPart) (k : ℕ) (here : Bool) → k < length keys → test (slice_index_or keys k d) ≡ here
      → list_any test (drop k keys) ≡ (here || list_any test (drop (k + 1) keys))
  from_here test d k here within is = ap (list_any test) (dropped keys d k within) ∙ ap (λ b. b || list_any test (drop (k + 1) keys)) is

  -- one key that does not clash
  pub look_on : (d : KeyPart) (k : ℕ) (here before after : Bool) → k < length keys → clashing (slice_index_or keys k d) ≡ false
      → repeating (slice_index_or keys k d) ≡ here → ((b : Bool) → (before || (here || b)) ≡ (after || b))
      → HasLooked clashing repeating keys k before → HasLooked clashing repeating keys (k + 1) after
  look_on d k here before after within none is join on = record {
    clash = on.clash ∙ from_here clashing d k false within none;
    repeat = on.repeat ∙ ap (λ b. before || b) (from_here repeating d k here within is) ∙ join (list_any repeating (drop (k + 1) keys));
  }

  -- one that does
  pub look_found : (d : KeyPart) (k : ℕ) (repeated : Bool) → k < length keys → clashing (slice_index_or keys k d) ≡ true
      → HasLooked clashing repeating keys k repeated → list_any clashing keys ≡ true
  look_found d k repeated within is on = on.clash ∙ from_here clashing d k true within is

  -- all keys were looked at
  pub look_none : (k : ℕ) (repeated : Bool) → length keys ≤ k → HasLooked clashing repeating keys k repeated
      → list_any clashing keys ≡ false
  look_none k repeated all on = on.clash ∙ ap (list_any clashing) (all_dropped keys k all)

  pub look_told : (k : ℕ) (repeated : Bool) → length keys ≤ k → HasLooked clashing repeating keys k repeated
      → repeated ≡ list_any repeating keys
  look_told k repeated all on =
      sym (on.repeat ∙ ap (λ ks. repeated || list_any repeating ks) (all_dropped keys k all) ∙ or-false repeated)

-- the keys before k do not clash, and tell whether a value is repeated
abbrev pub LooksOn : List KeyPart → List ℕ → List Row → ℕ → Bool → Type 0
LooksOn keys bytes rows k repeated = HasLooked (clashes_at bytes rows) (repeats_at bytes rows) keys k repeated

pub at_start : (keys : List KeyPart) (bytes : List ℕ) (rows : List Row) → LooksOn keys bytes rows 0 false
at_start keys bytes rows = look_start (clashes_at bytes rows) (repeats_at bytes rows) keys

-- one key whose value is not there
pub step_absent : (keys : List KeyPart) (d : KeyPart) (bytes : List ℕ) (rows : List Row) (k : ℕ) (repeated : Bool) → k < length keys
    → is_there (slice_index_or keys k d) bytes rows ≡ false
    → LooksOn keys bytes rows k repeated → LooksOn keys bytes rows (k + 1) repeated
step_absent keys d bytes rows k repeated within none =
    look_on (clashes_at bytes rows) (repeats_at bytes rows) keys d k false repeated repeated within
    (and_right _ _ none) (and_right _ _ none) (λ b. refl)

-- one key of duplicates whose value is there
pub step_repeated : (keys : List KeyPart) (d : KeyPart) (bytes : List ℕ) (rows : List Row) (k : ℕ) (repeated : Bool) → k < length keys
    → is_there (slice_index_or keys k d) bytes rows ≡ true → has_duplicates (slice_index_or keys k d) ≡ true
    → LooksOn keys bytes rows k repeated → LooksOn keys bytes rows (k + 1) true
step_repeated keys d bytes rows k repeated within there many =
    look_on (clashes_at bytes rows) (repeats_at bytes rows) keys d k true repeated true within
    (ap (λ b. not b && is_there (slice_index_or keys k d) bytes rows) many) (and_from _ _ many there) (λ b. or-true repeated)

-- one key that clashes
pub clash_found : (keys : List KeyPart) (d : KeyPart) (bytes : List ℕ) (rows : List Row) (k : ℕ) (repeated : Bool) → k < length keys
    → is_there (slice_index_or keys k d) bytes rows ≡ true → has_duplicates (slice_index_or keys k d) ≡ false
    → LooksOn keys bytes rows k repeated → list_any (clashes_at bytes rows) keys ≡ true
clash_found keys d bytes rows k repeated within there one =
    look_found (clashes_at bytes rows) (repeats_at bytes rows) keys d k repeated within (and_from _ _ (ap not one) there)

-- ---- pages asked for

heights_dropped : (heights : List ℕ) (k : ℕ) → k < length heights → sum_by (λ height. height) (drop k heights) ≡ slice_index heights k + sum_by (λ height. height) (drop (k + 1) heights)
heights_dropped heights k within =
    ap (sum_by (λ height. height)) (dropped heights 0 k within)
    ∙ sum_by-cons (λ height. height) (slice_index heights k) (drop (k + 1) heights)

pub asked_start : (start : ℕ) (heights : List ℕ) → IsAsked start start heights 0
asked_start start heights = record { left = omega arith }

pub asked_more : (start now later : ℕ) (heights : List ℕ) (k : ℕ) → k < length heights → later ≤ now + 2 * slice_index heights k → IsAsked start now heights k → IsAsked start later heights (k + 1)
asked_more start now later heights k within few asked = record { left = omega (arith, few, asked.left, heights_dropped heights k within) }

pub asked_in_all : (start now : ℕ) (heights : List ℕ) (k : ℕ) → IsAsked start now heights k → now ≤ start + 2 * sum_by (λ height. height) heights
asked_in_all start now heights k asked = omega (arith, asked.left)

pub asked_so_far : (start now later : ℕ) (heights : List ℕ) (k : ℕ) → k < length heights → later ≤ now + 2 * slice_index heights k → IsAsked start now heights k → later ≤ start + 2 * sum_by (λ height. height) heights
asked_so_far start now later heights k within few asked = asked_in_all start later heights (k + 1) (asked_more start now later heights k within few asked)

-- ---- what is told

pub clash_told : (schema : Schema) (bytes : List ℕ) (file : File) → list_any (clashes_at bytes file.rows) schema.keys ≡ true → Clash ≡ added_answer schema bytes file
clash_told schema bytes file clash = ap (λ b. if b then Clash else Done (repeats schema bytes file.rows)) (sym clash)

pub done_told : (schema : Schema) (bytes : List ℕ) (file : File) (k : ℕ) (repeated : Bool) → length schema.keys ≤ k
    → LooksOn schema.keys bytes file.rows k repeated → Done repeated ≡ added_answer schema bytes file
done_told schema bytes file k repeated all on =
    let clash = look_none (clashes_at bytes file.rows) (repeats_at bytes file.rows) schema.keys k repeated all on in
    ap Done (look_told (clashes_at bytes file.rows) (repeats_at bytes file.rows) schema.keys k repeated all on)
    ∙ ap (λ b. if b then Clash else Done (repeats schema bytes file.rows)) (sym clash)

-- a record that may be added does not clash
pub done_is : (schema : Schema) (bytes : List ℕ) (file : File) (r : Bool) → Done r ≡ added_answer schema bytes file → clashes schema bytes file.rows ≡ false
done_is schema bytes file r told =
    either (clashes schema bytes file.rows) _ (λ yes. let e = rw yes at told in absurd (cc)) (λ no. no)

-- and one that may not does
pub clash_is : (schema : Schema) (bytes : List ℕ) (file : File) → Clash ≡ added_answer schema bytes file → clashes schema bytes file.rows ≡ true
clash_is schema bytes file told =
    either (clashes schema bytes file.rows) _ (λ yes. yes) (λ no. let e = rw no at told in absurd (cc))

-- neither pages nor stamps have run out
pub has_room : (heights : List ℕ) (available stamp : ℕ) (clash : Bool) (file : File) → stamp ≡ file.next_stamp → (nat_lt available (need_of_add heights) || nat_le (2 ^ 63) stamp) ≡ false
    → IsTrue (clash || not (is_full_to_add (Pages heights available) file))
has_room heights available stamp clash file same room =
    let free : is_full_to_add (Pages heights available) file ≡ false = ap (λ n. nat_lt available (need_of_add heights) || nat_le (2 ^ 63) n) (sym same) ∙ room in
    rw free (or-true clash)
