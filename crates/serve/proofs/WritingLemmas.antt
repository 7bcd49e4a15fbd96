-- What is written of a request is read as it was.
use Rattle.std.proofs.Common.{◌≡◌, ◌≢◌, ◌⊎◌, inl, inr, ℕ, suc, ◌+◌, ◌*◌, ◌^◌, ◌<◌, ◌≤◌, ◌==◌, Bool, true, false, not, ◌&&◌, ◌||◌, nat_lt, if◌then◌else◌, List, [], ◌∷◌, ◌++◌, length, drop, flat_map, All, Option, None, Some, option_map, IsTrue, refl, sym, ap, ◌∙◌, arith}
use Rattle.std.proofs.lemmas.List.{append-nil, drop-drop}
use Rattle.std.proofs.lemmas.Bool.{le-ltb}
use Rattle.std.proofs.lemmas.Bool.Decides.{Decides-eqb}
use Rattle.std.proofs.Math.Bool.{and-false}
use Rattle.byteorder.specs.Endian.{big_number, big_bytes}
use Rattle.byteorder.specs.Numbers.{big_number-reads_back}
use Rattle.io_state.specs.declared.modes.Access.{Access}
use Rattle.io_state.specs.declared.modes.Access.TheVariants.{Sequential, Random, Dynamic}
use Rattle.io_state.specs.declared.modes.OpenMode.{OpenMode}
use Rattle.io_state.specs.declared.modes.OpenMode.TheVariants.{Input, Output, InputOutput, Extend}
use Rattle.io_state.specs.declared.modes.Relation.{Relation}
use Rattle.io_state.specs.declared.modes.Relation.TheVariants.{Equal, Greater, NotLess}
use Rattle.io_state.specs.declared.statement.FileStatement.{FileStatement}
use Rattle.io_state.specs.declared.statement.FileStatement.TheVariants.{Open, Close, ReadNext, Read, Start, Write, Rewrite, Delete}
use Rattle.record_layout.specs.declared.schema.KeyKind.{KeyKind}
use Rattle.record_layout.specs.declared.schema.KeyKind.TheVariants.{Prime, Unique, Duplicates}
use Rattle.record_layout.specs.declared.schema.KeyPart.{KeyPart}
use Rattle.record_layout.specs.Schema.{is_duplicates, has_duplicates}
use Rattle.serve.specs.Request.{Described, Performed, Asked, Describing, Performing, Releasing}
use Rattle.serve.specs.Reading.{short_number_in, flag_in, access_in, statement_in, has_length, performed_by, performed_in, kind_by_flag, key_in, key_and, keys_in, described_from, is_short, described_in, request_in}
use Rattle.serve.specs.Writing.{flag_byte, access_byte, mode_byte, relation_byte, performed_body, key_row, described_body, request_body, FitsStatement, FitsKey, AreFlagged, FitsDescribed, FitsRequest}

number_back : (x : ℕ) → x < 2 ^ 16 → big_number 2 (big_bytes 2 x) ≡ x
number_back x h = ap (big_number 2) (sym (append-nil (big_bytes 2 x))) ∙ big_number-reads_back 2 x [] (omega (arith, h))

flag_back : (flag : Bool) → flag_in (flag_byte flag) ≡ Some flag
flag_back false = refl
flag_back true = refl

access_back : (access : Access) → access_in (access_byte access) ≡ Some access
access_back Sequential = refl
access_back Random = refl
access_back Dynamic = refl

-- ---- a verb

if_false : {X : Type 0} (b : Bool) (x y : X) → b ≡ false → (if b then x else y) ≡ y
if_false b x y e = ap (λ (c : Bool). if c then x else y) e

no_length : (n : ℕ) (stored : Bool) → (n ≡ 0) ⊎ IsTrue stored → (not (n == 0) && not stored) ≡ false
no_length n true h = and-false (not (n == 0))
no_length n false (inl e) = ap (λ (m : ℕ). not (m == 0) && true) e
no_length n false (inr h) = ap (λ (b : Bool). not (n == 0) && not b) h ∙ and-false (not (n == 0))

finish : (file n a b c part : ℕ) (statement : FileStatement) (bytes : List ℕ) → statement_in a b c (big_number 2 (big_bytes 2 part)) ≡ Some statement
    → n < 2 ^ 16 → (n ≡ 0) ⊎ IsTrue (has_length statement)
    → performed_in (2 ∷ file ∷ (a ∷ b ∷ c ∷ big_bytes 2 part) ++ big_bytes 2 n ++ bytes)
    ≡ Some (record { file = file; statement = statement; length = n; bytes = bytes })
finish file n a b c part statement bytes is small stored =
    let body = 2 ∷ file ∷ (a ∷ b ∷ c ∷ big_bytes 2 part) ++ big_bytes 2 n ++ bytes in
    let told : short_number_in body 7 ≡ n = number_back n small in
    let found : FileStatement → Option Performed = λ s. if not (short_number_in body 7 == 0) && not (has_length s) then None
    else Some (record { file = file; statement = s; length = short_number_in body 7; bytes = bytes }) in
    if_false (nat_lt (length body) 9) None _ (le-ltb (length body) 9 (omega arith))
    ∙ ap (λ (s : Option FileStatement). performed_by body s) is
    ∙ if_false (not (short_number_in body 7 == 0) && not (has_length statement)) None _ (no_length (short_number_in body 7) (has_length statement) (rw told stored))
    ∙ ap (λ (m : ℕ). Some (record { file = file; statement = statement; length = m; bytes = bytes })) told

open_back : (mode : OpenMode) → statement_in 0 (mode_byte mode) 0 (big_number 2 (big_bytes 2 0)) ≡ Some (Open mode)
open_back Input = refl
open_back Output = refl
open_back InputOutput = refl
open_back Extend = refl

close_back : (lock : Bool) → statement_in 1 (flag_byte lock) 0 (big_number 2 (big_bytes 2 0)) ≡ Some (Close lock)
close_back false = refl
close_back true = refl

start_back : (key part : ℕ) (relation : Relation) → statement_in 4 (relation_byte relation) key part ≡ Some (Start key part relation)
start_back key part Equal = refl
start_back key part Greater = refl
start_back key part NotLess = refl

started_back : (key part : ℕ) (relation : Relation) → part < 2 ^ 16
    → statement_in 4 (relation_byte relation) key (big_number 2 (big_bytes 2 part)) ≡ Some (Start key part relation)
started_back key part relation h = ap (statement_in 4 (relation_byte relation) key) (number_back part h) ∙ start_back key part relation

performed_of : (file n : ℕ) (bytes : List ℕ) (s : FileStatement) → FitsStatement s → n < 2 ^ 16 → (n ≡ 0) ⊎ IsTrue (has_length s)
    → performed_in (performed_body (record { file = file; statement = s; length = n; bytes = bytes }))
    ≡ Some (record { file = file; statement = s; length = n; bytes = bytes })
performed_of file n bytes (Open mode) fits small stored = finish file n 0 (mode_byte mode) 0 0 (Open mode) bytes (open_back mode) small stored
performed_of file n bytes (Close lock) fits small stored = finish file n 1 (flag_byte lock) 0 0 (Close lock) bytes (close_back lock) small stored
performed_of file n bytes ReadNext fits small stored = finish file n 2 0 0 0 ReadNext bytes refl small stored
performed_of file n bytes (Read key) fits small stored = finish file n 3 0 key 0 (Read key) bytes refl small stored
performed_of file n bytes (Start key part relation) fits small stored =
    finish file n 4 (relation_byte relation) key part (Start key part relation) bytes (started_back key part relation fits) small stored
performed_of file n bytes Write fits small stored = finish file n 5 0 0 0 Write bytes refl small stored
performed_of file n bytes Rewrite fits small stored = finish file n 6 0 0 0 Rewrite bytes refl small stored
performed_of file n bytes Delete fits small stored = finish file n 7 0 0 0 Delete bytes refl small stored

-- ---- a description

not_true : (b : Bool) → (b ≡ true → ⊥) → b ≡ false
not_true true never = absurd (never refl)
not_true false never = refl

not_zero : (n : ℕ) → 1 ≤ n → (n == 0) ≡ false
not_zero n h = not_true (n == 0) (λ e. let zero_is : n ≡ 0 = (Decides-eqb n 0).0 e in omega (arith, h, zero_is))

key_back : (k : ℕ) (key : KeyPart) (rest : List ℕ) → FitsKey key → kind_by_flag k (has_duplicates key) ≡ key.kind → key_in k (key_row key ++ rest) ≡ Some key
key_back k key rest fits kind =
    ap (option_map (λ duplicates. record { offset = short_number_in (key_row key ++ rest) 0; length = short_number_in (key_row key ++ rest) 2; kind = kind_by_flag k duplicates }))
    (flag_back (has_duplicates key))
    ∙ λ i. Some (record { offset = number_back key.offset fits.offset i; length = number_back key.length fits.length i; kind = kind i })

first_kind : (kind : KeyKind) → kind ≢ Unique → kind_by_flag 0 (is_duplicates kind) ≡ kind
first_kind Prime other = refl
first_kind Unique other = absurd (other refl)
first_kind Duplicates other = refl

later_kind : (k : ℕ) (kind : KeyKind) → kind ≢ Prime → kind_by_flag (k + 1) (is_duplicates kind) ≡ kind
later_kind k Prime other = absurd (other refl)
later_kind k Unique other = if_false (k + 1 == 0) Prime Unique (not_zero (k + 1) (omega arith))
later_kind k Duplicates other = refl

-- one key, and those behind it
key_on : (k : ℕ) (key : KeyPart) (keys : List KeyPart) (name : List ℕ) → FitsKey key → kind_by_flag k (has_duplicates key) ≡ key.kind
    → keys_in (k + 1) (length keys) (flat_map key_row keys ++ name) ≡ Some keys → keys_in k (length (key ∷ keys)) (flat_map key_row (key ∷ keys) ++ name) ≡ Some (key ∷ keys)
key_on k key keys name fits kind later =
    ap (λ (found : Option KeyPart). key_and found (keys_in (k + 1) (length keys) (flat_map key_row keys ++ name))) (key_back k key (flat_map key_row keys ++ name) fits kind)
    ∙ ap (key_and (Some key)) later

later_back : (k : ℕ) (keys : List KeyPart) (name : List ℕ) → All FitsKey keys → All (λ key. key.kind ≢ Prime) keys → keys_in (k + 1) (length keys) (flat_map key_row keys ++ name) ≡ Some keys
later_back k [] name fits kinds = refl
later_back k (key ∷ keys) name fits kinds =
    let first : FitsKey key = fits 0 key (omega arith) in
    let kind : key.kind ≢ Prime = kinds 0 key (omega arith) in
    key_on (k + 1) key keys name first (later_kind k key.kind kind) (later_back (k + 1) keys name (λ j d h. fits (suc j) d (omega arith)) (λ j d h. kinds (suc j) d (omega arith)))

keys_back : (keys : List KeyPart) (name : List ℕ) → All FitsKey keys → AreFlagged keys → keys_in 0 (length keys) (flat_map key_row keys ++ name) ≡ Some keys
keys_back [] name fits kinds = refl
keys_back (key ∷ keys) name fits kinds =
    let first : FitsKey key = fits 0 key (omega arith) in
    key_on 0 key keys name first (first_kind key.kind kinds.0) (later_back 0 keys name (λ j d h. fits (suc j) d (omega arith)) kinds.1)

name_back : (keys : List KeyPart) (name : List ℕ) → drop (5 * length keys) (flat_map key_row keys ++ name) ≡ name
name_back [] name = refl
name_back (key ∷ keys) name =
    let e : 5 * length (key ∷ keys) ≡ 5 + 5 * length keys = omega arith in
    ap (λ (n : ℕ). drop n (flat_map key_row (key ∷ keys) ++ name)) e
    ∙ sym (drop-drop (5 * length keys) 5 (flat_map key_row (key ∷ keys) ++ name)) ∙ name_back keys name

rows_long : (keys : List KeyPart) (name : List ℕ) → 5 * length keys ≤ length (flat_map key_row keys ++ name)
rows_long [] name = omega arith
rows_long (key ∷ keys) name = let h = rows_long keys name in omega (arith, h)

described_back : (d : Described) → FitsDescribed d → described_in (described_body d) ≡ Some d
described_back d fits =
    let body = described_body d in
    let rows = flat_map key_row d.keys ++ d.name in
    let count = length d.keys in
    let long = rows_long d.keys d.name in
    let whole : is_short body count ≡ false =
    (λ i. not_zero count fits.some i || le-ltb 9 count fits.few i || le-ltb (length body) (9 + 5 * count) (omega (arith, long)) i) in
    let access = access_back d.access in
    let optional = flag_back d.optional in
    let keys = keys_back d.keys d.name fits.keys fits.kinds in
    let named : drop (9 + 5 * count) body ≡ d.name = sym (drop-drop (5 * count) 9 body) ∙ name_back d.keys d.name in
    if_false (nat_lt (length body) 9) None _ (le-ltb (length body) 9 (omega arith))
    ∙ if_false (is_short body count) None _ whole
    ∙ (λ i. described_from body count (access i) (optional i) (keys i))
    ∙ λ i. Some (record {
      file = d.file;
      access = d.access;
      optional = d.optional;
      least = number_back d.least fits.least i;
      greatest = number_back d.greatest fits.greatest i;
      keys = d.keys;
      name = named i;
    })

-- ---- any request

pub written_is_read : (asked : Asked) → FitsRequest asked → request_in (request_body asked) ≡ Some asked
written_is_read (Describing d) fits = ap (option_map Describing) (described_back d fits)
written_is_read (Performing p) fits = ap (option_map Performing) (performed_of p.file p.length p.bytes p.statement fits.statement fits.length fits.stored)
written_is_read (Releasing file) fits = refl
