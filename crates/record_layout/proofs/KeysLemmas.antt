-- The keys that clauses give are those of a schema.
use Rattle.std.proofs.Common.{◌≡◌, ◌≢◌, ℕ, zero, suc, ◌+◌, ◌<◌, ◌≤◌, Bool, true, false, ◌||◌, cond, eqb, ltb, List, [], ◌∷◌, ◌++◌, length, take, drop, map, get_or, Option, Some, None, Result, Ok, Err, IsPermutation, refl, sym, ap, subst, ◌∙◌, arith}
use Rattle.std.specs.List.{All, AllPairs, refill}
use Rattle.std.specs.List.Sorted.{IsNonDecreasingBy}
use Rattle.std.proofs.lemmas.Option.{same_Some}
use Rattle.std.proofs.lemmas.Bool.{false≢true}
use Rattle.std.proofs.lemmas.Bool.Decides.{nat_tests, Decides-eqb}
use Rattle.std.proofs.lemmas.List.{append-nil, append_assoc, take-append-drop, map_push, take_at, length-map}
use Rattle.std.proofs.lemmas.List.Elements.{All-push, All-tail, All-get_or, All-cons}
use Rattle.std.proofs.lemmas.List.Quantifiers.{all_pairs_push}
use Rattle.std.proofs.lemmas.List.Sorted.{All-permutation, IsPermutation-map, length_permutation}
use Rattle.std.proofs.lemmas.Map.Made.{AllPairs-from_IsDistinct, IsDistinct-from_AllPairs}
use Rattle.std.proofs.lemmas.Map.Keys.{IsDistinct-IsPermutation}
use Rattle.std.proofs.Math.ListN.{get_or-map}
use Rattle.record_layout.specs.declared.fault.SchemaFault.{SchemaFault}
use Rattle.record_layout.specs.declared.item.Field.{Field}
use Rattle.record_layout.specs.declared.schema.KeyKind.{KeyKind}
use Rattle.record_layout.specs.declared.schema.KeyKind.TheVariants.{Prime}
use Rattle.record_layout.specs.declared.schema.KeyPart.{KeyPart}
use Rattle.record_layout.specs.Layout.{Placed, is_named, field_of, length_of, IsRecord}
use Rattle.record_layout.specs.Schema.{alternate_kind, schema_of_fields, IsKey, AreKeys, IsSchema}
use Rattle.record_layout.specs.SchemaFault.{KeyClause, begins_one, key_of_item, key_of_clause, where_a_key, keys_behind, keys_given, HasKeys, GivesSchema}

abbrev pub offset_of : KeyPart → ℕ
offset_of key = key.offset

-- keys that each record has whole, and no two of which begin with one character
pub record AreApart (least : ℕ) (keys : List KeyPart) : Type 0 where
  pub whole : All (IsKey least) keys
  pub apart : AllPairs (λ a b. a ≢ b) (map offset_of keys)

-- ---- one key

pick : (b : Bool) (here field : Field) (later : Option Field) → 1 ≤ here.length → (later ≡ Some field → 1 ≤ field.length) → cond b (Some here) later ≡ Some field → 1 ≤ field.length
pick true here field later some rest e = subst (λ o. 1 ≤ o.length) (same_Some here field e) some
pick false here field later some rest e = rest e

-- the item of a name has a character or more
named_some : (layout : List Placed) (name : List ℕ) (field : Field) → All (λ item. 1 ≤ item.field.length) layout → field_of layout name ≡ Some field → 1 ≤ field.length
named_some [] name field all e = absurd (cc)
named_some (item ∷ layout) name field all e =
    pick (is_named name item.name) item.field field (field_of layout name) (All-get_or (λ item. 1 ≤ item.field.length) (item ∷ layout) 0 item (omega arith) all)
    (named_some layout name field (All-tail (λ item. 1 ≤ item.field.length) item layout all)) e

neither : (a b : Bool) → (a || b) ≡ false → (a ≡ false) × (b ≡ false)
neither true b e = absurd (false≢true (sym e))
neither false b e = (refl, e)

-- none of the keys begins with the character
not_begun : (keys : List KeyPart) (field : Field) → begins_one keys field ≡ false → (k d : ℕ) → k < length (map offset_of keys) → get_or (map offset_of keys) k d ≢ field.offset
not_begun [] field e k d h = absurd (omega (arith, h))
not_begun (key ∷ keys) field e zero d h = λ same. false≢true (sym (neither (eqb key.offset field.offset) (begins_one keys field) e).0 ∙ (Decides-eqb key.offset field.offset).1 same)
not_begun (key ∷ keys) field e (suc k) d h = not_begun keys field (neither (eqb key.offset field.offset) (begins_one keys field) e).1 k d (omega (arith, h))

-- a test that did not give its fault
pub passed : {A : Type 0} (b : Bool) (fault : SchemaFault) (next : Result A SchemaFault) (x : A) → cond b (Err fault) next ≡ Ok x → (b ≡ false) × (next ≡ Ok x)
passed true fault next x e = absurd (cc)
passed false fault next x e = (refl, e)

at_most : (a b : ℕ) → ltb a b ≡ false → b ≤ a
at_most a b e = grind (arith, nat_tests)

-- what a key that is taken is
pub record IsTaken (least : ℕ) (keys : List KeyPart) (kind : KeyKind) (found : Option Field) (key : KeyPart) : Type 0 where
  pub field : Field
  pub named : found ≡ Some field
  pub short : field.length ≤ 250
  pub apart : begins_one keys field ≡ false
  pub within : field.offset + field.length ≤ least
  pub is : record { offset = field.offset; length = field.length; kind = kind } ≡ key

pub taken : (least : ℕ) (keys : List KeyPart) (kind : KeyKind) (found : Option Field) (key : KeyPart) → key_of_item least keys kind found ≡ Ok key → IsTaken least keys kind found key
taken least keys kind None key e = absurd (cc)
taken least keys kind (Some field) key e =
    let short = passed (ltb 250 field.length) _ _ key e in
    let apart = passed (begins_one keys field) _ _ key short.1 in
    let within = passed (ltb least (field.offset + field.length)) _ _ key apart.1 in
    let is : record { offset = field.offset; length = field.length; kind = kind } ≡ key = same_ok _ key within.1 in
    record {
      field = field;
      named = refl;
      short = at_most 250 field.length short.0;
      apart = apart.0;
      within = at_most least (field.offset + field.length) within.0;
      is = is;
    }
  where
    same_ok : (a b : KeyPart) → ◌≡◌ {A = Result KeyPart SchemaFault} (Ok a) (Ok b) → a ≡ b
    same_ok a b e = cc

all_some : (layout : List Placed) → IsRecord layout → All (λ item. 1 ≤ item.field.length) layout
all_some layout is = λ k d h. (is.within k d h).0

-- keys that are apart, and one more
one_more : (layout : List Placed) (least : ℕ) (keys : List KeyPart) (kind : KeyKind) (name : List ℕ) (key : KeyPart) → IsRecord layout → AreApart least keys → IsTaken least keys kind (field_of layout name) key → AreApart least (keys ++ key ∷ [])
one_more layout least keys kind name key is so new =
    let some = named_some layout name new.field (all_some layout is) new.named in
    let P : KeyPart → Type 0 = IsKey least in
    record {
      whole = All-push P keys key so.whole (subst P new.is (record { some = some; short = new.short; within = new.within }));
      apart = subst (AllPairs (λ a b. a ≢ b)) (sym (map_push offset_of keys key))
          (all_pairs_push (λ a b. a ≢ b) (map offset_of keys) key.offset so.apart (λ k d h same. not_begun keys new.field new.apart k d h (same ∙ sym (ap offset_of new.is))));
    }

-- ---- all keys

pub then_key : (given : Result KeyPart SchemaFault) (follows : KeyPart → Result (List KeyPart) SchemaFault) (all : List KeyPart) → where_a_key given follows ≡ Ok all → (key : KeyPart) × (given ≡ Ok key) × (follows key ≡ Ok all)
then_key (Err fault) follows all e = absurd (cc)
then_key (Ok key) follows all e = (key, refl, e)

-- the keys behind other keys, with what is true of them all
pub record IsBehind (least : ℕ) (keys all : List KeyPart) (count : ℕ) : Type 0 where
  pub rest : List KeyPart
  pub is : all ≡ keys ++ rest
  pub count_is : length rest ≡ count
  pub alternates : All (λ part. part.kind ≢ Prime) rest
  pub so : AreApart least all

not_prime : (duplicates : Bool) → alternate_kind duplicates ≢ Prime
not_prime true = λ e. absurd (cc)
not_prime false = λ e. absurd (cc)

behind : (layout : List Placed) (least : ℕ) (clauses : List KeyClause) (keys all : List KeyPart) → IsRecord layout → AreApart least keys → keys_behind layout least keys clauses ≡ Ok all → IsBehind least keys all (length clauses)
behind layout least [] keys all is so e =
    let same : keys ≡ all = same_ok keys all e in
    record { rest = []; is = sym same ∙ sym (append-nil keys); count_is = refl; alternates = λ k d h. absurd (omega (arith, h)); so = subst (AreApart least) same so }
  where
    same_ok : (a b : List KeyPart) → ◌≡◌ {A = Result (List KeyPart) SchemaFault} (Ok a) (Ok b) → a ≡ b
    same_ok a b e = cc
behind layout least (clause ∷ clauses) keys all is so e =
    let t = then_key (key_of_clause layout least keys clause) (λ key. keys_behind layout least (keys ++ key ∷ []) clauses) all e in
    let key = taken least keys (alternate_kind clause.duplicates) (field_of layout clause.name) t.0 t.1 in
    let more = one_more layout least keys (alternate_kind clause.duplicates) clause.name t.0 is so key in
    let r = behind layout least clauses (keys ++ t.0 ∷ []) all is more t.2 in
    let alternate : t.0.kind ≢ Prime = λ e. not_prime clause.duplicates (ap (λ part. part.kind) key.is ∙ e) in
    record {
      rest = t.0 ∷ r.rest;
      is = r.is ∙ append_assoc keys (t.0 ∷ []) r.rest;
      count_is = omega (arith, r.count_is);
      alternates = All-cons (λ part. part.kind ≢ Prime) t.0 r.rest alternate r.alternates;
      so = r.so;
    }

-- the keys of a prime clause and of alternate clauses
pub record AreGiven (least : ℕ) (all : List KeyPart) : Type 0 where
  pub prime : KeyPart
  pub alternates : List KeyPart
  pub is : all ≡ prime ∷ alternates
  pub first : prime.kind ≡ Prime
  pub others : All (λ part. part.kind ≢ Prime) alternates
  pub few : length alternates ≤ 8
  pub so : AreApart least (prime ∷ alternates)

none_yet : (least : ℕ) → AreApart least []
none_yet least = record { whole = λ k d h. absurd (omega (arith, h)); apart = λ i j d h k. absurd (omega (arith, h, k)) }

given : (layout : List Placed) (least : ℕ) (prime : List ℕ) (alternates : List KeyClause) (all : List KeyPart) → IsRecord layout → keys_given layout least prime alternates ≡ Ok all → AreGiven least all
given layout least prime alternates all is e =
    let few = passed (ltb 8 (length alternates)) _ _ all e in
    let t = then_key (key_of_item least [] Prime (field_of layout prime)) (λ key. keys_behind layout least (key ∷ []) alternates) all few.1 in
    let first = taken least [] Prime (field_of layout prime) t.0 t.1 in
    let r = behind layout least alternates (t.0 ∷ []) all is (one_more layout least [] Prime prime t.0 is (none_yet least) first) t.2 in
    record {
      prime = t.0;
      alternates = r.rest;
      is = r.is;
      first = ap (λ key. key.kind) (sym first.is);
      others = r.alternates;
      few = omega (arith, r.count_is, at_most 8 (length alternates) few.0);
      so = subst (AreApart least) r.is r.so;
    }

-- ---- the same keys, sorted

rising : (keys : List KeyPart) → AllPairs (λ a b. a ≢ b) (map offset_of keys) → IsNonDecreasingBy offset_of keys → AllPairs (λ a b. a.offset < b.offset) keys
rising keys apart sorted = λ i j d before within.
    let le = sorted i j d (omega (arith, before)) within in
    let there : j < length (map offset_of keys) = subst (λ n. j < n) (sym (length-map keys offset_of)) within in
    let ne : (get_or keys i d).offset ≢ (get_or keys j d).offset = λ same. apart i j d.offset before there (get_or-map offset_of keys i d ∙ (same ∙ sym (get_or-map offset_of keys j d))) in
    omega (arith, le, ne)

tail_apart : (key : KeyPart) (keys : List KeyPart) → AllPairs (λ a b. a ≢ b) (map offset_of (key ∷ keys)) → AllPairs (λ a b. a ≢ b) (map offset_of keys)
tail_apart key keys apart = λ i j d before within. apart (suc i) (suc j) d (omega (arith, before)) (omega (arith, within))

-- no alternate key begins with the prime key's first character
none_as_prime : (key : KeyPart) (keys : List KeyPart) → AllPairs (λ a b. a ≢ b) (map offset_of (key ∷ keys)) → All (λ part. part.offset ≢ key.offset) keys
none_as_prime key keys apart = λ k d within same.
    let there : k < length (map offset_of keys) = subst (λ n. k < n) (sym (length-map keys offset_of)) within in
    apart 0 (suc k) d.offset (omega arith) (omega (arith, there)) (sym (get_or-map offset_of keys k d ∙ same))

pub moved_apart : (keys moved : List KeyPart) → IsPermutation keys moved → AllPairs (λ a b. a ≢ b) (map offset_of keys) → AllPairs (λ a b. a ≢ b) (map offset_of moved)
moved_apart keys moved permutation apart =
    AllPairs-from_IsDistinct Decides-eqb (map offset_of moved)
    (IsDistinct-IsPermutation eqb eqb_comm (map offset_of keys) (map offset_of moved) (IsPermutation-map offset_of keys moved permutation) (IsDistinct-from_AllPairs Decides-eqb (map offset_of keys) apart))
  where
    eqb_comm : (x y : ℕ) → eqb x y ≡ eqb y x
    eqb_comm x y = grind (arith, nat_tests)

-- the prime key, and the alternates by rising offset
pub is_schema : (layout : List Placed) (least : ℕ) (prime : List ℕ) (alternates : List KeyClause) (all sorted : List KeyPart) → IsRecord layout → 1 ≤ least → least ≤ length_of layout → keys_given layout least prime alternates ≡ Ok all → take 1 sorted ≡ take 1 all → IsPermutation (drop 1 all) (drop 1 sorted) → IsNonDecreasingBy offset_of (drop 1 sorted) → IsSchema (schema_of_fields least (length_of layout) sorted) × GivesSchema layout least prime alternates (schema_of_fields least (length_of layout) sorted)
is_schema layout least prime alternates all sorted is some within e front permutation order =
    let g = given layout least prime alternates all is e in
    let others = drop 1 sorted in
    let sorted_is : sorted ≡ g.prime ∷ others = sym (take-append-drop 1 sorted) ∙ (ap (λ (xs : List KeyPart). xs ++ others) (front ∙ ap (take 1) g.is)) in
    let moves : IsPermutation g.alternates others = subst (λ xs. IsPermutation (drop 1 xs) others) g.is permutation in
    let tail = tail_apart g.prime g.alternates g.so.apart in
    let keys : AreKeys (g.prime ∷ others) = (g.first, All-permutation (λ part. part.offset ≢ g.prime.offset) g.alternates others moves (none_as_prime g.prime g.alternates g.so.apart), rising others (moved_apart g.alternates others moves tail) order, All-permutation (λ part. part.kind ≢ Prime) g.alternates others moves g.others) in
    let whole : All (IsKey least) (g.prime ∷ others) = All-cons (IsKey least) g.prime others (All-get_or (IsKey least) (g.prime ∷ g.alternates) 0 g.prime (omega arith) g.so.whole) (All-permutation (IsKey least) g.alternates others moves (All-tail (IsKey least) g.prime g.alternates g.so.whole)) in
    let count : length others ≡ length g.alternates = length_permutation g.alternates others moves in (
      record {
        some = some;
        ordered = within;
        limit = is.short;
        few = omega (arith, ap length sorted_is, count, g.few);
        whole = subst (All (IsKey least)) (sym sorted_is) whole;
        keys = subst AreKeys (sym sorted_is) keys;
      },
      (all, e, subst (HasKeys (schema_of_fields least (length_of layout) sorted)) (sym g.is) (others, sorted_is, moves), refl, refl),
    )

pub some_given : (layout : List Placed) (least : ℕ) (prime : List ℕ) (alternates : List KeyClause) (all : List KeyPart) → IsRecord layout → keys_given layout least prime alternates ≡ Ok all → 0 < length all
some_given layout least prime alternates all is e =
    let g = given layout least prime alternates all is e in omega (arith, ap length g.is)

-- the same of the keys that a vector holds after they were sorted in place
pub is_sorted_schema : (layout : List Placed) (least greatest : ℕ) (prime : List ℕ) (alternates : List KeyClause) (all before after : List KeyPart) → IsRecord layout → 1 ≤ least → least ≤ length_of layout → greatest ≡ length_of layout → keys_given layout least prime alternates ≡ Ok all → before ≡ all → length after ≡ length before → take 1 after ≡ take 1 before → IsPermutation (drop 1 before) (drop 1 after) → IsNonDecreasingBy offset_of (drop 1 after) → IsSchema (schema_of_fields least greatest (refill (length all) all after)) × GivesSchema layout least prime alternates (schema_of_fields least greatest (refill (length all) all after))
is_sorted_schema layout least greatest prime alternates all before after is some within limit e same long front permutation order =
    let front_all : take 1 after ≡ take 1 all = subst (λ xs. take 1 after ≡ take 1 xs) same front in
    let moves : IsPermutation (drop 1 all) (drop 1 after) = subst (λ xs. IsPermutation (drop 1 xs) (drop 1 after)) same permutation in
    let kept : after ≡ refill (length all) all after = sym (take_at after (drop (length after) all) (length all) (subst (λ xs. length after ≡ length xs) same long)) in
    let P : ℕ → List KeyPart → Type 0 = λ n keys. IsSchema (schema_of_fields least n keys) × GivesSchema layout least prime alternates (schema_of_fields least n keys) in
    subst (λ n. P n (refill (length all) all after)) (sym limit) (subst (λ keys. P (length_of layout) keys) kept (is_schema layout least prime alternates all after is some within e front_all moves order))
