-- The keys that clauses give are the items that they name, and where those make a schema, the clauses give it.
use Rattle.std.proofs.Common.{◌≡◌, ◌≢◌, ℕ, suc, ◌+◌, ◌<◌, ◌≤◌, Bool, true, false, ◌||◌, eqb, ltb, List, [], ◌∷◌, ◌++◌, length, drop, map, get_or, Option, Some, None, option_map, Result, Ok, refl, sym, ap, subst, ◌∙◌, arith}
use Rattle.std.specs.List.{All, AllPairs, list_any}
use Rattle.std.proofs.lemmas.Option.{same_Some}
use Rattle.std.proofs.lemmas.Bool.Decides.{nat_tests, Decides-eqb}
use Rattle.std.proofs.lemmas.List.{append-nil, append_assoc, length-map}
use Rattle.std.proofs.lemmas.List.Elements.{All-tail}
use Rattle.std.proofs.lemmas.List.Folds.{list_any-append}
use Rattle.std.proofs.lemmas.List.Sorted.{All-permutation, IsPermutation-sym, length_permutation}
use Rattle.std.proofs.Math.ListN.{get_or-map}
use Rattle.record_layout.specs.declared.fault.SchemaFault.{SchemaFault}
use Rattle.record_layout.specs.declared.item.Field.{Field}
use Rattle.record_layout.specs.declared.schema.KeyKind.{KeyKind}
use Rattle.record_layout.specs.declared.schema.KeyKind.TheVariants.{Prime}
use Rattle.record_layout.specs.declared.schema.KeyPart.{KeyPart}
use Rattle.record_layout.specs.Layout.{Placed, field_of}
use Rattle.record_layout.specs.Schema.{Schema, alternate_kind, IsKey, AreKeys, IsSchema}
use Rattle.record_layout.specs.SchemaFault.{KeyClause, item_as_key, HasNamedKeys, begins_one, key_of_item, key_of_clause, where_a_key, keys_behind, keys_given, HasKeys, GivesSchema}
use Rattle.record_layout.proofs.KeysLemmas.{offset_of, passed, taken, then_key, moved_apart}

-- the items that the clauses of alternate keys name
abbrev keys_named : List Placed → List KeyClause → List (Option KeyPart)
keys_named layout clauses = map (λ clause. item_as_key layout clause.name (alternate_kind clause.duplicates)) clauses

-- ---- keys that are given are named

named : (layout : List Placed) (least : ℕ) (keys : List KeyPart) (kind : KeyKind) (name : List ℕ) (key : KeyPart) → key_of_item least keys kind (field_of layout name) ≡ Ok key → item_as_key layout name kind ≡ Some key
named layout least keys kind name key e =
    let t = taken least keys kind (field_of layout name) key e in
    ap (option_map (λ field. record { offset = field.offset; length = field.length; kind = kind })) t.named ∙ ap Some t.is

same_ok : (a b : List KeyPart) → ◌≡◌ {A = Result (List KeyPart) SchemaFault} (Ok a) (Ok b) → a ≡ b
same_ok a b e = cc

all_named : (layout : List Placed) (least : ℕ) (clauses : List KeyClause) (keys all : List KeyPart) → keys_behind layout least keys clauses ≡ Ok all → (others : List KeyPart) × (all ≡ keys ++ others) × (keys_named layout clauses ≡ map Some others)
all_named layout least [] keys all e = ([], sym (same_ok keys all e) ∙ sym (append-nil keys), refl)
all_named layout least (clause ∷ clauses) keys all e =
    let t = then_key (key_of_clause layout least keys clause) (λ key. keys_behind layout least (keys ++ key ∷ []) clauses) all e in
    let here = named layout least keys (alternate_kind clause.duplicates) clause.name t.0 t.1 in
    let later = all_named layout least clauses (keys ++ t.0 ∷ []) all t.2 in
    (t.0 ∷ later.0, later.1 ∙ append_assoc keys (t.0 ∷ []) later.0, λ i. here i ∷ later.2 i)

-- a schema that clauses give has the keys that they name
pub names_keys : (layout : List Placed) (least : ℕ) (prime : List ℕ) (alternates : List KeyClause) (schema : Schema) → GivesSchema layout least prime alternates schema → HasNamedKeys layout prime alternates schema
names_keys layout least prime alternates schema h =
    let few = passed (ltb 8 (length alternates)) _ _ h.0 h.1 in
    let t = then_key (key_of_item least [] Prime (field_of layout prime)) (λ key. keys_behind layout least (key ∷ []) alternates) h.0 few.1 in
    let rest = all_named layout least alternates (t.0 ∷ []) h.0 t.2 in
    let keys : HasKeys schema (t.0 ∷ rest.0) = subst (HasKeys schema) rest.1 h.2 in
    record {
      greatest = h.4;
      first = t.0;
      others = rest.0;
      sorted = keys.0;
      prime_is = named layout least [] Prime prime t.0 t.1;
      others_are = rest.2;
      order = keys.2;
      keys = keys.1;
    }

-- ---- keys that are named are given, where they make a schema

neither : (a b : Bool) → a ≡ false → b ≡ false → (a || b) ≡ false
neither true b e f = e
neither false b e f = f

differ : (m n : ℕ) → m ≢ n → eqb m n ≡ false
differ m n apart = by_test (eqb m n) refl
  where
    by_test : (b : Bool) → eqb m n ≡ b → b ≡ false
    by_test true e = absurd (apart ((Decides-eqb m n).0 e))
    by_test false e = refl

-- whether one of the keys begins here
abbrev begins_at : List KeyPart → ℕ → Bool
begins_at keys n = list_any (λ key. eqb key.offset n) keys

item_taken : (least : ℕ) (keys : List KeyPart) (kind : KeyKind) (found : Option Field) (key : KeyPart) → IsKey least key → begins_at keys key.offset ≡ false → option_map (λ (field : Field). let part : KeyPart = record { offset = field.offset; length = field.length; kind = kind } in part) found ≡ Some key → key_of_item least keys kind found ≡ Ok key
item_taken least keys kind None key whole apart e = absurd (cc)
item_taken least keys kind (Some field) key whole apart e =
    let same : record { offset = field.offset; length = field.length; kind = kind } ≡ key = same_Some _ key e in
    let offset : field.offset ≡ key.offset = ap (λ (k : KeyPart). k.offset) same in
    let size : field.length ≡ key.length = ap (λ (k : KeyPart). k.length) same in
    let short : ltb 250 field.length ≡ false = at_most 250 field.length (omega (arith, size, whole.short)) in
    let first : begins_one keys field ≡ false = ap (begins_at keys) offset ∙ apart in
    let within : ltb least (field.offset + field.length) ≡ false = at_most least (field.offset + field.length) (omega (arith, offset, size, whole.within)) in
    rw (short, first, within) (ap Ok same)
  where
    at_most : (m n : ℕ) → n ≤ m → ltb m n ≡ false
    at_most m n h = grind (arith, nat_tests)

cons_parts : (x y : Option KeyPart) (xs ys : List (Option KeyPart)) → x ∷ xs ≡ y ∷ ys → (x ≡ y) × (xs ≡ ys)
cons_parts x y xs ys e = (ap (λ (l : List (Option KeyPart)). get_or l 0 x) e, ap (drop 1) e)

all_given : (layout : List Placed) (least : ℕ) (clauses : List KeyClause) (keys others : List KeyPart) → All (IsKey least) others → All (λ key. begins_at keys key.offset ≡ false) others → AllPairs (λ a b. a.offset ≢ b.offset) others → keys_named layout clauses ≡ map Some others → keys_behind layout least keys clauses ≡ Ok (keys ++ others)
all_given layout least [] keys [] whole new apart e = ap Ok (sym (append-nil keys))
all_given layout least [] keys (key ∷ others) whole new apart e = absurd (cc)
all_given layout least (clause ∷ clauses) keys [] whole new apart e = absurd (cc)
all_given layout least (clause ∷ clauses) keys (key ∷ others) whole new apart e =
    let follows = λ (key : KeyPart). keys_behind layout least (keys ++ key ∷ []) clauses in
    let parts = cons_parts _ _ (keys_named layout clauses) (map Some others) e in
    let here = item_taken least keys (alternate_kind clause.duplicates) (field_of layout clause.name) key (whole 0 key (omega arith)) (new 0 key (omega arith)) parts.0 in
    let newer : All (λ other. begins_at (keys ++ key ∷ []) other.offset ≡ false) others = λ k d within.
    list_any-append (λ (one : KeyPart). eqb one.offset (get_or others k d).offset) keys (key ∷ [])
    ∙ neither _ _ (new (suc k) d (omega (arith, within)))
    (neither (eqb key.offset (get_or others k d).offset) false (differ key.offset (get_or others k d).offset (apart 0 (suc k) d (omega arith) (omega (arith, within)))) refl) in
    let later = all_given layout least clauses (keys ++ key ∷ []) others (All-tail (IsKey least) key others whole) newer
    (λ i j d before within. apart (suc i) (suc j) d (omega (arith, before)) (omega (arith, within))) parts.1 in
    ap (λ r. where_a_key r follows) here ∙ (later ∙ ap Ok (append_assoc keys (key ∷ []) others))

offsets_apart : (keys : List KeyPart) → AllPairs (λ a b. a.offset < b.offset) keys → AllPairs (λ a b. a ≢ b) (map offset_of keys)
offsets_apart keys rising = λ i j d before within same.
    let key : KeyPart = record { offset = d; length = 0; kind = Prime } in
    let less = rising i j key before (subst (λ n. j < n) (length-map keys offset_of) within) in
    absurd (omega (arith, less, sym (get_or-map offset_of keys i key) ∙ (same ∙ get_or-map offset_of keys j key)))

keys_apart : (keys : List KeyPart) → AllPairs (λ a b. a ≢ b) (map offset_of keys) → AllPairs (λ a b. a.offset ≢ b.offset) keys
keys_apart keys apart = λ i j d before within same.
    apart i j d.offset before (subst (λ n. j < n) (sym (length-map keys offset_of)) within)
    (get_or-map offset_of keys i d ∙ (same ∙ sym (get_or-map offset_of keys j d)))

-- clauses give the schema that has the keys that they name
pub gives_keys : (layout : List Placed) (prime : List ℕ) (alternates : List KeyClause) (schema : Schema) → IsSchema schema → HasNamedKeys layout prime alternates schema → GivesSchema layout schema.least prime alternates schema
gives_keys layout prime alternates schema is h =
    let least = schema.least in
    let first = h.first in
    let others = h.others in
    let back = IsPermutation-sym others h.sorted h.order in
    let keys : AreKeys (first ∷ h.sorted) = subst AreKeys h.keys is.keys in
    let whole : All (IsKey least) (first ∷ h.sorted) = subst (All (IsKey least)) h.keys is.whole in
    let each : All (IsKey least) others = All-permutation (IsKey least) h.sorted others back (All-tail (IsKey least) first h.sorted whole) in
    let off : All (λ part. part.offset ≢ first.offset) others = All-permutation (λ part. part.offset ≢ first.offset) h.sorted others back keys.1 in
    let apart = keys_apart others (moved_apart h.sorted others back (offsets_apart h.sorted keys.2)) in
    let new : All (λ key. begins_at (first ∷ []) key.offset ≡ false) others = λ k d within.
    neither (eqb first.offset (get_or others k d).offset) false (differ first.offset (get_or others k d).offset (λ e. off k d within (sym e))) refl in
    let count : length alternates ≡ length others = sym (length-map alternates _) ∙ (ap length h.others_are ∙ length-map others Some) in
    let few : ltb 8 (length alternates) ≡ false = at_most (length alternates) (omega (arith, count, length_permutation others h.sorted h.order, ap length h.keys, is.few)) in
    let prime_is = item_taken least [] Prime (field_of layout prime) first (whole 0 first (omega arith)) refl h.prime_is in
    let follows = λ (key : KeyPart). keys_behind layout least (key ∷ []) alternates in
    let given : keys_given layout least prime alternates ≡ Ok (first ∷ others) =
    rw few (ap (λ r. where_a_key r follows) prime_is ∙ all_given layout least alternates (first ∷ []) others each new apart h.others_are) in
    (first ∷ others, given, (h.sorted, h.keys, h.order), refl, h.greatest)
  where
    at_most : (n : ℕ) → n ≤ 8 → ltb 8 n ≡ false
    at_most n h = grind (arith, nat_tests)
