-- What an edit of the tree leaves of the entries of an index.
use Rattle.std.proofs.Common.{◌≡◌, ◌≢◌, ℕ, ◌+◌, ◌^◌, ◌<◌, Bool, true, false, not, cond, List, [], ◌∷◌, ◌++◌, length, take, map, Option, None, Some, IsSome, refl, sym, ap, subst, ◌∙◌, arith, suc, Fits, w8}
use Rattle.std.specs.Prelude.{find, option_map, bytes_eq, slice_index_or, ◌&&◌, ◌==◌}
use Rattle.std.proofs.lemmas.Slice.Eq.{bytes_eq-Decides}
use Rattle.std.specs.declared.cmp.Ordering.{Ordering}
use Rattle.std.specs.declared.cmp.Ordering.TheVariants.{Equal}
use Rattle.std.specs.Ordering.{ordering_reverse, is_lt, is_eq}
use Rattle.std.specs.Int.{bytes_high_first}
use Rattle.std.proofs.lemmas.Cmp.{nat_list_cmp_total}
use Rattle.std.proofs.lemmas.Map.Text.{is_eq-slice_cmp}
use Rattle.arrayvec.specs.ArrayVec.{ArrayVec}
use Rattle.pages.specs.Each.{Each}
use Rattle.pages.specs.PageMap.{PageMap}
use Rattle.tree_node.specs.Order.{less}
use Rattle.bplus_tree.specs.declared.tree.Tree.{Tree}
use Rattle.bplus_tree.specs.Edits.{with_entry, without_key}
use Rattle.bplus_tree.specs.Standing.{TreeStands, HasInserted, HasRemoved}
use Rattle.bplus_tree.specs.Fields.{tree_shape}
use Rattle.io_state.specs.Rank.{value_cmp, rank_cmp}
use Rattle.key_index.specs.Stored.{prime_bytes, alt_bytes, IsPrimeEntry, IsAltEntry}
use Rattle.key_index.specs.Entries.{has_prime, has_rank, with_prime, with_alt, without_prime, without_rank}
use Rattle.key_index.specs.Calls.{PrimeHasAdded, PrimeHasRemoved, AltHasAdded, AltHasRemoved}
use Rattle.key_index.specs.declared.entry.PrimeEntry.{PrimeEntry}
use Rattle.key_index.specs.declared.entry.AltEntry.{AltEntry}
use Rattle.key_index.specs.declared.prime_index.PrimeIndex.{PrimeIndex}
use Rattle.key_index.specs.declared.alt_index.AltIndex.{AltIndex}
use Rattle.key_index.proofs.OrderLemmas.{ranks}
use Rattle.key_index.proofs.ListLemmas.{found, filtered, filtered_fits}
use Rattle.key_index.proofs.KeyLemmas.{prime_key, prime_key_at, alt_key, alt_key_at, prime_has, alt_has}

none_back : {X : Type 0} (bytes : X → List ℕ) (o : Option X) → option_map bytes o ≡ None → o ≡ None
none_back bytes None h = refl
none_back bytes (Some x) h = cc

some_back : {X : Type 0} (bytes : X → List ℕ) (o : Option X) (y : List ℕ) → option_map bytes o ≡ Some y → IsSome o
some_back bytes None y h = cc
some_back bytes (Some x) y h = refl

-- ---- the prime index

turned : (o : Ordering) → is_eq o ≡ false → is_lt o ≡ not (is_lt (ordering_reverse o))
turned Equal h = cc
turned o h = refl

-- of two entries of other values one comes first
prime_less : (w : ℕ) (x e : PrimeEntry) → IsPrimeEntry w x → IsPrimeEntry w e → has_prime e.value.items x ≡ false
    → less (take w (prime_bytes x)) (take w (prime_bytes e)) ≡ not (is_lt (value_cmp e.value.items x.value.items))
unfolding less
prime_less w x e fx fe other =
    ap (λ (l : List ℕ). less l (take w (prime_bytes e))) (prime_key w x fx)
    ∙ ap (λ (l : List ℕ). less x.value.items l) (prime_key w e fe)
    ∙ turned (value_cmp x.value.items e.value.items) (is_eq-slice_cmp x.value.items e.value.items ∙ other)
    ∙ ap (λ o. not (is_lt o)) (sym (nat_list_cmp_total.antisymm e.value.items x.value.items))

prime_put : (w : ℕ) (e : PrimeEntry) → IsPrimeEntry w e → (xs : List PrimeEntry) → Each (IsPrimeEntry w) xs → find (has_prime e.value.items) xs ≡ None
    → with_entry w (prime_bytes e) (map prime_bytes xs) ≡ map prime_bytes (with_prime e xs)
prime_put w e fe [] fit absent = refl
prime_put w e fe (x ∷ xs) fit absent = by_test (prime_put w e fe xs fit.1) (has_prime e.value.items x) refl absent
  where
    by_order : with_entry w (prime_bytes e) (map prime_bytes xs) ≡ map prime_bytes (with_prime e xs) → (b : Bool)
        → cond (not b) (prime_bytes x ∷ with_entry w (prime_bytes e) (map prime_bytes xs)) (prime_bytes e ∷ prime_bytes x ∷ map prime_bytes xs)
        ≡ map prime_bytes (cond b (e ∷ x ∷ xs) (x ∷ with_prime e xs))
    by_order rest true = refl
    by_order rest false = ap (λ (l : List (List ℕ)). prime_bytes x ∷ l) rest

    by_test : (find (has_prime e.value.items) xs ≡ None → with_entry w (prime_bytes e) (map prime_bytes xs) ≡ map prime_bytes (with_prime e xs))
        → (b : Bool) → has_prime e.value.items x ≡ b → cond b (Some x) (find (has_prime e.value.items) xs) ≡ None
        → with_entry w (prime_bytes e) (map prime_bytes (x ∷ xs)) ≡ map prime_bytes (with_prime e (x ∷ xs))
    by_test rest true is h = cc
    by_test rest false is h =
        ap (λ b. cond b (prime_bytes x ∷ with_entry w (prime_bytes e) (map prime_bytes xs)) (prime_bytes e ∷ prime_bytes x ∷ map prime_bytes xs))
        (prime_less w x e fit.0 fe is)
        ∙ by_order (rest h) (is_lt (value_cmp e.value.items x.value.items))

prime_put_fits : (w : ℕ) (e : PrimeEntry) → IsPrimeEntry w e → (xs : List PrimeEntry) → Each (IsPrimeEntry w) xs → Each (IsPrimeEntry w) (with_prime e xs)
prime_put_fits w e fe [] fit = (fe, tt)
prime_put_fits w e fe (x ∷ xs) fit = by_test (prime_put_fits w e fe xs fit.1) (is_lt (value_cmp e.value.items x.value.items))
  where
    by_test : Each (IsPrimeEntry w) (with_prime e xs) → (b : Bool) → Each (IsPrimeEntry w) (cond b (e ∷ x ∷ xs) (x ∷ with_prime e xs))
    by_test rest true = (fe, (fit.0, fit.1))
    by_test rest false = (fit.0, rest)

module _ (before after : PageMap) (old : PrimeIndex) (entries : List PrimeEntry) (own : List ℕ) (each : Each (IsPrimeEntry old.width) entries) where
  prime_rows : (k : List ℕ) → find (λ r. bytes_eq (take (tree_shape old.tree).width r) k) (map prime_bytes entries) ≡ option_map prime_bytes (find (has_prime k) entries)
  prime_rows k = found prime_bytes (IsPrimeEntry old.width) _ (has_prime k) (prime_has old.keys k) entries each

  module _ (e : PrimeEntry) (fits : IsPrimeEntry old.width e) where
    prime_looked : find (λ r. bytes_eq (take (tree_shape old.tree).width r) (take (tree_shape old.tree).width (prime_bytes e))) (map prime_bytes entries)
        ≡ option_map prime_bytes (find (has_prime e.value.items) entries)
    prime_looked =
        ap (λ (k : List ℕ). find (λ r. bytes_eq (take (tree_shape old.tree).width r) k) (map prime_bytes entries))
        (prime_key_at old.keys e fits)
        ∙ prime_rows e.value.items

    pub prime_added : (new : PrimeIndex) → new.width ≡ old.width → HasInserted before after old.tree new.tree (prime_bytes e) (map prime_bytes entries) own None
        → PrimeHasAdded before after old new e entries own true
    prime_added new width h =
        let absent : find (has_prime e.value.items) entries ≡ None = none_back prime_bytes (find (has_prime e.value.items) entries) (sym prime_looked ∙ h.0) in
        let rows : with_entry (tree_shape old.tree).width (prime_bytes e) (map prime_bytes entries) ≡ map prime_bytes (with_prime e entries) =
        ap (λ (n : ℕ). with_entry n (prime_bytes e) (map prime_bytes entries)) old.keys ∙ prime_put old.width e fits entries each absent in (
          absent,
          record {
            own_now = h.1.own_now;
            stands = record {
              tree = subst (λ (l : List (List ℕ)). TreeStands new.tree after l h.1.own_now) rows h.1.stands;
              each = subst (λ (n : ℕ). Each (IsPrimeEntry n) (with_prime e entries)) (sym width) (prime_put_fits old.width e fits entries each);
            };
            changes = h.1.changes;
          },
        )

    pub prime_there : (tree : Tree) (earlier : ArrayVec ℕ) → HasInserted before after old.tree tree (prime_bytes e) (map prime_bytes entries) own (Some earlier)
        → PrimeHasAdded before after old old e entries own false
    prime_there tree earlier h =
        (some_back prime_bytes (find (has_prime e.value.items) entries) earlier.items (sym prime_looked ∙ h.0), h.1, refl)

  pub prime_removed : (k : List ℕ) (new : PrimeIndex) (removed : ArrayVec ℕ) → new.width ≡ old.width → HasRemoved before after old.tree new.tree k (map prime_bytes entries) own (Some removed)
      → PrimeHasRemoved before after old new k entries own true
  prime_removed k new removed width h =
      let rows : without_key (tree_shape old.tree).width k (map prime_bytes entries) ≡ map prime_bytes (without_prime k entries) =
      filtered prime_bytes (IsPrimeEntry old.width) _ (has_prime k) (prime_has old.keys k) entries each in (
        some_back prime_bytes (find (has_prime k) entries) removed.items (sym (prime_rows k) ∙ h.0),
        record {
          own_now = h.1.own_now;
          stands = record {
            tree = subst (λ (l : List (List ℕ)). TreeStands new.tree after l h.1.own_now) rows h.1.stands;
            each = subst (λ (n : ℕ). Each (IsPrimeEntry n) (without_prime k entries)) (sym width) (filtered_fits prime_bytes (IsPrimeEntry old.width) (λ e. not (has_prime k e)) entries each);
          };
          changes = h.1.changes;
        },
      )

  pub prime_absent : (k : List ℕ) (tree : Tree) → HasRemoved before after old.tree tree k (map prime_bytes entries) own None
      → PrimeHasRemoved before after old old k entries own false
  prime_absent k tree h = (none_back prime_bytes (find (has_prime k) entries) (sym (prime_rows k) ∙ h.0), h.1, refl)

-- ---- an alternate index

alt_less : (w p : ℕ) (x e : AltEntry) → IsAltEntry w p x → IsAltEntry w p e
    → less (take (w + 8) (alt_bytes x)) (take (w + 8) (alt_bytes e)) ≡ is_lt (rank_cmp x.value.items x.stamp e.value.items e.stamp)
unfolding less
alt_less w p x e fx fe =
    ap (λ (l : List ℕ). less l (take (w + 8) (alt_bytes e))) (alt_key w p x fx)
    ∙ ap (λ (l : List ℕ). less (x.value.items ++ bytes_high_first 8 x.stamp) l) (alt_key w p e fe)
    ∙ ap is_lt (ranks x.value.items e.value.items x.stamp e.stamp (fx.long ∙ sym fe.long) fx.stamp fe.stamp)

alt_put : (w p : ℕ) (e : AltEntry) → IsAltEntry w p e → (xs : List AltEntry) → Each (IsAltEntry w p) xs
    → with_entry (w + 8) (alt_bytes e) (map alt_bytes xs) ≡ map alt_bytes (with_alt e xs)
alt_put w p e fe [] fit = refl
alt_put w p e fe (x ∷ xs) fit =
    ap (λ b. cond b (alt_bytes x ∷ with_entry (w + 8) (alt_bytes e) (map alt_bytes xs)) (alt_bytes e ∷ alt_bytes x ∷ map alt_bytes xs)) (alt_less w p x e fit.0 fe)
    ∙ by_order (alt_put w p e fe xs fit.1) (is_lt (rank_cmp x.value.items x.stamp e.value.items e.stamp))
  where
    by_order : with_entry (w + 8) (alt_bytes e) (map alt_bytes xs) ≡ map alt_bytes (with_alt e xs) → (b : Bool)
        → cond b (alt_bytes x ∷ with_entry (w + 8) (alt_bytes e) (map alt_bytes xs)) (alt_bytes e ∷ alt_bytes x ∷ map alt_bytes xs)
        ≡ map alt_bytes (cond b (x ∷ with_alt e xs) (e ∷ x ∷ xs))
    by_order rest true = ap (λ (l : List (List ℕ)). alt_bytes x ∷ l) rest
    by_order rest false = refl

alt_put_fits : (w p : ℕ) (e : AltEntry) → IsAltEntry w p e → (xs : List AltEntry) → Each (IsAltEntry w p) xs → Each (IsAltEntry w p) (with_alt e xs)
alt_put_fits w p e fe [] fit = (fe, tt)
alt_put_fits w p e fe (x ∷ xs) fit = by_test (alt_put_fits w p e fe xs fit.1) (is_lt (rank_cmp x.value.items x.stamp e.value.items e.stamp))
  where
    by_test : Each (IsAltEntry w p) (with_alt e xs) → (b : Bool) → Each (IsAltEntry w p) (cond b (x ∷ with_alt e xs) (e ∷ x ∷ xs))
    by_test rest true = (fit.0, rest)
    by_test rest false = (fe, (fit.0, fit.1))

-- the index is for values of these lengths
pub record IsOf (width prime : ℕ) (index : AltIndex) : Type 0 where
  pub width_is : index.width ≡ width
  pub prime_is : index.prime ≡ prime

alt_each : (old new : AltIndex) (entries : List AltEntry) → IsOf old.width old.prime new → Each (IsAltEntry old.width old.prime) entries → Each (IsAltEntry new.width new.prime) entries
alt_each old new entries of each =
    subst (λ (n : ℕ). Each (IsAltEntry n new.prime) entries) (sym of.width_is) (subst (λ (n : ℕ). Each (IsAltEntry old.width n) entries) (sym of.prime_is) each)

module _ (before after : PageMap) (old : AltIndex) (entries : List AltEntry) (own : List ℕ) (each : Each (IsAltEntry old.width old.prime) entries) where
  module _ (key k : List ℕ) (t : ℕ) (is : key ≡ k ++ bytes_high_first 8 t) (long : length k ≡ old.width) (small : t < 2 ^ 64) where
    alt_rows : find (λ r. bytes_eq (take (tree_shape old.tree).width r) key) (map alt_bytes entries) ≡ option_map alt_bytes (find (has_rank k t) entries)
    alt_rows =
        found alt_bytes (IsAltEntry old.width old.prime) _ (has_rank k t) (alt_has old.prime old.keys key k t is long small) entries each

    pub alt_removed : (new : AltIndex) (removed : ArrayVec ℕ) → IsOf old.width old.prime new
        → HasRemoved before after old.tree new.tree key (map alt_bytes entries) own (Some removed)
        → AltHasRemoved before after old new k t entries own true
    alt_removed new removed of h =
        let rows : without_key (tree_shape old.tree).width key (map alt_bytes entries) ≡ map alt_bytes (without_rank k t entries) =
        filtered alt_bytes (IsAltEntry old.width old.prime) _ (has_rank k t)
        (alt_has old.prime old.keys key k t is long small) entries each in (
          some_back alt_bytes (find (has_rank k t) entries) removed.items (sym alt_rows ∙ h.0),
          record {
            own_now = h.1.own_now;
            stands = record {
              tree = subst (λ (l : List (List ℕ)). TreeStands new.tree after l h.1.own_now) rows h.1.stands;
              each = alt_each old new (without_rank k t entries) of (filtered_fits alt_bytes (IsAltEntry old.width old.prime) (λ e. not (has_rank k t e)) entries each);
            };
            changes = h.1.changes;
          },
        )

    pub alt_absent : (tree : Tree) → HasRemoved before after old.tree tree key (map alt_bytes entries) own None
        → AltHasRemoved before after old old k t entries own false
    alt_absent tree h = (none_back alt_bytes (find (has_rank k t) entries) (sym alt_rows ∙ h.0), h.1, refl)

  module _ (e : AltEntry) (fits : IsAltEntry old.width old.prime e) where
    alt_looked : find (λ r. bytes_eq (take (tree_shape old.tree).width r) (take (tree_shape old.tree).width (alt_bytes e))) (map alt_bytes entries)
        ≡ option_map alt_bytes (find (has_rank e.value.items e.stamp) entries)
    alt_looked =
        ap (λ (k : List ℕ). find (λ r. bytes_eq (take (tree_shape old.tree).width r) k) (map alt_bytes entries))
        (alt_key_at old.prime old.keys e fits)
        ∙ alt_rows (e.value.items ++ bytes_high_first 8 e.stamp) e.value.items e.stamp refl fits.long fits.stamp

    pub alt_added : (new : AltIndex) → IsOf old.width old.prime new → HasInserted before after old.tree new.tree (alt_bytes e) (map alt_bytes entries) own None
        → AltHasAdded before after old new e entries own true
    alt_added new of h =
        let rows : with_entry (tree_shape old.tree).width (alt_bytes e) (map alt_bytes entries) ≡ map alt_bytes (with_alt e entries) =
        ap (λ (n : ℕ). with_entry n (alt_bytes e) (map alt_bytes entries)) old.keys ∙ alt_put old.width old.prime e fits entries each in (
          none_back alt_bytes (find (has_rank e.value.items e.stamp) entries) (sym alt_looked ∙ h.0),
          record {
            own_now = h.1.own_now;
            stands = record {
              tree = subst (λ (l : List (List ℕ)). TreeStands new.tree after l h.1.own_now) rows h.1.stands;
              each = alt_each old new (with_alt e entries) of (alt_put_fits old.width old.prime e fits entries each);
            };
            changes = h.1.changes;
          },
        )

    pub alt_there : (tree : Tree) (earlier : ArrayVec ℕ) → HasInserted before after old.tree tree (alt_bytes e) (map alt_bytes entries) own (Some earlier)
        → AltHasAdded before after old old e entries own false
    alt_there tree earlier h =
        (some_back alt_bytes (find (has_rank e.value.items e.stamp) entries) earlier.items (sym alt_looked ∙ h.0), h.1, refl)

-- no entry has a value of another length
module _ (w p : ℕ) (k : List ℕ) (t : ℕ) (other : length k ≢ w) where
  other_rank : (e : AltEntry) → IsAltEntry w p e → has_rank k t e ≡ false
  other_rank e fit = by_test (bytes_eq e.value.items k) refl
    where
      by_test : (b : Bool) → bytes_eq e.value.items k ≡ b → has_rank k t e ≡ false
      by_test true is = absurd (other (ap length (sym ((bytes_eq-Decides e.value.items k).0 is)) ∙ fit.long))
      by_test false is = ap (λ b. b && (e.stamp == t)) is

  pub no_rank : (entries : List AltEntry) → Each (IsAltEntry w p) entries → find (has_rank k t) entries ≡ None
  no_rank [] fit = refl
  no_rank (e ∷ es) fit = ap (λ b. cond b (Some e) (find (has_rank k t) es)) (other_rank e fit.0) ∙ no_rank es fit.1

-- the bytes of a value are bytes
pub each_byte : (xs : List ℕ) → ((i : ℕ) → Fits w8 (slice_index_or xs i 0)) → Each (λ b. b < 256) xs
each_byte [] h = tt
each_byte (x ∷ xs) h = (let fit : Fits w8 x = h 0 in omega arith, each_byte xs (λ i. h (suc i)))
