-- What the tree tells of a prime value without its entry.
use Rattle.std.proofs.Common.{◌≡◌, ◌≢◌, ℕ, ◌+◌, Bool, true, false, cond, List, [], ◌∷◌, length, drop, map, Option, None, Some, refl, sym, ap, ◌∙◌, arith}
use Rattle.std.specs.Prelude.{find, option_map, IfSome, is_some}
use Rattle.std.proofs.lemmas.List.{drop-drop}
use Rattle.std.proofs.lemmas.Slice.Eq.{bytes_eq-Decides}
use Rattle.std.proofs.lemmas.Grind.{common_steps}
use Rattle.tree_node.proofs.OrderLemmas.{either}
use Rattle.byteorder.specs.Endian.{big_number}
use Rattle.pages.specs.Each.{Each}
use Rattle.record_heap.specs.declared.shape.Place.{Place}
use Rattle.tree_search.specs.Calls.{entry_of}
use Rattle.tree_search.specs.Tail.{filled_tail, IsTail, TellsPresence}
use Rattle.bplus_tree.specs.Fields.{tree_shape}
use Rattle.key_index.specs.Stored.{prime_bytes, place_in, entry_at, IsPrimeEntry}
use Rattle.key_index.specs.Entries.{has_prime}
use Rattle.key_index.specs.declared.entry.PrimeEntry.{PrimeEntry}
use Rattle.key_index.specs.declared.prime_index.PrimeIndex.{PrimeIndex}
use Rattle.key_index.proofs.ListLemmas.{found, found_fits}
use Rattle.key_index.proofs.KeyLemmas.{prime_has}
use Rattle.key_index.proofs.StoredLemmas.{prime_back}

-- the bytes behind the value of an entry are its place
place_back : (w : ℕ) (e : PrimeEntry) → IsPrimeEntry w e → place_in (drop w (prime_bytes e)) ≡ e.place
place_back w e fit =
    let at : List ℕ → Place = λ l. record { page = big_number 4 (drop w (prime_bytes e)); slot = big_number 2 l } in
    let slot : drop 4 (drop w (prime_bytes e)) ≡ drop (w + 4) (prime_bytes e) = drop-drop 4 w (prime_bytes e) ∙ ap (λ (n : ℕ). drop n (prime_bytes e)) (omega arith) in
    ap at slot ∙ ap (λ (x : PrimeEntry). x.place) (prime_back w e fit)

-- the first that passes does
first_passes : (test : PrimeEntry → Bool) (xs : List PrimeEntry) (x : PrimeEntry) → find test xs ≡ Some x → test x ≡ true
first_passes test [] x is = absurd (cc)
first_passes test (y ∷ xs) x is = grind (arith, common_steps, first_passes test xs x)

-- no entry has a value of another length
pub no_prime : (w : ℕ) (v : List ℕ) → length v ≢ w → (entries : List PrimeEntry) → Each (IsPrimeEntry w) entries → find (has_prime v) entries ≡ None
no_prime w v other [] each = refl
no_prime w v other (e ∷ entries) each =
    ap (λ b. cond b (Some e) (find (has_prime v) entries)) miss ∙ no_prime w v other entries each.1
  where
    miss : has_prime v e ≡ false
    miss = either (has_prime v e) (has_prime v e ≡ false)
        (λ yes. absurd (other (sym (ap length ((bytes_eq-Decides e.value.items v).0 yes)) ∙ each.0.long))) (λ no. no)

-- an entry of a value is that value with its place
at_value : (v : List ℕ) (entries : List PrimeEntry) (o : Option PrimeEntry) → find (has_prime v) entries ≡ o → option_map (entry_at v) (option_map (λ e. e.place) o) ≡ o
at_value v entries None is = refl
at_value v entries (Some e) is =
    let same : v ≡ e.value.items = sym ((bytes_eq-Decides e.value.items v).0 (first_passes (has_prime v) entries e is)) in
    ap Some (λ i. record { value = record { items = same i }; place = e.place })

pub entry_found : (v : List ℕ) (entries : List PrimeEntry) (place : Option Place) → place ≡ option_map (λ e. e.place) (find (has_prime v) entries)
    → option_map (entry_at v) place ≡ find (has_prime v) entries
entry_found v entries place is = ap (option_map (entry_at v)) is ∙ at_value v entries (find (has_prime v) entries) refl

module _ (index : PrimeIndex) (value : List ℕ) (entries : List PrimeEntry) (each : Each (IsPrimeEntry index.width) entries) where
  entry_is : entry_of (tree_shape index.tree).width value (map prime_bytes entries) ≡ option_map prime_bytes (find (has_prime value) entries)
  entry_is = found prime_bytes (IsPrimeEntry index.width) _ (has_prime value) (prime_has index.keys value) entries each

  placed : (o : Option PrimeEntry) → IfSome o (IsPrimeEntry index.width) → option_map place_in (option_map (drop (tree_shape index.tree).width) (option_map prime_bytes o)) ≡ option_map (λ e. e.place) o
  placed None fit = refl
  placed (Some e) fit = ap Some (ap (λ (n : ℕ). place_in (drop n (prime_bytes e))) index.keys ∙ place_back index.width e fit)

  -- the place in the bytes that were filled in
  pub told_place : (tail : List ℕ) (told : Bool) → IsTail (tree_shape index.tree).width tail (entry_of (tree_shape index.tree).width value (map prime_bytes entries)) told
      → option_map place_in (filled_tail tail told) ≡ option_map (λ e. e.place) (find (has_prime value) entries)
  told_place tail told tells =
      ap (option_map place_in) (tells ∙ ap (option_map (drop (tree_shape index.tree).width)) entry_is)
      ∙ placed (find (has_prime value) entries) (found_fits prime_bytes (IsPrimeEntry index.width) (has_prime value) entries each)

  some_of : (o : Option PrimeEntry) → is_some (option_map prime_bytes o) ≡ is_some o
  some_of None = refl
  some_of (Some e) = refl

  pub told_there : (told : Bool) → TellsPresence (entry_of (tree_shape index.tree).width value (map prime_bytes entries)) told → told ≡ is_some (find (has_prime value) entries)
  told_there told tells = tells ∙ ap is_some entry_is ∙ some_of (find (has_prime value) entries)
