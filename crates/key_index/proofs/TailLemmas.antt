-- What the tree tells of an entry of an alternate key by its prime value alone.
use Rattle.std.proofs.Common.{◌≡◌, ℕ, ◌+◌, ◌^◌, ◌<◌, Bool, true, false, List, [], ◌∷◌, ◌++◌, length, drop, map, Option, None, Some, refl, sym, ap, ◌∙◌, arith}
use Rattle.std.specs.Prelude.{find, option_map, IfSome, bytes_eq, ◌&&◌, ◌==◌}
use Rattle.std.specs.Int.{bytes_high_first}
use Rattle.std.proofs.lemmas.Slice.Eq.{bytes_eq-Decides}
use Rattle.std.proofs.lemmas.Bool.Decides.{nat_tests}
use Rattle.std.proofs.lemmas.Grind.{common_steps}
use Rattle.pages.specs.Each.{Each}
use Rattle.tree_search.specs.Calls.{entry_of}
use Rattle.tree_search.specs.Tail.{filled_tail, IsTail}
use Rattle.bplus_tree.specs.Fields.{tree_shape}
use Rattle.key_index.specs.Stored.{alt_bytes, entry_to, IsAltEntry}
use Rattle.key_index.specs.Calls.{filled_entry}
use Rattle.key_index.specs.Entries.{has_rank}
use Rattle.key_index.specs.declared.entry.AltEntry.{AltEntry}
use Rattle.key_index.specs.declared.alt_index.AltIndex.{AltIndex}
use Rattle.key_index.proofs.ListLemmas.{found, found_fits}
use Rattle.key_index.proofs.KeyLemmas.{alt_has}
use Rattle.key_index.proofs.StoredLemmas.{alt_back}

-- the bytes behind the tree key of an entry are its prime value
tail_back : (w p : ℕ) (e : AltEntry) → IsAltEntry w p e → drop (w + 8) (alt_bytes e) ≡ e.prime.items
tail_back w p e fit = ap (λ (x : AltEntry). x.prime.items) (alt_back w p e fit)

-- the first that passes does
first_passes : (test : AltEntry → Bool) (xs : List AltEntry) (x : AltEntry) → find test xs ≡ Some x → test x ≡ true
first_passes test [] x is = absurd (cc)
first_passes test (y ∷ xs) x is = grind (arith, common_steps, first_passes test xs x)

both : (a b : Bool) → (a && b) ≡ true → (a ≡ true) × (b ≡ true)
both true b h = (refl, h)
both false b h = absurd (cc)

-- an entry of a value, a stamp and a prime value is the one that has them
same_entry : (v : List ℕ) (s : ℕ) (tail : List ℕ) (e : AltEntry) → has_rank v s e ≡ true → tail ≡ e.prime.items → entry_to v s tail ≡ e
same_entry v s tail e has prime =
    let is = both (bytes_eq e.value.items v) (e.stamp == s) has in
    let value : v ≡ e.value.items = sym ((bytes_eq-Decides e.value.items v).0 is.0) in
    let same = is.1 in
    let stamp : s ≡ e.stamp = grind (arith, common_steps, nat_tests) in
    λ i. record { value = record { items = value i }; stamp = stamp i; prime = record { items = prime i } }

module _ (index : AltIndex) (key value : List ℕ) (stamp : ℕ) (is_key : key ≡ value ++ bytes_high_first 8 stamp) (long : length value ≡ index.width) (fits : stamp < 2 ^ 64)
    (entries : List AltEntry) (each : Each (IsAltEntry index.width index.prime) entries) where
  entry_is : entry_of (tree_shape index.tree).width key (map alt_bytes entries) ≡ option_map alt_bytes (find (has_rank value stamp) entries)
  entry_is = found alt_bytes (IsAltEntry index.width index.prime) _ (has_rank value stamp) (alt_has index.prime index.keys key value stamp is_key long fits) entries each

  told_of : (tail : List ℕ) (told : Bool) (o : Option AltEntry) → find (has_rank value stamp) entries ≡ o → IfSome o (IsAltEntry index.width index.prime)
      → filled_tail tail told ≡ option_map (drop (tree_shape index.tree).width) (option_map alt_bytes o) → filled_entry (entry_to value stamp tail) told ≡ o
  told_of tail true None is fit same = absurd (cc)
  told_of tail false None is fit same = refl
  told_of tail false (Some e) is fit same = absurd (cc)
  told_of tail true (Some e) is fit same =
      let there : tail ≡ drop (tree_shape index.tree).width (alt_bytes e) = cc in
      let prime : tail ≡ e.prime.items = there ∙ ap (λ (n : ℕ). drop n (alt_bytes e)) index.keys ∙ tail_back index.width index.prime e fit in
      ap Some (same_entry value stamp tail e (first_passes (has_rank value stamp) entries e is) prime)

  -- the entry with the bytes that were filled in
  pub told_rank : (tail : List ℕ) (told : Bool) → IsTail (tree_shape index.tree).width tail (entry_of (tree_shape index.tree).width key (map alt_bytes entries)) told
      → filled_entry (entry_to value stamp tail) told ≡ find (has_rank value stamp) entries
  told_rank tail told tells =
      told_of tail told (find (has_rank value stamp) entries) refl (found_fits alt_bytes (IsAltEntry index.width index.prime) (has_rank value stamp) entries each)
      (tells ∙ ap (option_map (drop (tree_shape index.tree).width)) entry_is)
