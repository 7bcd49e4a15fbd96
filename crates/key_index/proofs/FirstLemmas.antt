-- The first entry of a value, from what the tree tells of the range of its tree keys.
use Rattle.std.proofs.Common.{◌≡◌, ◌≢◌, ℕ, ◌-◌, ◌^◌, ◌≤◌, Bool, true, false, not, cond, List, [], ◌∷◌, ◌++◌, length, take, map, Option, None, Some, Result, Ok, Err, refl, sym, ap, ◌∙◌, arith}
use Rattle.std.specs.Prelude.{find, option_map, IfSome, IfErr, ◌&&◌}
use Rattle.std.specs.Option.{option_map_or}
use Rattle.std.specs.Int.{bytes_high_first}
use Rattle.std.specs.Ordering.{nat_cmp, ordering_then, is_lt, is_gt, is_eq}
use Rattle.std.specs.declared.cmp.Ordering.{Ordering}
use Rattle.std.specs.declared.cmp.Ordering.TheVariants.{Equal}
use Rattle.std.proofs.lemmas.Map.Text.{is_eq-slice_cmp}
use Rattle.std.proofs.lemmas.Bool.Decides.{nat_tests}
use Rattle.std.proofs.lemmas.Slice.Eq.{bytes_eq-Decides}
use Rattle.std.proofs.lemmas.Grind.{common_steps}
use Rattle.io_state.specs.declared.fault.Fault.{Fault}
use Rattle.io_state.specs.declared.fault.Fault.TheVariants.{Damage}
use Rattle.pages.specs.Each.{Each}
use Rattle.tree_node.specs.Order.{less}
use Rattle.tree_node.proofs.OrderLemmas.{either}
use Rattle.tree_search.specs.declared.range.First.{First}
use Rattle.tree_search.specs.Calls.{first_after}
use Rattle.tree_search.specs.Range.{is_within, IsFirst}
use Rattle.io_state.specs.Rank.{value_cmp}
use Rattle.bplus_tree.specs.Fields.{tree_shape}
use Rattle.key_index.specs.Stored.{alt_bytes, IsAltEntry}
use Rattle.key_index.specs.Entries.{entry_has_value, after_rank}
use Rattle.key_index.specs.Calls.{IsAltFirst, filled_with}
use Rattle.key_index.specs.declared.entry.AltFirst.{AltFirst}
use Rattle.key_index.specs.declared.entry.AltEntry.{AltEntry}
use Rattle.key_index.specs.declared.alt_index.AltIndex.{AltIndex}
use Rattle.key_index.proofs.ListLemmas.{found, found_fits}
use Rattle.key_index.proofs.KeyLemmas.{alt_key_at, alt_after}
use Rattle.key_index.proofs.OrderLemmas.{ranks}

-- neither below the least nor above the greatest stamp of a value
same_value : (o p q : Ordering) → is_lt p ≡ false → is_gt q ≡ false → (not (is_lt (ordering_then o p)) && not (is_gt (ordering_then o q))) ≡ is_eq o
same_value Equal p q low high = rw (low, high) refl
same_value o p q low high = refl

never_below : (s : ℕ) → is_lt (nat_cmp s 0) ≡ false
never_below s = grind (arith, common_steps, nat_tests)

never_above : (s t : ℕ) → s ≤ t → is_gt (nat_cmp s t) ≡ false
never_above s t h = grind (arith, common_steps, nat_tests)

abbrev answer : Option AltEntry → Result (Option AltEntry) Fault
answer o = Ok o

-- what an answer is
no_fault : (fault : Fault) (o : Option AltEntry) → Err fault ≡ Ok o → ⊥
no_fault fault o e = cc

one_entry : (a b : AltEntry) → answer (Some a) ≡ answer (Some b) → a ≡ b
one_entry a b e = cc

some_entry : (a : AltEntry) → answer None ≡ answer (Some a) → ⊥
some_entry a e = cc

abbrev first_answer : Bool → AltEntry → Result (Option AltFirst) Fault
first_answer followed entry = Ok (Some (record { entry = entry; followed = followed }))

-- what is told of an entry that was filled is told of it as the first of its value
pub first_told : (n e : AltEntry) (followed : Bool) (r : Result Bool Fault) → filled_with n r ≡ Ok (Some e)
    → filled_with {E = AltFirst} (record { entry = n; followed = followed }) r ≡ Ok (Some (record { entry = e; followed = followed }))
first_told n e followed (Ok true) told = ap (first_answer followed) (one_entry n e told)
first_told n e followed (Ok false) told = absurd (some_entry e told)
first_told n e followed (Err fault) told = absurd (no_fault fault (Some e) told)

-- a fault that is told of an entry that was filled is the call's
pub fault_told : (n : AltEntry) (r : Result Bool Fault) → IfErr (filled_with n r) (λ fault. fault ≡ Damage) → IfErr r (λ fault. fault ≡ Damage)
fault_told n (Ok told) is = tt
fault_told n (Err fault) is = is

-- no entry has a value of another length
pub no_value : (w p : ℕ) (v : List ℕ) → length v ≢ w → (entries : List AltEntry) → Each (IsAltEntry w p) entries → find (entry_has_value v) entries ≡ None
no_value w p v other [] each = refl
no_value w p v other (e ∷ entries) each =
    ap (λ b. cond b (Some e) (find (entry_has_value v) entries)) miss ∙ no_value w p v other entries each.1
  where
    miss : entry_has_value v e ≡ false
    miss = either (entry_has_value v e) (entry_has_value v e ≡ false)
        (λ yes. absurd (other (sym (ap length ((bytes_eq-Decides e.value.items v).0 yes)) ∙ each.0.long))) (λ no. no)

module _ (index : AltIndex) (v least greatest : List ℕ) (long : length v ≡ index.width) (is_least : least ≡ v ++ bytes_high_first 8 0) (is_greatest : greatest ≡ v ++ bytes_high_first 8 (2 ^ 64 - 1)) where
  -- the entries of a value are those in the range of its tree keys
  pub in_range : (e : AltEntry) → IsAltEntry index.width index.prime e → is_within (tree_shape index.tree).width least greatest (alt_bytes e) ≡ entry_has_value v e
  unfolding less
  in_range e fit =
      let stamp = fit.stamp in
      let key : take (tree_shape index.tree).width (alt_bytes e) ≡ e.value.items ++ bytes_high_first 8 e.stamp =
      alt_key_at index.prime index.keys e fit in
      let low : less (take (tree_shape index.tree).width (alt_bytes e)) least ≡ is_lt (ordering_then (value_cmp e.value.items v) (nat_cmp e.stamp 0)) =
      ap (λ (l : List ℕ). less l least) key ∙ ap (λ (l : List ℕ). less (e.value.items ++ bytes_high_first 8 e.stamp) l) is_least
      ∙ ap is_lt (ranks e.value.items v e.stamp 0 (fit.long ∙ sym long) fit.stamp (omega arith)) in
      let high : less greatest (take (tree_shape index.tree).width (alt_bytes e)) ≡ is_gt (ordering_then (value_cmp e.value.items v) (nat_cmp e.stamp (2 ^ 64 - 1))) =
      alt_after index.prime index.keys greatest v (2 ^ 64 - 1) is_greatest long (omega arith) e fit in
      ap (λ b. not b && not (less greatest (take (tree_shape index.tree).width (alt_bytes e)))) low
      ∙ ap (λ b. not (is_lt (ordering_then (value_cmp e.value.items v) (nat_cmp e.stamp 0))) && not b) high
      ∙ same_value (value_cmp e.value.items v) (nat_cmp e.stamp 0) (nat_cmp e.stamp (2 ^ 64 - 1)) (never_below e.stamp) (never_above e.stamp (2 ^ 64 - 1) (omega arith))
      ∙ is_eq-slice_cmp e.value.items v

  mapped : (o : Option AltEntry) → IfSome o (IsAltEntry index.width index.prime)
      → option_map_or (is_within (tree_shape index.tree).width least greatest) (option_map alt_bytes o) false ≡ option_map_or (entry_has_value v) o false
  mapped None fit = refl
  mapped (Some e) fit = in_range e fit

  module _ (entries : List AltEntry) (each : Each (IsAltEntry index.width index.prime) entries) where
    found_value : find (is_within (tree_shape index.tree).width least greatest) (map alt_bytes entries) ≡ option_map alt_bytes (find (entry_has_value v) entries)
    found_value = found alt_bytes (IsAltEntry index.width index.prime) (is_within (tree_shape index.tree).width least greatest) (entry_has_value v) in_range entries each

    -- no entry in the range
    pub first_none : IsFirst (tree_shape index.tree).width least greatest (map alt_bytes entries) None → find (entry_has_value v) entries ≡ None
    first_none h = unmapped (find (entry_has_value v) entries) (sym found_value ∙ h)
      where
        unmapped : (o : Option AltEntry) → option_map alt_bytes o ≡ None → o ≡ None
        unmapped None e = refl
        unmapped (Some x) e = absurd (cc)

    -- the entry of the bytes in the range
    pub record TheFirst (gave : First) : Type 0 where
      pub entry : AltEntry
      pub fits : IsAltEntry index.width index.prime entry
      pub bytes : gave.entry.items ≡ alt_bytes entry
      pub is_first : IsAltFirst v entries (Some (record { entry = entry; followed = gave.followed }))

    of_found : (gave : First) → IsFirst (tree_shape index.tree).width least greatest (map alt_bytes entries) (Some gave) → (o : Option AltEntry) → find (entry_has_value v) entries ≡ o → IfSome o (IsAltEntry index.width index.prime)
        → Some gave.entry.items ≡ option_map alt_bytes o → TheFirst gave
    of_found gave h None is fit same = absurd (cc)
    of_found gave h (Some e) is fit same =
        let bytes : gave.entry.items ≡ alt_bytes e = some_same gave.entry.items (alt_bytes e) same in
        let key : take (tree_shape index.tree).width gave.entry.items ≡ e.value.items ++ bytes_high_first 8 e.stamp =
        ap (take (tree_shape index.tree).width) bytes ∙ alt_key_at index.prime index.keys e fit in
        let next : first_after (tree_shape index.tree).width (take (tree_shape index.tree).width gave.entry.items) (map alt_bytes entries) ≡ option_map alt_bytes (find (after_rank e.value.items e.stamp) entries) =
        found alt_bytes (IsAltEntry index.width index.prime) _ (after_rank e.value.items e.stamp)
        (alt_after index.prime index.keys
        (take (tree_shape index.tree).width gave.entry.items) e.value.items e.stamp key fit.long fit.stamp) entries each in
        record {
          entry = e;
          fits = fit;
          bytes = bytes;
          is_first = (
            is,
            h.1 ∙ ap (λ (o : Option (List ℕ)). option_map_or (is_within (tree_shape index.tree).width least greatest) o false) next
                ∙ mapped (find (after_rank e.value.items e.stamp) entries) (found_fits alt_bytes (IsAltEntry index.width index.prime) (after_rank e.value.items e.stamp) entries each),
          );
        }
      where
        some_same : (a b : List ℕ) → Some a ≡ Some b → a ≡ b
        some_same a b e = cc

    pub the_first : (gave : First) → IsFirst (tree_shape index.tree).width least greatest (map alt_bytes entries) (Some gave) → TheFirst gave
    the_first gave h = of_found gave h (find (entry_has_value v) entries) refl (found_fits alt_bytes (IsAltEntry index.width index.prime) (entry_has_value v) entries each) (sym h.0 ∙ found_value)
