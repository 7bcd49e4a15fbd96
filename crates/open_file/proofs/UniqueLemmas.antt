-- The first entry of a value of a unique key: the one of stamp 0.
use Rattle.std.proofs.Common.{◌≡◌, ℕ, ◌<◌, Bool, true, false, Result, Ok, Err, List, [], ◌∷◌, Some, None, refl, ap, sym, ◌∙◌, arith}
use Rattle.std.specs.Prelude.{find, IfErr, map, length, ◌&&◌, ◌==◌, cond, bytes_eq}
use Rattle.std.specs.Option.{option_map_or}
use Rattle.std.specs.Ordering.{nat_cmp, ordering_then, is_gt, is_eq}
use Rattle.std.specs.declared.cmp.Ordering.{Ordering}
use Rattle.std.proofs.Math.Bool.{and-true}
use Rattle.std.proofs.lemmas.Bool.{and_parts}
use Rattle.std.proofs.lemmas.Bool.Decides.{nat_tests}
use Rattle.std.proofs.lemmas.Grind.{common_steps}
use Rattle.std.proofs.lemmas.Map.Text.{is_eq-slice_cmp}
use Rattle.record_layout.specs.Schema.{Schema, key_at, has_duplicates}
use Rattle.indexed_file.specs.File.{Row, File, stamp_of}
use Rattle.io_state.specs.Rank.{value_cmp}
use Rattle.indexed_file.specs.Sound.{is_file, is_row}
use Rattle.pages.specs.Each.{Each}
use Rattle.key_index.specs.declared.entry.AltEntry.{AltEntry}
use Rattle.key_index.specs.Entries.{entry_has_value, has_rank, after_rank}
use Rattle.key_index.specs.declared.entry.AltFirst.{AltFirst}
use Rattle.key_index.specs.Calls.{IsAltFirst, filled_with}
use Rattle.io_state.specs.declared.fault.Fault.{Fault}
use Rattle.pages.specs.Answer.{IsAnswer}
use Rattle.open_file.specs.InOrder.{in_order, alt_entry, alt_entries}
use Rattle.open_file.proofs.OrderLemmas.{either}
use Rattle.open_file.proofs.PartsLemmas.{each_map}
use Rattle.open_file.proofs.RowLemmas.{each_row, stamp_zero}
use Rattle.open_file.proofs.ByKeyLemmas.{in_order_each}
use Rattle.open_file.proofs.FirstLemmas.{first_passes, same_bytes}

-- the entries of a unique key have stamp 0
entries_zero : (schema : Schema) (k : ℕ) (rows : List Row) → Each (λ row. stamp_of k row ≡ 0) rows → Each (λ (e : AltEntry). e.stamp ≡ 0) (map (alt_entry schema k) rows)
entries_zero schema k [] h = tt
entries_zero schema k (row ∷ rows) h = (h.0, entries_zero schema k rows h.1)

pub are_zero : (schema : Schema) (k : ℕ) (file : File) → is_file schema file ≡ true → k < length schema.keys
    → has_duplicates (key_at schema k) ≡ false → Each (λ (e : AltEntry). e.stamp ≡ 0) (alt_entries schema k file.rows)
are_zero schema k file sound lt one =
    let rows = each_row schema file.next_stamp file.rows (and_parts _ _ sound).1 in
    entries_zero schema k (in_order schema k file.rows)
    (in_order_each schema k (λ row. stamp_of k row ≡ 0) file.rows
    (each_map (λ row. is_row schema file.next_stamp row ≡ true) (λ row. stamp_of k row ≡ 0)
    (λ row fit. stamp_zero schema file.next_stamp k row fit lt one) file.rows rows))

same_rank : (v : List ℕ) (e : AltEntry) → e.stamp ≡ 0 → has_rank v 0 e ≡ entry_has_value v e
same_rank v e zero = ap (λ (s : ℕ). bytes_eq e.value.items v && (s == 0)) zero ∙ and-true (bytes_eq e.value.items v)

found_alike : (v : List ℕ) (entries : List AltEntry) → Each (λ (e : AltEntry). e.stamp ≡ 0) entries → find (has_rank v 0) entries ≡ find (entry_has_value v) entries
found_alike v [] h = refl
found_alike v (e ∷ entries) h = ap (λ b. cond b (Some e) (find (has_rank v 0) entries)) (same_rank v e h.0) ∙ ap (λ o. cond (entry_has_value v e) (Some e) o) (found_alike v entries h.1)

never_above : (s : ℕ) → is_gt (nat_cmp 0 s) ≡ false
never_above s = grind (arith, common_steps, nat_tests)

above : (o : Ordering) (s : ℕ) → is_gt (ordering_then o (nat_cmp 0 s)) ≡ true → is_eq o ≡ false
above o s h = grind (arith, common_steps, never_above s)

-- an entry of stamp 0 that comes after a value and stamp has another value
other : (v : List ℕ) (s : ℕ) (e : AltEntry) → e.stamp ≡ 0 → after_rank v s e ≡ true → entry_has_value v e ≡ false
other v s e zero after = sym (is_eq-slice_cmp e.value.items v) ∙ above (value_cmp e.value.items v) s (ap (λ (t : ℕ). is_gt (ordering_then (value_cmp e.value.items v) (nat_cmp t s))) (sym zero) ∙ after)

pub never_followed : (v : List ℕ) (s : ℕ) (entries : List AltEntry) → Each (λ (e : AltEntry). e.stamp ≡ 0) entries → option_map_or (entry_has_value v) (find (after_rank v s) entries) false ≡ false
never_followed v s [] h = refl
never_followed v s (e ∷ entries) h =
    either (after_rank v s e) (option_map_or (entry_has_value v) (find (after_rank v s) (e ∷ entries)) false ≡ false)
    (λ yes. ap (λ b. option_map_or (entry_has_value v) (cond b (Some e) (find (after_rank v s) entries)) false) yes ∙ other v s e h.0 yes)
    (λ no. ap (λ b. option_map_or (entry_has_value v) (cond b (Some e) (find (after_rank v s) entries)) false) no ∙ never_followed v s entries h.1)

-- an entry as the only one of its value
abbrev pub first_alone : AltEntry → AltFirst
first_alone e = record { entry = e; followed = false }

-- so what is found of stamp 0 is the first entry of the value, and is not followed
pub unique_none : (v : List ℕ) (entries : List AltEntry) → Each (λ (e : AltEntry). e.stamp ≡ 0) entries → find (has_rank v 0) entries ≡ None → IsAltFirst v entries None
unique_none v entries h none = sym (found_alike v entries h) ∙ none

pub unique_some : (v : List ℕ) (entries : List AltEntry) → Each (λ (e : AltEntry). e.stamp ≡ 0) entries → (e : AltEntry) → find (has_rank v 0) entries ≡ Some e → IsAltFirst v entries (Some (record { entry = e; followed = false }))
unique_some v entries h e found =
    let has = and_parts (bytes_eq e.value.items v) (e.stamp == 0) (first_passes (has_rank v 0) entries e found) in
    let value_is : e.value.items ≡ v = same_bytes e.value.items v has.0 in (
      sym (found_alike v entries h) ∙ found,
      sym (ap (λ (w : List ℕ). option_map_or (entry_has_value v) (find (after_rank w e.stamp) entries) false) value_is
          ∙ never_followed v e.stamp entries h),
    )

-- what is told of the entry that was filled is told of it as the first of its value
pub unique_first : (v : List ℕ) (entries : List AltEntry) → Each (λ (e : AltEntry). e.stamp ≡ 0) entries → (n : AltEntry) (r : Result Bool Fault)
    → IsAnswer (filled_with n r) (λ found. found ≡ find (has_rank v 0) entries) → IsAnswer (filled_with (first_alone n) r) (IsAltFirst v entries)
unique_first v entries h n (Ok true) told = record { answer = unique_some v entries h n (sym told.answer); no_damage = tt }
unique_first v entries h n (Ok false) told = record { answer = unique_none v entries h (sym told.answer); no_damage = tt }
unique_first v entries h n (Err fault) told = record { answer = tt; no_damage = told.no_damage }

-- a call that fills gives up for the same cause, whatever it fills
pub same_fault : {E F : Type 0} (n : E) (m : F) (C : Fault → Type 0) (r : Result Bool Fault) → IfErr (filled_with n r) C → IfErr (filled_with m r) C
same_fault n m C (Ok told) is = tt
same_fault n m C (Err fault) is = is
