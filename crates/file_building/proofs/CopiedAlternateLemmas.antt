-- Indexes of alternate keys that are copied, one after another.
use Rattle.std.proofs.Common.{◌≡◌, ℕ, ◌+◌, ◌==◌, ◌<◌, List, [], ◌∷◌, ◌++◌, length, ap, sym, subst, ◌∙◌, arith, length-append}
use Rattle.std.specs.Prelude.{slice_index_or}
use Rattle.std.proofs.lemmas.List.{get_or_default}
use Rattle.pages.specs.PageMap.{PageMap}
use Rattle.record_layout.specs.Schema.{Schema}
use Rattle.indexed_file.specs.File.{Row, File}
use Rattle.record_heap.specs.declared.heap.Heap.{Heap}
use Rattle.key_index.specs.declared.prime_index.PrimeIndex.{PrimeIndex}
use Rattle.key_index.specs.declared.alt_index.AltIndex.{AltIndex}
use Rattle.key_index.specs.Standing.{AltChanged, CountsPrime}
use Rattle.open_file.specs.InOrder.{prime_entries, alt_entries}
use Rattle.open_file.specs.Parts.{prime_pages}
use Rattle.open_file.specs.Fields.{file_schema, prime_index_of}
use Rattle.open_file.specs.Stands.{Stands}
use Rattle.open_file.specs.declared.open_file.OpenFile.{OpenFile}
use Rattle.open_file.proofs.OrderLemmas.{either}
use Rattle.open_file.proofs.PartsLemmas.{from_eq, from_ne}
use Rattle.open_file.proofs.HeaderLemmas.{prime_entries_many, alt_entries_many}
use Rattle.file_building.specs.Rows.{RowsStandBuilt}
use Rattle.file_building.specs.CopiedEntries.{IsAlike, AreAlikeIndexes}
use Rattle.file_building.proofs.PartLemmas.{parts_more, before_last, last_here}

-- each index has as many entries as the prime index counts
pub counted_alike : (source : OpenFile) (live : PageMap) (file : File) (count k : ℕ) → Stands source live file → CountsPrime (prime_index_of source) count → count ≡ length (alt_entries (file_schema source) k file.rows)
counted_alike source live file count k stands counts =
    counts live (prime_entries (file_schema source) stands.places file.rows) (prime_pages stands.parts.owns) stands.parts.prime_stands
    ∙ prime_entries_many (file_schema source) stands.slots stands.places file.rows stands.placed.rows_at
    ∙ sym (alt_entries_many (file_schema source) k file.rows)

-- one index more stands
pub index_more : (schema : Schema) (heap : Heap) (prime : PrimeIndex) (alternates : List AltIndex) (before after : PageMap) (rows : List Row) (index : AltIndex) (j : ℕ) → length alternates ≡ j
    → RowsStandBuilt schema heap prime alternates before rows → AltChanged before after index [] (alt_entries schema (j + 1) rows) → RowsStandBuilt schema heap prime (alternates ++ index ∷ []) after rows
index_more schema heap prime alternates before after rows index j many s changed = record {
  places = s.places;
  slots = s.slots;
  placed = s.placed;
  parts = parts_more heap prime alternates before after s.slots (prime_entries schema s.places rows) (λ i. alt_entries schema (i + 1) rows) index s.parts
      (subst (λ (n : ℕ). AltChanged before after index [] (alt_entries schema (n + 1) rows)) (sym many) changed);
}

-- it is like the one at its place
pub alike_more : (old new : List AltIndex) (was is : AltIndex) (j : ℕ) → length new ≡ j → j < length old → was ≡ slice_index_or old j was → IsAlike was is → AreAlikeIndexes old new → AreAlikeIndexes old (new ++ is ∷ [])
alike_more old new was is j many inside was_at alike all i a b within a_at b_at =
    either (i == length new) (IsAlike a b)
    (λ yes. let e = from_eq i (length new) yes in
    let here : i ≡ j = e ∙ many in
    let first : a ≡ was = a_at ∙ ap (λ (n : ℕ). slice_index_or old n a) here ∙ get_or_default old j a was inside ∙ sym was_at in
    let second : b ≡ is = b_at ∙ ap (λ (n : ℕ). slice_index_or (new ++ is ∷ []) n b) e ∙ last_here new is b in
    subst (λ (x : AltIndex). IsAlike x b) (sym first) (subst (IsAlike was) (sym second) alike))
    (λ no. let early = from_ne i (length new) no in
    all i a b (omega (arith, within, early, length-append new (is ∷ []))) a_at (b_at ∙ before_last new is b i early))
