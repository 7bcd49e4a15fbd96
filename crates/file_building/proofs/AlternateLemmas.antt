-- Indexes of alternate keys that are built, one after another.
use Rattle.std.proofs.Common.{◌≡◌, ℕ, ◌+◌, ◌==◌, List, [], ◌∷◌, ◌++◌, length, ap, sym, subst, ◌∙◌, arith, length-append}
use Rattle.std.specs.Prelude.{slice_index_or}
use Rattle.pages.specs.PageMap.{PageMap}
use Rattle.record_layout.specs.Schema.{Schema}
use Rattle.indexed_file.specs.File.{Row}
use Rattle.record_heap.specs.declared.heap.Heap.{Heap}
use Rattle.key_index.specs.declared.prime_index.PrimeIndex.{PrimeIndex}
use Rattle.key_index.specs.declared.alt_index.AltIndex.{AltIndex}
use Rattle.key_index.specs.Standing.{AltChanged}
use Rattle.open_file.specs.InOrder.{prime_entries, alt_entries}
use Rattle.open_file.proofs.OrderLemmas.{either}
use Rattle.open_file.proofs.PartsLemmas.{from_eq, from_ne}
use Rattle.file_building.specs.Rows.{RowsStandBuilt}
use Rattle.file_building.specs.Alternates.{IsIndexOfKey, AreIndexesFor}
use Rattle.file_building.proofs.PartLemmas.{parts_more, before_last, last_here}

-- one index more stands
pub index_more : (schema : Schema) (heap : Heap) (prime : PrimeIndex) (alternates : List AltIndex) (before after : PageMap) (rows : List Row) (index : AltIndex)
    → RowsStandBuilt schema heap prime alternates before rows → AltChanged before after index [] (alt_entries schema (length alternates + 1) rows) → RowsStandBuilt schema heap prime (alternates ++ index ∷ []) after rows
index_more schema heap prime alternates before after rows index s changed = record {
  places = s.places;
  slots = s.slots;
  placed = s.placed;
  parts = parts_more heap prime alternates before after s.slots (prime_entries schema s.places rows) (λ i. alt_entries schema (i + 1) rows) index s.parts changed;
}

-- it is one for its key
pub index_for_more : (schema : Schema) (xs : List AltIndex) (index : AltIndex) → AreIndexesFor schema xs → IsIndexOfKey schema (length xs + 1) index → AreIndexesFor schema (xs ++ index ∷ [])
index_for_more schema xs index all one j a within at =
    either (j == length xs) (IsIndexOfKey schema (j + 1) a)
    (λ yes. let e = from_eq j (length xs) yes in
    let second : a ≡ index = at ∙ ap (λ (n : ℕ). slice_index_or (xs ++ index ∷ []) n a) e ∙ last_here xs index a in
    subst (IsIndexOfKey schema (j + 1)) (sym second) (subst (λ (n : ℕ). IsIndexOfKey schema (n + 1) index) (sym e) one))
    (λ no. let early = from_ne j (length xs) no in
    all j a (omega (arith, within, early, length-append xs (index ∷ []))) (at ∙ before_last xs index a j early))
