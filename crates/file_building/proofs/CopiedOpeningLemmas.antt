-- The file that is made of parts which were copied from another.
use Rattle.std.proofs.Common.{◌≡◌, ◌+◌, ◌<◌, ℕ, List, length, Result, IsTrue, sym, ap, subst, ◌∙◌, arith}
use Rattle.io_state.specs.declared.fault.Fault.{Fault}
use Rattle.indexed_file.specs.Sound.{is_file}
use Rattle.pages.specs.Answer.{IsAnswer}
use Rattle.record_heap.specs.declared.heap.Heap.{Heap}
use Rattle.record_heap.specs.declared.shape.SlotShape.{SlotShape}
use Rattle.key_index.specs.declared.prime_index.PrimeIndex.{PrimeIndex}
use Rattle.key_index.specs.declared.alt_index.AltIndex.{AltIndex}
use Rattle.open_file.specs.Fields.{file_schema, next_stamp_of, alternates_of}
use Rattle.open_file.specs.Stands.{Stands, IsShaped}
use Rattle.open_file.specs.declared.open_file.OpenFile.{OpenFile}
use Rattle.open_file.proofs.PartsLemmas.{found_at}
use Rattle.file_building.specs.Opening.{ArePartsFor, OpensBuilt}
use Rattle.file_building.specs.CopiedOpening.{ArePartsLike, OpensParts}

module _ (source : OpenFile) (heap : Heap) (prime : PrimeIndex) (alternates : List AltIndex) (shaped : IsShaped source)
    (many : length alternates ≡ length (alternates_of source)) where
  -- an index for each alternate key
  pub as_many : length (file_schema source).keys ≡ length alternates + 1
  as_many = shaped.keys ∙ ap (λ (n : ℕ). n + 1) (sym many)

  -- parts that are like those of the file are made for its schema
  for_schema : ArePartsLike source heap prime alternates → ArePartsFor (file_schema source) heap prime alternates
  for_schema like = record {
    slots_are = record {
      stamps = ap (λ (s : SlotShape). s.stamps) like.slots_are ∙ shaped.stamps;
      least = ap (λ (s : SlotShape). s.least) like.slots_are ∙ shaped.least;
      greatest = ap (λ (s : SlotShape). s.greatest) like.slots_are ∙ shaped.greatest;
    };
    width_is = like.width_is ∙ shaped.prime_width;
    indexes = record {
      each = λ j index within at.
          let inside : j < length (alternates_of source) = omega (arith, within, many) in
          let was = found_at (alternates_of source) j inside in
          let alike = like.alike j was.0 index within was.1 at in
          let w = shaped.widths j was.0 inside was.1 in
          record {
            key_is = alike.key_is ∙ shaped.numbers j was.0 inside was.1;
            width_is = alike.width_is ∙ w.0;
            prime_is = alike.prime_is ∙ w.1;
          };
      many = as_many;
    };
  }

  pub opens_like : (result : Result OpenFile Fault) → OpensBuilt (file_schema source) (next_stamp_of source) heap prime alternates result → OpensParts source heap prime alternates result
  opens_like result opens = record {
    stands = λ old pages file stands rows like behind.
        let is = subst (λ (n : ℕ). IsTrue (is_file (file_schema source) (record { rows = file.rows; next_stamp = n }))) (sym stands.stamp) stands.sound in
        subst (λ (n : ℕ). IsAnswer result (λ opened. Stands opened pages (record { rows = file.rows; next_stamp = n }))) stands.stamp
        (opens.stands pages file.rows is stands.few rows (for_schema like) behind);
    made = opens.made;
    damage = opens.damage;
  }
