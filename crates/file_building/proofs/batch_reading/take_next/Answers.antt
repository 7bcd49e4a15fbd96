use Rattle.std.proofs.Common.{◌≡◌, ◌+◌, ◌-◌, suc, ℕ, [], ◌∷◌, ◌++◌, take, refl, ap, subst, ◌∙◌, arith}
use Rattle.std.specs.Prelude.{slice_range}
use Rattle.io_state.specs.declared.fault.Fault.TheVariants.{Damage}
use Rattle.indexed_file.specs.Change.{new_row}
use Rattle.tree_search.proofs.AnswerLemmas.{fails}
use Rattle.record_heap.specs.Standing.{slot_shape}
use Rattle.record_heap.specs.declared.shape.SlotShape.{SlotShape}
use Rattle.key_index.specs.declared.entry.AltEntry.{AltEntry}
use Rattle.open_file.specs.InOrder.{alt_entry}
use Rattle.file_building.specs.Batches.{EndsOffer}
use Rattle.file_building.specs.Entries.{entry_in, entry_of_new}
use Rattle.file_building.specs.Rereading.{AreAhead, entry_with_stamp}
use Rattle.file_building.specs.Written.{rows_with_stamps}
use Rattle.file_building.proofs.EntryLemmas.{entry_is}
use Rattle.file_building.proofs.SourceGivenLemmas.{given_length}
use Rattle.file_building.proofs.StepLemmas.{handed_on, damage_cause}
use Rattle.file_building.proofs.RereadLemmas.{given_unless, memory_cause, reading_held, row_long, record_behind, ends_taking}
use Rattle.file_building.proofs.batch_reading.take_next.Goals as goal

pub returns-in_err-end : goal.returns-in_err-end
returns-in_err-end g c =
    let schema = c.args.schema.now in
    let stamp = c.args.stamp in
    record {
      taken = λ honest bytes records seen ahead had.
          fails _ _ _ c.from_residual.ensures.1 (c.in_err-end.ensures.read honest schema (new_row schema stamp bytes) (rows_with_stamps schema (stamp + 1) records) ahead.rows).no_damage;
      tree_is = c.next_record.ensures.tree_is;
      same = record { above_is = refl; most_is = refl; fits = record { width_is = refl; prime_is = refl } };
      cause = handed_on _ _ _ c.from_residual.ensures.1 (reading_held _ _ _ (λ failed. failed) c.in_err-end.ensures.cause);
      reads = c.next_record.ensures.reads;
    }

pub returns-then-end-behind : goal.returns-then-end-behind
returns-then-end-behind g c =
    let schema = c.args.schema.now in
    let stamp = c.args.stamp in
    record {
      taken = λ honest bytes records seen ahead had.
          let row = new_row schema stamp bytes in
          let got = (c.in_ok-end.ensures.read honest schema row (rows_with_stamps schema (stamp + 1) records) ahead.rows).answer in
          let long = given_length schema schema bytes refl ahead.long.0 in
          let whole = row_long schema stamp _ c.in_ok-end.end bytes _ ahead.stamps long.0 got.0 in
          absurd (omega (arith, whole, c.if-end-behind.true, c.from-stamps.ensures, c.from.ensures, c.least.ensures.least, ap (λ s. s.stamps) c.shape.ensures));
      tree_is = c.next_record.ensures.tree_is;
      same = record { above_is = refl; most_is = refl; fits = record { width_is = refl; prime_is = refl } };
      cause = damage_cause _ _ Damage refl;
      reads = c.next_record.ensures.reads;
    }

pub returns : goal.returns
returns g c =
    let schema = c.args.schema.now in
    let stamp = c.args.stamp in
    let k = c.args.k in
    let e = entry_in c.of_record-entry.result in
    let area = c.next_record.new.area in
    let same : suc (k - 1) ≡ k = omega (arith, c.requires.some) in
    let stamps_is : c.from-stamps.result ≡ (slot_shape c.args.parts.now.heap).stamps = c.from-stamps.ensures ∙ ap (λ (s : SlotShape). s.stamps) c.shape.ensures in
    let least_is : c.from.result ≡ schema.least = c.from.ensures ∙ c.least.ensures.least in
    record {
      taken = λ honest bytes records seen ahead had.
          let row = new_row schema stamp bytes in
          let got = (c.in_ok-end.ensures.read honest schema row (rows_with_stamps schema (stamp + 1) records) ahead.rows).answer in
          let long = given_length schema schema bytes refl ahead.long.0 in
          let whole = row_long schema stamp _ c.in_ok-end.end bytes _ ahead.stamps long.0 got.0 in
          let front = record_behind schema stamp _ schema.least c.in_ok-end.end bytes area ahead.stamps whole got.0 in
          let told : e ≡ entry_of_new schema k stamp (take schema.least bytes) = c.of_record-entry.ensures
          ∙ ap (entry_of_new schema k stamp) ((λ i. slice_range area (stamps_is i) (stamps_is i + least_is i)) ∙ front) in
          let is : e ≡ entry_with_stamp schema k stamp bytes = told
          ∙ subst (λ (n : ℕ). entry_of_new schema n stamp (take schema.least bytes) ≡ alt_entry schema n row) same (entry_is schema stamp (k - 1) bytes c.requires.schema (omega (arith, c.requires.some, c.requires.key))) in
          let next : AreAhead schema c.args.parts.now c.next_record.new.walk _ (stamp + 1) records = record { long = ahead.long.1; stamps = ahead.stamps; rows = got.1 } in
          given_unless c.offer.result (EndsOffer c.offer.new.self (seen ++ e ∷ [])) _
          (λ rises ends. ends_taking c.offer.new.self _ _ rises next (subst (λ (x : AltEntry). EndsOffer c.offer.new.self (seen ++ x ∷ []) rises) is ends))
          (c.offer.ensures.offers.taken seen had) c.offer.ensures.only_memory;
      tree_is = c.next_record.ensures.tree_is;
      same = c.offer.ensures.offers.same;
      cause = memory_cause c.offer.result _ _ c.offer.ensures.only_memory;
      reads = c.next_record.ensures.reads;
    }
