use Rattle.std.proofs.Common.{◌≡◌, ◌+◌, ℕ, List, [], ◌∷◌, ◌++◌, length, take, refl, ap, sym, subst, ◌∙◌, arith, length-append, length-take-le}
use Rattle.std.specs.Prelude.{nat_le}
use Rattle.std.proofs.lemmas.Bool.{and_from, le-leb}
use Rattle.tree_search.proofs.AnswerLemmas.{fails}
use Rattle.indexed_file.specs.Change.{new_row}
use Rattle.open_file.specs.Stored.{stored}
use Rattle.file_building.specs.Written.{rows_of}
use Rattle.file_building.specs.Rows.{HasRowsSoFar}
use Rattle.file_building.specs.Entries.{AreFronts}
use Rattle.file_building.proofs.StepLemmas.{handed_on}
use Rattle.file_building.proofs.EntryLemmas.{front_more}
use Rattle.file_building.proofs.WrittenLemmas.{rows_more}
use Rattle.file_building.proofs.RecordLemmas.{last_of_more, lengths_more}
use Rattle.file_building.proofs.file_builder.FileBuilder.put.Goals as goal

pub returns-in_err-push : goal.returns-in_err-push
returns-in_err-push g c =
    let old = c.args.self.now in
    let bytes = c.args.record.now in
    let row = new_row old.schema (old.count + 1) bytes in
    let value = sym c.value-value.ensures.value in
    let stamps : stored old.schema row ≡ c.as_slice.result.now ++ bytes = ap (λ (bs : List ℕ). bs ++ bytes) (sym (c.as_slice.ensures.value ∙ c.new_stamps-stamps.ensures.stamps.are)) in
    record {
      put = λ honest sound records h rise.
          fails _ _ _ c.from_residual.ensures.1 (c.in_err-push.ensures.pushes.pushed honest sound old.schema (rows_of old.schema records) row h.rows value stamps).no_damage;
      schema_is = refl;
      keeps = record { cause = handed_on _ _ _ c.from_residual.ensures.1 c.in_err-push.ensures.keeps.cause; step = c.in_err-push.ensures.keeps.step };
    }

pub returns : goal.returns
returns g c =
    let old = c.args.self.now in
    let schema = old.schema in
    let bytes = c.args.record.now in
    let row = new_row schema (old.count + 1) bytes in
    let after = (g.P.Pages.shown.state c.push.new.pages).live in
    let value = sym c.value-value.ensures.value in
    let stamps : stored schema row ≡ c.as_slice.result.now ++ bytes = ap (λ (bs : List ℕ). bs ++ bytes) (sym (c.as_slice.ensures.value ∙ c.new_stamps-stamps.ensures.stamps.are)) in
    let least : c.from-least.result ≡ schema.least = c.from-least.ensures ∙ c.least.ensures.least in
    let kept = c.push-2.ensures in
    let enough = c.requires.least in
    let fits = and_from (nat_le schema.least (length bytes)) (nat_le (length bytes) schema.greatest) (le-leb _ _ c.requires.least) (le-leb _ _ c.requires.greatest) in
    record {
      put = λ honest sound records h rise.
          let made = (c.in_ok-push.ensures.pushes.pushed honest sound schema (rows_of schema records) row h.rows value stamps).answer in
          let number : old.count + 1 ≡ 1 + length records = omega (arith, h.count) in
          let more = rows_more schema 1 records bytes in
          let rows : rows_of schema (records ++ bytes ∷ []) ≡ rows_of schema records ++ row ∷ [] = more ∙ ap (λ (n : ℕ). rows_of schema records ++ new_row schema n bytes ∷ []) (sym number) in
          record {
            answer = (
              record {
                is_schema = h.is_schema;
                rising = rise;
                lengths = lengths_more schema records bytes h.lengths fits;
                rows = subst (HasRowsSoFar schema c.push.new.self after) (sym rows) made.0;
                fronts = λ all. (let front = kept.kept all ∙ ap (λ (n : ℕ). old.fronts.bytes.items ++ take n bytes) least in
                    subst (AreFronts schema (records ++ bytes ∷ [])) (sym front) (front_more schema records old.fronts.bytes.items bytes (h.fronts (kept.were all)) (length-take-le schema.least bytes enough)));
                last = c.extract-self.ensures ∙ sym (last_of_more schema records bytes);
                count = number ∙ omega (arith, length-append records (bytes ∷ []));
              },
              made.1,
            );
            no_damage = tt;
          };
      schema_is = refl;
      keeps = record { cause = tt; step = c.push.ensures.keeps.step };
    }
