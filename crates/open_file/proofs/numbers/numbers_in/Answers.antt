use Rattle.std.proofs.Common.{◌≡◌, ℕ, map, min, sym, subst, ap, ◌∙◌}
use Rattle.record_layout.specs.Schema.{IsSchema, schema_of_fields}
use Rattle.open_file.specs.FirstPageReading.{numbers_in, schema_in_page, part_in, tree_in, key_rows_in, key_count_in}
use Rattle.open_file.proofs.numbers.numbers_in.Goals as goal

pub returns-in_err-schema-clause-schema : goal.returns-in_err-schema-clause-schema
unfolding numbers_in
returns-in_err-schema-clause-schema c =
    let page = c.args.page.now in
    let count : c.min-count.result ≡ key_count_in page = c.min-count.ensures ∙ ap (λ (n : ℕ). min n 9) c.from.ensures in
    let keys = c.deref.ensures.0 ∙ c.parts_in-keys.ensures ∙ ap (λ (n : ℕ). map part_in (key_rows_in page n)) count in
    let same : schema_of_fields c.least_in.result c.greatest_in.result c.deref.result.now ≡ schema_in_page page =
    λ i. schema_of_fields (c.least_in.ensures i) (c.greatest_in.ensures i) (keys i) in (
      λ some. let h = rw c.from_residual.ensures at some in absurd (cc),
      λ is. let h = c.in_err-schema.ensures.exact.1 (subst IsSchema (sym same) is) in absurd (cc),
    )

pub returns-clause-numbers : goal.returns-clause-numbers
unfolding numbers_in
returns-clause-numbers c =
    let page = c.args.page.now in
    let count : c.min-count.result ≡ key_count_in page = c.min-count.ensures ∙ ap (λ (n : ℕ). min n 9) c.from.ensures in
    let keys = c.deref.ensures.0 ∙ c.parts_in-keys.ensures ∙ ap (λ (n : ℕ). map part_in (key_rows_in page n)) count in
    let schema : c.in_ok-schema.schema ≡ schema_in_page page =
    c.in_ok-schema.ensures.schema ∙ λ i. schema_of_fields (c.least_in.ensures i) (c.greatest_in.ensures i) (keys i) in
    let trees = c.trees_in.ensures ∙ ap (λ (n : ℕ). map tree_in (key_rows_in page n)) count in
    λ i. record {
      schema = schema i;
      pages = c.read_u32.ensures i;
      first_free = c.read_u32-2.ensures i;
      free = c.read_u32-3.ensures i;
      first_heap = c.read_u32-4.ensures i;
      free_slot_page = c.read_u32-5.ensures i;
      free_slot = c.read_u16.ensures i;
      next_stamp = c.read_u64.ensures i;
      records = c.read_u64-2.ensures i;
      trees = record { items = trees i };
    }

pub returns-clause-schema : goal.returns-clause-schema
unfolding numbers_in
returns-clause-schema c =
    let page = c.args.page.now in
    let count : c.min-count.result ≡ key_count_in page = c.min-count.ensures ∙ ap (λ (n : ℕ). min n 9) c.from.ensures in
    let keys = c.deref.ensures.0 ∙ c.parts_in-keys.ensures ∙ ap (λ (n : ℕ). map part_in (key_rows_in page n)) count in
    let same : schema_of_fields c.least_in.result c.greatest_in.result c.deref.result.now ≡ schema_in_page page =
    λ i. schema_of_fields (c.least_in.ensures i) (c.greatest_in.ensures i) (keys i) in (
      λ some. subst IsSchema same (c.in_ok-schema.ensures.exact.0 some),
      λ is. c.in_ok-schema.ensures.exact.1 (subst IsSchema (sym same) is),
    )
