use Rattle.std.proofs.Common.{List, ℕ, sym, subst, ◌∙◌}
use Rattle.std.specs.Prelude.{OnOk, filter}
use Rattle.salvaged_records.specs.Leaves.{is_entry_of}
use Rattle.salvaged_records.specs.Values.{AddsValues}
use Rattle.salvaged_records.proofs.EntryLemmas.{adds_none, of_leaf, of_other}
use Rattle.salvaged_records.proofs.leaves.add_page.Goals as goal

pub returns-then-not-is_leaf_page : goal.returns-then-not-is_leaf_page
returns-then-not-is_leaf_page c =
    subst (λ (l : List (List ℕ)). AddsValues c.args.entries.now c.args.entries.now (filter (is_entry_of c.args.values.now) l))
    (sym (of_other c.args.shape c.args.page.now (sym c.is_leaf_page.ensures ∙ c.if-not-is_leaf_page.true))) (adds_none c.args.entries.now)

pub returns : goal.returns
returns c =
    subst (λ (l : List (List ℕ)). OnOk c.add_entries.result (AddsValues c.args.entries.now c.add_entries.new.entries (filter (is_entry_of c.args.values.now) l)))
    (sym (of_leaf c.args.shape c.args.page.now (sym c.is_leaf_page.ensures ∙ c.if-not-is_leaf_page.false))) c.add_entries.ensures
