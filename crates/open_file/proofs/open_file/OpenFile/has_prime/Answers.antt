use Rattle.std.proofs.Common.{Bool, sym, ap, ◌∙◌, ◌≡◌}
use Rattle.std.specs.Prelude.{find, is_some}
use Rattle.std.specs.List.{list_any}
use Rattle.indexed_file.specs.Rank.{has_value}
use Rattle.indexed_file.specs.Change.{is_there}
use Rattle.record_layout.specs.Schema.{key_at}
use Rattle.tree_search.proofs.SearchLemmas.{if_ok}
use Rattle.key_index.specs.Entries.{has_prime}
use Rattle.open_file.specs.InOrder.{prime_entries}
use Rattle.open_file.proofs.FirstLemmas.{there_by_prime}
use Rattle.open_file.proofs.open_file.OpenFile.has_prime.Goals as goal

pub returns-clause-found : goal.returns-clause-found
returns-clause-found g c honest file bytes stands same =
    let schema = c.args.self.now.schema in
    let there = there_by_prime schema stands.slots c.args.value.now stands.places file.rows stands.placed.rows_at in
    let entries = prime_entries schema stands.places file.rows in
    if_ok c.has.result (λ (told : Bool). told ≡ is_some (find (has_prime c.args.value.now) entries)) (λ (found : Bool). found ≡ is_there (key_at schema 0) bytes file.rows)
    (λ told is. is ∙ sym there ∙ ap (λ w. list_any (has_value schema 0 w) file.rows) same) (c.has.ensures.told honest _ _ stands.parts.prime_stands)
