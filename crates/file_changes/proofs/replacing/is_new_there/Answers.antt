use Rattle.std.proofs.Common.{◌≡◌, true, not, ◌&&◌, sym, ap, ◌∙◌}
use Rattle.std.specs.Prelude.{bytes_eq}
use Rattle.record_layout.specs.Schema.{key_at, value_of}
use Rattle.indexed_file.specs.Change.{is_there}
use Rattle.open_file.specs.Fields.{file_schema}
use Rattle.open_file.proofs.ExitLemmas.{if_ok}
use Rattle.file_changes.proofs.replacing.is_new_there.Goals as goal

pub returns-clause-found : goal.returns-clause-found
returns-clause-found g c honest file stands =
    let schema = file_schema c.args.opened.now in
    let k = c.args.k in
    let there = c.is_there.ensures.found honest file stands in
    let moves : not (bytes_eq (value_of schema k c.args.old.now) (value_of schema k c.args.bytes.now)) ≡ true = sym c.differs.ensures ∙ c.if-not-differs.false in
    record {
      answer = if_ok c.is_there.result _ _ (λ found is. is ∙ ap (λ b. b && is_there (key_at schema k) c.args.bytes.now file.rows) (sym moves)) there.answer;
      no_damage = there.no_damage;
    }
