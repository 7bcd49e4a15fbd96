use Rattle.std.proofs.Common.{rules, [], ap, subst, ◌∙◌}
use Rattle.std.specs.Prelude.{IsTrue}
use Rattle.record_listing.specs.FileList.{EndsOfFile}
use Rattle.record_listing.proofs.FileListLemmas.{listed_truly}
use Rattle.record_listing.proofs.shelf_list.list_shelf.Goals as goal

pub returns-clause-ends : goal.returns-clause-ends
returns-clause-ends g c =
    let state = g.S.Shelf.state in
    let before = g.W.Write.contents c.args.out.now in
    let behind = g.W.Write.contents c.list_records-end.new.out in
    λ honest.
    subst (λ shelf. EndsOfFile ((state shelf).file []) c.args.form.now c.args.asked before behind c.list_records-end.result) c.new-library.ensures.shelf
    (listed_truly c.args.form.now (state c.new-library.result.shelf) c.new-library.result.units.items _
    (ap (λ shelf. (state shelf).names) c.new-library.ensures.shelf ∙ c.requires.names) c.new-library.ensures.units (search rules)
    c.args.asked before behind c.list_records-end.result
    (c.list_records-end.ensures.ends (subst (λ shelf. IsTrue (state shelf).is_honest) c.into_shelf.ensures honest)))

pub returns-clause-honest : goal.returns-clause-honest
returns-clause-honest g c =
    let state = g.S.Shelf.state in
    λ honest.
    subst (λ shelf. IsTrue (state shelf).is_honest) c.new-library.ensures.shelf
    (c.list_records-end.ensures.keeps.honest (subst (λ shelf. IsTrue (state shelf).is_honest) c.into_shelf.ensures honest))
