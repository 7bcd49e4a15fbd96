use Rattle.std.proofs.Common.{rules, ◌≡◌, [], string_bytes, ap, subst, ◌∙◌}
use Rattle.std.specs.Prelude.{IsTrue}
use Rattle.record_listing.specs.FileList.{EndsOfFile}
use Rattle.folder_shelf.specs.Answers.{are_answers_of}
use Rattle.record_listing.proofs.AsideLemmas.{set_aside}
use Rattle.record_listing.proofs.path_list.list_at_path.Goals as goal

pub returns-clause-ends : goal.returns-clause-ends
returns-clause-ends g c =
    let disk = g.D.Disk.unseen in
    let end = c.list_shelf-shelf.result.1 in
    let before = g.W.Write.contents c.args.out.now in
    let behind = g.W.Write.contents c.list_shelf-shelf.new.out in
    let named : string_bytes c.in-Ok.path ≡ c.args.path.now = search rules in
    set_aside (g.S.System.state c.args.system).calls _ (g.S.System.state c.into_system-system.result).calls c.exchange_record.ensures.other c.into_system-system.ensures.reading
    (λ honest.
    subst (λ file. EndsOfFile file c.args.form.now c.args.asked before behind end)
    (ap (λ shelf. shelf.file []) c.new-shelf.ensures.shows ∙ ap disk.first named)
    (c.list_shelf-shelf.ensures.ends (subst (λ system. IsTrue (are_answers_of disk.first (g.S.System.state system).calls)) c.into_system-system.ensures.same honest)))
