use Rattle.std.proofs.Common.{rules, ◌≡◌, ◌∙◌, ℕ, List, [], ◌∷◌, false, ap}
use Rattle.std.specs.Prelude.{string_bytes}
use Rattle.std.specs.Result.{is_err}
use Rattle.page_store.specs.ShelfState.{ShelfState, attached_as}
use Rattle.folder_shelf.specs.Shelf.{shelf_after}
use Rattle.file_commands.specs.Since.{calls_since}
use Rattle.file_commands.proofs.ByPagesLemmas.{on_ok, by_since, of_path, examined}
use Rattle.file_commands.proofs.by_pages.examine_since.Goals as goal

pub returns-then-is_err : goal.returns-then-is_err
returns-then-is_err g c =
    by_since g.A.SystemAsked.before (g.S.System.state c.into_system-system.result.0) (g.S.System.state c.args.system) c.into_system-system.result.1 c.requires.before c.into_system-system.ensures.reading tt

pub returns : goal.returns
returns g c =
    let before = g.A.SystemAsked.before in
    let now = g.S.System.state c.into_system-system-2.result.0 in
    let path = string_bytes c.args.path in
    let attached : is_err c.attach.result ≡ false = search rules in
    let none : c.new.result.bytes ≡ [] = search rules in
    let shown = ap (λ (shelf : ShelfState). attached_as (c.new.result.bytes ∷ []) shelf) c.new-shelf.ensures.shows in
    let is = on_ok c.attach.result attached c.attach.ensures.attached ∙ shown ∙ ap (λ (name : List ℕ). attached_as (name ∷ []) (shelf_after g.D.Disk.unseen.first path [] [])) none in
    let reading = c.into_system-system-2.ensures.reading in
    by_since before now (g.S.System.state c.args.system) c.into_system-system-2.result.1 c.requires.before reading
    (examined g.D.Disk.unseen path (calls_since before now) c.check_unit-shelf.result.1 c.into_system-system-2.result.1 c.found_by.result c.found_by.ensures
    (of_path g.D.Disk.unseen path (calls_since before now) _ _ c.check_unit-shelf.result.1 is c.into_system-system-2.ensures.honest c.check_unit-shelf.ensures.right) reading.failed)
