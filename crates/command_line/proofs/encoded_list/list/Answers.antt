use Rattle.std.proofs.Common.{rules, ◌≡◌, Bool, true, false, sym, subst}
use Rattle.record_listing.specs.ByPath.{ByReadsAside}
use Rattle.file_commands.proofs.ByIndexLemmas.{none_aside}
use Rattle.command_line.specs.Lists.{ListsEitherWay}
use Rattle.command_line.proofs.encoded_list.list.Goals as goal

pub returns-then-checked-clause-so : goal.returns-then-checked-clause-so
returns-then-checked-clause-so g c =
    let listing = c.args.listing in
    let old = g.S.System.state c.args.system in
    let new = g.S.System.state c.list_checked.result.0 in
    let is : listing.checked ≡ true = search rules in
    subst (λ (checked : Bool). ByReadsAside (ListsEitherWay checked g.D.Disk.unseen (g.I.Read.remaining c.args.input.now) listing.file.now listing.bounds listing.form g.W.Write.contents c.args.out.now
    c.list_checked.new.out c.list_checked.result.1) old.calls c.args.aside.now.calls new.calls) (sym is)
    (none_aside old new c.args.aside.now.calls c.requires.none_aside c.list_checked.ensures (λ calls so. so))

pub returns-then-checked-clause-untouched : goal.returns-then-checked-clause-untouched
returns-then-checked-clause-untouched g c = c.list_checked.ensures.so.untouched

pub returns-clause-so : goal.returns-clause-so
returns-clause-so g c =
    let listing = c.args.listing in
    let after = c.list_records in
    let is : listing.checked ≡ false = search rules in
    subst (λ (checked : Bool). ByReadsAside (ListsEitherWay checked g.D.Disk.unseen (g.I.Read.remaining c.args.input.now) listing.file.now listing.bounds listing.form g.W.Write.contents c.args.out.now
    after.new.out after.result.1) (g.S.System.state c.args.system).calls after.new.aside.calls (g.S.System.state after.result.0).calls) (sym is) after.ensures

pub returns-clause-untouched : goal.returns-clause-untouched
returns-clause-untouched g c = c.list_records.ensures.so.untouched
