use Rattle.std.proofs.Common.{rules, Result, Ok, ap, refl, subst, ◌∙◌}
use Rattle.record_listing.specs.declared.end.ListEnd.{ListEnd}
use Rattle.record_listing.specs.declared.end.ListFault.{ListFault}
use Rattle.record_listing.specs.Shelf.{shelf_state_of}
use Rattle.record_listing.specs.declared.file_bytes.FileBytes.{FileBytes}
use Rattle.record_listing.proofs.FileListLemmas.{MeansFor, meant}
use Rattle.record_listing.proofs.file_list.list_sound.Goals as goal

pub returns-in-Ok-Listed-clause-ends : goal.returns-in-Ok-Listed-clause-ends
returns-in-Ok-Listed-clause-ends g c =
    subst (MeansFor c.args.form.now c.args.bytes.items c.args.asked (g.W.Write.contents c.args.out.now) (g.W.Write.contents c.list_records.new.out))
    (c.in-Ok-Listed.is ∙ ap (λ (end : ListEnd). let all : Result ListEnd ListFault = Ok end in all) c.in-Ok-Listed.field-0-is)
    (meant c.args.form.now c.new-library.result.shelf c.new-library.result.units.items c.new-2.result.bytes c.args.bytes.items _ _ c.requires.sound.2
    (ap (λ (s : FileBytes). (shelf_state_of s).names) c.new-library.ensures.shelf ∙ c.new-shelf.ensures.units)
    c.new-library.ensures.units
    (ap (λ (s : FileBytes). s.bytes.items) c.new-library.ensures.shelf ∙ ap (λ v. v.items) c.new-shelf.ensures.bytes)
    (search rules)
    c.args.asked (g.W.Write.contents c.args.out.now) (g.W.Write.contents c.list_records.new.out) c.list_records.result (c.list_records.ensures.ends refl))

pub returns-clause-ends : goal.returns-clause-ends
returns-clause-ends g c =
    subst (MeansFor c.args.form.now c.args.bytes.items c.args.asked (g.W.Write.contents c.args.out.now) (g.W.Write.contents c.list_records.new.out)) c.in-Err.is
    (meant c.args.form.now c.new-library.result.shelf c.new-library.result.units.items c.new-2.result.bytes c.args.bytes.items _ _ c.requires.sound.2
    (ap (λ (s : FileBytes). (shelf_state_of s).names) c.new-library.ensures.shelf ∙ c.new-shelf.ensures.units)
    c.new-library.ensures.units
    (ap (λ (s : FileBytes). s.bytes.items) c.new-library.ensures.shelf ∙ ap (λ v. v.items) c.new-shelf.ensures.bytes)
    (search rules)
    c.args.asked (g.W.Write.contents c.args.out.now) (g.W.Write.contents c.list_records.new.out) c.list_records.result (c.list_records.ensures.ends refl))

pub returns-in-Ok-NoKey-clause-ends : goal.returns-in-Ok-NoKey-clause-ends
returns-in-Ok-NoKey-clause-ends g c =
    subst (MeansFor c.args.form.now c.args.bytes.items c.args.asked (g.W.Write.contents c.args.out.now) (g.W.Write.contents c.list_records.new.out))
    (c.in-Ok-NoKey.is ∙ ap (λ (end : ListEnd). let all : Result ListEnd ListFault = Ok end in all) c.in-Ok-NoKey.field-0-is)
    (meant c.args.form.now c.new-library.result.shelf c.new-library.result.units.items c.new-2.result.bytes c.args.bytes.items _ _ c.requires.sound.2
    (ap (λ (s : FileBytes). (shelf_state_of s).names) c.new-library.ensures.shelf ∙ c.new-shelf.ensures.units)
    c.new-library.ensures.units
    (ap (λ (s : FileBytes). s.bytes.items) c.new-library.ensures.shelf ∙ ap (λ v. v.items) c.new-shelf.ensures.bytes)
    (search rules)
    c.args.asked (g.W.Write.contents c.args.out.now) (g.W.Write.contents c.list_records.new.out) c.list_records.result (c.list_records.ensures.ends refl))

pub unreachable-requires : goal.unreachable-requires
unreachable-requires g c =
    let means = subst (MeansFor c.args.form.now c.args.bytes.items c.args.asked (g.W.Write.contents c.args.out.now) (g.W.Write.contents c.list_records.new.out)) c.in-Ok-Absent.is
    (meant c.args.form.now c.new-library.result.shelf c.new-library.result.units.items c.new-2.result.bytes c.args.bytes.items _ _ c.requires.sound.2
    (ap (λ (s : FileBytes). (shelf_state_of s).names) c.new-library.ensures.shelf ∙ c.new-shelf.ensures.units)
    c.new-library.ensures.units
    (ap (λ (s : FileBytes). s.bytes.items) c.new-library.ensures.shelf ∙ ap (λ v. v.items) c.new-shelf.ensures.bytes)
    (search rules)
    c.args.asked (g.W.Write.contents c.args.out.now) (g.W.Write.contents c.list_records.new.out) c.list_records.result (c.list_records.ensures.ends refl)) in
    search rules
