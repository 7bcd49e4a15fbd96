use Rattle.std.proofs.Common.{◌≡◌, ◌∙◌, sym, subst, ap, inl, inr, Option, Some, None, List, [], ◌∷◌, ◌++◌}
use Rattle.std.proofs.lemmas.Option.{same_Some}
use Rattle.std.proofs.lemmas.Result.{err_from_is_err_and}
use Rattle.deck_entries.specs.FileDescription.{FileDescription}
use Rattle.deck_parser.specs.Fault.{told}
use Rattle.file_control.specs.Description.{FileDesc, IsFile, with_names}
use Rattle.file_control.proofs.FilesLemmas.{FilesSoFar, description_of_file, step, refused, first_fault, all_files}
use Rattle.file_control.proofs.files.files_of.Goals as goal

pub returns-in_err-next-clause-none : goal.returns-in_err-next-clause-none
returns-in_err-next-clause-none c =
    let p = err_from_is_err_and c.from_residual.result c.from_residual.ensures.1 in
    let found = ap (description_of_file c.args.descriptions.now) (sym c.name.ensures) ∙ sym c.in-Some-described_as.ensures in
    rw (p.1, p.2) (λ f all after h.
    refused c.args.descriptions.now c.args.storage.now c.args.names.now c.args.entries.now c.more.names c.in-Some.selected.now c.more.rest.now c.in-Some.after.now c.more.files c.more.invariant c.in-Some.ensures.cases.0
    (λ description e made is. c.in_err-next.ensures.file.none f made (subst (λ (d : FileDescription). IsFile c.more.names c.args.storage.now c.in-Some.selected.now d made) (same_Some description c.in-Some-described_as.described.now (sym e ∙ found)) is)) all after h)

pub more-preserved : goal.more-preserved
more-preserved c =
    let found = ap (description_of_file c.args.descriptions.now) (sym c.name.ensures) ∙ sym c.in-Some-described_as.ensures in
    let next = step c.args.descriptions.now c.args.storage.now c.args.names.now c.args.entries.now c.more.names c.in-Some.selected.now c.more.rest.now c.in-Some.after.now c.more.files c.in-Some-described_as.described.now c.in_ok-next.next c.more.invariant c.in-Some.ensures.cases.0 found c.in_ok-next.ensures.file.given in
    let names_are = c.in_ok-add_all.ensures ∙ ap (with_names c.more.names) c.items.ensures in
    subst (λ (fs : List FileDesc). FilesSoFar c.args.descriptions.now c.args.storage.now c.args.names.now c.add_all.new.self c.args.entries.now c.in-Some.after.now fs) (sym c.in_ok-push.ensures)
    (subst (λ ns. FilesSoFar c.args.descriptions.now c.args.storage.now c.args.names.now ns c.args.entries.now c.in-Some.after.now (c.more.files ++ c.in_ok-next.next ∷ [])) (sym names_are) next)

pub returns-clause-files : goal.returns-clause-files
returns-clause-files c = all_files c.args.descriptions.now c.args.storage.now c.args.names.now c.more.names c.args.entries.now c.more.rest.now c.more.files c.more.invariant c.in_default.ensures.cases

none_some : (o : Option FileDescription) (description : FileDescription) → o ≡ None → o ≡ Some description → ⊥
none_some o description e f = let k = sym e ∙ f in cc

pub returns-in_default-described_as-clause-none : goal.returns-in_default-described_as-clause-none
returns-in_default-described_as-clause-none c =
    let none : description_of_file c.args.descriptions.now c.in-Some.selected.now.name ≡ None = ap (description_of_file c.args.descriptions.now) (sym c.name.ensures) ∙ sym c.in_default-described_as.ensures in
    λ f all after h.
    refused c.args.descriptions.now c.args.storage.now c.args.names.now c.args.entries.now c.more.names c.in-Some.selected.now c.more.rest.now c.in-Some.after.now c.more.files c.more.invariant c.in-Some.ensures.cases.0
    (λ description e made is. none_some _ description none e) all after h

pub returns-in_err-next-clause-fault : goal.returns-in_err-next-clause-fault
returns-in_err-next-clause-fault c =
    let p = err_from_is_err_and c.from_residual.result c.from_residual.ensures.1 in
    let found = ap (description_of_file c.args.descriptions.now) (sym c.name.ensures) ∙ sym c.in-Some-described_as.ensures in
    rw (p.1, p.2) (λ f.
    first_fault c.args.descriptions.now c.args.storage.now c.args.names.now c.args.entries.now c.more.names c.in-Some.selected.now c.more.rest.now c.in-Some.after.now c.more.files c.more.invariant c.in-Some.ensures.cases.0 (told c.in_err-next.field-0.0)
    (inr (c.in-Some-described_as.described.now, found, inl (c.in_err-next.ensures.fault f))))
