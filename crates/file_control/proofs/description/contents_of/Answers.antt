use Rattle.std.proofs.Common.{◌∙◌, sym, subst, List, []}
use Rattle.std.proofs.lemmas.Result.{err_from_is_err_and}
use Rattle.deck_entries.specs.FileDescription.{StorageEntry}
use Rattle.file_control.specs.Description.{AreItems, HaveDigits}
use Rattle.deck_parser.specs.Fault.{told}
use Rattle.file_control.specs.FirstFault.{IsItemFault}
use Rattle.file_control.proofs.FaultLemmas.{behind_files}
use Rattle.file_control.proofs.FilesLemmas.{one_after}
use Rattle.file_control.proofs.ItemLemmas.{files_made, have_digits, with_new_names}
use Rattle.file_control.proofs.description.contents_of.Goals as goal

pub returns-in_err-check_items-clause-none : goal.returns-in_err-check_items-clause-none
returns-in_err-check_items-clause-none c =
    let p = err_from_is_err_and c.from_residual-in_err-check_items.result c.from_residual-in_err-check_items.ensures.1 in
    let divisions = c.args.divisions.now in
    let before = c.in_ok-files.files in
    let after = c.files_of.new.names in
    let made = files_made divisions c.as_slice-descriptions.result.now c.as_slice.result.now c.as_slice-entries.result.now _ before after c.as_slice-descriptions.ensures c.as_slice.ensures c.as_slice-entries.ensures c.new-names.ensures c.in_ok-files.ensures.files in
    rw (p.1, p.2) (λ f files items h.
    let same = one_after divisions.descriptions divisions.storage [] divisions.entries before files after h.0 made h.1 in
    c.in_err-check_items.ensures.none f items
    (subst (λ (storage : List StorageEntry). AreItems after storage items) (sym c.as_slice-2.ensures) (subst (λ names. AreItems names divisions.storage items) same h.2)))

pub returns-in_err-items-clause-none : goal.returns-in_err-items-clause-none
returns-in_err-items-clause-none c =
    let p = err_from_is_err_and c.from_residual-in_err-items.result c.from_residual-in_err-items.ensures.1 in
    rw (p.1, p.2) (λ f files items h.
    c.in_err-items.ensures.none f items
    (subst (λ (storage : List StorageEntry). HaveDigits storage items) (sym c.as_slice-3.ensures) (have_digits h.0 c.args.divisions.now.storage items h.2)))

pub returns-in_err-check_items-clause-fault : goal.returns-in_err-check_items-clause-fault
returns-in_err-check_items-clause-fault c =
    let p = err_from_is_err_and c.from_residual-in_err-check_items.result c.from_residual-in_err-check_items.ensures.1 in
    let divisions = c.args.divisions.now in
    let before = c.in_ok-files.files in
    let after = c.files_of.new.names in
    let made = files_made divisions c.as_slice-descriptions.result.now c.as_slice.result.now c.as_slice-entries.result.now _ before after c.as_slice-descriptions.ensures c.as_slice.ensures c.as_slice-entries.ensures c.new-names.ensures c.in_ok-files.ensures.files in
    let fault = told c.in_err-check_items.field-0.0 in
    rw (p.1, p.2) (λ f.
    behind_files divisions.descriptions divisions.storage [] after divisions.entries before fault made
    (subst (λ (storage : List StorageEntry). IsItemFault after storage fault) c.as_slice-2.ensures (c.in_err-check_items.ensures.fault f)))

pub returns-in_err-items-clause-fault : goal.returns-in_err-items-clause-fault
returns-in_err-items-clause-fault c =
    let p = err_from_is_err_and c.from_residual-in_err-items.result c.from_residual-in_err-items.ensures.1 in
    let known = c.in_ok-check_items.ensures.items in
    let digits = have_digits c.files_of.new.names c.as_slice-2.result.now known.0 known.1 in
    rw (p.1, p.2) (λ f. absurd (c.in_err-items.ensures.none f known.0
    (subst (λ (storage : List StorageEntry). HaveDigits storage known.0) (c.as_slice-2.ensures ∙ sym c.as_slice-3.ensures) digits)))

pub returns-clause-contents : goal.returns-clause-contents
returns-clause-contents c =
    let divisions = c.args.divisions.now in
    let after = c.files_of.new.names in
    let made = files_made divisions c.as_slice-descriptions.result.now c.as_slice.result.now c.as_slice-entries.result.now _ c.in_ok-files.files after c.as_slice-descriptions.ensures c.as_slice.ensures c.as_slice-entries.ensures c.new-names.ensures c.in_ok-files.ensures.files in
    let known = c.in_ok-check_items.ensures.items in
    let new = subst (λ (storage : List StorageEntry). AreItems after storage known.0) c.as_slice-2.ensures known.1 in
    let digits = subst (λ (storage : List StorageEntry). HaveDigits storage c.in_ok-items.items) c.as_slice-3.ensures c.in_ok-items.ensures.given in
    (after, made, with_new_names after divisions.storage known.0 c.in_ok-items.items new digits)
