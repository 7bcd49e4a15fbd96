use Rattle.std.proofs.Common.{◌≡◌, ◌∙◌, refl, sym, ap, subst, List, Option, Some, None, ℕ}
use Rattle.std.proofs.lemmas.Bool.{false≢true}
use Rattle.std.proofs.lemmas.Option.{same_Some}
use Rattle.std.proofs.lemmas.Result.{err_from_is_err_and}
use Rattle.record_layout.specs.Layout.{Placed, length_of}
use Rattle.record_layout.specs.SchemaFault.{GivesSchema}
use Rattle.record_layout.proofs.NamedKeysLemmas.{gives_keys, names_keys}
use Rattle.file_control.specs.Description.{least_length}
use Rattle.file_control.proofs.LayoutLemmas.{one_layout}
use Rattle.file_control.proofs.FileLemmas.{keys_are_named}
use Rattle.deck_parser.specs.Fault.{cause_code, fault_of, told}
use Rattle.deck_entries.specs.FileDescription.{FileDescription}
use Rattle.file_control.proofs.FaultLemmas.{keys_unnamed, no_layout, no_length_item, no_keys}
use Rattle.file_control.proofs.file.file.Goals as goal

pub returns-in_err-check_entry-clause-file : goal.returns-in_err-check_entry-clause-file
returns-in_err-check_entry-clause-file c =
    let p = err_from_is_err_and c.from_residual.result c.from_residual.ensures.1 in
    rw (p.1) (record {
      given = tt;
      none = λ f file is. false≢true (sym c.in_err-check_entry.ensures.unnamed
          ∙ keys_are_named c.args.described.now.items file.layout file.schema.least c.args.selected.now file.schema is.layout
          (gives_keys file.layout c.args.selected.now.record_key c.args.selected.now.alternate_keys file.schema is.schema is.keys));
    })

pub returns-in_err-check_entry-clause-fault : goal.returns-in_err-check_entry-clause-fault
returns-in_err-check_entry-clause-fault c =
    let p = err_from_is_err_and c.from_residual.result c.from_residual.ensures.1 in
    rw (p.1, p.2) (λ f. keys_unnamed c.args.names.now c.args.storage.now c.args.selected.now c.args.described.now _ c.in_err-check_entry.ensures.unnamed (c.in_err-check_entry.ensures.told f))

pub returns-in_err-layout-clause-file : goal.returns-in_err-layout-clause-file
returns-in_err-layout-clause-file c =
    let p = err_from_is_err_and c.from_residual-in_err-layout.result c.from_residual-in_err-layout.ensures.1 in
    rw (p.1, p.2) (record { given = tt; none = λ f file is. c.in_err-layout.ensures.layout.none f file.layout is.layout })

pub returns-in_err-layout-clause-fault : goal.returns-in_err-layout-clause-fault
returns-in_err-layout-clause-fault c =
    let p = err_from_is_err_and c.from_residual-in_err-layout.result c.from_residual-in_err-layout.ensures.1 in
    rw (p.1, p.2) (λ f. no_layout c.args.names.now c.args.storage.now c.args.selected.now c.args.described.now _ c.in_ok-check_entry.ensures.named (c.in_err-layout.ensures.layout.none f) (c.in_err-layout.ensures.told f))

none_some : (o : Option ℕ) (n : ℕ) → o ≡ None → o ≡ Some n → ⊥
none_some o n e f = let k = sym e ∙ f in cc

pub returns-in_default-clause-file : goal.returns-in_default-clause-file
returns-in_default-clause-file c = record {
  given = tt;
  none = λ f file is.
      let same = one_layout c.args.described.now.items file.layout c.in_ok-layout.layout is.layout c.in_ok-layout.ensures.layout.given in
      none_some (least_length c.args.described.now.lengths (length_of file.layout)) file.schema.least
      (ap (λ (l : List Placed). least_length c.args.described.now.lengths (length_of l)) same ∙ (sym c.least_of.ensures.least ∙ c.in_default.is)) is.least;
}

pub returns-in_err-schema-clause-file : goal.returns-in_err-schema-clause-file
returns-in_err-schema-clause-file c =
    let p = err_from_is_err_and c.from_residual-in_err-schema.result c.from_residual-in_err-schema.ensures.1 in
    rw (p.1, p.2) (record {
      given = tt;
      none = λ f file is.
          let same = one_layout c.args.described.now.items file.layout c.in_ok-layout.layout is.layout c.in_ok-layout.ensures.layout.given in
          let least : file.schema.least ≡ c.in-Some.least = same_Some file.schema.least c.in-Some.least (sym is.least
          ∙ (ap (λ (l : List Placed). least_length c.args.described.now.lengths (length_of l)) same ∙ (sym c.least_of.ensures.least ∙ c.in-Some.is))) in
          c.in_err-schema.ensures.none f file.schema
          (subst (λ n. GivesSchema c.in_ok-layout.layout n c.args.selected.now.record_key c.args.selected.now.alternate_keys file.schema) least
          (subst (λ l. GivesSchema l file.schema.least c.args.selected.now.record_key c.args.selected.now.alternate_keys file.schema) same
          (gives_keys file.layout c.args.selected.now.record_key c.args.selected.now.alternate_keys file.schema is.schema is.keys)));
    })

pub returns-in-Err-clause-fault : goal.returns-in-Err-clause-fault
returns-in-Err-clause-fault c =
    let told_there = ap told c.fault-in-Err.ensures.given ∙ ap (λ (d : FileDescription). fault_of d.line (cause_code c.in-Err.cause)) c.described.view_is in
    λ f. no_length_item c.args.names.now c.args.storage.now c.args.selected.now c.args.described.now _ c.in_ok-layout.layout c.in_ok-check_entry.ensures.named c.in_ok-layout.ensures.layout.given c.in-Some.least (sym c.least_of.ensures.least ∙ c.in-Some.is)
    (sym c.are_names_new.ensures ∙ c.if-not-are_names_new.false) c.in-Err.ensures.none (cause_code c.in-Err.cause) c.in-Err.ensures.code told_there

pub returns-in_err-schema-clause-fault : goal.returns-in_err-schema-clause-fault
returns-in_err-schema-clause-fault c =
    let p = err_from_is_err_and c.from_residual-in_err-schema.result c.from_residual-in_err-schema.ensures.1 in
    rw (p.1, p.2) (λ f. no_keys c.args.names.now c.args.storage.now c.args.selected.now c.args.described.now _ c.in_ok-layout.layout c.in_ok-check_entry.ensures.named c.in_ok-layout.ensures.layout.given c.in-Some.least (sym c.least_of.ensures.least ∙ c.in-Some.is)
    (sym c.are_names_new.ensures ∙ c.if-not-are_names_new.false) c.in-Ok.place c.in-Ok.ensures.place (c.in_err-schema.ensures.none f) (c.in_err-schema.ensures.told f))

pub returns-clause-file : goal.returns-clause-file
returns-clause-file c =
    let selected = c.args.selected.now in
    let schema = c.in_ok-schema.ensures.given in
    rw c.whole_file.ensures (record {
      given = record {
        name = refl;
        file_name = refl;
        access = refl;
        optional = refl;
        record_entry = refl;
        layout = c.in_ok-layout.ensures.layout.given;
        least = sym c.least_of.ensures.least ∙ (c.in-Some.is ∙ ap Some (sym schema.1.3));
        new = sym c.are_names_new.ensures ∙ c.if-not-are_names_new.false;
        depends_on = c.in-Ok.ensures.place;
        keys = names_keys c.in_ok-layout.layout c.in-Some.least selected.record_key selected.alternate_keys c.in_ok-schema.schema schema.1;
        schema = schema.0;
      };
      none = tt;
    })
