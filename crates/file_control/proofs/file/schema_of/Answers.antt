use Rattle.std.proofs.Common.{◌≡◌, ◌∙◌, sym, ap, List, ℕ}
use Rattle.std.specs.Prelude.{Result, Ok, Err}
use Rattle.record_layout.specs.Layout.{Placed}
use Rattle.record_layout.specs.declared.schema.KeyPart.{KeyPart}
use Rattle.record_layout.specs.declared.fault.SchemaFault.{SchemaFault}
use Rattle.record_layout.specs.SchemaFault.{KeyClause, keys_given}
use Rattle.deck_entries.specs.FileControlEntry.{FileControlEntry}
use Rattle.file_control.proofs.file.schema_of.Goals as goal

same_keys : (layout : List Placed) (least : ℕ) (prime name : List ℕ) (alternates clauses : List KeyClause) → prime ≡ name → alternates ≡ clauses → keys_given layout least name clauses ≡ keys_given layout least prime alternates
same_keys layout least prime name alternates clauses e f = λ j. keys_given layout least (sym e j) (sym f j)

none_both : (r : Result (List KeyPart) SchemaFault) (fault : SchemaFault) (keys : List KeyPart) → r ≡ Err fault → r ≡ Ok keys → ⊥
none_both r fault keys e f = let k : ◌≡◌ {A = Result (List KeyPart) SchemaFault} (Err fault) (Ok keys) = sym e ∙ f in cc

pub returns-in-Ok-clause-given : goal.returns-in-Ok-clause-given
returns-in-Ok-clause-given c =
    let k = c.in-Ok.ensures.given in
    (c.know.ensures, (k.0, same_keys c.args.layout.now c.args.least _ _ _ _ (c.as_str-prime.ensures.value ∙ ap (λ (e : FileControlEntry). e.record_key) c.entry.view_is) (c.as_slice.ensures ∙ ap (λ (e : FileControlEntry). e.alternate_keys) c.entry.view_is) ∙ k.1, k.2, k.3, k.4))

pub returns-in-Err-clause-none : goal.returns-in-Err-clause-none
returns-in-Err-clause-none c = λ f schema h.
    none_both _ c.in-Err.fault h.0 (same_keys c.args.layout.now c.args.least _ _ _ _ (c.as_str-prime.ensures.value ∙ ap (λ (e : FileControlEntry). e.record_key) c.entry.view_is) (c.as_slice.ensures ∙ ap (λ (e : FileControlEntry). e.alternate_keys) c.entry.view_is) ∙ c.in-Err.ensures.fault) h.1
