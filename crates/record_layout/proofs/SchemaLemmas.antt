-- Schemas that are the same are equal.
use Rattle.std.proofs.Common.{◌≡◌, refl, ap, Decides}
use Rattle.std.specs.Cmp.Lexicographic.{pointwise}
use Rattle.std.proofs.lemmas.Slice.Eq.{slice_eq-Decides}
use Rattle.std.proofs.lemmas.Bool.{false≢true}
use Rattle.std.proofs.lemmas.Bool.Decides.{Decides-eqb, Decides-and, Decides-like}
use Rattle.record_layout.specs.declared.schema.KeyKind.{KeyKind}
use Rattle.record_layout.specs.declared.schema.KeyKind.TheVariants.{Prime, Unique, Duplicates}
use Rattle.record_layout.specs.declared.schema.KeyPart.{KeyPart}
use Rattle.record_layout.specs.Schema.{Schema, same_kind, same_part, same_schema}

pub same_kind-Decides : (a b : KeyKind) → Decides (same_kind a b) (a ≡ b)
same_kind-Decides Prime Prime = (λ _. refl, λ _. refl)
same_kind-Decides Prime Unique = (λ e. absurd (false≢true e), λ e. absurd (cc))
same_kind-Decides Prime Duplicates = (λ e. absurd (false≢true e), λ e. absurd (cc))
same_kind-Decides Unique Prime = (λ e. absurd (false≢true e), λ e. absurd (cc))
same_kind-Decides Unique Unique = (λ _. refl, λ _. refl)
same_kind-Decides Unique Duplicates = (λ e. absurd (false≢true e), λ e. absurd (cc))
same_kind-Decides Duplicates Prime = (λ e. absurd (false≢true e), λ e. absurd (cc))
same_kind-Decides Duplicates Unique = (λ e. absurd (false≢true e), λ e. absurd (cc))
same_kind-Decides Duplicates Duplicates = (λ _. refl, λ _. refl)

same_part-Decides : (a b : KeyPart) → Decides (same_part a b) (a ≡ b)
same_part-Decides a b =
    Decides-like (same_part a b) (λ p i. record { offset = p.0.0 i; length = p.0.1 i; kind = p.1 i }) (λ e. ((ap (λ k. k.offset) e, ap (λ k. k.length) e), ap (λ k. k.kind) e))
    (Decides-and _ _ (Decides-and _ _ (Decides-eqb a.offset b.offset) (Decides-eqb a.length b.length)) (same_kind-Decides a.kind b.kind))

pub same_schema-Decides : (a b : Schema) → Decides (same_schema a b) (a ≡ b)
same_schema-Decides a b =
    Decides-like (same_schema a b) (λ p i. record { least = p.0.0 i; greatest = p.0.1 i; keys = p.1 i }) (λ e. ((ap (λ s. s.least) e, ap (λ s. s.greatest) e), ap (λ s. s.keys) e))
    (Decides-and _ _ (Decides-and _ _ (Decides-eqb a.least b.least) (Decides-eqb a.greatest b.greatest)) (slice_eq-Decides same_part-Decides a.keys b.keys (pointwise same_part a.keys b.keys) refl))
