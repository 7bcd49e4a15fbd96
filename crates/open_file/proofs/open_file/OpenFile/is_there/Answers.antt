use Rattle.std.proofs.Common.{◌≡◌, sym, ap, subst, ◌∙◌, rules}
use Rattle.std.specs.Prelude.{Bool}
use Rattle.record_layout.specs.Schema.{key_at, value_of}
use Rattle.indexed_file.specs.Change.{is_there}
use Rattle.pages.specs.Answer.{IsAnswer}
use Rattle.open_file.proofs.open_file.OpenFile.is_there.Goals as goal

pub returns-then-k-eq0 : goal.returns-then-k-eq0
returns-then-k-eq0 g c = record {
  found = λ honest file stands.
      let schema = c.args.self.now.schema in
      let bytes = c.args.bytes.now in
      let same : c.value-value.result.now ≡ value_of schema 0 bytes = c.value-value.ensures.value ∙ ap (λ k. value_of schema k bytes) c.if-k-eq0.true in
      subst (λ k. IsAnswer c.has_prime.result (λ (b : Bool). b ≡ is_there (key_at schema k) bytes file.rows)) (sym c.if-k-eq0.true) (c.has_prime.ensures.found honest file bytes stands same);
  reads = search rules;
}

pub returns-else-k-eq0 : goal.returns-else-k-eq0
returns-else-k-eq0 g c = record {
  found = λ honest file stands.
      let schema = c.args.self.now.schema in
      let bytes = c.args.bytes.now in
      let same : c.value-value.result.now ≡ value_of schema c.from.result bytes = c.value-value.ensures.value ∙ ap (λ k. value_of schema k bytes) (sym c.from.ensures) in
      subst (λ k. IsAnswer c.has_alternate.result (λ (b : Bool). b ≡ is_there (key_at schema k) bytes file.rows)) c.from.ensures (c.has_alternate.ensures.found honest file bytes stands same);
  reads = search rules;
}
