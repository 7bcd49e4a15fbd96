use Rattle.std.proofs.Common.{◌≡◌, ℕ, List, refl, ap, sym, ◌∙◌}
use Rattle.std.specs.Ordering.{is_lt}
use Rattle.std.proofs.lemmas.Bool.{false≢true}
use Rattle.tree_search.proofs.AnswerLemmas.{fails}
use Rattle.record_layout.specs.Schema.{prime_of}
use Rattle.io_state.specs.Rank.{value_cmp}
use Rattle.file_building.specs.Building.{last_prime}
use Rattle.file_building.proofs.StepLemmas.{handed_on}
use Rattle.file_building.proofs.RecordLemmas.{rise_more, last_before, some_prime}
use Rattle.file_building.proofs.file_builder.FileBuilder.push.Goals as goal

pub returns-then-not-is_lt : goal.returns-then-not-is_lt
returns-then-not-is_lt g c =
    let old = c.args.self.now in
    let bytes = c.args.record.now in
    let enough = c.requires.least in
    record {
      pushed = λ honest sound records h.
          let told : c.is_lt.result ≡ is_lt (value_cmp (last_prime old.schema records) (prime_of old.schema bytes)) = c.is_lt.ensures ∙ ap is_lt (c.cmp.ensures
          ∙ ap (λ (v : List ℕ). value_cmp v c.value-value.result.now) (c.as_slice.ensures.value ∙ h.last)
          ∙ ap (value_cmp (last_prime old.schema records)) c.value-value.ensures.value) in
          record {
            answer = ((h, λ rise. false≢true (sym c.if-not-is_lt.true ∙ (told ∙ last_before old.schema records bytes (some_prime old.schema bytes h.is_schema enough) rise))), sound);
            no_damage = tt;
          };
      schema_is = refl;
      keeps = record { cause = tt; step = g.met.P.Pages.writes_nothing c.args.pages.now };
    }

pub returns-in_err-put : goal.returns-in_err-put
returns-in_err-put g c =
    let old = c.args.self.now in
    let bytes = c.args.record.now in
    record {
      pushed = λ honest sound records h.
          let told : c.is_lt.result ≡ is_lt (value_cmp (last_prime old.schema records) (prime_of old.schema bytes)) = c.is_lt.ensures ∙ ap is_lt (c.cmp.ensures
          ∙ ap (λ (v : List ℕ). value_cmp v c.value-value.result.now) (c.as_slice.ensures.value ∙ h.last)
          ∙ ap (value_cmp (last_prime old.schema records)) c.value-value.ensures.value) in
          fails _ _ _ c.from_residual.ensures.1 (c.in_err-put.ensures.put honest sound records h (rise_more old.schema records bytes h.rising (sym told ∙ c.if-not-is_lt.false))).no_damage;
      schema_is = c.put.ensures.schema_is;
      keeps = record { cause = handed_on _ _ _ c.from_residual.ensures.1 c.in_err-put.ensures.keeps.cause; step = c.put.ensures.keeps.step };
    }

pub returns : goal.returns
returns g c =
    let old = c.args.self.now in
    let bytes = c.args.record.now in
    record {
      pushed = λ honest sound records h.
          let told : c.is_lt.result ≡ is_lt (value_cmp (last_prime old.schema records) (prime_of old.schema bytes)) = c.is_lt.ensures ∙ ap is_lt (c.cmp.ensures
          ∙ ap (λ (v : List ℕ). value_cmp v c.value-value.result.now) (c.as_slice.ensures.value ∙ h.last)
          ∙ ap (value_cmp (last_prime old.schema records)) c.value-value.ensures.value) in
          record { answer = (c.in_ok-put.ensures.put honest sound records h (rise_more old.schema records bytes h.rising (sym told ∙ c.if-not-is_lt.false))).answer; no_damage = tt };
      schema_is = c.put.ensures.schema_is;
      keeps = record { cause = tt; step = c.put.ensures.keeps.step };
    }
