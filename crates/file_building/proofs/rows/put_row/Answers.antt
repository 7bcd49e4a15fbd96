use Rattle.std.proofs.Common.{◌≡◌, ap, sym, ◌∙◌}
use Rattle.key_index.specs.declared.prime_index.PrimeIndex.{PrimeIndex}
use Rattle.open_file.specs.Fields.{file_schema, prime_index_of}
use Rattle.file_building.proofs.CopiedLemmas.{cut_front, cut_both}
use Rattle.file_building.proofs.rows.put_row.Goals as goal

pub returns-in-Ok : goal.returns-in-Ok
returns-in-Ok g c =
    let source = c.args.source.now in
    let width : (prime_index_of source).width ≡ c.from.result = sym (c.from.ensures ∙ ap (λ (i : PrimeIndex). i.width) c.prime.ensures) in
    record {
      put = λ honest sound rows row h value_is stored_is. record {
        answer = (c.in-Ok.ensures.pushes.pushed honest sound (file_schema source) rows row h
            (value_is ∙ cut_front c.args.entry.now _ _ width) (cut_both c.args.slot.now _ c.from-stamps.result stored_is)).answer;
        no_damage = tt;
      };
      same = c.in-Ok.ensures.pushes.same;
      cause = tt;
      step = c.in-Ok.ensures.keeps.step;
    }

pub returns-in-Err : goal.returns-in-Err
returns-in-Err g c =
    let source = c.args.source.now in
    let width : (prime_index_of source).width ≡ c.from.result = sym (c.from.ensures ∙ ap (λ (i : PrimeIndex). i.width) c.prime.ensures) in
    record {
      put = λ honest sound rows row h value_is stored_is. record {
        answer = tt;
        no_damage = (c.in-Err.ensures.pushes.pushed honest sound (file_schema source) rows row h
            (value_is ∙ cut_front c.args.entry.now _ _ width) (cut_both c.args.slot.now _ c.from-stamps.result stored_is)).no_damage;
      };
      same = c.in-Err.ensures.pushes.same;
      cause = c.in-Err.ensures.keeps.cause;
      step = c.in-Err.ensures.keeps.step;
    }
