use Rattle.std.proofs.Common.{refl, subst}
use Rattle.file_building.specs.Moving.{IsToMove}
use Rattle.file_building.proofs.CopiedLemmas.{cut_both}
use Rattle.file_building.proofs.moving.put_record.Goals as goal

pub returns-in-Ok : goal.returns-in-Ok
returns-in-Ok g c = record {
  put = λ honest sound slots primes start h is. record {
    answer = (c.in-Ok.ensures.moves.moved honest sound slots primes start h
        (subst (IsToMove slots primes c.args.mover.now c.args.place) (cut_both c.args.slot.now _ c.from-stamps.result refl) is)).answer;
    no_damage = tt;
  };
  same = c.in-Ok.ensures.moves.same;
  cause = tt;
  step = c.in-Ok.ensures.keeps.step;
}

pub returns-in-Err : goal.returns-in-Err
returns-in-Err g c = record {
  put = λ honest sound slots primes start h is. record {
    answer = tt;
    no_damage = (c.in-Err.ensures.moves.moved honest sound slots primes start h
        (subst (IsToMove slots primes c.args.mover.now c.args.place) (cut_both c.args.slot.now _ c.from-stamps.result refl) is)).no_damage;
  };
  same = c.in-Err.ensures.moves.same;
  cause = c.in-Err.ensures.keeps.cause;
  step = c.in-Err.ensures.keeps.step;
}
