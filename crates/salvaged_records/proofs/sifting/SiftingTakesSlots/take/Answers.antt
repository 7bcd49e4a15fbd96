use Rattle.std.proofs.Common.{List, ℕ, ◌∷◌, [], ◌++◌, refl, subst}
use Rattle.std.proofs.lemmas.Result.{on_ok_weaker}
use Rattle.salvaged_records.specs.Sifting.{IsSifted}
use Rattle.salvaged_records.proofs.SiftLemmas.{sifted_again, sifted_first}
use Rattle.salvaged_records.proofs.sifting.SiftingTakesSlots.take.Goals as goal

pub returns-then-meet : goal.returns-then-meet
returns-then-meet c =
    let self = c.args.self.now in
    on_ok_weaker c.add_value.result (λ adds. record {
      prime_is = refl;
      sifted = λ values is.
          subst (λ (v : List ℕ). IsSifted c.meet.new.self.words.items c.add_value.new.values (values ++ v ∷ [])) c.of-value.ensures
          (sifted_again self.filter.words.items c.meet.new.self.words.items self.candidates c.add_value.new.values c.of-value.result.now c.meet.result c.meet.ensures adds values is);
    }) c.add_value.ensures

pub returns : goal.returns
returns c =
    let self = c.args.self.now in
    record {
      prime_is = refl;
      sifted = λ values is.
          subst (λ (v : List ℕ). IsSifted c.meet.new.self.words.items self.candidates (values ++ v ∷ [])) c.of-value.ensures
          (sifted_first self.filter.words.items c.meet.new.self.words.items self.candidates c.of-value.result.now c.meet.result c.meet.ensures c.if-meet.false values is);
    }
