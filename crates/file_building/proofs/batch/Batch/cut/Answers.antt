use Rattle.std.proofs.Common.{refl, subst}
use Rattle.file_building.specs.Batches.{EndsLowerPart}
use Rattle.file_building.proofs.BatchLemmas.{cut_taken, tied_seen}
use Rattle.file_building.proofs.batch.Batch.cut.Goals as goal

pub returns-in-Some-clause-cuts : goal.returns-in-Some-clause-cuts
returns-in-Some-clause-cuts c =
    let old = c.args.self.now in
    let part = subst (EndsLowerPart old.held) c.in-Some.is c.in_ok-part.ensures.parts in
    record {
      taken = λ seen had. cut_taken old _ c.in-Some.part seen had part refl refl refl;
      same = record { above_is = refl; most_is = refl; fits = part.fits };
    }

pub returns-in-None-clause-cuts : goal.returns-in-None-clause-cuts
returns-in-None-clause-cuts c =
    let old = c.args.self.now in
    let tied = subst (EndsLowerPart old.held) c.in-None.is c.in_ok-part.ensures.parts in
    record {
      taken = λ seen had. tied_seen old seen had tied;
      same = record { above_is = refl; most_is = refl; fits = record { width_is = refl; prime_is = refl } };
    }
