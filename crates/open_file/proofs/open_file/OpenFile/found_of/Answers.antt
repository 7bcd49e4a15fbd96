use Rattle.std.proofs.Common.{ℕ, List, Some, Ok, sym, ap, subst}
use Rattle.arrayvec.specs.ArrayVec.{ArrayVec}
use Rattle.indexed_file.specs.Answers.{found_of}
use Rattle.open_file.specs.Reading.{ReadsRow}
use Rattle.open_file.proofs.ExitLemmas.{fails_reading}
use Rattle.open_file.proofs.DeliverLemmas.{told}
use Rattle.open_file.proofs.open_file.OpenFile.found_of.Goals as goal

pub returns-in_err-length-clause-found : goal.returns-in_err-length-clause-found
returns-in_err-length-clause-found g c honest file stands k row is same =
    fails_reading c.from_residual.result _ c.from_residual.ensures.1 (c.in_err-length.ensures.fetched honest file stands).answered.no_damage _ _ _ _

pub returns-in-Some-clause-found : goal.returns-in-Some-clause-found
returns-in-Some-clause-found g c honest file stands k row is same =
    let schema = c.args.self.now.schema in
    let fetched = rw c.in-Some.is at c.in_ok-length.ensures.fetched honest file stands in
    let told_as : List ℕ → ArrayVec ℕ = λ items. record { items = items } in
    subst (λ (key : ArrayVec ℕ). ReadsRow (Ok (record { key = key; length = c.in-Some.length; stamp = c.args.entry.now.stamp; repeated = c.args.repeated })) (found_of schema k file row) c.args.area.now c.fetch.new.area (Some row))
    (sym (ap told_as c.copy_of.ensures))
    (told schema k file c.args.entry.now row is c.in-Some.length c.args.repeated _ _ same (rw c.as_slice.ensures.value at fetched))
