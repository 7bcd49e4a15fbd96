use Rattle.std.proofs.Common.{inl, inr}
use Rattle.open_file.proofs.open_file.OpenFile.first_in_prime.Goals as goal

pub returns-in-Greater-clause-found : goal.returns-in-Greater-clause-found
returns-in-Greater-clause-found g c honest entries own stands = rw c.in-Greater.is (c.first_past.ensures.found honest entries own stands)

pub returns-in-Equal-clause-found : goal.returns-in-Equal-clause-found
returns-in-Equal-clause-found g c honest entries own stands =
    elim c.in-Equal.is [ inl equal ↦ rw equal (c.first_from.ensures.found honest entries own stands) | inr other ↦ rw other (c.first_from.ensures.found honest entries own stands) ]
