use Rattle.file_building.proofs.alternates.build_key.Goals as goal

pub returns-clause-builds : goal.returns-clause-builds
returns-clause-builds g c = record {
  built = λ honest sound records are alternates stand. c.build_in_batches.ensures.builds.built honest sound records are.long are.stamps are.many alternates stand;
  of = c.build_in_batches.ensures.builds.of;
}
