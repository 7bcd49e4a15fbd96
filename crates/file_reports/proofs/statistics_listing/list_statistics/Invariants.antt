use Rattle.file_reports.proofs.statistics_listing.list_statistics.Given as goal

-- the pages of the unit are asked for from here on
abbrev pub ghosts-write_unit : goal.ghosts-write_unit
ghosts-write_unit g a = record {
  before = g.S.Shelf.state a.shelf;
  faults = g.S.Shelf.fault_count a.shelf;
  unit = a.unit;
  count = a.count;
}
