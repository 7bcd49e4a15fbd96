use Rattle.file_checker.proofs.unit_check.check_unit.Given as goal

-- the unit is asked from here on
abbrev pub ghosts-check_unit_pages : goal.ghosts-check_unit_pages
ghosts-check_unit_pages g a = record {
  before = g.S.Shelf.state a.shelf;
  faults = g.S.Shelf.fault_count a.shelf;
  unit = a.unit;
  count = a.header.now.pages;
}
