use Rattle.file_commands.proofs.by_pages.examine_once.Given as goal

-- the system is read from here on
abbrev pub ghosts-examine_since : goal.ghosts-examine_since
ghosts-examine_since g a = record { before = g.S.System.state a.system }
