use Rattle.file_commands.proofs.counting.count_once.Given as goal

-- the system is read from here on
abbrev pub ghosts-count_since : goal.ghosts-count_since
ghosts-count_since g a = record { before = g.S.System.state a.system }
