use Rattle.file_commands.proofs.checked.list_once.Given as goal

-- the system is read from here on
abbrev pub ghosts-list_since : goal.ghosts-list_since
ghosts-list_since g a = record { before = g.S.System.state a.system }
