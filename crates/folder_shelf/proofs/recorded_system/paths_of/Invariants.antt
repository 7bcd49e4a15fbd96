use Rattle.std.proofs.Common.{◌≡◌, map, take, string_bytes}
use Rattle.folder_shelf.specs.SystemState.{file_path}
use Rattle.folder_shelf.proofs.recorded_system.paths_of.Given as goal

-- the paths of the names so far
abbrev pub invariant-loop-name : goal.invariant-loop-name
invariant-loop-name l = map string_bytes l.paths.items ≡ map (file_path l.folder) (map (λ name. name.bytes) (take l.name-index l.names))
