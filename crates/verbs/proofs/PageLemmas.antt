-- How many pages a statement asks for.
use Rattle.std.proofs.Common.{◌≤◌, ◌+◌, ◌*◌, ℕ, List, [], ◌∷◌, arith, sum_by, slice_index}
use Rattle.std.proofs.lemmas.List.Sums.{sum_by-cons}
use Rattle.indexed_file.specs.Room.{Room, Endless, Pages, levels_of_room}
use Rattle.verbs.specs.Pages.{most_to_write}

-- where nothing is asked for
pub none_more : (first most : ℕ) → first ≤ first + most
none_more first most = omega arith

-- the first tree is one of all
first_level : (heights : List ℕ) → slice_index heights 0 ≤ sum_by (λ height. height + 1) heights
first_level [] = omega arith
first_level (height ∷ heights) =
    let all = sum_by-cons (λ (h : ℕ). h + 1) height heights in
    rw all (omega arith)

two_calls : (room : Room) → most_to_write room ≤ 32 * levels_of_room room
two_calls Endless = omega arith
two_calls (Pages heights available) = let first = first_level heights in omega arith

pub at_most : (room : Room) (first asked : ℕ) → asked ≤ first + most_to_write room → asked ≤ first + 32 * levels_of_room room
at_most room first asked few = let both = two_calls room in omega arith
