-- The run at the front is as long as it can be.
use Rattle.std.proofs.Common.{◌≡◌, ℕ, zero, suc, ◌+◌, ◌<◌, true, false, cond, List, [], ◌∷◌, ◌++◌, length, take, drop, Some, refl, ap, arith}
use Rattle.std.proofs.Math.Numerals.{one-add}
use Rattle.std.specs.List.{list_all, prefix_len}
use Rattle.deck_parser.specs.Word.{Word}
use Rattle.deck_parser.specs.ByteClass.{is_space, is_of_run}
use Rattle.deck_parser.specs.Words.{run_words}
use Rattle.deck_parser.specs.Front.{ends_run, run_at, rest_of}
use Rattle.deck_parser.proofs.TestLemmas.{both_true, both_are}

-- white space or the end comes after a run
abbrev pub EndsRun : List ℕ → Type 0
EndsRun rest = list_all is_space (take 1 rest) ≡ true

prefix_len-append : (run rest : List ℕ) → list_all is_of_run run ≡ true → EndsRun rest → prefix_len is_of_run (run ++ rest) ≡ length run
prefix_len-append [] [] fits ends = refl
prefix_len-append [] (b ∷ rest) fits ends = rw (both_true (is_space b) true ends).0
prefix_len-append (b ∷ run) rest fits ends =
    let p = both_true (is_of_run b) (list_all is_of_run run) fits in rw (p.0, prefix_len-append run rest p.1 ends) (omega arith)

take-append : (run rest : List ℕ) → take (length run) (run ++ rest) ≡ run
take-append [] rest = refl
take-append (b ∷ run) rest = ap (λ (r : List ℕ). b ∷ r) (take-append run rest)

drop-append : (run rest : List ℕ) → drop (length run) (run ++ rest) ≡ rest
drop-append [] rest = refl
drop-append (b ∷ run) rest = drop-append run rest

pub take-drop : (n : ℕ) (xs : List ℕ) → take n xs ++ drop n xs ≡ xs
take-drop zero xs = refl
take-drop (suc n) [] = refl
take-drop (suc n) (x ∷ xs) = ap (λ (r : List ℕ). x ∷ r) (take-drop n xs)

pub front_is_run : (bytes : List ℕ) → list_all is_of_run (take (prefix_len is_of_run bytes) bytes) ≡ true
front_is_run [] = refl
front_is_run (b ∷ bytes) =
    elim (is_of_run b) as (λ v. is_of_run b ≡ v → list_all is_of_run (take (cond v (1 + prefix_len is_of_run bytes) 0) (b ∷ bytes)) ≡ true) [
      | true ↦ λ e. rw one-add (both_are _ _ e (front_is_run bytes))
      | false ↦ λ e. refl
    ] refl

pub run_is_there : (b : ℕ) (bytes : List ℕ) → is_of_run b ≡ true → 0 < length (take (prefix_len is_of_run (b ∷ bytes)) (b ∷ bytes))
run_is_there b bytes i = rw (i, one-add) (omega arith)

pub ends_run_so : (rest : List ℕ) → ends_run rest ≡ true → EndsRun rest
ends_run_so [] e = refl
ends_run_so (b ∷ rest) e = both_are (is_space b) true e refl

so_ends_run : (rest : List ℕ) → EndsRun rest → ends_run rest ≡ true
so_ends_run [] e = refl
so_ends_run (b ∷ rest) e = (both_true (is_space b) true e).0

pub run_complete : (line : ℕ) (run rest : List ℕ) (new : List Word) → list_all is_of_run run ≡ true → EndsRun rest → run_words line run ≡ Some new → run_at line (run ++ rest) ≡ Some (new, rest_of line rest)
run_complete line run rest new fits ends e =
    rw (prefix_len-append run rest fits ends, drop-append run rest, take-append run rest, so_ends_run rest ends, e)
