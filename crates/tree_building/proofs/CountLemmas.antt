-- How many nodes share out so many children.
use Rattle.std.proofs.Common.{◌≡◌, zero, suc, ◌+◌, ◌-◌, ◌*◌, ◌/◌, ◌<◌, ◌≤◌, ℕ, List, [], ◌∷◌, ◌++◌, refl, ap, sym, ◌∙◌, append_assoc, arith}
use Rattle.std.proofs.lemmas.List.{length-append}
use Rattle.pages.specs.Each.{Each}
use Rattle.tree_search.proofs.RowLemmas.{Each-append}
use Rattle.tree_building.specs.Filled.{AllBut}
use Rattle.tree_building.specs.Share.{IsShare}

pub le_or : (a b : ℕ) (Q : Type 0) → (a ≤ b → Q) → (b < a → Q) → Q
le_or zero b Q f g = f (omega arith)
le_or (suc a) zero Q f g = g (omega arith)
le_or (suc a) (suc b) Q f g = le_or a b Q (λ h. f (omega arith)) (λ h. g (omega arith))

-- the first `at` of `total` children have `len` nodes, each of which has room for `room`
pub record AreShared (total room at len : ℕ) : Type 0 where
  pub within : at ≤ total
  pub left : at < total → (room + 1) / 2 + at ≤ total
  pub none : len ≡ 0 → at ≡ 0
  pub one : len ≡ 1 → at ≤ room
  pub whole : room + at ≤ total → 16 * len ≤ at
  pub last : total < room + at → 16 * len + total ≤ 16 + 2 * at

pub none_shared : (total room : ℕ) → room < total → 16 ≤ room → AreShared total room 0 0
none_shared total room many some =
    record { within = omega arith; left = λ h. omega arith; none = λ e. omega arith; one = λ e. omega arith; whole = λ h. omega arith; last = λ h. omega arith }

module _ (total room at len n : ℕ) (some : 16 ≤ room) (more : at < total) (share : IsShare room (total - at) n) (shared : AreShared total room at len) where
  -- the last node has all that are left
  at_end : total - at ≤ room → AreShared total room (at + n) (len + 1)
  at_end fits =
      let all = share.all fits in
      let enough = shared.left more in
      record {
        within = omega arith;
        left = λ h. absurd (omega arith);
        none = λ e. absurd (omega arith);
        one = λ e. let begun = shared.none (omega arith) in omega arith;
        whole = λ h. absurd (omega arith);
        last = λ h. le_or (room + at) total (16 * (len + 1) + total ≤ 16 + 2 * (at + n))
            (λ yes. let front = shared.whole yes in omega arith) (λ no. let back = shared.last no in omega arith);
      }

  -- there are enough for two nodes
  in_two : room < total - at → total - at < 2 * room → AreShared total room (at + n) (len + 1)
  in_two many few =
      let front = shared.whole (omega arith) in
      let even = share.even few in
      let fits = share.fits in
      let within = share.within in
      record {
        within = omega arith;
        left = λ h. let left = share.left (omega arith) in omega arith;
        none = λ e. absurd (omega arith);
        one = λ e. let begun = shared.none (omega arith) in omega arith;
        whole = λ h. absurd (omega arith);
        last = λ h. omega arith;
      }

  -- there are more
  in_more : 2 * room ≤ total - at → AreShared total room (at + n) (len + 1)
  in_more many =
      let front = shared.whole (omega arith) in
      let whole = share.whole many in
      record {
        within = omega arith;
        left = λ h. let left = share.left (omega arith) in omega arith;
        none = λ e. absurd (omega arith);
        one = λ e. let begun = shared.none (omega arith) in omega arith;
        whole = λ h. omega arith;
        last = λ h. absurd (omega arith);
      }

  pub one_shared : AreShared total room (at + n) (len + 1)
  one_shared = le_or (total - at) room (AreShared total room (at + n) (len + 1)) at_end
      (λ many. le_or (2 * room) (total - at) (AreShared total room (at + n) (len + 1)) in_more (in_two many))

pub all_shared : (total room at len : ℕ) → 16 ≤ room → room < total → total ≤ at → AreShared total room at len → (2 ≤ len) × (16 * len ≤ total + 16)
all_shared total room at len some many done shared =
    let within = shared.within in
    let last = shared.last (omega arith) in (
      le_or 2 len (2 ≤ len) (λ yes. yes)
          (λ few. le_or len 0 (2 ≤ len) (λ zero. let none = shared.none (omega arith) in absurd (omega arith)) (λ some. let one = shared.one (omega arith) in absurd (omega arith))),
      omega arith,
    )

-- ---- all but the last are the greatest

pub append_none : {X : Type 0} (xs : List X) → xs ++ [] ≡ xs
append_none [] = refl
append_none (x ∷ xs) = ap (λ l. x ∷ l) (append_none xs)

pub but_none : (most : ℕ) (xs : List ℕ) (few : ℕ) → Each (λ m. m ≡ most) xs → AllBut few most xs
but_none most xs few all = record { front = xs; last = []; are = sym (append_none xs); few = omega arith; full = all }

pub but_one : (most n : ℕ) (xs : List ℕ) → Each (λ m. m ≡ most) xs → AllBut 1 most (xs ++ n ∷ [])
but_one most n xs all = record { front = xs; last = n ∷ []; are = refl; few = omega arith; full = all }

pub but_two : (most n : ℕ) (xs : List ℕ) → AllBut 1 most xs → AllBut 2 most (xs ++ n ∷ [])
but_two most n xs had =
    let few = had.few in
    let long = length-append had.last (n ∷ []) in
    record { front = had.front; last = had.last ++ n ∷ []; are = ap (λ l. l ++ n ∷ []) had.are ∙ append_assoc had.front had.last (n ∷ []); few = omega arith; full = had.full }

pub but_more : (most few more : ℕ) (xs : List ℕ) → few ≤ more → AllBut few most xs → AllBut more most xs
but_more most few more xs le had = let short = had.few in record { front = had.front; last = had.last; are = had.are; few = omega arith; full = had.full }

-- the nodes of the first `at` of `total` children have so many each
pub record AreFull (total room at : ℕ) (counts : List ℕ) : Type 0 where
  pub whole : room + at ≤ total → Each (λ n. n ≡ room) counts
  pub one : at < total → AllBut 1 room counts
  pub two : AllBut 2 room counts

pub none_full : (total room : ℕ) → AreFull total room 0 []
none_full total room = record { whole = λ h. tt; one = λ h. but_none room [] 1 tt; two = but_none room [] 2 tt }

module _ (total room at n : ℕ) (counts : List ℕ) (some : 16 ≤ room) (more : at < total) (share : IsShare room (total - at) n) (had : AreFull total room at counts) where
  full_end : total - at ≤ room → AreFull total room (at + n) (counts ++ n ∷ [])
  full_end fits =
      let all = share.all fits in
      record { whole = λ h. absurd (omega arith); one = λ h. absurd (omega arith); two = but_two room n counts (had.one more) }

  full_two : room < total - at → total - at < 2 * room → AreFull total room (at + n) (counts ++ n ∷ [])
  full_two many few =
      let front = had.whole (omega arith) in
      let even = share.even few in
      let fits = share.fits in
      let within = share.within in
      let now = but_one room n counts front in
      record { whole = λ h. absurd (omega arith); one = λ h. now; two = but_more room 1 2 (counts ++ n ∷ []) (omega arith) now }

  full_more : 2 * room ≤ total - at → AreFull total room (at + n) (counts ++ n ∷ [])
  full_more many =
      let now = Each-append (λ m. m ≡ room) counts (n ∷ []) (had.whole (omega arith)) (share.whole many, tt) in
      record { whole = λ h. now; one = λ h. but_none room (counts ++ n ∷ []) 1 now; two = but_none room (counts ++ n ∷ []) 2 now }

  pub one_full : AreFull total room (at + n) (counts ++ n ∷ [])
  one_full = le_or (total - at) room (AreFull total room (at + n) (counts ++ n ∷ [])) full_end
      (λ many. le_or (2 * room) (total - at) (AreFull total room (at + n) (counts ++ n ∷ [])) full_more (full_two many))
