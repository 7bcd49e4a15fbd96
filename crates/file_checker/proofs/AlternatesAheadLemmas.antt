-- Alternate indexes that walks have yet to find.
use Rattle.std.proofs.Common.{◌≡◌, ℕ, ◌+◌, ◌<◌, Bool, List, length, map, slice_index_or, Result, Ok, Err, IsErrAnd, sym, subst, arith}
use Rattle.pages.specs.Each.{Each}
use Rattle.pages.specs.declared.walk_fault.WalkFault.{WalkFault}
use Rattle.pages.specs.Marks.{Marks, marked_in}
use Rattle.pages.specs.PageList.{pages_in}
use Rattle.pages.specs.Refused.{RefusesRightly}
use Rattle.pages.specs.Told.{TellsOfFault}
use Rattle.pages.proofs.RefusedLemmas.{refuses_more, still_unmarked}
use Rattle.page_walks.specs.declared.leaf.Leaf.{Leaf}
use Rattle.page_walks.specs.Spots.{IsLeafThere, entries_at, spots_in}
use Rattle.page_walks.specs.TreeAhead.{TreeUnmarked}
use Rattle.page_walks.specs.TreeWalk.{TreeWalked}
use Rattle.bplus_tree.specs.Fields.{tree_shape}
use Rattle.key_index.specs.declared.alt_index.AltIndex.{AltIndex}
use Rattle.key_index.specs.Standing.{alt_key}
use Rattle.key_index.specs.Stored.{alt_bytes}
use Rattle.open_file.specs.declared.open_file.OpenFile.{OpenFile}
use Rattle.open_file.specs.Fields.{alternates_of, file_schema}
use Rattle.open_file.specs.InOrder.{alt_entries}
use Rattle.file_checker.specs.RowsAhead.{AlternateAhead}
use Rattle.file_checker.specs.Rows.{rows_in}
use Rattle.open_file.specs.declared.first_page.Header.{Header}
use Rattle.file_checker.specs.Ahead.{AlternatesAhead}
use Rattle.file_checker.specs.Later.{ChecksPages, IsMetIn}
use Rattle.file_checker.specs.Parts.{PagesStand}
use Rattle.file_checker.proofs.AheadLemmas.{one_tree}

-- ---- why a check stops

-- where a walk stops, a check of the pages does
module _ (header : Header) (list : List (List ℕ)) where
  pub checks_by_walk : (S : Type 0) (r : Result Unit WalkFault) (fault : WalkFault) → IsErrAnd r (λ e. e ≡ fault) → (PagesStand header list → S) → RefusesRightly S fault
      → TellsOfFault (IsMetIn header list) fault → ChecksPages header list r
  checks_by_walk S (Ok x) fault was f never told = absurd was
  checks_by_walk S (Err e) fault was f never told = record {
    stand = tt;
    stop = subst (TellsOfFault (IsMetIn header list)) (sym was) told;
    refused = subst (RefusesRightly (PagesStand header list)) (sym was) (refuses_more S (PagesStand header list) fault f never);
  }

-- ---- one index after another

module _ (opened : OpenFile) (list : List (List ℕ)) (primes : List Leaf) (n : ℕ) (index : AltIndex) (within : n < length (alternates_of opened)) (is : index ≡ slice_index_or (alternates_of opened) n index) where
  -- the tree of the next one
  pub tree_ahead : (reached : List Bool) → AlternatesAhead opened list primes n reached → TreeUnmarked index.tree list reached
  tree_ahead reached ahead = record {
    entries = map alt_bytes (alt_entries (file_schema opened) (alt_key index) (rows_in opened list (spots_in primes)));
    own = ahead.own n;
    stands = (ahead.stand n index within is).tree;
    unmarked = ahead.unmarked n (omega arith) within;
  }

  module _ (before after : List Bool) (leaves : List Leaf) (walked : TreeWalked index.tree list (marked_in before) (marked_in after) (spots_in leaves)) (ahead : AlternatesAhead opened list primes n before) where
    same : (walked.own ≡ ahead.own n) × (entries_at (tree_shape index.tree) list (spots_in leaves) ≡ map alt_bytes (alt_entries (file_schema opened) (alt_key index) (rows_in opened list (spots_in primes))))
    same = one_tree index.tree (pages_in list) (entries_at (tree_shape index.tree) list (spots_in leaves)) (map alt_bytes (alt_entries (file_schema opened) (alt_key index) (rows_in opened list (spots_in primes))))
        walked.own (ahead.own n) walked.stands (ahead.stand n index within is).tree

    -- its entries
    pub alternate_ahead : Each (IsLeafThere (tree_shape index.tree) list) leaves → AlternateAhead opened list primes index leaves
    alternate_ahead there = record {
      primes_lead = ahead.primes_lead;
      there = there;
      rows = record { entries_are = sym same.1; each = (ahead.stand n index within is).each };
    }

    -- and those behind it
    pub alternates_next : length after ≡ length before → AlternatesAhead opened list primes (n + 1) after
    alternates_next long = record {
      primes_lead = ahead.primes_lead;
      own = ahead.own;
      stand = ahead.stand;
      apart = ahead.apart;
      unmarked = λ j from less.
          still_unmarked before after (ahead.own n) (ahead.own j) (subst (Marks (marked_in before) (marked_in after)) same.0 walked.marks) long
          (ahead.apart n j (λ e. omega (arith, e, from))) (ahead.unmarked j (omega (arith, from)) less);
    }
