-- In every run of stretches each name stands by its ledger.
use Rattle.std.proofs.Common.{◌≡◌, ◌⊎◌, ℕ, Bool, true, false, List, [], ◌∷◌, ◌++◌, Option, Some, None, bytes_eq, inl, inr, refl, sym, ◌∙◌, subst, IsTrue, if◌then◌else◌}
use Rattle.std.specs.List.{list_all}
use Rattle.std.proofs.lemmas.Slice.Eq.{bytes_eq-Decides}
use Rattle.indexed_file.specs.World.{Named}
use Rattle.indexed_file.specs.Images.{Trace, IsAmong, LibraryMayLeave, LeavesOnly}
use Rattle.indexed_file.specs.Moments.{EndsNow}
use Rattle.indexed_file.proofs.AmongLemmas.{among_more, among_rest, among_passes}
use Rattle.indexed_file.proofs.ImageLemmas.{each_weaker, may_within, AllPassTest}
use Rattle.indexed_file.specs.Shown.{Shown}
use Rattle.indexed_file.proofs.TestLemmas.{either}
use Rattle.deck_reader.specs.declared.statement.Statement.{Statement}
use Rattle.deck_runner.specs.Line.{Line}
use Rattle.deck_runner.specs.Stretches.{Point, IsStretch, name_by, trace_by}
use Rattle.deck_runner.specs.NoFalseFile.{Ledger, IsOfLedger, during, behind, behind_by, images_by, StandsBy, trace_for, Judged, IsSafeStretch, NoFalseFile, ImagesAreOfLedger}

module _ {S : Type 0} (library : Shown S) (ends : EndsNow library.moments) where
  -- an image of the ledger is one of it during a step
  also_during : (IsAtStart : Named → Type 0) (trace : Trace) (ledger : Ledger) (image : Named) → IsOfLedger IsAtStart ledger image → IsOfLedger IsAtStart (during trace ledger) image
  also_during IsAtStart trace ledger image (inl first) = inl first
  also_during IsAtStart trace ledger image (inr one) = inr (among_rest trace.may ledger.may image one)

  -- a stretch of a name that goes by a trace
  pub stands_during : (start old new : S) (name : List ℕ) (trace : Trace) (ledger : Ledger) → LibraryMayLeave library.moments trace.may old new name
      → StandsBy library.moments start name ledger old old → StandsBy library.moments start name (during trace ledger) old new
  stands_during start old new name trace ledger may now first =
      let was = now first in
      each_weaker library.moments _ _ old new name (so was.1) (may_within library.moments trace.may old new name may was.0)
    where
      so : ((image : Named) → library.moments.IsImage old old name image → IsOfLedger (library.moments.IsImage start start name) ledger image)
          → (image : Named) → library.moments.IsImage old old name image ⊎ IsAmong trace.may image → IsOfLedger (library.moments.IsImage start start name) (during trace ledger) image
      so was image (inl is) = also_during (library.moments.IsImage start start name) trace ledger image (was image is)
      so was image (inr one) = inr (among_more trace.may ledger.may image one)

  pub stands_behind : (start old new : S) (name : List ℕ) (only : Option Named) (ledger : Ledger) → LeavesOnly library.moments only new name
      → StandsBy library.moments start name ledger old new → StandsBy library.moments start name (behind_by only ledger) new new
  stands_behind start old new name None ledger p stands first =
      let all = stands first in each_weaker library.moments _ _ new new name all.1 (ends old new name all.0)
  stands_behind start old new name (Some x) ledger p stands first = each_weaker library.moments _ _ new new name (λ image same. inr (inl same)) p

  -- a step of the name, or of another one
  module _ (start : S) (statement : Statement) (before : Point S) (lines : List Line) (after : Point S) (stretch : IsStretch library statement before lines after) (name : List ℕ) (ledger : Ledger)
      (now : StandsBy library.moments start name ledger before.library before.library) where
    may_here : LibraryMayLeave library.moments (trace_for (library.world before.library) statement before.run lines name).may before.library after.library name
    may_here =
        let here = name_by (library.world before.library) statement in
        either (bytes_eq here name) _
        (λ same.
        let is : here ≡ name = (bytes_eq-Decides here name).0 same in
        rw same (subst (λ (n : List ℕ). LibraryMayLeave library.moments (trace_by statement before.run lines).may before.library after.library n) is stretch.images.may))
        (λ apart. rw apart (stretch.images.others name apart))

    only_here : LeavesOnly library.moments (trace_for (library.world before.library) statement before.run lines name).only after.library name
    only_here =
        let here = name_by (library.world before.library) statement in
        either (bytes_eq here name) _
        (λ same.
        let is : here ≡ name = (bytes_eq-Decides here name).0 same in
        rw same (subst (λ (n : List ℕ). LeavesOnly library.moments (trace_by statement before.run lines).only after.library n) is stretch.images.only))
        (λ apart. rw apart tt)

    pub in_stretch : StandsBy library.moments start name (during (trace_for (library.world before.library) statement before.run lines name) ledger) before.library after.library
    in_stretch = stands_during start before.library after.library name (trace_for (library.world before.library) statement before.run lines name) ledger may_here now

    pub behind_stretch : StandsBy library.moments start name (behind (trace_for (library.world before.library) statement before.run lines name) ledger) after.library after.library
    behind_stretch =
        stands_behind start before.library after.library name (trace_for (library.world before.library) statement before.run lines name).only
        (during (trace_for (library.world before.library) statement before.run lines name) ledger) only_here in_stretch

  pub no_false_file : NoFalseFile library
  no_false_file start [] before lines next steps now = (
    record { point = next; ledger = before.ledger },
    refl,
    (steps.0, (λ i. record { point = steps.1 i; ledger = before.ledger })),
    λ name. subst (λ (p : Point S). StandsBy library.moments start name (before.ledger name) p.library p.library) (sym steps.1) (now name),
  )
  no_false_file start (statement ∷ rest) before lines next steps now =
      let world = library.world before.point.library in
      let between : Judged S = record {
        point = steps.1;
        ledger = λ name. behind (trace_for world statement before.point.run steps.0 name) (before.ledger name);
      } in
      let more = no_false_file start rest between steps.2 next steps.4 (λ name. behind_stretch start statement before.point steps.0 steps.1 steps.3 name (before.ledger name) (now name)) in
      let one : IsSafeStretch library start statement before steps.0 between = record {
        stretch = steps.3;
        stands = λ name. in_stretch start statement before.point steps.0 steps.1 steps.3 name (before.ledger name) (now name);
        ledger = λ name. refl;
      } in
      (more.0, more.1, (steps.0, between, steps.2, one, more.2, steps.5), more.3)

-- in so many words
module _ {S : Type 0} (library : Shown S) where
  pub images_are_of_ledger : ImagesAreOfLedger library
  images_are_of_ledger start old new name ledger first was stands = each_weaker library.moments _ _ old new name so (stands (λ _. was.0))
    where
      by : (b : Bool) → ledger.as_at_start ≡ b → (image : Named) → IsOfLedger (library.moments.IsImage start start name) ledger image
          → IsAmong (if b then first ++ ledger.may else ledger.may) image
      by true is image (inl at_start) = among_more first ledger.may image (was.1 image at_start.1)
      by true is image (inr one) = among_rest first ledger.may image one
      by false is image (inl at_start) = let e : false ≡ true = sym is ∙ at_start.0 in absurd (cc)
      by false is image (inr one) = one

      so : (image : Named) → IsOfLedger (library.moments.IsImage start start name) ledger image → IsAmong (images_by first ledger) image
      so = by ledger.as_at_start refl

  -- in the words of tests: each image at each moment passes each test that all of these pass
  pub stands_passes : (start old new : S) (name : List ℕ) (ledger : Ledger) → StandsBy library.moments start name ledger old new
      → (test : Named → Bool) → (ledger.as_at_start ≡ true → AllPassTest library.moments test start start name) → IsTrue (list_all test ledger.may)
      → AllPassTest library.moments test old new name
  stands_passes start old new name ledger stands test was all = each_weaker library.moments _ _ old new name so (stands (λ yes. (was yes).0))
    where
      so : (image : Named) → IsOfLedger (library.moments.IsImage start start name) ledger image → IsTrue (test image)
      so image (inl at_start) = (was at_start.0).1 image at_start.1
      so image (inr one) = among_passes test ledger.may all image one
