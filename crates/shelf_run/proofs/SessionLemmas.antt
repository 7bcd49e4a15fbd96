-- What a session over a library over a shelf says of the files of the shelf.
use Rattle.std.proofs.Common.{◌≡◌, ℕ, Bool, List, [], ◌∷◌, length, IsTrue, refl, sym, ap, subst, ◌∙◌, arith}
use Rattle.io_state.specs.declared.status.Status.{Status}
use Rattle.indexed_file.specs.Shown.{Shown}
use Rattle.indexed_file.specs.World.{Named, named_in}
use Rattle.page_store.specs.ShelfState.{ShelfState}
use Rattle.shelf_library.specs.Crashes.{IsSoundImage}
use Rattle.shelf_library.specs.Library.{shown_by}
use Rattle.shelf_library.specs.State.{LibraryState}
use Rattle.shelf_library.specs.Truth.{IsShownTruly}
use Rattle.shelf_library.specs.Units.{units_of}
use Rattle.shelf_library.specs.WorldLaws.{named_anywhere}
use Rattle.shelf_library.specs.declared.held.Held.{Held}
use Rattle.shelf_run.specs.Files.{reads_of, Represents}
use Rattle.shelf_run.proofs.FilesLemmas.{named_is, sound_of, sound_if_closed, shown_truly, represents_sound}
use Rattle.serve.specs.Files.{Files, files_at_start}
use Rattle.serve.specs.ExactFiles.{exact_at_start}
use Rattle.serve.specs.ExactSession.{files_in_session, IsSoOfAllDescribed, ExactAfter, ExactSession}
use Rattle.serve.specs.Serving.{Exchange, ClosesAllFiles}
use Rattle.serve.proofs.TruthLemmas.{KeepsTruth, on_keeps, serving_keeps, closes_keep}
use Rattle.shelf_run.specs.SessionOnShelf.{AreDescribedIn, RepresentsWhatIsLeft, AnswersExactlyOn, IsExactSessionOn, ExactOnShelf}
use Rattle.shelf_run.proofs.NamedElsewhere.{described_weaker, with_names, IsSame, serves_with, closes_with}

-- ---- a library without units

no_names : (shelf : ShelfState) (names : List (List ℕ)) (held : List Held) → length held ≡ length names → units_of shelf names held ≡ [] → names ≡ []
no_names shelf [] held many none = refl
no_names shelf (name ∷ names) [] many none = absurd (omega (arith, many))
no_names shelf (name ∷ names) (one ∷ held) many none = absurd (cc)

none_held : (held : List Held) (names : List (List ℕ)) → length held ≡ length names → names ≡ [] → held ≡ []
none_held [] names many none = refl
none_held (one ∷ held) names many none = let no = ap (λ (l : List (List ℕ)). length l) none in absurd (omega (arith, many, no))

module _ {S : Type 0} (state : S → LibraryState) (many : (library : S) → length (state library).held ≡ length (state library).shelf.names) (keeps_open : S → ℕ → Bool) where
  abbrev shown : Shown S
  shown = shown_by state

  abbrev shelf_of : S → ShelfState
  shelf_of library = (state library).shelf

  -- each name stands for what its file reads as
  reads : (library : S) (name : List ℕ) (named : Named) → Represents (reads_of (shelf_of library) name) named → named ≡ named_in (shown.world library) name
  reads library name named is = sym (named_anywhere (shelf_of library) (state library).held name (many library) ∙ named_is (reads_of (shelf_of library) name) named is)

  module _ (start : S) (exchanges : List Exchange) (now : Files S) (after : ExactAfter shown keeps_open start exchanges now) where
    none : (shelf_of start).names ≡ []
    none = no_names (shelf_of start) (shelf_of start).names (state start).held (many start) after.no_unit

    truly : (name : List ℕ) → IsSoundImage (reads_of (shelf_of start) name) → shown.IsShownTruly start name
    truly name sound =
        subst (λ (held : List Held). IsShownTruly (shelf_of start) held name) (sym (none_held (state start).held (shelf_of start).names (many start) none))
        (shown_truly (shelf_of start) name none sound)

    module _ (named : List ℕ → Named) (are : AreDescribedIn (reads_of (shelf_of start)) named exchanges) where
      same_names : IsSoOfAllDescribed (IsSame named (exact_at_start (named_in (shown.world start)))) exchanges
      same_names = described_weaker (λ name. Represents (reads_of (shelf_of start) name) (named name)) (IsSame named (exact_at_start (named_in (shown.world start))))
          (λ name is. reads start name (named name) is) exchanges are

      true_names : IsSoOfAllDescribed (shown.IsShownTruly start) exchanges
      true_names = described_weaker (λ name. Represents (reads_of (shelf_of start) name) (named name)) (shown.IsShownTruly start)
          (λ name is. truly name (sound_of (reads_of (shelf_of start) name) (named name) is)) exchanges are

      -- what is left is what the files represent
      represents : (last : Files S) (left : List ℕ → Named) → KeepsTruth shown start last.library → IsTrue (shelf_of last.library).is_honest
          → ((name : List ℕ) → IsSame named (exact_at_start (named_in (shown.world start))) name → IsSame left (files_in_session shown last) name)
          → RepresentsWhatIsLeft (shelf_of start) (shelf_of last.library) named left
      represents last left keeps honest same name is =
          let shelf = shelf_of last.library in
          let shown_now : shown.IsShownTruly last.library name = keeps.truth honest name (truly name (sound_of (reads_of (shelf_of start) name) (named name) is)) in
          let now_is : left name ≡ named_in (shown.world last.library) name = same name (reads start name (named name) is) in
          subst (λ (n : Named). Represents (reads_of shelf name) n)
          (sym (now_is ∙ named_anywhere shelf (state last.library).held name (many last.library)))
          (represents_sound (reads_of shelf name) (sound_if_closed (shelf.file name) shown_now.closed))

    kept : KeepsTruth shown start now.library
    kept = serving_keeps shown keeps_open exchanges (files_at_start start) now after.answered

    pub answers_on : AnswersExactlyOn (shelf_of start) (shelf_of now.library) exchanges
    answers_on honest clean named are =
        let exact = after.exact (record { honest = honest; truly = true_names named are; clean = clean }) in
        let other = serves_with exchanges (exact_at_start (named_in (shown.world start))) (files_in_session shown now) named (same_names named are) exact in
        (with_names (files_in_session shown now) other.0, other.1, represents named are now other.0 kept honest other.2)

    pub closed_on : (closes : List Status) (end : Files S) → ClosesAllFiles shown now closes end → IsExactSessionOn (shelf_of start) (shelf_of end.library) exchanges closes
    closed_on closes end closing honest clean calm named are =
        let closed = closes_keep shown closes now end closing in
        let exact = after.exact (record { honest = closed.honest honest; truly = true_names named are; clean = clean }) in
        let exactly = after.closes closes end closing (record { honest = honest; truly = true_names named are; clean = clean }) calm in
        let other = serves_with exchanges (exact_at_start (named_in (shown.world start))) (files_in_session shown now) named (same_names named are) exact in
        let last = closes_with closes (files_in_session shown now) (files_in_session shown end) other.0 exactly in (
          with_names (files_in_session shown end) last.0,
          record { last = with_names (files_in_session shown now) other.0; serves = other.1; closed = last.1 },
          represents named are end last.0 (on_keeps shown start now.library end.library kept closed) honest (λ name is. last.2 name (other.2 name is)),
        )

  pub exact_on : ExactSession shown keeps_open → ExactOnShelf shown keeps_open shelf_of
  exact_on sessions = record {
    requests = answers_on;
    closed = λ start exchanges now after closes end. closed_on start exchanges now after closes end;
    session = λ start s result session none. closed_on start session.served.exchanges session.last (sessions start s result session none).0 session.closes session.end session.closed;
  }
