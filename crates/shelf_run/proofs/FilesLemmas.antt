-- What a library over a shelf shows of its files, and what they stand for.
use Rattle.std.proofs.Common.{◌≡◌, ℕ, ◌*◌, List, [], ◌∷◌, length, map, All, Option, None, Some, refl, sym, ap, subst, ◌∙◌, arith}
use Rattle.std.specs.Prelude.{nat_lt}
use Rattle.indexed_file.specs.File.{File}
use Rattle.indexed_file.specs.World.{Named, Absent, Closed, Unsound, named_in}
use Rattle.indexed_file.proofs.TestLemmas.{either}
use Rattle.record_layout.specs.Schema.{Schema}
use Rattle.open_file.specs.FirstPageReading.{header_in}
use Rattle.page_store.specs.DeviceFile.{page_of_bytes, DeviceFile, bytes_or_none}
use Rattle.page_store.specs.ShelfState.{ShelfState}
use Rattle.file_control.specs.Description.{file_names}
use Rattle.deck_reader.specs.declared.deck.Deck.{Deck}
use Rattle.open_file.specs.declared.first_page.Header.{Header}
use Rattle.shelf_library.specs.declared.look.HeaderLook.{HeaderLook}
use Rattle.shelf_library.specs.declared.look.HeaderLook.TheVariants.{NoFile, Refused, Accepted}
use Rattle.shelf_library.specs.ClosedFile.{IsAcceptedBy, StandsIn}
use Rattle.shelf_library.specs.Named.{look_of, look_by, named_of, named_by}
use Rattle.shelf_library.specs.FileAcceptedLemmas.{looks_accepted, accepted_looks, reads_back, named_by_header}
use Rattle.shelf_library.specs.Truth.{IsShownTruly, IsTrulyClosed}
use Rattle.shelf_library.specs.Units.{world_of}
use Rattle.shelf_library.specs.WorldLaws.{named_anywhere}
use Rattle.shelf_library.specs.declared.held.Held.{Held}
use Rattle.shelf_library.specs.Crashes.{IsSoundImage}
use Rattle.shelf_run.specs.Soundness.{files_of}
use Rattle.shelf_run.specs.Files.{Represents}

-- ---- what names stand for

-- a library that holds nothing shows the files
pub world_at_first : (shelf : ShelfState) → shelf.names ≡ [] → world_of shelf [] ≡ files_of shelf
world_at_first shelf none = rw none refl

-- each name stands for what its file reads as
pub named_same : (shelf : ShelfState) (held : List Held) (names : List (List ℕ)) → length held ≡ length shelf.names
    → map (named_in (files_of shelf)) names ≡ map (named_in (world_of shelf held)) names
named_same shelf held [] many = refl
named_same shelf held (name ∷ names) many =
    ap (λ (n : Named). n ∷ map (named_in (files_of shelf)) names) (sym (named_anywhere shelf held name many))
    ∙ ap (λ (ns : List Named). named_in (world_of shelf held) name ∷ ns) (named_same shelf held names many)

-- ---- what is sound

-- what a read gives of each of the deck's files is sound
abbrev pub AreSound : ShelfState → Deck → Type 0
AreSound shelf deck = All (λ name. IsSoundImage (shelf.file name).seen) (file_names deck.files)

pub sound_if_closed : (bytes : DeviceFile) → ((header : Header) → look_of bytes.seen ≡ Accepted header → IsTrulyClosed bytes header) → IsSoundImage bytes.seen
sound_if_closed bytes truly = λ header is. let closed = truly header is in (closed.rows, closed.stands)

-- what is sound is shown truly by a library that holds nothing
pub shown_truly : (shelf : ShelfState) (name : List ℕ) → shelf.names ≡ [] → IsSoundImage (shelf.file name).seen → IsShownTruly shelf [] name
shown_truly shelf name none sound = record {
  closed = λ header is. let rows = sound header is in record { rows = rows.0; stands = rows.1 };
  opened = λ u file within named is. absurd (let no = ap (λ (names : List (List ℕ)). length names) none in omega (arith, within, no));
}

-- ---- what bytes represent

look_there : (bytes : List ℕ) (header : Option Header) → look_by bytes header ≡ NoFile → ⊥
look_there bytes None is = absurd (cc)
look_there bytes (Some header) is =
    either (nat_lt (length bytes) (4096 * header.pages)) ⊥
    (λ short. let e : Refused ≡ NoFile = rw short at is in absurd (cc))
    (λ long. let e : Accepted header ≡ NoFile = rw long at is in absurd (cc))

pub file_there : (bytes : List ℕ) → look_of (Some bytes) ≡ NoFile → ⊥
file_there bytes is =
    either (nat_lt (length bytes) 4096) ⊥
    (λ short. let e : Refused ≡ NoFile = rw short at is in absurd (cc))
    (λ long. look_there bytes (header_in (page_of_bytes bytes 0)) (rw long at is))

-- bytes that begin with the first page of no closed file are refused
refused_by : (bytes : List ℕ) (look : HeaderLook) → look_of (Some bytes) ≡ look → ((header : Header) → IsAcceptedBy header bytes → ⊥) → look ≡ Refused
refused_by bytes NoFile is none = absurd (file_there bytes is)
refused_by bytes Refused is none = refl
refused_by bytes (Accepted header) is none = absurd (none header (accepted_looks bytes header is))

refused_look : (c : Option (List ℕ)) → Represents c Unsound → look_of c ≡ Refused
refused_look c is = ap look_of is.1 ∙ refused_by is.0 (look_of (Some is.0)) refl is.2

refused_named : (c : Option (List ℕ)) → look_of c ≡ Refused → named_of c ≡ Unsound
refused_named None is = absurd (cc)
refused_named (Some bytes) is = ap (named_by bytes) is

-- what represents something reads as that
pub named_is : (c : Option (List ℕ)) (named : Named) → Represents c named → named_of c ≡ named
named_is c Absent is = ap named_of is
named_is c (Closed schema file) is =
    let closed = is.2 in
    let accepted = looks_accepted is.0 closed.header closed.accepted in
    ap named_of is.1 ∙ named_by_header is.0 closed.header accepted
    ∙ ap (Closed closed.header.schema) (reads_back closed.header is.0 file accepted closed.stands)
    ∙ ap (λ (schema : Schema). Closed schema file) closed.schema_is
named_is c Unsound is = refused_named c (refused_look c is)

-- and is sound
pub sound_of : (c : Option (List ℕ)) (named : Named) → Represents c named → IsSoundImage c
sound_of c Absent is = λ header accepted. let e : NoFile ≡ Accepted header = sym (ap look_of is) ∙ accepted in absurd (cc)
sound_of c (Closed schema file) is = λ header accepted.
    let closed = is.2 in
    let e : Accepted closed.header ≡ Accepted header = sym (looks_accepted is.0 closed.header closed.accepted) ∙ ap look_of (sym is.1) ∙ accepted in
    let same : closed.header ≡ header = cc in (
      file,
      subst (λ (h : Header). StandsIn h (bytes_or_none c) file) same
          (subst (λ (bytes : List ℕ). StandsIn closed.header bytes file) (ap bytes_or_none (sym is.1)) closed.stands),
    )
sound_of c Unsound is = λ header accepted. let e : Refused ≡ Accepted header = sym (refused_look c is) ∙ accepted in absurd (cc)

represents_look : (bytes : List ℕ) (look : HeaderLook) → look_of (Some bytes) ≡ look → IsSoundImage (Some bytes) → Represents (Some bytes) (named_by bytes look)
represents_look bytes NoFile is sound = absurd (file_there bytes is)
represents_look bytes Refused is sound = (
  bytes,
  refl,
  λ header accepted. let e : Refused ≡ Accepted header = sym is ∙ looks_accepted bytes header accepted in absurd (cc),
)
represents_look bytes (Accepted header) is sound =
    let rows = sound header is in (
      bytes,
      refl,
      record {
        header = header;
        schema_is = refl;
        accepted = accepted_looks bytes header is;
        stands = subst (λ (file : File). StandsIn header bytes file) (sym (reads_back header bytes rows.0 is rows.1)) rows.1;
      },
    )

-- what is sound represents what it reads as
pub represents_sound : (c : Option (List ℕ)) → IsSoundImage c → Represents c (named_of c)
represents_sound None sound = refl
represents_sound (Some bytes) sound = represents_look bytes (look_of (Some bytes)) refl sound
