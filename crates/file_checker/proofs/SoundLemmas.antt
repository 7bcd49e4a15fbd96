-- The bytes of a file, by its first page and the pages behind it.
use Rattle.std.proofs.Common.{◌≡◌, ℕ, ◌+◌, ◌-◌, ◌*◌, ◌≤◌, ◌<◌, ltb, List, [], ◌∷◌, ◌++◌, length, slice_index, Option, Some, None, IsSome, ◌⊎◌, inl, inr, refl, sym, ap, subst, ◌∙◌, append-nil, length-append, arith}
use Rattle.std.proofs.lemmas.List.{take_at, get_or_append_left}
use Rattle.std.proofs.lemmas.Bool.{ltb-true, and_parts}
use Rattle.std.specs.Prelude.{Result, Ok, Err, IsErrAnd}
use Rattle.std.specs.Option.{IfSome}
use Rattle.std.specs.Io.KnownBytes.{Consumes}
use Rattle.pages.specs.PageMap.{PageMap}
use Rattle.page_store.specs.DeviceFile.{page_of_bytes}
use Rattle.page_alloc.specs.Chain.{chain, used}
use Rattle.pages.specs.declared.fault_place.FaultPlace.{FaultPlace}
use Rattle.pages.specs.declared.fault_place.FaultPlace.TheVariants.{File as TheFile}
use Rattle.page_walks.specs.FreeWalk.{page_in}
use Rattle.page_walks.specs.WholeFile.{pages_used_in}
use Rattle.open_file.specs.declared.first_page.Header.{Header}
use Rattle.open_file.specs.FirstPageReading.{number_in, numbers_in, header_in}
use Rattle.open_file.specs.FirstPage.{IsFirstPage}
use Rattle.open_file.proofs.PageReadLemmas.{first_numbers, first_read}
use Rattle.open_file.specs.Closed.{StandsClosed}
use Rattle.open_file.proofs.ClosedLemmas.{is_opened, opened_by, opened_stands, stands_by}
use Rattle.open_file.specs.Stands.{Stands}
use Rattle.shelf_library.specs.ClosedFile.{IsAcceptedBy, StandsIn, live_in, free_in}
use Rattle.shelf_library.proofs.PagesLemmas.{AreAlike, same_chain, same_live}
use Rattle.pages.specs.declared.damage.Damage.{Damage}
use Rattle.pages.specs.declared.damage.Damage.TheVariants.{Shared as SharedPage, Node as WrongNode, Order as WrongOrder, Heap as BrokenHeap, Index as WrongIndex, Lost as LostPage}
use Rattle.file_checker.specs.Reasons.{reason_of}
use Rattle.file_checker.specs.declared.verdict.Reason.TheVariants.{Short}
use Rattle.file_checker.specs.declared.verdict.Verdict.{Verdict}
use Rattle.file_checker.specs.declared.verdict.Verdict.TheVariants.{Unsound}
use Rattle.file_checker.specs.Bytes.{HasLess, HasGiven, HasGivenLess, HasGivenPages, AreRead, AreFirstPages, ReadingBreaksOff, bytes_of_pages}
use Rattle.file_checker.specs.Later.{IsMetIn}
use Rattle.file_checker.specs.Parts.{PagesStand}
use Rattle.file_checker.specs.declared.verdict.CheckFault.{CheckFault}
use Rattle.file_checker.specs.declared.verdict.CheckFault.TheVariants.{Input, Memory}
use Rattle.file_checker.specs.Sound.{IsSound, IsUnsound, IsLong, IsShort, IsUnsoundAt, HasPages, HoldsAt, CheckGivesUp, ChecksBehind, counted_in, asked_in}
use Rattle.file_checker.proofs.ReadLemmas.{consumes_on, less_given, pages_long}

-- what holds of the bytes that are known, if they are
pub of_known : (known : Option (List ℕ)) (P : List ℕ → Type 0) → ((bytes : List ℕ) → known ≡ Some bytes → P bytes) → IfSome known P
of_known None P f = tt
of_known (Some bytes) P f = f bytes refl

-- a fault is told as it was met, and nothing else
pub no_verdict : {X : Type 0} {first : List ℕ} {Right : List ℕ → X → Type 0} {verdict : X → Verdict} {before after : Option (List ℕ)} (r : Result X CheckFault) (fault : CheckFault) → IsErrAnd r (λ e. e ≡ fault)
    → ((bytes : List ℕ) → Consumes (Some bytes) before first → CheckGivesUp bytes after fault) → ChecksBehind first Right verdict before after r
no_verdict (Ok x) fault is up = absurd is
no_verdict {after = after} (Err e) fault is up = record {
  right = λ bytes came. tt;
  read = λ bytes came. tt;
  fault = λ bytes came. subst (CheckGivesUp bytes after) (sym is) (up bytes came);
}

-- ---- the first page

pub first_is : (bytes first : List ℕ) (after : Option (List ℕ)) → Consumes (Some bytes) after first → length first ≡ 4096 → page_of_bytes bytes 0 ≡ first
first_is bytes first None came long = absurd came
first_is bytes first (Some rest) came long = ap (λ (l : List ℕ). page_of_bytes l 0) came ∙ take_at first rest 4096 long

pub first_byte : (bytes first : List ℕ) (after : Option (List ℕ)) → Consumes (Some bytes) after first → length first ≡ 4096 → slice_index bytes 0 ≡ slice_index first 0
first_byte bytes first None came long = absurd came
first_byte bytes first (Some rest) came long = ap (λ (l : List ℕ). slice_index l 0) came ∙ get_or_append_left first rest 0 0 (omega arith)

-- ---- bytes in which no file stands

-- a sound file has the header of its first page
pub header_is : (bytes : List ℕ) (records pages : ℕ) (s : IsSound bytes records pages) → header_in (page_of_bytes bytes 0) ≡ Some s.header
header_is bytes records pages s = first_read s.header (page_of_bytes bytes 0) s.accepted.first

pub unsound_by_header : (bytes : List ℕ) → header_in (page_of_bytes bytes 0) ≡ None → IsUnsound bytes
unsound_by_header bytes none records pages s = let bad : Some s.header ≡ None = sym (header_is bytes records pages s) ∙ none in cc

pub unsound_by_length : (bytes : List ℕ) → IsShort bytes → IsUnsound bytes
unfolding numbers_in
unsound_by_length bytes short records pages s = go short
  where
    counted : counted_in bytes ≡ s.header.pages
    counted = ap (λ (h : Header). h.pages) (first_numbers s.header (page_of_bytes bytes 0) s.accepted.first)

    go : (length bytes < 4096) ⊎ (length bytes < 4096 * counted_in bytes) → ⊥
    go (inl few) = (let whole = s.accepted.whole in let some = s.accepted.first.allowed.within.counted in omega (arith, few, whole, some))
    go (inr few) =
        let whole = s.accepted.whole in
        let less : length bytes < 4096 * s.header.pages = subst (λ (n : ℕ). length bytes < 4096 * n) counted few in
        omega (arith, less, whole)

-- the bytes behind it
behind : (bytes first : List ℕ) (after : Option (List ℕ)) → Consumes (Some bytes) after first → length first ≡ 4096
    → (rest : List ℕ) × (after ≡ Some rest) × (length bytes ≡ 4096 + length rest)
behind bytes first None came long = absurd came
behind bytes first (Some rest) came long = (rest, refl, ap length came ∙ length-append first rest ∙ ap (λ k. k + length rest) long)

pub first_read_alone : (bytes first : List ℕ) (after : Option (List ℕ)) → Consumes (Some bytes) after first → length first ≡ 4096 → AreRead (Some bytes) after (first ∷ [])
first_read_alone bytes first after came long = record { given = subst (Consumes (Some bytes) after) (sym (append-nil first)) came; whole = (long, tt) }

pub counted_is : (bytes first : List ℕ) (header : Header) → page_of_bytes bytes 0 ≡ first → IsFirstPage header first → counted_in bytes ≡ header.pages
unfolding numbers_in
counted_is bytes first header page is = ap (λ (p : List ℕ). number_in p 12 4) page ∙ ap (λ (h : Header). h.pages) (first_numbers header first is)

-- ---- a file that is refused by its first page

module _ (bytes first : List ℕ) (after end : Option (List ℕ)) (count : ℕ) (came : Consumes (Some bytes) after first) (long : length first ≡ 4096)
    (counted : count ≡ number_in first 12 4) where
  told : counted_in bytes ≡ count
  told = ap (λ (p : List ℕ). number_in p 12 4) (first_is bytes first after came long) ∙ sym counted

  -- what came behind the first page came behind nothing else
  pub read_whole : HasGiven after end (4096 * (count - 1)) → HasGiven (Some bytes) end (asked_in bytes)
  read_whole given = record {
    bytes = first ++ given.bytes;
    given = consumes_on (Some bytes) after end first given.bytes (first ++ given.bytes) came given.given refl;
    many = length-append first given.bytes ∙ (let many = given.many in let e = told in subst (λ (n : ℕ). length first + length given.bytes ≡ 4096 + 4096 * (n - 1)) (sym e) (omega arith));
  }

  pub read_less : HasGivenLess after end (4096 * (count - 1)) → HasGivenLess (Some bytes) end (asked_in bytes)
  read_less less =
      subst (λ (n : ℕ). HasGivenLess (Some bytes) end (4096 + 4096 * (n - 1))) (sym told)
      (less_given (Some bytes) after end first (4096 * (count - 1)) (4096 + 4096 * (count - 1)) came less (omega arith))

  pub is_short : HasLess (4096 * (count - 1)) after → IsUnsoundAt TheFile bytes Short
  is_short less =
      let there = behind bytes first after came long in
      let few : length there.0 < 4096 * (count - 1) = subst (HasLess (4096 * (count - 1))) there.1 less in
      let e = told in let all = there.2 in
      let short : IsShort bytes = inr (subst (λ (n : ℕ). length bytes < 4096 * n) (sym e) (omega arith)) in
      ((refl, short), unsound_by_length bytes short)

  -- nothing stands behind a first page that has no header
  pub no_header : header_in first ≡ None → IsUnsound bytes
  no_header none = unsound_by_header bytes (ap header_in (first_is bytes first after came long) ∙ none)

  pub is_long : HasGiven after end (4096 * (count - 1)) → IsLong bytes
  is_long given =
      let there = behind bytes first after came long in
      let all = there.2 in
      let many : 4096 * (count - 1) ≤ length there.0 = enough there.0 end (subst (λ (a : Option (List ℕ)). HasGiven a end (4096 * (count - 1))) there.1 given) in
      record { first = omega arith; counted = subst (λ (n : ℕ). 4096 * n ≤ length bytes) (sym told) (omega arith) }
    where
      enough : (rest : List ℕ) (end : Option (List ℕ)) → HasGiven (Some rest) end (4096 * (count - 1)) → 4096 * (count - 1) ≤ length rest
      enough rest None given = absurd given.given
      enough rest (Some last) given = let sum = ap length given.given ∙ length-append given.bytes last in let many = given.many in omega arith

-- ---- a file that is accepted

-- no damage is told as want of bytes
pub not_short : (damage : Damage) (place : FaultPlace) → Unsound (reason_of damage) place ≡ Unsound Short TheFile → ⊥
not_short SharedPage place is = cc is
not_short WrongNode place is = cc is
not_short WrongOrder place is = cc is
not_short BrokenHeap place is = cc is
not_short WrongIndex place is = cc is
not_short LostPage place is = cc is

-- what is wrong with the pages is the reason by which it is told
pub shown : (bytes : List ℕ) (header : Header) (list : List (List ℕ)) (damage : Damage) (place : FaultPlace) → HasPages bytes header list → IsMetIn header list damage place
    → HoldsAt bytes (reason_of damage) place
shown bytes header list SharedPage place all met = (header, list, all, met)
shown bytes header list WrongNode place all met = (header, list, all, met)
shown bytes header list WrongOrder place all met = (header, list, all, met)
shown bytes header list BrokenHeap place all met = (header, list, all, met)
shown bytes header list WrongIndex place all met = (header, list, all, met)
shown bytes header list LostPage place all met = (header, list, all, met)

module _ (bytes first : List ℕ) (header : Header) (page : page_of_bytes bytes 0 ≡ first) (is : IsFirstPage header first) where
  pub too_few : HasLess (4096 * header.pages) (Some bytes) → IsUnsoundAt TheFile bytes Short
  too_few less =
      let short : IsShort bytes = inr (subst (λ (n : ℕ). length bytes < 4096 * n) (sym (counted_is bytes first header page is)) less) in
      ((refl, short), unsound_by_length bytes short)

  counted : 1 ≤ header.pages
  counted = let c = is.allowed.within.counted in omega arith

  asked : 4096 * header.pages ≡ asked_in bytes
  asked = subst (λ (n : ℕ). 4096 * header.pages ≡ 4096 + 4096 * (n - 1)) (sym (counted_is bytes first header page is)) (let some = counted in omega arith)

  pub gives_up : (end : Option (List ℕ)) (fault : CheckFault) → ReadingBreaksOff (Some bytes) end header.pages fault → CheckGivesUp bytes end fault
  gives_up end Input less = subst (HasGivenLess (Some bytes) end) asked less
  gives_up end Memory some =
      (subst (HasGivenPages (Some bytes) end) (sym (counted_is bytes first header page is)) some, (header, ap header_in page ∙ first_read header first is))

  -- the first page alone was read
  pub one_given : (end : Option (List ℕ)) → Consumes (Some bytes) end first → length first ≡ 4096 → HasGivenPages (Some bytes) end header.pages
  one_given end came long = record { count = 1; some = omega arith; few = counted; given = record { bytes = first; given = came; many = long } }

  -- so many pages were read
  pub all_given : (end : Option (List ℕ)) (list : List (List ℕ)) → AreRead (Some bytes) end list → length list ≡ header.pages → HasGivenPages (Some bytes) end header.pages
  all_given end list had many = record {
    count = header.pages;
    some = counted;
    few = omega arith;
    given = record { bytes = bytes_of_pages list; given = had.given; many = pages_long list had.whole ∙ ap (λ (n : ℕ). 4096 * n) many };
  }

  pub pages_read : (end : Option (List ℕ)) (list : List (List ℕ)) → AreRead (Some bytes) end list → length list ≡ header.pages → HasGiven (Some bytes) end (asked_in bytes)
  pages_read end list had many = record {
    bytes = bytes_of_pages list;
    given = had.given;
    many = pages_long list had.whole ∙ ap (λ (n : ℕ). 4096 * n) many ∙ asked;
  }

  module _ (list : List (List ℕ)) (pages : AreFirstPages bytes list) (many : length list ≡ header.pages) where
    pub accepted : IsAcceptedBy header bytes
    accepted = record { first = subst (IsFirstPage header) (sym page) is; whole = let enough = pages.enough in omega (arith, many, enough) }

    pub all_pages : HasPages bytes header list
    all_pages = record { accepted = accepted; pages = pages; many = many }

    alike : AreAlike header.pages (page_of_bytes bytes) (page_in list)
    alike n inside =
        let below : n < header.pages = ltb-true n header.pages (and_parts (ltb 0 n) (ltb n header.pages) inside).1 in
        pages.each n (omega arith)

    live_is : live_in header bytes ≡ pages_used_in list header.first_free header.free
    live_is = same_live (page_of_bytes bytes) (page_in list) header.pages alike header.first_free header.free
        ∙ ap (λ (count : ℕ). used (page_in list) count (chain (page_in list) count header.first_free header.free)) (sym many)

    chain_is : chain (page_in list) (length list) header.first_free header.free ≡ free_in header bytes
    chain_is = ap (λ (count : ℕ). chain (page_in list) count header.first_free header.free) many
        ∙ sym (same_chain (page_of_bytes bytes) (page_in list) header.pages alike header.first_free header.free)

    -- where a file stands in the bytes, it stands in their pages
    stand_in_pages : (records count : ℕ) → IsSound bytes records count → PagesStand header list
    stand_in_pages records count s =
        let here : Some s.header ≡ Some header = sym (header_is bytes records count s) ∙ ap header_in page ∙ first_read header first is in
        let same : s.header ≡ header = cc in
        let t : StandsIn header bytes s.file = subst (λ (h : Header). StandsIn h bytes s.file) same s.stands in
        record {
          opened = opened_by header (live_in header bytes) s.file is.allowed t.pages;
          by_header = is_opened header (live_in header bytes) s.file is.allowed t.pages;
          file = s.file;
          stands = subst (λ (live : PageMap). Stands (opened_by header (live_in header bytes) s.file is.allowed t.pages) live s.file) live_is
              (opened_stands header (live_in header bytes) s.file is.allowed t.pages);
          sound = subst (λ (free : Option (List ℕ)). IsSome free) (sym chain_is) t.free;
          records_are = sym t.pages.records;
        }

    pub unsound_by_pages : (PagesStand header list → ⊥) → IsUnsound bytes
    unsound_by_pages never records count s = never (stand_in_pages records count s)

    pub is_sound : PagesStand header list → IsSound bytes header.records header.pages
    is_sound found = record {
      header = header;
      accepted = accepted;
      pages_are = refl;
      file = found.file;
      stands = record {
        free = subst (λ (free : Option (List ℕ)). IsSome free) chain_is found.sound;
        pages = subst (λ (live : PageMap). StandsClosed header live found.file) (sym live_is)
            (stands_by header found.opened _ found.file found.by_header.shaped found.by_header.header_is found.stands);
      };
      records_are = found.records_are;
    }
