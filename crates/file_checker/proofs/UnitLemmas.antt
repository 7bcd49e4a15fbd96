-- What is asked of a unit, one answer after another.
use Rattle.std.proofs.Common.{◌≡◌, ◌≤◌, ◌<◌, ◌*◌, ℕ, Bool, true, false, List, [], length, take, drop, Option, None, Some, Result, Ok, Err, inl, inr, refl, sym, ap, subst, ◌∙◌, arith}
use Rattle.std.specs.Prelude.{IsTrue, is_some}
use Rattle.io_state.specs.declared.fault.Fault.{Fault}
use Rattle.pages.specs.declared.fault_place.FaultPlace.TheVariants.{File as TheFile}
use Rattle.pages.specs.Chunks.{chunks}
use Rattle.pages.proofs.ChunkLemmas.{get_or-chunks, length-chunks}
use Rattle.page_store.specs.DeviceFile.{DeviceFile, IsWithin, content, page_of_bytes}
use Rattle.page_store.specs.Calls.{ReadsBytes}
use Rattle.page_store.specs.Pages.{HoldsPages}
use Rattle.page_store.specs.ShelfState.{ShelfState, HasUnit, OnlyAnswers, unit_file}
use Rattle.page_store.proofs.GateLemmas.{same_file}
use Rattle.open_file.specs.declared.first_page.Header.{Header}
use Rattle.file_checker.specs.declared.verdict.Reason.TheVariants.{Short}
use Rattle.file_checker.specs.declared.first_look.FirstLook.{FirstLook}
use Rattle.file_checker.specs.declared.first_look.FirstLook.TheVariants.{Refused, Accepted}
use Rattle.file_checker.specs.FirstLook.{IsFirstLook, IsLookAt}
use Rattle.file_checker.specs.Sound.{HasPages, IsRight, IsShort, IsUnsoundAt}
use Rattle.file_checker.specs.UnitChecking.{ChecksUnit, IsUnitFault}
use Rattle.file_checker.specs.declared.verdict.Verdict.{Verdict}
use Rattle.file_checker.proofs.SoundLemmas.{unsound_by_length}

pub only_then : (a b c : ShelfState) → OnlyAnswers a b → OnlyAnswers b c → OnlyAnswers a c
only_then a b c ab bc = record { names = bc.names ∙ ab.names; file = bc.file ∙ ab.file; honest = λ h. ab.honest (bc.honest h) }

pub has_unit : (a b : ShelfState) (unit : ℕ) → OnlyAnswers a b → HasUnit a unit → HasUnit b unit
has_unit a b unit only has = record { attached = subst (λ (names : List (List ℕ)). unit < length names) (sym only.names) has.attached }

-- fewer bytes than a page has
pub too_few : (file : DeviceFile) (size : ℕ) → size ≡ length (content file) → size < 4096 → IsUnsoundAt TheFile (content file) Short
too_few file size is few = let short : IsShort (content file) = inl (subst (λ (n : ℕ). n < 4096) is few) in ((refl, short), unsound_by_length (content file) short)

-- a file that is not there has none
pub none_there : (file : DeviceFile) (there : Bool) → there ≡ is_some file.seen → there ≡ false → IsUnsoundAt TheFile (content file) Short
none_there file there is not = too_few file 0 (go file.seen (sym not ∙ is)) (omega arith)
  where
    go : (seen : Option (List ℕ)) → false ≡ is_some seen → 0 ≡ length (content (record { seen = seen; log = file.log }))
    go None none = refl
    go (Some bytes) none = absurd (cc)

-- a file that was there is there, with as many bytes
pub still_there : (a b : ShelfState) (unit n : ℕ) (there : Bool) → OnlyAnswers a b → there ≡ is_some (unit_file a unit).seen → there ≡ true → n ≤ length (content (unit_file a unit))
    → IsWithin n (unit_file b unit)
still_there a b unit n there only is set long = subst (IsWithin n) (sym (same_file a b unit only)) (record { there = subst IsTrue (sym set ∙ is) refl; long = long })

-- the bytes of page 0
pub first_read : (file : DeviceFile) (page : List ℕ) → length page ≡ 4096 → ReadsBytes file 0 page → page_of_bytes (content file) 0 ≡ page
first_read file page long read = sym (read.is ∙ ap (λ (n : ℕ). take n (content file)) long)

-- what the first page says of a file that is there
pub look_is : (file : DeviceFile) (look : FirstLook) → IsWithin 4096 file → IsFirstLook (content file) look → IsLookAt file look
look_is file (Refused reason) there is = is
look_is file (Accepted header) there is = (there, is)

-- it has all pages that its header counts
pub holds_all : (file : DeviceFile) (header : Header) → IsLookAt file (Accepted header) → HoldsPages header.pages file
holds_all file header look = record { there = look.0.there; long = let one = look.0.long in let all = look.1.whole in omega (arith, one, all) }

pub pages_of_file : (file : DeviceFile) (header : Header) → IsLookAt file (Accepted header) → HasPages (content file) header (chunks 4096 header.pages (content file))
pages_of_file file header look =
    let bytes = content file in
    let many = length-chunks 4096 header.pages bytes in
    let whole = look.1.whole in
    record {
      accepted = look.1;
      pages = record {
        enough = omega (arith, many, whole);
        each = λ n inside.
            (let below : n < header.pages = omega (arith, many, inside) in
            let at : 4096 * n ≡ n * 4096 = omega arith in
            ap (λ (k : ℕ). take 4096 (drop k bytes)) at ∙ sym (get_or-chunks 4096 header.pages n bytes [] below));
      };
      many = many;
    }

-- ---- what is found, behind calls that only answered

module _ {H : Type 0} (state : H → ShelfState) (count : H → ℕ) (unit : ℕ) (a b c : H) (only : OnlyAnswers (state a) (state b)) (more : count a ≤ count b) where
  fault_on : (fault : Fault) → IsUnitFault (count b) (count c) fault → IsUnitFault (count a) (count c) fault
  fault_on fault (inl memory) = inl memory
  fault_on fault (inr device) = inr (device.0, (let rose = device.1 in omega (arith, more, rose)))

  pub checks_on : (r : Result Verdict Fault) → ChecksUnit state count unit b c r → ChecksUnit state count unit a c r
  checks_on (Ok finding) e = record {
    right = λ honest. subst (λ (file : DeviceFile). IsRight (content file) finding) (same_file (state a) (state b) unit only) (e.right honest);
    only = only_then (state a) (state b) (state c) only e.only;
    no_fewer = (let rest = e.no_fewer in omega (arith, more, rest));
    fault = tt;
  }
  checks_on (Err fault) e = record {
    right = tt;
    only = only_then (state a) (state b) (state c) only e.only;
    no_fewer = (let rest = e.no_fewer in omega (arith, more, rest));
    fault = fault_on fault e.fault;
  }
