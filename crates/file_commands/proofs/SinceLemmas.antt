-- One call more.
use Rattle.std.proofs.Common.{◌≡◌, ℕ, suc, ◌-◌, Bool, true, false, List, [], ◌∷◌, take, length, Some, None, refl, sym, ap, ◌∙◌, arith}
use Rattle.std.proofs.lemmas.List.{length-append}
use Rattle.folder_shelf.specs.Calls.{Call, measured, read}
use Rattle.folder_shelf.specs.Reading.{with_calls}
use Rattle.folder_shelf.specs.Reads.{is_read}
use Rattle.folder_shelf.specs.SystemState.{SystemState, with_call}
use Rattle.file_commands.specs.Since.{calls_since, HasOnlyRead, is_failed_read}

pub none_since : (before now : SystemState) → now ≡ before → calls_since before now ≡ []
none_since before now same =
    let long : length now.calls - length before.calls ≡ 0 = (let e = ap (λ (s : SystemState). length s.calls) same in omega (arith, e)) in
    ap (λ (n : ℕ). take n now.calls) long

pub one_since : (before now : SystemState) (has_failed : Bool) (call : Call) (new : SystemState) → HasOnlyRead before now has_failed → new ≡ with_call call now
    → calls_since before new ≡ call ∷ calls_since before now
one_since before now has_failed call new only is =
    let whole = ap (λ (s : SystemState). length s.calls) only.noted in
    let parts = length-append (calls_since before now) before.calls in
    let calls = ap (λ (s : SystemState). s.calls) is in
    let long : length new.calls - length before.calls ≡ suc (length now.calls - length before.calls) = (let e = ap length calls in omega (arith, e, whole, parts)) in
    ap (λ (l : List Call). take (length new.calls - length before.calls) l) calls ∙ ap (λ (n : ℕ). take n (call ∷ now.calls)) long

-- a call that reads leaves what was only read so
module _ (before now : SystemState) (has_failed : Bool) (call : Call) (new : SystemState) (only : HasOnlyRead before now has_failed) (is : new ≡ with_call call now) where
  noted_more : new ≡ with_calls (calls_since before new) before
  noted_more = is ∙ ap (with_call call) only.noted ∙ ap (λ (calls : List Call). with_calls calls before) (sym (one_since before now has_failed call new only is))

  pub read_more : is_read call ≡ true → is_failed_read call ≡ false → HasOnlyRead before new has_failed
  read_more reads came = record {
    noted = noted_more;
    reading = rw (one_since before now has_failed call new only is, reads) only.reading;
    failed = rw (one_since before now has_failed call new only is, came) only.failed;
  }

  pub failed_more : is_read call ≡ true → is_failed_read call ≡ true → HasOnlyRead before new true
  failed_more reads failed = record {
    noted = noted_more;
    reading = rw (one_since before now has_failed call new only is, reads) only.reading;
    failed = rw (one_since before now has_failed call new only is, failed) refl;
  }

-- the size was told, or was not
pub size_read : (before now : SystemState) (has_failed : Bool) (path : List ℕ) (size : ℕ) (new : SystemState) → HasOnlyRead before now has_failed
    → new ≡ with_call (measured path (Some size)) now → HasOnlyRead before new has_failed
size_read before now has_failed path size new only is = read_more before now has_failed (measured path (Some size)) new only is refl refl

pub no_size : (before now : SystemState) (has_failed : Bool) (path : List ℕ) (new : SystemState) → HasOnlyRead before now has_failed
    → new ≡ with_call (measured path None) now → HasOnlyRead before new true
no_size before now has_failed path new only is = failed_more before now has_failed (measured path None) new only is refl refl

-- bytes came, or did not
pub bytes_read : (before now : SystemState) (has_failed : Bool) (path : List ℕ) (at : ℕ) (bytes : List ℕ) (new : SystemState) → HasOnlyRead before now has_failed
    → new ≡ with_call (read path true at bytes) now → HasOnlyRead before new has_failed
bytes_read before now has_failed path at bytes new only is = read_more before now has_failed (read path true at bytes) new only is refl refl

pub no_bytes : (before now : SystemState) (has_failed : Bool) (path : List ℕ) (at : ℕ) (bytes : List ℕ) (new : SystemState) → HasOnlyRead before now has_failed
    → new ≡ with_call (read path false at bytes) now → HasOnlyRead before new true
no_bytes before now has_failed path at bytes new only is = failed_more before now has_failed (read path false at bytes) new only is refl refl
