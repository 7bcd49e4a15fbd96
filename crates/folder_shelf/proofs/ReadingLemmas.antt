-- Calls that only read, one after another.
use Rattle.std.proofs.Common.{◌≡◌, List, [], ◌∷◌, ◌++◌, refl, sym, ap, ◌∙◌, append_assoc}
use Rattle.folder_shelf.specs.Calls.{Call}
use Rattle.folder_shelf.specs.SystemState.{SystemState, with_call}
use Rattle.folder_shelf.specs.Reading.{IsReading, AreReading, ByReads, with_calls}

-- both lists are of reads, where each is
pub both_reading : (later calls : List Call) → AreReading later → AreReading calls → AreReading (later ++ calls)
both_reading [] calls are_later are = are
both_reading (call ∷ later) calls are_later are = (are_later.0, both_reading later calls are_later.1 are)

-- no call was made
pub by_none : {IsSo : List Call → Type 0} (state : SystemState) → IsSo [] → ByReads IsSo state state
by_none state so = record { calls = []; noted = refl; reading = tt; so = so }

-- one call was made
pub by_one : {IsSo : List Call → Type 0} (old new : SystemState) (call : Call) → new ≡ with_call call old → IsReading call → IsSo (call ∷ []) → ByReads IsSo old new
by_one old new call noted reading so = record { calls = call ∷ []; noted = noted; reading = (reading, tt); so = so }

-- calls were made, of which something else is so, too
pub by_same : {IsSo AlsoSo : List Call → Type 0} (old new : SystemState) → ByReads IsSo old new → ((calls : List Call) → IsSo calls → AlsoSo calls) → ByReads AlsoSo old new
by_same old new reads also = record { calls = reads.calls; noted = reads.noted; reading = reads.reading; so = also reads.calls reads.so }

-- calls were made, and then others
pub by_both : {IsFirst IsLater IsSo : List Call → Type 0} (old between new : SystemState) → ByReads IsFirst old between → ByReads IsLater between new
    → ((calls later : List Call) → IsFirst calls → IsLater later → IsSo (later ++ calls)) → ByReads IsSo old new
by_both old between new first later so = record {
  calls = later.calls ++ first.calls;
  noted = later.noted ∙ ap (with_calls later.calls) first.noted
      ∙ ap (λ (all : List Call). record old { calls = all }) (sym (append_assoc later.calls first.calls old.calls));
  reading = both_reading later.calls first.calls later.reading first.reading;
  so = so first.calls later.calls first.so later.so;
}

-- two calls were made
pub by_two : {IsSo : List Call → Type 0} (old between new : SystemState) (call later : Call) → between ≡ with_call call old → new ≡ with_call later between → IsReading call → IsReading later
    → IsSo (later ∷ call ∷ []) → ByReads IsSo old new
by_two old between new call later first second reading reading_later so = record {
  calls = later ∷ call ∷ [];
  noted = second ∙ ap (with_call later) first;
  reading = (reading_later, (reading, tt));
  so = so;
}
