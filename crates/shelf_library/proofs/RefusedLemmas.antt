-- A refused file, and a file behind an open gate.
use Rattle.std.proofs.Common.{◌≡◌, inl, inr, ℕ, List, [], ◌∷◌, length, nat_lt, Option, None, Some, refl, sym, ap, subst, ◌∙◌}
use Rattle.std.proofs.lemmas.Bool.{lt-ltb}
use Rattle.shelf_library.proofs.Terms.{either, Unsound, throughout_none, throughout_weaker, refused_open, DeviceFile, AllOpen, Leaves}
use Rattle.shelf_library.proofs.Terms.{page_of_bytes, look_of, named_by, named_of, Accepted, Refused, IsSoundImage, MayReadAs, EachRead}
use Rattle.shelf_library.proofs.Terms.{each_read, found_now}
use Rattle.open_file.specs.FirstPageReading.{header_in}
use Rattle.open_file.proofs.PageReadLemmas.{header_in_none}
use Rattle.page_store.specs.Moments.{Quiet}
use Rattle.page_store.proofs.OpenLemmas.{quiet_open}
use Rattle.page_store.specs.Gate.{IsClosed, IsOpen, IsRefused}
use Rattle.shelf_library.specs.Named.{look_by}

first_closed : (bytes : List ℕ) → IsClosed (page_of_bytes bytes 0) → IsClosed bytes
first_closed [] closed = absurd closed
first_closed (x ∷ bytes) closed = closed

-- a first page with an open gate has no header
pub no_header : (bytes : List ℕ) → ¬ (IsClosed bytes) → header_in (page_of_bytes bytes 0) ≡ None
no_header bytes shut = header_in_none (page_of_bytes bytes 0) (λ is. shut (first_closed bytes (subst IsClosed (sym is.bytes) refl)))

-- a look at a refused file refuses it
pub refused_look : (c : Option (List ℕ)) → IsRefused c → look_of c ≡ Refused
refused_look None refused = absurd refused
refused_look (Some bytes) (inl short) = rw (lt-ltb (length bytes) 4096 short) refl
refused_look (Some bytes) (inr shut) =
    either (nat_lt (length bytes) 4096) (look_of (Some bytes) ≡ Refused)
    (λ short. rw short refl)
    (λ long. rw long (ap (look_by bytes) (no_header bytes shut)))

-- its name is unsound
pub refused_named : (c : Option (List ℕ)) → IsRefused c → named_of c ≡ Unsound
refused_named None refused = absurd refused
refused_named (Some bytes) refused = ap (named_by bytes) (refused_look (Some bytes) refused)

-- it is sound
pub refused_sound : (c : Option (List ℕ)) → IsRefused c → IsSoundImage c
refused_sound c refused header is = let clash : Refused ≡ Accepted header = sym (refused_look c refused) ∙ is in absurd (cc)

-- where each image is refused, and one of them is there, each one reads as that
refused_read : (one c : Option (List ℕ)) (file : DeviceFile) → IsRefused one → Leaves file one → IsRefused c → IsSoundImage c × MayReadAs file file (named_of c)
refused_read one c file there leaves refused = (refused_sound c refused, (one, found_now file one leaves, refused_named one there ∙ sym (refused_named c refused)))

-- behind an open gate each image is one from before, however the file goes on quietly
pub quiet_reads : (f g : DeviceFile) → Leaves f f.seen → AllOpen f → Quiet f g → EachRead (MayReadAs f f) f g
quiet_reads f g read all quiet =
    each_read (MayReadAs f f) f g
    (throughout_weaker IsOpen _ f g (λ c o. refused_read f.seen c f (refused_open f.seen (all f.seen read)) read (refused_open c o)) (quiet_open f g all quiet))

-- two files behind open gates have the same images
pub open_reads : (f g : DeviceFile) → Leaves g g.seen → AllOpen f → AllOpen g → EachRead (MayReadAs g g) f f
open_reads f g read all others =
    each_read (MayReadAs g g) f f
    (throughout_none _ f f refl (λ c may. refused_read g.seen c g (refused_open g.seen (others g.seen read)) read (refused_open c (all c may))))
