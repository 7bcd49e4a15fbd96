-- Bytes and frames that a reader gave.
use Rattle.std.proofs.Common.{◌≡◌, ◌≤◌, ◌<◌, ◌+◌, ◌-◌, ℕ, List, [], ◌∷◌, ◌++◌, take, drop, length, slice_index_or, Some, None, refl, sym, ap, ap₂, subst, ◌∙◌, append_assoc, append-nil, take-append-drop, length-append, length-drop, arith}
use Rattle.std.proofs.lemmas.List.{take-append-le, take_all, length-take-le}
use Rattle.std.proofs.Math.Seq.{take-append-add}
use borrow.Rule.Slice.PartMut.{put_mid, post_of}
use Rattle.std.specs.Io.KnownBytes.{Consumes, Keeps}
use Rattle.std.proofs.KnownBytes.{Consumes-nil, Consumes-trans, Consumes-kept}
use Rattle.streams.specs.Reads.{bytes_of_reads, TellFailure}
use Rattle.streams.specs.Source.{Source, GivesBytes, HasFailed}
use Rattle.byteorder.specs.Endian.{big_number, big_bytes}
use Rattle.serve.specs.Answer.{framed}
use Rattle.std.specs.Prelude.{Ok}
use Rattle.serve.specs.Input.{GivesLess, BeginsWithFrame, NoLength, NoBody, FrameBreaksOff, Came}
use Rattle.serve.specs.declared.input.Next.{Next}

-- bytes that came, and then these
pub gives_on : (a b c : Source) (xs ys zs : List ℕ) → GivesBytes a b xs → GivesBytes b c ys → zs ≡ xs ++ ys → GivesBytes a c zs
gives_on a b c xs ys zs first then is = record {
  next = subst (Consumes a.left c.left) (sym is) (Consumes-trans a.left b.left c.left xs ys first.next then.next);
  noted = then.noted ∙ ap (λ l. l ++ ys) first.noted ∙ append_assoc (bytes_of_reads a.reads) xs ys ∙ ap (λ l. bytes_of_reads a.reads ++ l) (sym is);
}

pub gives_none : (a : Source) → GivesBytes a a []
gives_none a = record { next = Consumes-nil a.left; noted = sym (append-nil (bytes_of_reads a.reads)) }

-- the part of the room that was filled
pub room_more : (room part : List ℕ) (at n : ℕ) → at ≤ length room → n ≤ length part
    → take (at + n) (put_mid at (length room - at) room part) ≡ take at room ++ take n part
room_more room part at n inside few =
    let front : length (take at room) ≡ at = length-take-le at room inside in
    subst (λ (m : ℕ). take (m + n) (put_mid at (length room - at) room part) ≡ take at room ++ take n part) front
    (take-append-add (take at room) (part ++ post_of at (length room - at) room) n ∙ ap (λ l. take at room ++ l) (take-append-le n part (post_of at (length room - at) room) few))

pub room_whole : (room part : List ℕ) (at : ℕ) → at ≤ length room → length part ≡ length room - at → length (put_mid at (length room - at) room part) ≡ length room
room_whole room part at inside long =
    let front : length (take at room) ≡ at = length-take-le at room inside in
    let behind : length (post_of at (length room - at) room) ≡ (length room - at) - (length room - at) =
    length-drop (length room - at) (drop at room) ∙ ap (λ k. k - (length room - at)) (length-drop at room) in
    length-append (take at room) (part ++ post_of at (length room - at) room) ∙ (let more = length-append part (post_of at (length room - at) room) in omega arith)

-- ---- a frame

-- the two bytes of a length, read and written again
pub head_back : (head : List ℕ) → length head ≡ 2 → ((i : ℕ) → slice_index_or head i 0 < 256) → big_bytes 2 (big_number 2 head) ≡ head
head_back [] e fits = absurd (omega arith)
head_back (h ∷ []) e fits = absurd (omega arith)
head_back (h ∷ l ∷ []) e fits =
    let high = fits 0 in
    let low = fits 1 in
    ap₂ (λ (a b : ℕ). a ∷ b ∷ []) (omega arith) (omega arith)
head_back (h ∷ l ∷ m ∷ rest) e fits = absurd (omega arith)

-- a whole frame at the front
pub begins_with_frame : (bytes head rest : List ℕ) (size : ℕ) → bytes ≡ head ++ rest → big_bytes 2 size ≡ head → size ≤ length rest → BeginsWithFrame bytes
begins_with_frame bytes head rest size are is room =
    let long : length (take size rest) ≡ size = length-take-le size rest room in (
      take size rest,
      drop size rest,
      are ∙ ap (λ (l : List ℕ). head ++ l) (sym (take-append-drop size rest)) ∙ sym (append_assoc head (take size rest) (drop size rest))
          ∙ ap (λ (l : List ℕ). (l ++ take size rest) ++ drop size rest) (sym is ∙ ap (λ (n : ℕ). big_bytes 2 n) (sym long)),
    )

-- no length came
pub no_length : (a b : Source) → GivesLess 2 a b → FrameBreaksOff a b
no_length a b less = (less.bytes, NoLength less.bytes less.few, less.read)

-- a length, and not the whole body
pub no_body : (a b c : Source) (head : List ℕ) (size n : ℕ) → big_bytes 2 size ≡ head → size ≤ 8192 → n ≡ size → GivesBytes a b head → GivesLess n b c → FrameBreaksOff a c
no_body a b c head size n is small e came less =
    (big_bytes 2 size ++ less.bytes, NoBody size less.bytes small (let few = less.few in omega arith), gives_on a b c head less.bytes (big_bytes 2 size ++ less.bytes) came less.read (ap (λ l. l ++ less.bytes) is))

-- what came, where it is known
pub came_as : (a b : Source) (buffer : List ℕ) (next is : Next) → Came a b buffer (Ok next) → next ≡ is → Came a b buffer (Ok is)
came_as a b buffer next is came e = subst (λ (n : Next). Came a b buffer (Ok n)) e came
