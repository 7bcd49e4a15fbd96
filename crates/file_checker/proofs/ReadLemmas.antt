-- Bytes and pages that a reader gave.
use Rattle.std.proofs.Common.{◌≡◌, ◌≤◌, ◌<◌, ◌+◌, ◌-◌, ◌*◌, ℕ, zero, suc, List, [], ◌∷◌, ◌++◌, take, drop, length, slice_index_or, Option, Some, None, refl, sym, ap, subst, ◌∙◌, append_assoc, append-nil, length-append, length-drop, arith}
use Rattle.std.proofs.lemmas.List.{take-append-le, take_at, length-take-le}
use Rattle.std.proofs.lemmas.Grind.{flat_map-append}
use Rattle.std.proofs.Math.Seq.{take-append-add, drop-append-add}
use Rattle.std.specs.Prelude.{Bool, Result, Ok, Err, IfErr, IsErrAnd}
use Rattle.file_checker.specs.declared.verdict.CheckFault.{CheckFault}
use Rattle.file_checker.specs.declared.verdict.CheckFault.TheVariants.{Input}
use borrow.Rule.Slice.PartMut.{put_mid, post_of}
use Rattle.std.specs.Io.KnownBytes.{Consumes, Keeps}
use Rattle.pages.specs.Each.{Each}
use Rattle.pages.proofs.EachLemmas.{each_join}
use Rattle.page_store.specs.DeviceFile.{page_of_bytes}
use Rattle.file_checker.specs.Bytes.{HasLess, HasGiven, HasGivenLess, HasGivenPages, bytes_of_pages, AreRead, AreFirstPages, ReadsOrEnds}

-- bytes that came, and then these
pub consumes_on : (a b c : Option (List ℕ)) (xs ys zs : List ℕ) → Consumes a b xs → Consumes b c ys → zs ≡ xs ++ ys → Consumes a c zs
consumes_on None b c xs ys zs p q e = tt
consumes_on (Some x) None c xs ys zs p q e = absurd p
consumes_on (Some x) (Some y) None xs ys zs p q e = absurd q
consumes_on (Some x) (Some y) (Some z) xs ys zs p q e = p ∙ ap (λ l. xs ++ l) q ∙ sym (append_assoc xs ys z) ∙ ap (λ l. l ++ z) (sym e)

-- and then too few were left
pub less_on : (a b : Option (List ℕ)) (xs : List ℕ) (m n : ℕ) → Consumes a b xs → HasLess m b → length xs + m ≤ n → HasLess n a
less_on None b xs m n p few sum = tt
less_on (Some x) None xs m n p few sum = absurd p
less_on (Some x) (Some y) xs m n p few sum =
    let all : length x ≡ length xs + length y = ap length p ∙ length-append xs y in
    omega arith

-- and then none
pub keeps_on : (a b c : Option (List ℕ)) (xs : List ℕ) → Consumes a b xs → Keeps b c → Consumes a c xs
keeps_on None b c xs p k = tt
keeps_on (Some x) None c xs p k = absurd p
keeps_on (Some x) (Some y) None xs p k = absurd k
keeps_on (Some x) (Some y) (Some z) xs p k = p ∙ ap (λ l. xs ++ l) (sym k)

-- and then fewer than m
pub less_given : (a b c : Option (List ℕ)) (xs : List ℕ) (m n : ℕ) → Consumes a b xs → HasGivenLess b c m → length xs + m ≤ n → HasGivenLess a c n
less_given a b c xs m n came less sum = record {
  bytes = xs ++ less.bytes;
  given = consumes_on a b c xs less.bytes (xs ++ less.bytes) came less.given refl;
  few = let all = length-append xs less.bytes in let few = less.few in omega arith;
}

-- the fault that a call answers is the one that it met
pub on_fault : {X : Type 0} (r : Result X CheckFault) (fault : CheckFault) (P : CheckFault → Type 0) → IsErrAnd r (λ e. e ≡ fault) → P fault → IfErr r P
on_fault (Ok x) fault P is p = tt
on_fault (Err e) fault P is p = subst P (sym is) p

-- and then no answer is told
pub no_answer : (r : Result Bool CheckFault) (fault : CheckFault) {n : ℕ} {Came : Option (List ℕ) → Option (List ℕ) → Type 0} {before after : Option (List ℕ)} → IsErrAnd r (λ e. e ≡ fault)
    → fault ≡ Input → HasGivenLess before after n → ReadsOrEnds n Came before after r
no_answer (Ok x) fault is input less = absurd is
no_answer (Err e) fault is input less = record { whole = tt; short = tt; end = tt; input = (is ∙ input, less) }

-- ---- a page

-- the part of a page that was read
pub page_more : (page part : List ℕ) (at n : ℕ) → at ≤ length page → n ≤ length part
    → take (at + n) (put_mid at (4096 - at) page part) ≡ take at page ++ take n part
page_more page part at n inside few =
    let front : length (take at page) ≡ at = length-take-le at page inside in
    subst (λ (m : ℕ). take (m + n) (put_mid at (4096 - at) page part) ≡ take at page ++ take n part) front
    (take-append-add (take at page) (part ++ post_of at (4096 - at) page) n ∙ ap (λ l. take at page ++ l) (take-append-le n part (post_of at (4096 - at) page) few))

pub page_whole : (page part : List ℕ) (at : ℕ) → at ≤ 4096 → length page ≡ 4096 → length part ≡ 4096 - at → length (put_mid at (4096 - at) page part) ≡ 4096
page_whole page part at inside whole long =
    let front : length (take at page) ≡ at = length-take-le at page (omega arith) in
    let behind : length (post_of at (4096 - at) page) ≡ (4096 - at) - (4096 - at) =
    length-drop (4096 - at) (drop at page) ∙ ap (λ k. k - (4096 - at)) (length-drop at page ∙ ap (λ k. k - at) whole) in
    length-append (take at page) (part ++ post_of at (4096 - at) page) ∙ (let more = length-append part (post_of at (4096 - at) page) in omega arith)

-- ---- pages

pub given_more : (a b c : Option (List ℕ)) (page : List ℕ) (n m : ℕ) → HasGiven a b n → Consumes b c page → length page ≡ 4096 → m ≡ n + 4096 → HasGiven a c m
given_more a b c page n m had came long e = record {
  bytes = had.bytes ++ page;
  given = consumes_on a b c had.bytes page (had.bytes ++ page) had.given came refl;
  many = length-append had.bytes page ∙ (let k = had.many in omega arith);
}

pub read_more : (a b c : Option (List ℕ)) (list : List (List ℕ)) (page : List ℕ) → AreRead a b list → Consumes b c page → length page ≡ 4096
    → AreRead a c (list ++ page ∷ [])
read_more a b c list page had came long = record {
  given = consumes_on a b c (bytes_of_pages list) page (bytes_of_pages (list ++ page ∷ [])) had.given came (flat_map-append (λ p. p) list (page ∷ []) ∙ ap (λ l. bytes_of_pages list ++ l) (append-nil page));
  whole = each_join (λ p. length p ≡ 4096) list (page ∷ []) had.whole (long, tt);
}

pub pages_long : (list : List (List ℕ)) → Each (λ page. length page ≡ 4096) list → length (bytes_of_pages list) ≡ 4096 * length list
pages_long [] whole = refl
pages_long (page ∷ list) whole = length-append page (bytes_of_pages list) ∙ (let one = whole.0 in let rest = pages_long list whole.1 in omega arith)

-- pages that came, and one more
pub pages_more : (a b c : Option (List ℕ)) (list : List (List ℕ)) (page : List ℕ) (most : ℕ) → AreRead a b list → Consumes b c page → length page ≡ 4096
    → length list < most → HasGivenPages a c most
pages_more a b c list page most had came long few = record {
  count = length list + 1;
  some = omega arith;
  few = omega arith;
  given = given_more a b c page (4096 * length list) (4096 * (length list + 1)) (record { bytes = bytes_of_pages list; given = had.given; many = pages_long list had.whole }) came long (omega arith);
}

-- page n of the bytes of pages
page_is : (list : List (List ℕ)) (rest : List ℕ) (n : ℕ) → Each (λ page. length page ≡ 4096) list → n < length list → page_of_bytes (bytes_of_pages list ++ rest) n ≡ slice_index_or list n []
page_is [] rest n whole inside = absurd (omega arith)
page_is (page ∷ list) rest zero whole inside = ap (take 4096) (append_assoc page (bytes_of_pages list) rest) ∙ take_at page (bytes_of_pages list ++ rest) 4096 whole.0
page_is (page ∷ list) rest (suc n) whole inside =
    let past : drop (4096 * suc n) ((page ++ bytes_of_pages list) ++ rest) ≡ drop (4096 * n) (bytes_of_pages list ++ rest) =
    subst (λ (m : ℕ). drop m ((page ++ bytes_of_pages list) ++ rest) ≡ drop (4096 * n) (bytes_of_pages list ++ rest)) (let one = whole.0 in omega arith)
    (ap (drop (length page + 4096 * n)) (append_assoc page (bytes_of_pages list) rest) ∙ drop-append-add page (bytes_of_pages list ++ rest) (4096 * n)) in
    ap (take 4096) past ∙ page_is list rest n whole.1 (omega arith)

pub first_pages : (bytes : List ℕ) (after : Option (List ℕ)) (list : List (List ℕ)) → AreRead (Some bytes) after list → AreFirstPages bytes list
first_pages bytes None list had = absurd had.given
first_pages bytes (Some rest) list had = record {
  enough = let all : length bytes ≡ length (bytes_of_pages list) + length rest = ap length had.given ∙ length-append (bytes_of_pages list) rest in
      let many = pages_long list had.whole in
      omega arith;
  each = λ n inside. ap (λ l. page_of_bytes l n) had.given ∙ page_is list rest n had.whole inside;
}
