-- A page that is written from its front: the numbers, the rows, and zeros.
use Rattle.std.proofs.Common.{◌≡◌, ℕ, ◌+◌, ◌-◌, ◌≤◌, List, [], ◌++◌, length, take, drop, replicate, refl, ap, ◌∙◌, arith, length-append, length-drop}
use Rattle.std.proofs.lemmas.List.{append-nil, take_at, drop_all}
use Rattle.std.proofs.lemmas.Slice.{take-put_mid, drop-put_mid}
use borrow.Rule.Slice.PartMut.{mid_of, put_mid, post_of, Post-is, mid_len, same_len_mid}
use Rattle.open_file.specs.declared.first_page.Header.{Header}
use Rattle.open_file.specs.FirstPage.{first_bytes}

-- all bytes of a page, up to its 4,096th
abbrev pub filled_page : List ℕ → List ℕ
filled_page bytes = bytes ++ replicate (4096 - length bytes) 0

-- the page behind two writes
abbrev begun : List ℕ → List ℕ → List ℕ → ℕ → List ℕ
begun page first rows m = put_mid 64 (m - 64) (put_mid 0 64 page first) rows

pub page_filled : (page first rows z : List ℕ) (m : ℕ) → length page ≡ 4096 → length first ≡ 64 → m ≡ 64 + length rows → m ≤ 4096
    → z ≡ replicate (length (mid_of m (4096 - m) (begun page first rows m))) 0
    → put_mid m (4096 - m) (begun page first rows m) z ≡ filled_page (first ++ rows)
page_filled page first rows z m size front at fits is =
    let long : length (first ++ drop 64 page) ≡ 4096 = length-append first (drop 64 page) ∙ omega (arith, length-drop 64 page) in
    let whole : take m (begun page first rows m) ≡ first ++ rows =
    take-put_mid 64 (m - 64) (first ++ drop 64 page) rows m at (omega arith) ∙ ap (λ (l : List ℕ). l ++ rows) (take_at first (drop 64 page) 64 front) in
    let none : drop 4096 (begun page first rows m) ≡ [] =
    drop-put_mid 64 (m - 64) (first ++ drop 64 page) rows 4096 (omega arith) (omega arith) (omega arith) ∙ drop_all 4096 (first ++ drop 64 page) (omega arith) in
    let rest : post_of m (4096 - m) (begun page first rows m) ≡ [] = Post-is m 4096 (begun page first rows m) fits ∙ none in
    let lent : length (mid_of 64 (m - 64) (first ++ drop 64 page)) ≡ m - 64 = mid_len 64 m (first ++ drop 64 page) (omega arith) in
    let same : length (begun page first rows m) ≡ 4096 = same_len_mid 64 (m - 64) (first ++ drop 64 page) rows (omega arith) ∙ long in
    let left : length (mid_of m (4096 - m) (begun page first rows m)) ≡ 4096 - m = mid_len m 4096 (begun page first rows m) (omega arith) in
    let count : length (mid_of m (4096 - m) (begun page first rows m)) ≡ 4096 - length (first ++ rows) = omega (arith, left, length-append first rows) in
    let tail : z ≡ replicate (4096 - length (first ++ rows)) 0 =
    ◌∙◌ {c = replicate (4096 - length (first ++ rows)) 0} is (ap (λ (n : ℕ). replicate n 0) count) in
    let parts : put_mid m (4096 - m) (begun page first rows m) z ≡ (first ++ rows) ++ (replicate (4096 - length (first ++ rows)) 0 ++ []) =
    λ i. whole i ++ (tail i ++ rest i) in
    parts ∙ ap (λ (l : List ℕ). (first ++ rows) ++ l) (append-nil (replicate (4096 - length (first ++ rows)) 0))

pub length-first : (header : Header) → length (first_bytes header) ≡ 64
unfolding first_bytes
length-first header = refl
