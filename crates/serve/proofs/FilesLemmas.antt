-- What a session keeps, where one of its files is changed.
use Rattle.std.proofs.Common.{◌≡◌, ℕ, ◌<◌, ◌≢◌, Bool, true, false, not, ◌&&◌, ◌||◌, List, [], ◌∷◌, ◌++◌, length, slice_set, slice_get, slice_index_or, eqb, Option, Some, None, sym, ap, ◌∙◌, refl, arith, eqb-true, true≢false, subst, cond, if◌then◌else◌, is_some, ◌⊎◌, inl, inr}
use Rattle.std.proofs.lemmas.Bool.{cases_eq, ne_eqb}
use Rattle.std.proofs.lemmas.List.{get_or-set_same, get_or-set_other, length-set}
use Rattle.std.specs.List.{list_any, filter, AllByRecursion}
use Rattle.std.proofs.lemmas.List.Folds.{list_any-append}
use Rattle.std.proofs.lemmas.Cmp.{nat_eq_equiv}
use Rattle.std.proofs.lemmas.Map.Keys.{IsDistinct-head}
use Rattle.std.proofs.lemmas.Map.Views.{any-filter_same}
use Rattle.serve.specs.Files.{NumberedFile, FileTable, AreNumberedFiles, IsOrder, file_of_number, is_open_file, is_open_in, without, order_after}
use Rattle.serve.proofs.OrderLemmas.{order_without, order_with}

eqb_same : (n : ℕ) → eqb n n ≡ true
eqb_same n = nat_eq_equiv.refl n

-- ---- the file of a number, after one was put in

pub at_same : (places : List (Option (NumberedFile))) (number : ℕ) (file : Option (NumberedFile)) → number < length places
    → slice_index_or (slice_set places number file) number None ≡ file
at_same places number file below = get_or-set_same places number file None below

pub at_other : (places : List (Option (NumberedFile))) (number other : ℕ) (file : Option (NumberedFile)) → other ≢ number
    → slice_index_or (slice_set places number file) other None ≡ slice_index_or places other None
at_other places number other file apart = get_or-set_other places number other file None apart

abbrev name_or : List ℕ → Option (NumberedFile) → List ℕ
name_or name None = name
name_or name (Some file) = file.name

some_name : (a b : NumberedFile) → Some a ≡ Some b → a.name ≡ b.name
some_name a b same = ap (name_or []) same

abbrev is_there : Option (NumberedFile) → Bool
is_there None = false
is_there (Some file) = true

pub none_some : {file : NumberedFile} → None ≡ Some file → ⊥
none_some same = true≢false (sym (ap is_there same))

-- ---- a change of one number

-- what is to be known of the change of one number's file: the order after it tells whether it is open, and of the others what it told
-- before; and no other file has its name
record Changes (files : FileTable) (number : ℕ) (file : Option (NumberedFile)) (opened : List ℕ) : Type 0 where
  pub below : number < 64
  pub order : IsOrder opened
  pub here : list_any (eqb number) opened ≡ is_open_in file
  pub there : (other : ℕ) → other ≢ number → list_any (eqb other) opened ≡ list_any (eqb other) files.opened
  pub name : (other : ℕ) (a b : NumberedFile) → other ≢ number → file_of_number files other ≡ Some a → file ≡ Some b → a.name ≡ b.name → ⊥

changed_names : (files : FileTable) (number : ℕ) (file : Option (NumberedFile)) (opened : List ℕ)
    → AreNumberedFiles files → Changes files number file opened
    → (m n : ℕ) (a b : NumberedFile) → (m ≡ number) ⊎ (m ≢ number) → (n ≡ number) ⊎ (n ≢ number)
    → slice_index_or (slice_set files.places number file) m None ≡ Some a
    → slice_index_or (slice_set files.places number file) n None ≡ Some b → a.name ≡ b.name → m ≡ n
changed_names files number file opened are change m n a b (inl here) (inl there) x y same = here ∙ sym there
changed_names files number file opened are change m n a b (inl here) (inr apart) x y same =
    absurd (change.name n b a apart (sym (at_other files.places number n file apart) ∙ y)
    (sym (at_same files.places number file (omega (arith, change.below, are.places))) ∙ ap (λ k. slice_index_or (slice_set files.places number file) k None) (sym here) ∙ x) (sym same))
changed_names files number file opened are change m n a b (inr apart) (inl there) x y same =
    absurd (change.name m a b apart (sym (at_other files.places number m file apart) ∙ x)
    (sym (at_same files.places number file (omega (arith, change.below, are.places))) ∙ ap (λ k. slice_index_or (slice_set files.places number file) k None) (sym there) ∙ y) same)
changed_names files number file opened are change m n a b (inr far) (inr apart) x y same =
    are.names m n a b (sym (at_other files.places number m file far) ∙ x) (sym (at_other files.places number n file apart) ∙ y) same

changed_opened : (files : FileTable) (number : ℕ) (file : Option (NumberedFile)) (opened : List ℕ)
    → AreNumberedFiles files → Changes files number file opened
    → (other : ℕ) → (other ≡ number) ⊎ (other ≢ number)
    → list_any (eqb other) opened ≡ is_open_in (slice_index_or (slice_set files.places number file) other None)
changed_opened files number file opened are change other (inl here) =
    ap (λ k. list_any (eqb k) opened) here ∙ change.here
    ∙ ap is_open_in (sym (at_same files.places number file (omega (arith, change.below, are.places))))
    ∙ ap (λ k. is_open_in (slice_index_or (slice_set files.places number file) k None)) (sym here)
changed_opened files number file opened are change other (inr apart) =
    change.there other apart ∙ are.opened other ∙ ap is_open_in (sym (at_other files.places number other file apart))

changed : (files : FileTable) (number : ℕ) (file : Option (NumberedFile)) (opened : List ℕ)
    → AreNumberedFiles files → Changes files number file opened → AreNumberedFiles (record { places = slice_set files.places number file; opened = opened })
changed files number file opened are change = record {
  places = length-set files.places number file ∙ are.places;
  names = λ m n a b x y same. changed_names files number file opened are change m n a b (cases_eq m number) (cases_eq n number) x y same;
  opened = λ other. changed_opened files number file opened are change other (cases_eq other number);
  order = change.order;
}

-- ---- the order after a statement

any_without : (number other : ℕ) (opened : List ℕ) → list_any (eqb other) (without number opened) ≡ (not (eqb number other) && list_any (eqb other) opened)
any_without number other opened =
    any-filter_same (eqb other) (λ k. not (eqb number k)) (not (eqb number other)) (λ k same. ap (λ n. not (eqb number n)) (sym (eqb-true other k same))) opened

any_pushed : (number other : ℕ) (opened : List ℕ) → list_any (eqb other) (opened ++ number ∷ []) ≡ (list_any (eqb other) opened || (eqb other number || false))
any_pushed number other opened = list_any-append (eqb other) opened (number ∷ [])

pub or_true : (b : Bool) → (b || true) ≡ true
or_true true = refl
or_true false = refl

or_false : (b : Bool) → (b || false) ≡ b
or_false true = refl
or_false false = refl

order_pushed : (number : ℕ) (is_in : Bool) (opened : List ℕ) → list_any (eqb number) opened ≡ is_in → number < 64 → IsOrder opened
    → IsOrder (if is_in then opened else opened ++ number ∷ [])
order_pushed number true opened is below order = order
order_pushed number false opened is below order = order_with number opened order is below

here_pushed : (number : ℕ) (is_in : Bool) (opened : List ℕ) → list_any (eqb number) opened ≡ is_in
    → list_any (eqb number) (if is_in then opened else opened ++ number ∷ []) ≡ true
here_pushed number true opened is = is
here_pushed number false opened is =
    any_pushed number number opened ∙ ap (λ b. list_any (eqb number) opened || (b || false)) (eqb_same number) ∙ or_true (list_any (eqb number) opened)

there_pushed : (number other : ℕ) (is_in : Bool) (opened : List ℕ) → other ≢ number
    → list_any (eqb other) (if is_in then opened else opened ++ number ∷ []) ≡ list_any (eqb other) opened
there_pushed number other true opened apart = refl
there_pushed number other false opened apart =
    any_pushed number other opened ∙ ap (λ b. list_any (eqb other) opened || (b || false)) (ne_eqb other number apart) ∙ or_false (list_any (eqb other) opened)

order_noted : (number : ℕ) (now_open : Bool) (opened : List ℕ) → number < 64 → IsOrder opened → IsOrder (order_after number now_open opened)
order_noted number true opened below order = order_pushed number (list_any (eqb number) opened) opened refl below order
order_noted number false opened below order = order_without number opened order

here_noted : (number : ℕ) (now_open : Bool) (opened : List ℕ) → list_any (eqb number) (order_after number now_open opened) ≡ now_open
here_noted number true opened = here_pushed number (list_any (eqb number) opened) opened refl
here_noted number false opened = any_without number number opened ∙ ap (λ b. not b && list_any (eqb number) opened) (eqb_same number)

there_noted : (number other : ℕ) (now_open : Bool) (opened : List ℕ) → other ≢ number
    → list_any (eqb other) (order_after number now_open opened) ≡ list_any (eqb other) opened
there_noted number other true opened apart = there_pushed number other (list_any (eqb number) opened) opened apart
there_noted number other false opened apart =
    any_without number other opened ∙ ap (λ b. not b && list_any (eqb other) opened) (ne_eqb number other (λ same. apart (sym same)))

-- a file of the number has performed a statement: it has its name, and its place in the order
pub files_after : (files : FileTable) (number : ℕ) (before after : NumberedFile) → AreNumberedFiles files → number < 64
    → file_of_number files number ≡ Some before → after.name ≡ before.name
    → AreNumberedFiles (record { places = slice_set files.places number (Some after); opened = order_after number (is_open_file after) files.opened })
files_after files number before after are below was name = changed files number (Some after) (order_after number (is_open_file after) files.opened) are (record {
  below = below;
  order = order_noted number (is_open_file after) files.opened below are.order;
  here = here_noted number (is_open_file after) files.opened;
  there = λ other apart. there_noted number other (is_open_file after) files.opened apart;
  name = λ other a b apart at is same. apart (are.names other number a before at was (same ∙ sym (some_name after b is) ∙ name));
})

-- a free number has got a file that is not open, with a name that no other has
pub files_with : (files : FileTable) (number : ℕ) (file : NumberedFile) → AreNumberedFiles files → number < 64
    → file_of_number files number ≡ None → is_open_file file ≡ false
    → ((other : ℕ) (a : NumberedFile) → file_of_number files other ≡ Some a → a.name ≡ file.name → ⊥)
    → AreNumberedFiles (record { places = slice_set files.places number (Some file); opened = files.opened })
files_with files number file are below free closed name = changed files number (Some file) files.opened are (record {
  below = below;
  order = are.order;
  here = are.opened number ∙ ap is_open_in free ∙ sym closed;
  there = λ other apart. refl;
  name = λ other a b apart at is same. name other a at (same ∙ sym (some_name file b is));
})

-- a file that is not open has gone
pub files_without : (files : FileTable) (number : ℕ) (file : NumberedFile) → AreNumberedFiles files → number < 64
    → file_of_number files number ≡ Some file → is_open_file file ≡ false
    → AreNumberedFiles (record { places = slice_set files.places number None; opened = files.opened })
files_without files number file are below was closed = changed files number None files.opened are (record {
  below = below;
  order = are.order;
  here = are.opened number ∙ ap is_open_in was ∙ closed;
  there = λ other apart. refl;
  name = λ other a b apart at is same. absurd (none_some is);
})

-- ---- the calls of a session

-- a statement was performed on the file of a place
pub place_after : (files : FileTable) (number : ℕ) (before after : NumberedFile) (place : Option (NumberedFile)) (opened : List ℕ)
    → AreNumberedFiles files → number < 64 → file_of_number files number ≡ Some before → place ≡ Some after → after.name ≡ before.name
    → opened ≡ order_after number (is_open_file after) files.opened
    → AreNumberedFiles (record { places = slice_set files.places number place; opened = opened })
place_after files number before after place opened are below was is name order =
    subst (λ (p : Option (NumberedFile)). AreNumberedFiles (record { places = slice_set files.places number p; opened = opened })) (sym is)
    (subst (λ (o : List ℕ). AreNumberedFiles (record { places = slice_set files.places number (Some after); opened = o })) (sym order)
    (files_after files number before after are below was name))

-- ---- the file that was opened first

abbrev number_or : Option ℕ → ℕ
number_or None = 0
number_or (Some n) = n

some_number : (a b : ℕ) → Some a ≡ Some b → a ≡ b
some_number a b same = ap (λ (x : Option ℕ). number_or x) same

pub first_known : (opened : List ℕ) (first : ℕ) → slice_get opened 0 ≡ Some first → (rest : List ℕ) × (opened ≡ first ∷ rest)
first_known [] first is = absurd (true≢false (sym (ap is_some is)))
first_known (other ∷ rest) first is = (rest, ap (λ k. k ∷ rest) (some_number other first is))

filter_rest : (number : ℕ) (rest : List ℕ) → AllByRecursion (λ other. eqb number other ≡ false) rest → filter (λ other. not (eqb number other)) rest ≡ rest
filter_rest number [] apart = refl
filter_rest number (other ∷ rest) (here, there) =
    ap (λ b. cond (not b) (other ∷ filter (λ k. not (eqb number k)) rest) (filter (λ k. not (eqb number k)) rest)) here
    ∙ ap (λ later. other ∷ later) (filter_rest number rest there)

pub without_first : (first : ℕ) (rest : List ℕ) → IsOrder (first ∷ rest) → without first (first ∷ rest) ≡ rest
without_first first rest order =
    ap (λ b. cond (not b) (first ∷ filter (λ k. not (eqb first k)) rest) (filter (λ k. not (eqb first k)) rest)) (eqb_same first)
    ∙ filter_rest first rest (IsDistinct-head eqb first rest order.distinct)

pub first_below : (opened : List ℕ) (first : ℕ) (rest : List ℕ) → IsOrder opened → opened ≡ first ∷ rest → first < 64
first_below opened first rest order is = (subst IsOrder is order).below 0 0 (omega arith)

pub first_open : (files : FileTable) (first : ℕ) (rest : List ℕ) → AreNumberedFiles files → files.opened ≡ first ∷ rest
    → is_open_in (file_of_number files first) ≡ true
first_open files first rest are is =
    sym (are.opened first) ∙ ap (list_any (eqb first)) is ∙ ap (λ b. b || list_any (eqb first) rest) (eqb_same first)
