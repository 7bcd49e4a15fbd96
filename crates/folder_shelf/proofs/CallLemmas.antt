-- What the calls on the file of a unit leave, by what they are answered.
use Rattle.std.proofs.Common.{◌≡◌, ◌<◌, Bool, IsTrue, is_some, not, ◌&&◌, ◌||◌, None, get_or, Result, Ok, Err, OnErr, ℕ, ◌+◌, ◌==◌, List, [], ◌∷◌, ◌++◌, Some, true, false, length, take, drop, bytes_eq, refl, sym, subst, ◌∙◌, ap, inl, inr, if◌then◌else◌, codes}
use Rattle.std.proofs.lemmas.Bool.{cases_Bool, and_parts, le-leb}
use Rattle.std.proofs.lemmas.List.{get_or-map, append_cancel_left}
use Rattle.std.proofs.Common.{eq-eqb}
use Rattle.std.proofs.lemmas.Slice.Eq.{bytes_eq-Decides}
use Rattle.page_store.specs.DeviceFile.{DeviceFile, IsWithin, IsThere, overlay, content, created, wrote}
use Rattle.page_store.specs.Calls.{ReadsBytes, Created, CreateFails, WrittenAt, WriteFails, Synced}
use Rattle.page_store.specs.ShelfState.{ShelfState, unit_file, ChangesOnly}
use Rattle.page_store.proofs.TornLemmas.{part_torn}
use Rattle.folder_shelf.specs.Calls.{Call, made, read, held, written, flushed}
use Rattle.folder_shelf.specs.SystemState.{SystemState, file_path, with_call, noted_of}
use Rattle.folder_shelf.specs.Replay.{Unseen, replay, folder_state}
use Rattle.folder_shelf.specs.ReplayLaws.{is_long_enough, left_by_write, length_left}

pub on_err : {T E : Type 0} (r : Result T E) (P : Type 0) → P → OnErr r P
on_err (Ok v) P p = tt
on_err (Err e) P p = p

all_left : (n : ℕ) (bytes torn : List ℕ) → (n == length bytes) ≡ true → left_by_write n bytes torn ≡ bytes
all_left n bytes torn all = rw all refl

-- a call on the file of a unit
module _ (disk : Unseen) (system : SystemState) (unit : ℕ) (has : unit < length system.names) where
  abbrev name : List ℕ
  name = get_or system.names unit []

  abbrev path : List ℕ
  path = file_path system.folder name

  abbrev old : ShelfState
  old = folder_state disk system

  abbrev f : DeviceFile
  f = (replay disk system.calls).file path

  abbrev new : Call → ShelfState
  new call = folder_state disk (with_call call system)

  -- what the file of the unit is then
  abbrev then_file : SystemState → DeviceFile
  then_file after = unit_file (folder_state disk after) unit

  -- the call is on the path of the unit's name
  pub on_path : (call : List ℕ → Call) (after : SystemState) → after ≡ noted_of unit call system → after ≡ with_call (call path) system
  on_path call after is = is ∙ ap (λ (p : List ℕ). with_call (call p) system) (get_or-map (file_path system.folder) system.names unit [] [] has)

  same : bytes_eq path path ≡ true
  same = (bytes_eq-Decides path path).1 refl

  other : (n : List ℕ) → ¬ (n ≡ name) → bytes_eq (file_path system.folder n) path ≡ false
  other n differs = elim (cases_Bool (bytes_eq (file_path system.folder n) path)) [
    | inl e ↦ absurd (differs (append_cancel_left (system.folder ++ codes "/") n name ((bytes_eq-Decides (file_path system.folder n) path).0 e)))
    | inr e ↦ e
  ]

  -- a file was to be made
  made_file : (done : Bool) → unit_file (new (made path done)) unit ≡ record { seen = if done || disk.came system.calls then Some [] else f.seen; log = f.log ++ created ∷ [] }
  made_file done = rw same refl

  pub made_true : (done : Bool) (after : SystemState) → after ≡ noted_of unit (λ p. made p done) system → done ≡ true → Created f (then_file after)
  made_true done after is e = subst (λ (s : SystemState). Created f (then_file s)) (sym (on_path (λ p. made p done) after is)) (record { is = made_file done ∙ rw e refl })

  pub made_fails : (done : Bool) (after : SystemState) → after ≡ noted_of unit (λ p. made p done) system → done ≡ false → CreateFails f (then_file after)
  made_fails done after is e = subst (λ (s : SystemState). CreateFails f (then_file s)) (sym (on_path (λ p. made p done) after is)) (go (disk.came system.calls) refl)
    where
      go : (came : Bool) → disk.came system.calls ≡ came → CreateFails f (unit_file (new (made path done)) unit)
      go true came = inr (inl (record { is = made_file done ∙ rw (e, came) refl }))
      go false came = inr (inr (made_file done ∙ rw (e, came) refl))

  pub made_only : (done : Bool) (after : SystemState) → after ≡ noted_of unit (λ p. made p done) system → (IsTrue old.is_honest → f.seen ≡ None) → ChangesOnly unit old (folder_state disk after)
  made_only done after is absent = subst (λ (s : SystemState). ChangesOnly unit old (folder_state disk s)) (sym (on_path (λ p. made p done) after is))
      (record { names = refl; others = λ n differs. rw (other n differs) refl; honest = both old.is_honest absent })
    where
      both : (honest : Bool) → (IsTrue honest → f.seen ≡ None) → (honest && not (is_some f.seen)) ≡ honest
      both true none = rw (none refl) refl
      both false none = refl

  -- bytes came
  pub read_true : (done : Bool) (at : ℕ) (bytes : List ℕ) (after : SystemState) → after ≡ noted_of unit (λ p. read p done at bytes) system → done ≡ true
      → IsTrue (folder_state disk after).is_honest → ReadsBytes f at bytes
  read_true done at bytes after is e honest = go done e (subst (λ (s : SystemState). IsTrue (folder_state disk s).is_honest) (on_path (λ p. read p done at bytes) after is) honest)
    where
      go : (d : Bool) → d ≡ true → IsTrue (new (read path d at bytes)).is_honest → ReadsBytes f at bytes
      go true is h =
          let p = and_parts old.is_honest _ h in
          let q = and_parts (is_long_enough f (at + length bytes)) _ p.1 in
          record { is = (bytes_eq-Decides bytes (take (length bytes) (drop at (content f)))).0 q.1 }
      go false is h = absurd (cc)

  -- bytes were to be written into the file, which was held
  abbrev wrote_held : ℕ → ℕ → List ℕ → ShelfState
  wrote_held at n bytes = folder_state disk (with_call (written path at n bytes) (with_call (held path true) system))

  abbrev torn : List ℕ
  torn = disk.torn (held path true ∷ system.calls)

  -- it was held, and then written
  abbrev pub IsWritten : (at n : ℕ) (bytes : List ℕ) → SystemState → Type 0
  IsWritten at n bytes after = after ≡ noted_of unit (λ p. written p at n bytes) (noted_of unit (λ p. held p true) system)

  on_paths : (at n : ℕ) (bytes : List ℕ) (after : SystemState) → IsWritten at n bytes after → after ≡ with_call (written path at n bytes) (with_call (held path true) system)
  on_paths at n bytes after is = is ∙ ap (λ (p : List ℕ). with_call (written p at n bytes) (with_call (held p true) system)) (get_or-map (file_path system.folder) system.names unit [] [] has)

  written_file : (at n : ℕ) (bytes : List ℕ) → unit_file (wrote_held at n bytes) unit
      ≡ record { seen = Some (overlay (content f) at (left_by_write n bytes torn)); log = f.log ++ wrote at (length bytes) ∷ [] }
  written_file at n bytes = rw same refl

  pub written_all : (at n : ℕ) (bytes : List ℕ) (after : SystemState) → IsWritten at n bytes after → n ≡ length bytes → WrittenAt at bytes f (then_file after)
  written_all at n bytes after is all = subst (λ (s : SystemState). WrittenAt at bytes f (then_file s)) (sym (on_paths at n bytes after is)) (record {
    is = written_file at n bytes
        ∙ ap (λ (l : List ℕ). record { seen = Some (overlay (content f) at l); log = f.log ++ wrote at (length bytes) ∷ [] }) (all_left n bytes torn (eq-eqb n (length bytes) all));
  })

  pub written_any : (at n : ℕ) (bytes : List ℕ) (after : SystemState) → IsWritten at n bytes after → WriteFails at (length bytes) f (then_file after)
  written_any at n bytes after is =
      let left = left_by_write n bytes torn in
      subst (λ (s : SystemState). WriteFails at (length bytes) f (then_file s)) (sym (on_paths at n bytes after is))
      (inr (overlay (content f) at left, part_torn (content f) at bytes left (length_left n bytes torn), written_file at n bytes))

  pub written_only : (at n : ℕ) (bytes : List ℕ) (after : SystemState) → IsWritten at n bytes after → (IsTrue old.is_honest → IsWithin at f) → ChangesOnly unit old (folder_state disk after)
  written_only at n bytes after is within = subst (λ (s : SystemState). ChangesOnly unit old (folder_state disk s)) (sym (on_paths at n bytes after is))
      (record { names = refl; others = λ m differs. rw (other m differs) refl; honest = rw same (both old.is_honest within) })
    where
      both : (honest : Bool) → (IsTrue honest → IsWithin at f) → (honest && (true && is_long_enough f at)) ≡ honest
      both true there = let w = there refl in rw (w.there, le-leb at (length (content f)) w.long) refl
      both false there = refl

  -- a file was to be synced
  pub flushed_true : (done : Bool) (after : SystemState) → after ≡ noted_of unit (λ p. flushed p done) system → done ≡ true → Synced f (then_file after)
  flushed_true done after is e = subst (λ (s : SystemState). Synced f (then_file s)) (sym (on_path (λ p. flushed p done) after is)) (record { is = rw (e, same) refl })

  pub flushed_only : (done : Bool) (after : SystemState) → after ≡ noted_of unit (λ p. flushed p done) system → (IsTrue old.is_honest → IsThere f) → ChangesOnly unit old (folder_state disk after)
  flushed_only done after is there = subst (λ (s : SystemState). ChangesOnly unit old (folder_state disk s)) (sym (on_path (λ p. flushed p done) after is))
      (record { names = refl; others = others done; honest = both old.is_honest there })
    where
      others : (d : Bool) (n : List ℕ) → ¬ (n ≡ name) → (new (flushed path d)).file n ≡ old.file n
      others true n differs = rw (other n differs) refl
      others false n differs = refl

      both : (honest : Bool) → (IsTrue honest → IsThere f) → (honest && is_some f.seen) ≡ honest
      both true is = rw ((is refl).there) refl
      both false is = refl
