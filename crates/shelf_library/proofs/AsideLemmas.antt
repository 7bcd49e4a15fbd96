-- What a call on one unit leaves of the others, and of the names that it has not.
use Rattle.std.proofs.Common.{◌≡◌, ◌≢◌, ℕ, zero, suc, ◌<◌, ◌==◌, Bool, true, false, List, [], ◌∷◌, length, refl, ap, sym, subst, ◌∙◌, arith, bytes_eq, get_or}
use Rattle.std.specs.Prelude.{IsTrue, Option, is_some, if◌then◌else◌}
use Rattle.std.specs.List.{IsDistinct, AllByRecursion}
use Rattle.std.proofs.lemmas.List.{set-get_or}
use Rattle.page_store.specs.Pages.{HoldsPages}
use Rattle.page_cache.specs.Cached.{cached_pages_in}
use Rattle.page_alloc.specs.Chain.{chain, used}
use Rattle.page_alloc.specs.Steps.{pages_state_of}
use Rattle.page_alloc.specs.Joining.{first_free_page}
use Rattle.page_alloc.specs.PagedFile.{cache_of}
use Rattle.shelf_library.specs.State.{AreLooked, AreReady}
use Rattle.shelf_library.proofs.Terms.{eqb-false, eqb-true, bytes_eq-Decides, either, File, Stays, Absent, Broken, FileUnit, Holding, Named}
use Rattle.shelf_library.proofs.Terms.{OnlyAt, HasOpened, Shut, World, holding_at, name_at, named_at, with_unit, DeviceFile, content}
use Rattle.shelf_library.proofs.Terms.{AllOpen, page_of_bytes, KeepsOthers, ShelfState, unit_file, unit_name, pages_counted, pages_free}
use Rattle.shelf_library.proofs.Terms.{counts_of, unit_of_pages, Header, file_off, Stands, look_of, named_of, AreClosed, IsReady, StandsFor}
use Rattle.shelf_library.proofs.Terms.{file_read_off, is_broken_file, live_of, pages_behind, parts_of, schema_behind, ShelfFile, MayReadAs}
use Rattle.shelf_library.proofs.Terms.{shown_by, EachRead, AreUnits, ChangesAt, FitsItsFile, IsTrulyHeld, IsLooked, IsReadyAt, LibraryState}
use Rattle.shelf_library.proofs.Terms.{held_at, IsShownTruly, IsTrulyClosed, IsTrulyOpen, holding_of, world_of, Held, Looked, Nothing}
use Rattle.shelf_library.proofs.Terms.{Opened}
use Rattle.shelf_library.proofs.WorldLemmas.{only_at, set_here, set_aside, set_long, name_now, holding_now, named_now}

-- ---- two units have two names

unlike : (names : List (List ℕ)) (name : List ℕ) (v : ℕ) → AllByRecursion (λ other. bytes_eq name other ≡ false) names → v < length names → bytes_eq name (get_or names v []) ≡ false
unlike [] name v all within = absurd (omega (arith, within))
unlike (first ∷ names) name zero all within = all.0
unlike (first ∷ names) name (suc v) all within = unlike names name v all.1 (omega (arith, within))

pub differs : (a b : List ℕ) → bytes_eq a b ≡ false → a ≢ b
differs a b miss same = let hit = (bytes_eq-Decides a b).1 same in let clash : true ≡ false = sym hit ∙ miss in cc

pub names_differ : (names : List (List ℕ)) (u v : ℕ) → IsDistinct bytes_eq names → u < length names → v < length names → v ≢ u → get_or names v [] ≢ get_or names u []
unfolding IsDistinct
names_differ [] u v distinct lu lv other = absurd (omega (arith, lu))
names_differ (name ∷ names) zero zero distinct lu lv other = absurd (other refl)
names_differ (name ∷ names) zero (suc v) distinct lu lv other = λ same. differs name (get_or names v []) (unlike names name v distinct.0 (omega (arith, lv))) (sym same)
names_differ (name ∷ names) (suc u) zero distinct lu lv other = differs name (get_or names u []) (unlike names name u distinct.0 (omega (arith, lu)))
names_differ (name ∷ names) (suc u) (suc v) distinct lu lv other = names_differ names u v distinct.1 (omega (arith, lu)) (omega (arith, lv)) (λ same. other (ap suc same))

-- a call that leaves the shelf
pub rests : (shelf : ShelfState) (u : ℕ) → KeepsOthers u shelf shelf
rests shelf u = record { names = refl; others = λ name other. refl; honest = λ honest. honest }

-- ---- an open file whose bytes are as they were

module _ (file : ShelfFile) (old new : ShelfState) (same : unit_file new (unit_of_pages (pages_behind file)) ≡ unit_file old (unit_of_pages (pages_behind file))) where
  abbrev free_over : DeviceFile → Option (List ℕ)
  free_over bytes = chain (cached_pages_in (cache_of (pages_behind file)) bytes) (pages_counted (counts_of (pages_behind file))) (first_free_page (counts_of (pages_behind file))) (pages_free (counts_of (pages_behind file)))

  pub same_live : live_of file new ≡ live_of file old
  same_live = ap (λ (bytes : DeviceFile). used (cached_pages_in (cache_of (pages_behind file)) bytes) (pages_counted (counts_of (pages_behind file))) (free_over bytes)) same

  pub same_sound : (pages_state_of (pages_behind file) new).is_sound ≡ (pages_state_of (pages_behind file) old).is_sound
  same_sound = ap (λ (bytes : DeviceFile). is_some (free_over bytes)) same

  pub same_file_in : file_read_off file new ≡ file_read_off file old
  same_file_in = ap (λ live. file_off (parts_of file) live) same_live

  pub stands_same : (rows : File) → StandsFor file old rows → StandsFor file new rows
  stands_same rows s = record {
    stands = subst (λ live. Stands (parts_of file) live rows) (sym same_live) s.stands;
    sound = subst (λ (sound : Bool). IsTrue sound) (sym same_sound) s.sound;
  }

  pub ready_where : (unit_of_pages (pages_behind file) < length old.names → unit_of_pages (pages_behind file) < length new.names)
      → (IsTrue new.is_honest → IsTrue old.is_honest) → IsReady file old → IsReady file new
  ready_where attached honest ready =
      let joined = ready.over.joined in
      record {
        over = record {
          joined = record {
            over = record {
              attached = record { attached = attached joined.over.attached.attached };
              counted = joined.over.counted;
              pages = λ h. subst (λ (bytes : DeviceFile). HoldsPages (cache_of (pages_behind file)).store.pages bytes) (sym same) (joined.over.pages (honest h));
              clean = λ h n frame is unchanged. joined.over.clean (honest h) n frame is unchanged ∙ ap (λ (bytes : DeviceFile). page_of_bytes (content bytes) n) (sym same);
            };
            counted = joined.counted;
            header = joined.header;
          };
          clean = ready.over.clean;
          gate = λ changed h. subst (λ (bytes : DeviceFile). AllOpen bytes) (sym same) (ready.over.gate changed (honest h));
        };
        shaped = ready.shaped;
      }

  pub ready_same : new.names ≡ old.names → (IsTrue new.is_honest → IsTrue old.is_honest) → IsReady file old → IsReady file new
  ready_same names honest ready =
      ready_where (λ within. subst (λ (ns : List (List ℕ)). unit_of_pages (pages_behind file) < length ns) (sym names) within) honest ready

-- ---- a call on unit u

with_same : (world : World) (u : ℕ) → with_unit world u (named_at world u) (holding_at world u) ≡ world
with_same world u = ap (λ (units : List FileUnit). record world { units = units }) (set-get_or world.units u (record { name = []; named = Absent; holding = Shut }))

pub within_held : (held : List Held) (v : ℕ) (header : Header) → held_at held v ≡ Looked header → v < length held
within_held [] v header is = absurd (cc)
within_held (first ∷ held) zero header is = omega arith
within_held (first ∷ held) (suc v) header is = let below = within_held held v header is in omega (arith, below)

module _ (u : ℕ) (one : Held) (old new : ShelfState) (held now : List Held) (are : AreUnits old held) (call : ChangesAt u one old new held now) where
  pub lies : u < length old.names
  lies = let at = call.attached in let many = are.many in omega (arith, at, many)

  -- another unit's name is another name, and its file is as it was
  pub name_aside : (v : ℕ) → v < length old.names → v ≢ u → unit_name old v ≢ unit_name old u
  name_aside v within other = names_differ old.names u v are.distinct lies within other

  pub file_aside : (v : ℕ) → v < length old.names → v ≢ u → unit_file new v ≡ unit_file old v
  file_aside v within other =
      ap (λ (names : List (List ℕ)). new.file (get_or names v [])) call.others.names ∙ call.others.others (unit_name old v) (name_aside v within other)

  open_aside : (v : ℕ) (file : ShelfFile) → v < length old.names → v ≢ u → held_at held v ≡ Opened file → unit_file new (unit_of_pages (pages_behind file)) ≡ unit_file old (unit_of_pages (pages_behind file))
  open_aside v file within other is =
      let unit = (are.ready v file is).unit_is in
      subst (λ (w : ℕ). unit_file new w ≡ unit_file old w) (sym unit) (file_aside v within other)

  shows_aside : (v : ℕ) → v < length old.names → v ≢ u → (is : Held) → held_at held v ≡ is → holding_of new is ≡ holding_of old is
  shows_aside v within other Nothing is = refl
  shows_aside v within other (Looked header) is = refl
  shows_aside v within other (Opened file) is =
      ap (λ rows. if is_broken_file file then Broken (schema_behind file) else HasOpened (schema_behind file) rows) (same_file_in file old new (open_aside v file within other is))

  pub long_after : length now ≡ length new.names
  long_after = ap (λ (l : List Held). length l) call.holds ∙ set_long held u one ∙ are.many ∙ sym (ap (λ (ns : List (List ℕ)). length ns) call.others.names)

  pub held_here : held_at now u ≡ one
  held_here = ap (λ (l : List Held). held_at l u) call.holds ∙ set_here held u one call.attached

  pub held_aside : (v : ℕ) → v ≢ u → held_at now v ≡ held_at held v
  held_aside v other = ap (λ (l : List Held). held_at l v) call.holds ∙ set_aside held u v one other

  pub attached_after : u < length now
  attached_after = let long = long_after in let names = ap (λ (ns : List (List ℕ)). length ns) call.others.names in omega (arith, long, names, lies)

  -- ---- the world

  pub only_here : OnlyAt u (world_of old held) (world_of new now)
  only_here = subst (λ (l : List Held). OnlyAt u (world_of old held) (world_of new l)) (sym call.holds)
      (only_at old new held u one call.attached are.many call.others.names call.others.others (λ v within other.
      let named : named_of (new.file (get_or old.names v [])).seen ≡ named_of (old.file (get_or old.names v [])).seen =
      ap (λ (bytes : DeviceFile). named_of bytes.seen) (call.others.others (unit_name old v) (name_aside v within other)) in
      let holding : holding_of new (held_at held v) ≡ holding_of old (held_at held v) = shows_aside v within other (held_at held v) refl in
      λ i. record { name = get_or old.names v []; named = named i; holding = holding i }))

  pub name_before : name_at (world_of old held) u ≡ unit_name old u
  name_before = name_now old held u call.attached are.many

  pub holding_before : holding_at (world_of old held) u ≡ holding_of old (held_at held u)
  holding_before = holding_now old held u call.attached are.many

  pub named_before : named_at (world_of old held) u ≡ named_of (unit_file old u).seen
  named_before = named_now old held u call.attached are.many

  pub name_same : unit_name new u ≡ unit_name old u
  name_same = ap (λ (ns : List (List ℕ)). get_or ns u []) call.others.names

  pub holding_after : holding_at (world_of new now) u ≡ holding_of new one
  holding_after = holding_now new now u attached_after long_after ∙ ap (holding_of new) held_here

  pub named_after : named_at (world_of new now) u ≡ named_of (unit_file new u).seen
  named_after = named_now new now u attached_after long_after

  -- what the unit shows, and its name, are as they were
  pub world_same : holding_of new one ≡ holding_of old (held_at held u) → named_of (unit_file new u).seen ≡ named_of (unit_file old u).seen → world_of new now ≡ world_of old held
  world_same holding named =
      let h : holding_at (world_of new now) u ≡ holding_at (world_of old held) u = holding_after ∙ holding ∙ sym holding_before in
      let n : named_at (world_of new now) u ≡ named_at (world_of old held) u = named_after ∙ named ∙ sym named_before in
      only_here
      ∙ ap (λ (x : Named). with_unit (world_of old held) u x (holding_at (world_of new now) u)) n
      ∙ ap (λ (x : Holding). with_unit (world_of old held) u (named_at (world_of old held) u) x) h
      ∙ with_same (world_of old held) u

  -- ---- what every library keeps

  looked_at_other : (v : ℕ) (header : Header) → v ≢ u → held_at held v ≡ Looked header → IsLooked new v header
  looked_at_other v header other is =
      let was = are.looked v header is in
      let below = within_held held v header is in
      let lt : v < length old.names = let many = are.many in omega (arith, below, many) in
      record {
        allowed = was.allowed;
        accepted = λ honest. ap (λ (bytes : DeviceFile). look_of bytes.seen) (file_aside v lt other) ∙ was.accepted (call.others.honest honest);
      }

  pub looked_after : FitsItsFile u one new → AreLooked new now
  looked_after fits v header is =
      either (v == u) (IsLooked new v header)
      (λ hit. let at : v ≡ u = eqb-true v u hit in
      subst (λ (w : ℕ). IsLooked new w header) (sym at) (fits.looked header (sym held_here ∙ ap (λ (w : ℕ). held_at now w) (sym at) ∙ is)))
      (λ miss. let other : v ≢ u = eqb-false v u miss in looked_at_other v header other (sym (held_aside v other) ∙ is))

  pub ready_after : FitsItsFile u one new → AreReady new now
  ready_after fits v file is =
      either (v == u) (IsReadyAt new v file)
      (λ hit. let at : v ≡ u = eqb-true v u hit in
      subst (λ (w : ℕ). IsReadyAt new w file) (sym at) (fits.ready file (sym held_here ∙ ap (λ (w : ℕ). held_at now w) (sym at) ∙ is)))
      (λ miss.
      let other : v ≢ u = eqb-false v u miss in
      let held_was = sym (held_aside v other) ∙ is in
      let was = are.ready v file held_was in
      let lt : v < length old.names = subst (λ (w : ℕ). w < length old.names) was.unit_is was.ready.over.joined.over.attached.attached in
      record {
        unit_is = was.unit_is;
        ready = ready_same file old new (open_aside v file lt other held_was) call.others.names call.others.honest was.ready;
      })

  pub are_after : FitsItsFile u one new → AreUnits new now
  are_after fits = record {
    many = long_after;
    distinct = subst (λ (ns : List (List ℕ)). IsDistinct bytes_eq ns) (sym call.others.names) are.distinct;
    looked = looked_after fits;
    ready = ready_after fits;
  }

  -- ---- what is shown truly

  truth_aside : (name : List ℕ) → ¬ (name ≡ unit_name old u) → IsShownTruly old held name → IsShownTruly new now name
  truth_aside name other truly =
      let same : new.file name ≡ old.file name = call.others.others name other in
      record {
        closed = λ header is. subst (λ (bytes : DeviceFile). IsTrulyClosed bytes header) (sym same) (truly.closed header (ap (λ (bytes : DeviceFile). look_of bytes.seen) (sym same) ∙ is));
        opened = λ v file within named is unbroken.
            let lt : v < length old.names = subst (λ (ns : List (List ℕ)). v < length ns) call.others.names within in
            let named_was : unit_name old v ≡ name = ap (λ (ns : List (List ℕ)). get_or ns v []) (sym call.others.names) ∙ named in
            let apart : v ≢ u = λ at. other (sym named_was ∙ ap (unit_name old) at) in
            let held_was = sym (held_aside v apart) ∙ is in
            let was = truly.opened v file lt named_was held_was unbroken in
            record {
              rows = was.rows;
              stands = stands_same file old new (open_aside v file lt apart held_was) was.rows was.stands;
              closed = λ unchanged. subst (λ (bytes : DeviceFile). AreClosed (schema_behind file) was.rows (content bytes)) (sym same) (was.closed unchanged);
            };
      }

  pub truth_here : IsTrulyHeld u one new → IsShownTruly new now (unit_name old u)
  truth_here truly = record {
    closed = λ header is. subst (λ (name : List ℕ). IsTrulyClosed (new.file name) header) name_same (truly.closed header (ap (λ (name : List ℕ). look_of (new.file name).seen) name_same ∙ is));
    opened = λ v file within named is unbroken.
        let lt : v < length old.names = subst (λ (ns : List (List ℕ)). v < length ns) call.others.names within in
        let named_was : unit_name old v ≡ unit_name old u = ap (λ (ns : List (List ℕ)). get_or ns v []) (sym call.others.names) ∙ named in
        either (v == u) (IsTrulyOpen new file (new.file (unit_name old u)))
        (λ hit. let at : v ≡ u = eqb-true v u hit in
        subst (λ (name : List ℕ). IsTrulyOpen new file (new.file name)) name_same (truly.opened file (sym held_here ∙ ap (λ (w : ℕ). held_at now w) (sym at) ∙ is) unbroken))
        (λ miss. absurd (name_aside v lt (eqb-false v u miss) named_was));
  }

  -- each name is shown truly that was, where this is so of the unit's name
  pub truth_after : (IsShownTruly old held (unit_name old u) → IsTrulyHeld u one new) → (name : List ℕ) → IsShownTruly old held name → IsShownTruly new now name
  truth_after here name truly =
      either (bytes_eq name (unit_name old u)) (IsShownTruly new now name)
      (λ hit. let same : name ≡ unit_name old u = (bytes_eq-Decides name (unit_name old u)).0 hit in
      subst (λ (n : List ℕ). IsShownTruly new now n) (sym same) (truth_here (here (subst (λ (n : List ℕ). IsShownTruly old held n) same truly))))
      (λ miss. truth_aside name (differs name (unit_name old u) miss) truly)

  -- what is shown truly of the unit's name, taken apart
  pub held_truly : IsShownTruly old held (unit_name old u) → IsTrulyHeld u (held_at held u) old
  held_truly truly = record { closed = truly.closed; opened = λ file is unbroken. truly.opened u file lies refl is unbroken }

-- ---- images

-- of a name whose file is as it was a crash leaves what it could leave before
pub images_aside : {S : Type 0} (state : S → LibraryState) (old new : S) (name : List ℕ) → (state new).shelf.file name ≡ (state old).shelf.file name → Stays (shown_by state).moments old new name
images_aside {S} state old new name same = record {
  within = λ real.
      let f = (state old).shelf.file name in
      subst (λ (bytes : DeviceFile). EachRead (MayReadAs f f) f bytes) (sym same) (real, λ image is. is);
  back = λ real.
      let g = (state new).shelf.file name in
      subst (λ (bytes : DeviceFile). EachRead (MayReadAs g g) bytes bytes) same (real, λ image is. is);
}
