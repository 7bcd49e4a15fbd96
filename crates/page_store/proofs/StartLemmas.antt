-- A file is made, or made anew: at each moment a crash leaves what it could before, or a refused file.
use Rattle.std.proofs.Common.{◌≡◌, ◌⊎◌, inl, inr, ℕ, ◌<◌, ◌≤◌, ◌==◌, List, [], ◌∷◌, ◌++◌, Option, Some, None, length, refl, sym, ◌∙◌, ap, subst, arith}
use Rattle.std.proofs.lemmas.Bool.{cases_Bool, eqb-true}
use Rattle.page_store.specs.DeviceFile.{DeviceFile, created, wrote, bytes_or_none, content}
use Rattle.page_store.specs.Images.{Durable, after_step, durable, IsImage, MayLeave, Leaves}
use Rattle.page_store.specs.Calls.{Created, Synced}
use Rattle.page_store.proofs.ImageLemmas.{durable_push}
use Rattle.page_store.specs.Moments.{Throughout}
use Rattle.page_store.proofs.MomentLemmas.{throughout_one, throughout_then, throughout_last}
use Rattle.page_store.specs.Gate.{IsClosed, IsRefused, WasOrRefused, GateWritten, GateFails, with_gate, opened_gate, Opens}
use Rattle.page_store.proofs.GateImageLemmas.{gate_done, gate_failed, gate_content, gate_settled, refused_68, sync_done, synced_byte, content_synced, settled_synced}

-- in a file of which nothing was synced there is nothing behind the range
one_byte : (c : List ℕ) → IsImage [] ((0, 1) ∷ []) c → length c ≤ 1
one_byte [] image = omega arith
one_byte (x ∷ []) image = omega arith
one_byte (x ∷ y ∷ c) image = let e = (image.each 1 (omega arith) refl).0 in absurd (omega arith)

no_byte : (c : List ℕ) → IsImage [] [] c → length c ≤ 0
no_byte [] image = omega arith
no_byte (x ∷ c) image = let e = (image.each 0 (omega arith) refl).0 in absurd (omega arith)

short : (n : ℕ) (c : List ℕ) → length c ≤ n → n < 4096 → IsRefused (Some c)
short n c le low = inl (omega arith)

made_image : (d : Durable) → d.base ≡ None → (c : Option (List ℕ)) → MayLeave (after_step d created) c → MayLeave d c ⊎ IsRefused c
made_image d none None may = inl may
made_image d none (Some c) may = inr (short 0 c (no_byte c (subst (λ (b : Option (List ℕ)). IsImage (bytes_or_none b) [] c) none may.1)) (omega arith))

begun_image : (d : Durable) → d.base ≡ None → (c : Option (List ℕ)) → MayLeave (after_step (after_step d created) (wrote 0 1)) c → MayLeave d c ⊎ IsRefused c
begun_image d none None may = inl may
begun_image d none (Some c) may = inr (short 1 c (one_byte c (subst (λ (b : Option (List ℕ)). IsImage (bytes_or_none b) ((0, 1) ∷ []) c) none may.1)) (omega arith))

-- a new file is made
module _ (f : DeviceFile) (none : Leaves f None) where
  abbrev P : Option (List ℕ) → Type 0
  P = WasOrRefused f

  made : (g : DeviceFile) → g.log ≡ f.log ++ created ∷ [] → Throughout (WasOrRefused f) f g
  made g same = throughout_one P f g created same (λ c may. inl may)
      (λ c may. made_image (durable f.log) none c (subst (λ (d : Durable). MayLeave d c) (ap durable same ∙ durable_push f.log created) may))

  during : (g : DeviceFile) → Created f g → (c : Option (List ℕ)) → MayLeave (after_step (durable g.log) (wrote 0 1)) c → WasOrRefused f c
  during g so c may =
      begun_image (durable f.log) none c (subst (λ (d : Durable). MayLeave (after_step d (wrote 0 1)) c) (ap durable (ap (λ (x : DeviceFile). x.log) so.is) ∙ durable_push f.log created) may)

  pub starting_done : (g h : DeviceFile) → Created f g → GateWritten 68 g h → Throughout (WasOrRefused f) f h
  starting_done g h so w =
      let first = made g (ap (λ (x : DeviceFile). x.log) so.is) in
      throughout_then P f g h first (gate_done P 68 g (throughout_last P f g first) (during g so) (inr (refused_68 (content g))) h w)

  pub starting_failed : (g h : DeviceFile) → Created f g → GateFails 68 g h → Throughout (WasOrRefused f) f h
  starting_failed g h so w =
      let first = made g (ap (λ (x : DeviceFile). x.log) so.is) in
      throughout_then P f g h first (gate_failed P 68 g (throughout_last P f g first) (during g so) (inr (refused_68 (content g))) h w)

-- an empty file is synced, so that the byte written next is its only one
module _ (f : DeviceFile) (empty : content f ≡ []) (read : Leaves f (Some (content f))) where
  abbrev Q : Option (List ℕ) → Type 0
  Q = WasOrRefused f

  pub emptied_done : (g : DeviceFile) → Synced f g → Throughout (WasOrRefused f) f g
  emptied_done g = sync_done Q f g (λ c may. inl may) (inl read)

  first_byte : (g : DeviceFile) → Synced f g → (c : Option (List ℕ)) → MayLeave (after_step (durable g.log) (wrote 0 1)) c → WasOrRefused f c
  first_byte g so c may = cases (synced_byte f g so c may)
    where
      lone : (x : ℕ) (bytes : List ℕ) → bytes ≡ [] → IsRefused (Some (with_gate x bytes))
      lone x [] e = inl (omega arith)
      lone x (y ∷ bytes) e = absurd (cc)

      cases : (c ≡ Some []) ⊎ ((x : ℕ) × (c ≡ Some (with_gate x (content f)))) → WasOrRefused f c
      cases (inl e) = inr (subst IsRefused (sym e) (inl (omega arith)))
      cases (inr e) = inr (subst IsRefused (sym e.1) (lone e.0 (content f) empty))

  pub beginning_done : (g h : DeviceFile) → Synced f g → GateWritten 68 g h → Throughout (WasOrRefused f) f h
  beginning_done g h so w =
      let first = emptied_done g so in
      throughout_then Q f g h first (gate_done Q 68 g (throughout_last Q f g first) (first_byte g so) (inr (refused_68 (content g))) h w)

  pub beginning_failed : (g h : DeviceFile) → Synced f g → GateFails 68 g h → Throughout (WasOrRefused f) f h
  beginning_failed g h so w =
      let first = emptied_done g so in
      throughout_then Q f g h first (gate_failed Q 68 g (throughout_last Q f g first) (first_byte g so) (inr (refused_68 (content g))) h w)

-- what the file is then
opened_empty : (bytes : List ℕ) → bytes ≡ [] → with_gate 68 bytes ≡ opened_gate bytes
opened_empty [] e = refl
opened_empty (x ∷ bytes) e = absurd (cc)

opened_closed : (bytes : List ℕ) → IsClosed bytes → with_gate 68 bytes ≡ opened_gate bytes
opened_closed [] closed = absurd closed
opened_closed (x ∷ bytes) closed = rw closed refl

pub opens_started : (f g h : DeviceFile) → f.seen ≡ None → Created f g → GateWritten 68 g h → Opens f h
opens_started f g h none so w = record {
  bytes = gate_content 68 g h w ∙ ap (λ (x : DeviceFile). with_gate 68 (content x)) so.is ∙ ap (λ (s : Option (List ℕ)). opened_gate (bytes_or_none s)) (sym none);
  settled = gate_settled 68 g h w;
}

pub opens_begun : (f g h : DeviceFile) → content f ≡ [] → Synced f g → GateWritten 68 g h → Opens f h
opens_begun f g h empty so w = record {
  bytes = gate_content 68 g h w ∙ ap (with_gate 68) (content_synced f g so) ∙ opened_empty (content f) empty;
  settled = gate_settled 68 g h w;
}

pub opens_closed : (f g : DeviceFile) → IsClosed (content f) → GateWritten 68 f g → Opens f g
opens_closed f g closed w = record { bytes = gate_content 68 f g w ∙ opened_closed (content f) closed; settled = gate_settled 68 f g w }

-- a gate that is open stays
pub opens_open : (f g : DeviceFile) (x : ℕ) (bytes : List ℕ) → content f ≡ x ∷ bytes → (x ≡ 67 → ⊥) → Synced f g → Opens f g
opens_open f g x bytes is not so = record {
  bytes = content_synced f g so ∙ is ∙ same ∙ sym (ap opened_gate is);
  settled = settled_synced f g so;
}
  where
    same : x ∷ bytes ≡ opened_gate (x ∷ bytes)
    same = elim (cases_Bool (x == 67)) [ inl e ↦ absurd (not (eqb-true x 67 e)) | inr e ↦ rw e refl ]
