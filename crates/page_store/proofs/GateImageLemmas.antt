-- What a change of the gate does to the images.
use Rattle.std.proofs.Common.{zero, suc, ◌≡◌, ◌⊎◌, inl, inr, ℕ, ◌+◌, ◌<◌, ◌==◌, List, [], ◌∷◌, ◌++◌, Option, Some, None, false, ◌&&◌, leb, ltb, refl, sym, ◌∙◌, ap, subst, arith, drop, length, slice_index}
use Rattle.std.proofs.lemmas.Bool.{cases_Bool, or_from, and_right, le-ltb, eqb-true, eqb-false}
use Rattle.page_store.specs.DeviceFile.{FileStep, wrote, synced, DeviceFile, bytes_or_none, content, overlay}
use Rattle.page_store.specs.Images.{Durable, after_step, durable, covered, IsImage, MayLeave, Leaves, IsSettled}
use Rattle.page_store.specs.Calls.{WrittenAt, Synced, SyncFails}
use Rattle.page_store.proofs.ImageLemmas.{durable_push, only_synced, image_only}
use Rattle.page_store.specs.Moments.{Throughout}
use Rattle.page_store.proofs.MomentLemmas.{throughout_none, throughout_one, throughout_then, throughout_last}
use Rattle.page_store.specs.Gate.{IsClosed, IsRefused, AllRefused, with_gate, WasOrRefused, ClosedOrRefused, GateWritten, GateFails}

abbrev Claim : Type 1
Claim = Option (List ℕ) → Type 0

-- a byte behind the first one is as covered as before
behind : (rs : List (ℕ × ℕ)) (i : ℕ) → 0 < i → covered rs i ≡ false → covered ((0, 1) ∷ rs) i ≡ false
behind rs i low out = or_from (leb 0 i && ltb i (0 + 1)) (covered rs i) (and_right (leb 0 i) (ltb i 1) (le-ltb i 1 low)) out

-- after a sync the file is settled
pub settled_synced : (g h : DeviceFile) → Synced g h → IsSettled h
settled_synced g h so c may =
    only_synced g.log (content g) c (subst (λ (l : List FileStep). MayLeave (durable l) c) (ap (λ (x : DeviceFile). x.log) so.is) may) ∙ ap Some (sym (ap content so.is))

pub content_synced : (g h : DeviceFile) → Synced g h → content h ≡ content g
content_synced g h so = ap content so.is

pub content_written : (at : ℕ) (bytes : List ℕ) (f g : DeviceFile) → WrittenAt at bytes f g → content g ≡ overlay (content f) at bytes
content_written at bytes f g so = ap content so.is

log_synced : (g h : DeviceFile) → Synced g h → h.log ≡ g.log ++ synced (content g) ∷ []
log_synced g h so = ap (λ (x : DeviceFile). x.log) so.is

pub log_written : (at : ℕ) (bytes : List ℕ) (f g : DeviceFile) → WrittenAt at bytes f g → g.log ≡ f.log ++ wrote at (length bytes) ∷ []
log_written at bytes f g so = ap (λ (x : DeviceFile). x.log) so.is

-- a sync: what it leaves is what reads gave
pub sync_done : (P : Claim) (f g : DeviceFile) → ((c : Option (List ℕ)) → Leaves f c → P c) → P (Some (content f)) → Synced f g → Throughout P f g
sync_done P f g before now so =
    throughout_one P f g (synced (content f)) (log_synced f g so) before
    (λ c may. subst P (sym (only_synced f.log (content f) c (subst (λ (l : List FileStep). MayLeave (durable l) c) (log_synced f g so) may))) now)

pub sync_failed : (P : Claim) (f g : DeviceFile) → ((c : Option (List ℕ)) → Leaves f c → P c) → P (Some (content f)) → SyncFails f g → Throughout P f g
sync_failed P f g before now (inl same) = throughout_none P f g (ap (λ (x : DeviceFile). x.log) same) before
sync_failed P f g before now (inr so) = sync_done P f g before now so

-- the first byte is written and synced, where each image before, while the byte is not synced, and after has P
module _ (P : Claim) (gate : ℕ) (f : DeviceFile) (before : (c : Option (List ℕ)) → Leaves f c → P c) (during : (c : Option (List ℕ)) → MayLeave (after_step (durable f.log) (wrote 0 1)) c → P c) (now : P (Some (with_gate gate (content f)))) where
  noted : (g : DeviceFile) → g.log ≡ f.log ++ wrote 0 1 ∷ [] → Throughout P f g
  noted g same = throughout_one P f g (wrote 0 1) same before (λ c may. during c (subst (λ (d : Durable). MayLeave d c) (ap durable same ∙ durable_push f.log (wrote 0 1)) may))

  wrote_gate : (g : DeviceFile) → WrittenAt 0 (gate ∷ []) f g → Throughout P f g
  wrote_gate g written = noted g (log_written 0 (gate ∷ []) f g written)

  now_seen : (g : DeviceFile) → WrittenAt 0 (gate ∷ []) f g → P (Some (content g))
  now_seen g written = subst (λ (bytes : List ℕ). P (Some bytes)) (sym (content_written 0 (gate ∷ []) f g written)) now

  pub gate_done : (g : DeviceFile) → GateWritten gate f g → Throughout P f g
  gate_done g w =
      let first = wrote_gate w.unsynced w.written in
      throughout_then P f w.unsynced g first (sync_done P w.unsynced g (throughout_last P f w.unsynced first) (now_seen w.unsynced w.written) w.synced)

  pub gate_failed : (g : DeviceFile) → GateFails gate f g → Throughout P f g
  gate_failed g (inl (inl same)) = throughout_none P f g (ap (λ (x : DeviceFile). x.log) same) before
  gate_failed g (inl (inr torn)) = noted g (ap (λ (x : DeviceFile). x.log) torn.2)
  gate_failed g (inr w) =
      let first = wrote_gate w.0 w.1 in
      throughout_then P f w.0 g first (sync_failed P w.0 g (throughout_last P f w.0 first) (now_seen w.0 w.1) w.2)

-- what the file is then
pub gate_content : (gate : ℕ) (f g : DeviceFile) → GateWritten gate f g → content g ≡ with_gate gate (content f)
gate_content gate f g w = content_synced w.unsynced g w.synced ∙ content_written 0 (gate ∷ []) f w.unsynced w.written

pub gate_settled : (gate : ℕ) (f g : DeviceFile) → GateWritten gate f g → IsSettled g
gate_settled gate f g w = settled_synced w.unsynced g w.synced

-- an image whose first byte may be any, where reads give a closed gate: it was an image before, or is refused
opened_image : (d : Durable) (seen : List ℕ) → IsClosed seen → MayLeave d (Some seen) → (c : Option (List ℕ)) → MayLeave (after_step d (wrote 0 1)) c → MayLeave d c ⊎ IsRefused c
opened_image d seen closed read None may = inl may
opened_image d seen closed read (Some []) may = inr (inl (omega arith))
opened_image d [] closed read (Some (x ∷ c)) may = absurd closed
opened_image d (y ∷ seen) closed read (Some (x ∷ c)) may =
    elim (cases_Bool (x == 67)) [
      | inl is ↦ inl (may.0, record { kept = kept; each = each (eqb-true x 67 is) })
      | inr isnt ↦ inr (inr (λ same. eqb-false x 67 isnt same))
    ]
  where
    kept : (i : ℕ) → i < length (bytes_or_none d.base) → covered d.ranges i ≡ false → i < length (x ∷ c)
    kept zero within out = omega arith
    kept (suc i) within out = may.1.kept (suc i) within (behind d.ranges (suc i) (omega arith) out)

    each : x ≡ 67 → (i : ℕ) → i < length (x ∷ c) → covered d.ranges i ≡ false → (i < length (bytes_or_none d.base)) × (slice_index (x ∷ c) i ≡ slice_index (bytes_or_none d.base) i)
    each is zero within out = let first = read.1.each 0 (omega arith) out in (first.0, is ∙ sym closed ∙ first.1)
    each is (suc i) within out = may.1.each (suc i) within (behind d.ranges (suc i) (omega arith) out)

apart : ◌≡◌ {A = ℕ} 68 67 → ⊥
apart e = omega arith

pub refused_68 : (bytes : List ℕ) → IsRefused (Some (with_gate 68 bytes))
refused_68 bytes = inr apart

-- the gate of a closed file is opened
module _ (f : DeviceFile) (closed : IsClosed (content f)) (read : Leaves f (Some (content f))) where
  during : (c : Option (List ℕ)) → MayLeave (after_step (durable f.log) (wrote 0 1)) c → WasOrRefused f c
  during = opened_image (durable f.log) (content f) closed read

  pub opening_done : (g : DeviceFile) → GateWritten 68 f g → Throughout (WasOrRefused f) f g
  opening_done = gate_done (WasOrRefused f) 68 f (λ c may. inl may) during (inr (refused_68 (content f)))

  pub opening_failed : (g : DeviceFile) → GateFails 68 f g → Throughout (WasOrRefused f) f g
  opening_failed = gate_failed (WasOrRefused f) 68 f (λ c may. inl may) during (inr (refused_68 (content f)))

-- after a sync of these bytes and a write of the first one, an image is empty or has another first byte
byte_image : (s c : List ℕ) → IsImage s ((0, 1) ∷ []) c → (c ≡ []) ⊎ ((x : ℕ) × (c ≡ with_gate x s))
byte_image s [] image = inl refl
byte_image [] (x ∷ []) image = inr (x, refl)
byte_image [] (x ∷ y ∷ c) image = let e = (image.each 1 (omega arith) (behind [] 1 (omega arith) refl)).0 in absurd (omega arith)
byte_image (y ∷ s) (x ∷ c) image = inr (x, let e : y ∷ c ≡ y ∷ s = image_only (y ∷ s) (y ∷ c) (record { kept = kept; each = each }) in ap (λ (l : List ℕ). x ∷ drop 1 l) e)
  where
    kept : (i : ℕ) → i < length (y ∷ s) → covered [] i ≡ false → i < length (y ∷ c)
    kept zero within out = omega arith
    kept (suc i) within out = image.kept (suc i) within (behind [] (suc i) (omega arith) refl)

    each : (i : ℕ) → i < length (y ∷ c) → covered [] i ≡ false → (i < length (y ∷ s)) × (slice_index (y ∷ c) i ≡ slice_index (y ∷ s) i)
    each zero within out = (omega arith, refl)
    each (suc i) within out = image.each (suc i) within (behind [] (suc i) (omega arith) refl)

-- so after a sync
pub synced_byte : (f g : DeviceFile) → Synced f g → (c : Option (List ℕ)) → MayLeave (after_step (durable g.log) (wrote 0 1)) c → (c ≡ Some []) ⊎ ((x : ℕ) × (c ≡ Some (with_gate x (content f))))
synced_byte f g so c may = go c (subst (λ (d : Durable). MayLeave (after_step d (wrote 0 1)) c) (ap durable (log_synced f g so) ∙ durable_push f.log (synced (content f))) may)
  where
    some : (c : List ℕ) → (c ≡ []) ⊎ ((x : ℕ) × (c ≡ with_gate x (content f))) → (Some c ≡ Some []) ⊎ ((x : ℕ) × (Some c ≡ Some (with_gate x (content f))))
    some c (inl e) = inl (ap Some e)
    some c (inr e) = inr (e.0, ap Some e.1)

    go : (c : Option (List ℕ)) → MayLeave (after_step (after_step (durable f.log) (synced (content f))) (wrote 0 1)) c → (c ≡ Some []) ⊎ ((x : ℕ) × (c ≡ Some (with_gate x (content f))))
    go None may = absurd (cc)
    go (Some c) may = some c (byte_image (content f) c may.1)

-- the gate is closed: a sync, the byte, a sync
module _ (f : DeviceFile) (shut : AllRefused f) (read : Leaves f (Some (content f))) where
  before : (c : Option (List ℕ)) → Leaves f c → ClosedOrRefused f c
  before c may = inr (shut c may)

  either : (x : ℕ) → ClosedOrRefused f (Some (with_gate x (content f)))
  either x = elim (cases_Bool (x == 67)) [
    | inl is ↦ inl (ap (λ (n : ℕ). Some (with_gate n (content f))) (eqb-true x 67 is))
    | inr isnt ↦ inr (inr (λ same. eqb-false x 67 isnt same))
  ]

  pub closing_synced : (g : DeviceFile) → Synced f g → Throughout (ClosedOrRefused f) f g
  closing_synced g = sync_done (ClosedOrRefused f) f g before (inr (shut (Some (content f)) read))

  closing : (g : DeviceFile) → Synced f g → (c : Option (List ℕ)) → MayLeave (after_step (durable g.log) (wrote 0 1)) c → ClosedOrRefused f c
  closing g so c may = cases (synced_byte f g so c may)
    where
      cases : (c ≡ Some []) ⊎ ((x : ℕ) × (c ≡ Some (with_gate x (content f)))) → ClosedOrRefused f c
      cases (inl empty) = subst (ClosedOrRefused f) (sym empty) (inr (inl (omega arith)))
      cases (inr e) = subst (ClosedOrRefused f) (sym e.1) (either e.0)

  closed_now : (g : DeviceFile) → Synced f g → ClosedOrRefused f (Some (with_gate 67 (content g)))
  closed_now g so = inl (ap (λ (bytes : List ℕ). Some (with_gate 67 bytes)) (content_synced f g so))

  pub closing_done : (g h : DeviceFile) → Synced f g → GateWritten 67 g h → Throughout (ClosedOrRefused f) f h
  closing_done g h so w =
      let first = closing_synced g so in
      throughout_then (ClosedOrRefused f) f g h first (gate_done (ClosedOrRefused f) 67 g (throughout_last (ClosedOrRefused f) f g first) (closing g so) (closed_now g so) h w)

  pub closing_failed : (g h : DeviceFile) → Synced f g → GateFails 67 g h → Throughout (ClosedOrRefused f) f h
  closing_failed g h so w =
      let first = closing_synced g so in
      throughout_then (ClosedOrRefused f) f g h first (gate_failed (ClosedOrRefused f) 67 g (throughout_last (ClosedOrRefused f) f g first) (closing g so) (closed_now g so) h w)
