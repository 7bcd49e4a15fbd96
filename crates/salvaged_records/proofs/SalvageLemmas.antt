-- What is known of bytes with a closed gate that stand for a file, and of those that do not.
use Rattle.std.proofs.Common.{◌≡◌, ◌≤◌, ℕ, Bool, true, false, List, [], ◌∷◌, length, Option, Some, None, IfSome, slice_get, refl, sym, subst, ◌∙◌, inl, inr, arith}
use Rattle.record_layout.specs.declared.schema.KeyPart.{KeyPart}
use Rattle.std.specs.Prelude.{filter}
use Rattle.std.proofs.lemmas.List.Elements.{filter_agree}
use Rattle.record_heap.specs.declared.shape.SlotShape.{SlotShape}
use Rattle.tree_node.specs.declared.shape.NodeShape.{NodeShape}
use Rattle.record_layout.specs.Schema.{AreKeys, Schema, key_at}
use Rattle.salvaged_records.specs.declared.doubts.Doubts.{Doubts}
use Rattle.salvaged_records.specs.declared.slot_salvage.SalvageForm.{SalvageForm}
use Rattle.salvaged_records.specs.Doubt.{is_doubled, is_slot_kept, kept_slots, told_slots}
use Rattle.salvaged_records.specs.Leaves.{leaf_entries_in, IsPrimeShape}
use Rattle.salvaged_records.specs.Shapes.{IsShapeOf}
use Rattle.salvaged_records.specs.Slots.{used_slots_in}
use Rattle.salvaged_records.specs.Telling.{is_kept_by, is_told_by, TellApart}
use Rattle.record_text.specs.declared.form.Form.{Form}
use Rattle.record_listing.specs.declared.asked.Asked.{Asked}
use Rattle.file_checker.specs.Sound.{IsSound}
use Rattle.file_checker.proofs.HeldLemmas.{first_of_pages}
use Rattle.open_file.specs.declared.first_page.Header.{Header}
use Rattle.open_file.specs.FirstPage.{IsFirstPage}
use Rattle.page_store.specs.DeviceFile.{page_of_bytes}
use Rattle.file_checker.specs.Bytes.{AreAllPages}
use Rattle.record_listing.specs.FileList.{EndsWithIn}
use Rattle.record_listing.specs.declared.file_list.FileList.{FileList}
use Rattle.record_listing.specs.declared.file_list.FileList.TheVariants.{Listed, NoKey, Unsound}
use Rattle.salvaged_records.specs.declared.salvaging.Salvage.{Salvage}
use Rattle.salvaged_records.specs.declared.salvaging.Salvage.TheVariants.{All as AllSalvaged, Slots as SlotsListed, Unsound as RefusedBy}
use Rattle.salvaged_records.specs.Salvaged.{AreAllAsked, EndsWith, HasNoHeader, IsSalvageOf, ListsBoth, ListsSlotsOf, Outputs, outputs, WritesSlotsFor}

-- there is a key
some_keys : (keys : List KeyPart) → AreKeys keys → length keys ≤ 0 → ⊥
some_keys [] is few = is
some_keys (prime ∷ alternates) are few = omega (arith, few)

-- of a sound file no list ends for want of its prime key, or since it is refused
never : (form : Form) (bytes : List ℕ) (asked : Asked) (before behind : Option (List ℕ)) (records pages : ℕ) → IsSound bytes records pages → AreAllAsked asked → (end : FileList)
    → EndsWithIn form bytes asked before behind end → end ≡ Listed
never form bytes asked before behind records pages sound all Listed ends = refl
never form bytes asked before behind records pages sound all NoKey (schema, file, closed, ends) =
    let header_schema = closed.accepted.first.allowed.schema in
    let keys = subst (λ s. AreKeys s.keys) closed.schema_is header_schema.keys in
    absurd (some_keys schema.keys keys (subst (λ (k : ℕ). length schema.keys ≤ k) all.key_is ends.0))
never form bytes asked before behind records pages sound all (Unsound reason) (right, same) = absurd (right.1.1 records pages sound)

-- so its records were listed
pub all_listed : (deck : Option Schema) (bytes : List ℕ) (form : Form) (asked : Asked) (before behind told : Option (List ℕ)) (records pages : ℕ) → IsSound bytes records pages → AreAllAsked asked
    → (end : FileList) → EndsWithIn form bytes asked before behind end → EndsWith deck bytes form false (outputs before behind told told) (AllSalvaged records)
all_listed deck bytes form asked before behind told records pages sound all end is =
    ((pages, sound), ((asked, all, subst (EndsWithIn form bytes asked before behind) (never form bytes asked before behind records pages sound all end is) is), refl))

-- the slots of a sound file were listed with their places
placed : (deck : Option Schema) (bytes : List ℕ) (form : Form) (o : Outputs) (records listed told pages : ℕ) → IsSound bytes records pages → WritesSlotsFor deck bytes form true o listed told → (end : Salvage)
    → IsSalvageOf listed told records end → EndsWith deck bytes form true o end
placed deck bytes form o records listed told pages sound slots (AllSalvaged count) is = (
  (pages, subst (λ (n : ℕ). IsSound bytes n pages) (sym is.0) sound),
  subst (λ (n : ℕ). WritesSlotsFor deck bytes form true o n 0) (is.1 ∙ sym is.0) (subst (λ (n : ℕ). WritesSlotsFor deck bytes form true o listed n) is.2 slots),
)
placed deck bytes form o records listed told pages sound slots (SlotsListed count doubted) is = (
  inr refl,
  subst (λ (n : ℕ). WritesSlotsFor deck bytes form true o n doubted) (sym is.0) (subst (λ (n : ℕ). WritesSlotsFor deck bytes form true o listed n) (sym is.1) slots),
)
placed deck bytes form o records listed told pages sound slots (RefusedBy reason) is = absurd is

pub placed_by : (deck : Option Schema) (bytes : List ℕ) (form : Form) (places : Bool) (o : Outputs) (records listed told pages : ℕ) → places ≡ true → IsSound bytes records pages
    → WritesSlotsFor deck bytes form places o listed told → (end : Salvage) → IsSalvageOf listed told records end → EndsWith deck bytes form places o end
placed_by deck bytes form places o records listed told pages sure sound slots end is =
    subst (λ (p : Bool). EndsWith deck bytes form p o end) (sym sure)
    (placed deck bytes form o records listed told pages sound (subst (λ (p : Bool). WritesSlotsFor deck bytes form p o listed told) sure slots) end is)

-- a sound file has a first page
pub has_header : (bytes : List ℕ) (records pages : ℕ) → IsSound bytes records pages → HasNoHeader bytes → ⊥
has_header bytes records pages sound (inl short) =
    let whole = sound.accepted.whole in
    let counted = sound.accepted.first.allowed.within.counted in
    omega (arith, short, whole, counted)
has_header bytes records pages sound (inr none) = none sound.header sound.accepted.first

-- the header in the first page of a list is that of all bytes of which these are the pages
pub header_of_all : (list : List (List ℕ)) (first : List ℕ) (found : Option Header) → slice_get list 0 ≡ Some first → IfSome found (λ header. IsFirstPage header first)
    → IfSome found (λ header. (bytes : List ℕ) → AreAllPages bytes list → IsFirstPage header (page_of_bytes bytes 0))
header_of_all list first None is accepted = tt
header_of_all list first (Some header) is accepted = λ bytes all. subst (IsFirstPage header) (sym (first_of_pages bytes list first all is)) accepted

-- the slots of pages were told and listed as they are told apart
pub sorted_written : (schema : Schema) (pages : List (List ℕ)) (asked : SalvageForm) (o : Outputs) (counts : ℕ × ℕ) (shape : SlotShape) (prime : KeyPart) (nodes : NodeShape) (doubts : Doubts) → IsShapeOf schema shape
    → prime ≡ key_at schema 0 → IsPrimeShape prime nodes → TellApart prime (leaf_entries_in nodes pages) (used_slots_in shape pages) doubts → ListsBoth doubts (used_slots_in shape pages) asked o counts
    → ListsSlotsOf schema pages asked o counts
sorted_written schema pages asked o counts shape prime nodes doubts of is_prime is_shape apart both =
    let slots = used_slots_in shape pages in
    let entries = leaf_entries_in nodes pages in
    record {
      shape = shape;
      shape_is = of;
      kept = filter (is_kept_by doubts) slots;
      doubted = filter (is_told_by doubts) slots;
      sorted = record {
        nodes = nodes;
        is_prime = subst (λ (p : KeyPart). IsPrimeShape p nodes) is_prime is_shape;
        kept_is = subst (λ (p : KeyPart). filter (is_kept_by doubts) slots ≡ kept_slots p entries slots) is_prime (filter_agree (is_kept_by doubts) (is_slot_kept prime entries slots) apart.kept slots);
        told_is = subst (λ (p : KeyPart). filter (is_told_by doubts) slots ≡ told_slots p slots) is_prime (filter_agree (is_told_by doubts) (is_doubled prime slots) apart.told slots);
      };
      written = record { tells = both.tells.written; lists = both.lists.written };
      listed_is = both.lists.counted;
      told_is = both.tells.counted;
    }
