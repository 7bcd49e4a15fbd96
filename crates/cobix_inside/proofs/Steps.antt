-- A handle and a raw box as machine values: a pointer, and the word of the allocator.
use Rattle.std.proofs.Common.{◌≡◌, ℕ, List, [], ◌∷◌, ◌++◌, refl, subst}
use seplogic.Ra.Ura.{Ura}
use mir.Raw.{raw as bare}
use mir.Val.{Val, vptr, vstruct, of_list}
use base.Fraction.{full_share}
use base.Fml.{Lft, GName, Share, flft, fobs, fauth, fbor, fobor}
use base.Logic.{never, fst∗}
use types.Logic.{Logic, sem}
use types.Kit.{Soaks, Item, Goal, Seq, Step, step, ‵, ◌$◌, move, drop, fsplit, fjoin, fpick, fpack, rewrite, feq_i, feq_l}
use types.SemTy.{Body as Borrowed}
use denote.RattleType.{RattleType, Valss}
use denote.Builtin.{RawPtr}
use denote.Memory.{cell_at, part_at, lone, mem}
use denote.RawPtr.{Ptr, block_ptr, null_ptr, ptr_val, in_a_block}
use denote.Steps.{opens, nothing}
use denote.Param.{layout}
use denote.Param.Laws.{Laws}
use denote.Struct.Struct.{within}
use denote.Struct.Owning.{shape}
use Rattle.core.proofs.alloc.Calls.{handle_tells}
use Rattle.core.proofs.cell.Inside.{Good}
use Rattle.std_alloc.specs.Box.Ownership.{box_owns}
use Rattle.std.specs.Prelude.{Option, Some}
use Rattle.std.specs.contracts.alloc.Global as heap
use Rattle.std.proofs.alloc.Global.TheLaws as heap_laws
use Rattle.std.specs.contracts.impls.GlobalAllocator.TheImpl.{ghosts}
use Rattle.cobix_inside.proofs.Values.{both, al}
use Rattle.cobix_inside.specs.Lending.{lent_owns}
use Rattle.cobix_inside.specs.contracts.open_session.OpenSession as session
use Rattle.cobix_inside.specs.contracts.handle.Handle as held

abbrev pub S : RattleType
S = session.the_row

abbrev pub Z : RattleType
Z = heap.the_row

abbrev pub LZ : Laws Z
LZ = heap_laws.the_row_laws

abbrev pub Ha : RattleType
Ha = held.the_row

module _ {M : Type 1} {𝓤 : Ura M} {𝓛 : Logic 𝓤} {K : Type 0} {Γ : List (Item 𝓤)} {G : Goal 𝓤 𝓛.H} where
  pub handle_out : K → (d : Ha.Denot) (x : S.Denot) → d.value ≡ Some x → (vs : List Val)
      → ((b o : ℕ) (h : Val) → d.at ≡ block_ptr b o → vs ≡ both (vptr b o) h ∷ [] → Good (layout Z) h → Seq K 𝓛 (‵ (box_owns (ghosts.dealloc_token d.alloc) S (block_ptr b o) x) ∷ ‵ (Z.own_val d.alloc (h ∷ [])) ∷ Γ) G)
      → Seq K 𝓛 (‵ (Ha.own_val d vs) ∷ Γ) G
  handle_out t d x is vs k =
      fsplit t $ move t (1 ∷ []) $ rewrite t 0 (λ (y : Option S.Denot). ‵ (lent_owns (ghosts.dealloc_token d.alloc) S d.at y)) is refl $ move t (1 ∷ []) $
      fpick t (λ vss. fsplit t $ feq_l t (λ ev. fsplit t $ feq_l t (λ ep. fsplit t $ handle_tells (al S Z LZ ghosts) t d.alloc vss.1.0 (λ h ea fits. move t (1 ∷ []) $ drop t $ move t (1 ∷ []) $
      in_a_block t d.at (λ p. box_owns (ghosts.dealloc_token d.alloc) S p x) (fst∗ 𝓤 (never 𝓤) (sem 𝓛 (ghosts.dealloc_token d.alloc (bare (lone S.mir)) null_ptr))) (λ b o e. k b o h e
      (subst (λ (p : Ptr). vs ≡ vstruct (of_list (ptr_val p ∷ h ∷ [])) ∷ []) e
      (subst (λ (ws : List Val). vs ≡ vstruct (of_list (ptr_val d.at ∷ (ws ++ []))) ∷ []) ea (subst (λ (ps : List Val). vs ≡ vstruct (of_list (ps ++ (vss.1.0 ++ []))) ∷ []) ep ev))) fits)))))

  pub handle_in : K → (b o : ℕ) (h : Val) (a : Z.Denot) (x : S.Denot)
      → Step K 𝓛 (‵ (Ha.own_val (record { at = block_ptr b o; alloc = a; value = Some x }) (both (vptr b o) h ∷ [])) ∷ Γ) G (‵ (box_owns (ghosts.dealloc_token a) S (block_ptr b o) x) ∷ ‵ (Z.own_val a (h ∷ [])) ∷ Γ) G
  handle_in t b o h a x = step (λ s. let v : Val = both (vptr b o) h in
      nothing t $ move t (2 ∷ 0 ∷ []) $ fjoin t $ feq_i t (List Val) (vptr b o ∷ []) (vptr b o ∷ []) refl $ fjoin t $ feq_i t (List Val) (v ∷ []) (v ∷ []) refl $ fjoin t $
      fpack t (Valss (RawPtr ∷ (heap.the_field).row ∷ [])) (within (shape held.the_type) (block_ptr b o, ((heap.the_field).into a, tt)) (v ∷ [])) (vptr b o ∷ [], (h ∷ [], tt)) $ fjoin t $ s)

module _ {M : Type 1} {𝓤 : Ura M} {𝓛 : Logic 𝓤} {K : Type 0} {Γ : List (Item 𝓤)} {G : Goal 𝓤 𝓛.H} where
  -- the same behind a `&mut`: [the value; the token; the word of the allocator; the words; the open borrow; obs; auth]
  pub handle_opens : K → Soaks G → {κ : Lft} {q : Share} {γ : GName} (d : Ha.Denot) (x : S.Denot) → d.value ≡ Some x → (rb ro : ℕ)
      → ((b o : ℕ) (h : Val) → d.at ≡ block_ptr b o → Seq K 𝓛 (‵ (part_at S full_share x b o) ∷ ‵ (ghosts.dealloc_token d.alloc (bare (lone S.mir)) (block_ptr b o)) ∷ ‵ (Z.own_val d.alloc (h ∷ []))
      ∷ ‵ (cell_at full_share Ha.mir (both (vptr b o) h ∷ []) rb ro) ∷ ‵ (fobor κ q (Borrowed (mem Ha) rb ro γ)) ∷ ‵ (fobs γ (Ha.coded.code d)) ∷ ‵ (fauth γ (Ha.coded.code d)) ∷ Γ) G)
      → Seq K 𝓛 (‵ (fobs γ (Ha.coded.code d)) ∷ ‵ (fbor κ (Borrowed (mem Ha) rb ro γ)) ∷ ‵ (flft κ q) ∷ Γ) G
  handle_opens t z d x is rb ro k =
      opens t z Ha {h = d} rb ro (λ vs. move t (1 ∷ []) $ handle_out t d x is vs (λ b o h e ws fits. fsplit t $
      rewrite t 3 (λ (us : List Val). ‵ (cell_at full_share Ha.mir us rb ro)) ws refl $ k b o h e))
