-- `lend` lends the session, and the handle follows it.
use Rattle.std.proofs.Common.{◌≡◌, ℕ, List, [], ◌∷◌, refl, sym}
use mir.Syntax.{named}
use mir.Raw.{raw as bare}
use mir.Val.{Val, vptr}
use base.Logic.{ent, sep, id⊢}
use base.Fml.{Fml, GName, ftrue, fsep, flft}
use base.Fraction.{full_share}
use seplogic.Ra.Ura.{Ura}
use types.Logic.{Logic, sem}
use types.Kit.{‵, raw, ◌⊛◌, some, later, at_ret, ◌$◌, ◌∵◌, !, qed, done, move, keep, drop, use1, split, join, fsplit, fsplit3, fjoin, fpack, pick, await, rewrite, suffices, frame, group}
use types.Part.{whole, sub, look_in}
use types.Run.{stop, fld, load, of_opd, addr, first, blocks, exec, returns, enter}
use types.ByLocal.{alloc_all, pass_all, free_all, look_at, get, through, sets, sets_last, env}
use contract.Running.{tables}
use denote.Exit.{no}
use denote.Memory.{cell_at, part_at, part_of, lone, mem}
use denote.RawPtr.{Ptr, block_ptr}
use denote.Ref.{MutBor, MutRef, mut_vals, mut_Tells}
use denote.Follow.{follows, Part, lends_Part}
use denote.RattleType.{owns}
use denote.Signature.{types_at, plain, mut_ref_to}
use denote.Steps.{nothing, heard}
use denote.Triple.Walked.{says, Stays, stay_dropped, walk_of, ends_at, Goes-spent_ref}
use Rattle.std_alloc.proofs.VecSteps.Shapes.{after}
use Rattle.std.specs.Prelude.{Option, Some, None, true, is_some}
use Rattle.std.specs.contracts.impls.GlobalAllocator.TheImpl.{ghosts}
use Rattle.std.proofs.raw_atomic.Walks.{proved}
use Rattle.cobix_inside.proofs.Values.{both}
use Rattle.cobix_inside.proofs.Steps.{S, Z, Ha, handle_opens, handle_in}
use Rattle.cobix_inside.specs.Holding.{handle_with}
use Rattle.cobix_inside.specs.contracts.handle.Handle.lend as f
use Rattle.cobix_inside.proofs.handle.Handle.lend.Statement.{statement}
use Rattle.cobix_inside.proofs.handle.Handle.lend.Code as code

there : {X : Type 0} (y : Option X) → is_some y ≡ true → (x : X) × (y ≡ Some x)
there (Some x) e = (x, refl)
there None e = absurd (mathlib.Core.Bool.false≢true e)

abbrev stayed : Stays f.ended.signature.params f.ended.kept
stayed = (stay_dropped (mut_ref_to (0 ∷ []) tt (plain (λ _. Ha))) no, tt)

module _ {M : Type 1} {𝓤 : Ura M} (𝓛 : Logic 𝓤) (h : Ha.Denot) (rb ro b o : ℕ) (hv : Val) where
  -- all of the handle but its session
  abbrev Rest : Fml
  Rest = fsep (ghosts.dealloc_token h.alloc (bare (lone S.mir)) (block_ptr b o)) (fsep (Z.own_val h.alloc (hv ∷ [])) (cell_at full_share Ha.mir (both (vptr b o) hv ∷ []) rb ro))

  back : h.at ≡ block_ptr b o → (w : S.Denot) → ent 𝓤 (sep 𝓤 (sem 𝓛 ((mem S).own_at w b o)) (sem 𝓛 Rest)) (sem 𝓛 ((mem Ha).own_at (handle_with h w) rb ro))
  unfolding part_of
  back e w =
      qed 𝓛 (‵ (part_at S full_share w b o) ∷ ‵ Rest ∷ []) ∵ move ! (1 ∷ []) $ fsplit3 ! $ move ! (3 ∷ 0 ∷ []) $ fjoin ! $
      handle_in ! b o hv h.alloc w $ rewrite ! 0 (λ (p : Ptr). ‵ (Ha.own_val (record { at = p; alloc = h.alloc; value = Some w }) (both (vptr b o) hv ∷ []))) (sym e) refl $
      move ! (1 ∷ 0 ∷ []) $ fjoin ! $ fpack ! (List Val) (λ us. fsep (cell_at full_share Ha.mir us rb ro) (Ha.own_val (handle_with h w) us)) (both (vptr b o) hv ∷ []) $ done !

pub lend_spec : {M : Type 1} → statement M
lend_spec 𝓤 𝓛 𝓜 𝓡 wired =
    let c = f.clauses 𝓛 𝓜.mem 𝓡.returns in let W = walk_of 𝓛 f.ended stayed c in let 𝓣 = tables 𝓤 𝓛.H 𝓜 𝓡 𝓡.env in
    proved 𝓛 f.ended stayed c 𝓜 𝓡 (Goes-spent_ref 𝓛 1 (0 ∷ []) tt (plain (λ _. Ha)), tt)
    f.Key.name code.function (code.unfolded 𝓤 𝓛.H 𝓜 𝓡 wired)
    (λ κs. (mut_vals, tt)) (λ κs. (mut_Tells (named 0) κs.0 Ha, tt)) (λ κs qs bounds a g are.
    let κ = κs.0 in let q = qs.0 in let r = a.0 in let rb = r.ref_ptr.0 in let ro = r.ref_ptr.1 in let γ = r.ghost_name in let h = r.now in
    let y : W.Ghost = ((κs, qs, bounds, a, (mut_vals r, tt)), tt) in
    qed 𝓛 (((‵ (flft κ q) ⊛ ‵ ftrue) ⊛ ‵ (owns (types_at f.signature.params κs) a (mut_vals r, tt))) ∷ raw ((c κs a).requires g) ∷ []) ∵
    move ! (1 ∷ []) $ heard ! (is_some h.value ≡ true) (λ some_value.
    let x = (there h.value some_value).0 in let is = (there h.value some_value).1 in
    split ! $ split ! $ move ! (2 ∷ []) $ fsplit ! $ fsplit3 ! $ drop ! $ move ! (0 ∷ 1 ∷ 3 ∷ []) $ keep ! (0 ∷ 1 ∷ 2 ∷ []) $
    enter ! 𝓣.C 𝓣.Λ code.function (mut_vals r) (W.post y) $ alloc_all ! (λ l. pass_all ! refl ((tt, tt), tt) $
    let En = env code.function.locals l in
    handle_opens ! tt h x is rb ro (λ b o hv at_b.
    first ! $ blocks ! $
    sets ! (of_opd ! (load ! (through ! refl (fld ! refl (stop !))) (look_in ! 3 (sub ! 0 refl (whole !))))) refl (tt, tt) $
    sets ! (of_opd ! (get ! refl)) refl (tt, tt) $
    sets_last ! (addr ! (through ! refl (stop !))) refl (tt, tt) $
    exec ! 𝓣.C 𝓣.Λ En (after 1 code.function.body) (at_ret En (W.post y)) $
    sets ! (of_opd ! (get ! refl)) refl (tt, tt) $
    move ! (2 ∷ 3 ∷ []) $ fjoin ! $ move ! (2 ∷ 0 ∷ []) $ fjoin ! $ move ! (2 ∷ 3 ∷ 4 ∷ 1 ∷ 0 ∷ []) $ group ! 5 $
    use1 𝓛 (later (some (λ (δ : GName). raw (Part 𝓛 Ha S (handle_with h) (named 0) κ q rb ro b o γ (sem 𝓛 (Rest 𝓛 h rb ro b o hv)) (back 𝓛 h rb ro b o hv at_b) x δ))))
    (lends_Part 𝓛 Ha S (handle_with h) (named 0) κ q rb ro b o γ (sem 𝓛 (Rest 𝓛 h rb ro b o hv)) (back 𝓛 h rb ro b o hv at_b) (Ha.coded.code h) (Ha.coded.code h) x) $ await ! tt $ pick ! (λ δ.
    returns ! (look_at ! 0 refl) $ free_all ! refl $ keep ! (0 ∷ []) $
    let lent : MutBor S.Denot = record { ref_ptr = (b, o); ghost_name = δ; now = x } in
    use1 𝓛 (‵ ((MutRef (named 0) κ S).own_val lent (vptr b o ∷ [])) ⊛ ‵ (flft κ q) ⊛ ‵ (follows Ha S γ δ (handle_with h))) (id⊢ 𝓤 _) $ split ! $ move ! (1 ∷ []) $ split ! $
    move ! (2 ∷ 0 ∷ 1 ∷ []) $
    suffices ! _ (ends_at 𝓛 f.ended stayed c y (vptr b o) lent (tt, tt) (tt, tt)) $
    nothing ! $ nothing ! $ fjoin ! $ join ! $ nothing ! $ move ! (2 ∷ 0 ∷ []) $ join ! $ join ! $ frame ! $ says ! is $ done !)))))
