-- `cobix_inside_answer` passes on what it was given, and answers the length of the head that it got.
use Rattle.std.proofs.Common.{◌≡◌, ℕ, List, [], ◌∷◌, ◌++◌, refl, ap, subst, length}
use mir.Syntax.{named, w64}
use mir.Val.{Val, vint, vstruct, of_list}
use base.Logic.{id⊢}
use types.Kit.{‵, raw, ◌⊛◌, some, later, ◌$◌, ◌∵◌, !, qed, done, move, drop, use1, split, join, pick, await, suffices}
use types.Part.{whole, sub, agg}
use types.Run.{stop, fld, hop, from, of_opd, addr, no_more, and_then, returns, enter}
use types.ByLocal.{alloc_all, pass_all, free_all, look_at, look_in_at, get, get_in, through, sets, lands_as}
use contract.Running.{tables}
use denote.Builtin.{u8, usize}
use denote.Laws.{Is, shows}
use denote.Plain.{uint_Makes}
use denote.Ref.{Bor, mut_vals, mut_Tells}
use denote.RattleType.{RattleType}
use denote.Slice.{ShrSlice, slice_val, shr_slice_vals, shr_slice_Tells, mut_slice_vals, mut_slice_Tells}
use denote.Signature.{type_at}
use denote.Steps.{peeks, owned, only}
use denote.Triple.Call.{calls_at}
use denote.Triple.Clauses.{Lasts, at_exit, lasts}
use denote.Triple.Entry.{alive}
use denote.Triple.Spec.{triple_of}
use denote.Triple.Table.{framed}
use denote.Triple.Walked.{Stays, ends_at}
use Rattle.std.proofs.raw_atomic.Walks.{proved}
use Rattle.cobix_inside.proofs.PassingOn.{stays_said, all_said}
use Rattle.cobix_inside.proofs.Steps.{Ha}
use Rattle.cobix_inside.specs.contracts.exports.cobix_inside_answer as f
use Rattle.cobix_inside.specs.contracts.exports.answered as callee
use Rattle.cobix_inside.proofs.exports.answered.Met.{met}
use Rattle.cobix_inside.proofs.exports.cobix_inside_answer.Statement.{statement}
use Rattle.cobix_inside.proofs.exports.cobix_inside_answer.Code as code

abbrev stayed : Stays f.ended.signature.params f.ended.kept
stayed = stays_said f.signature.params f.ended.kept

-- a length and a slice as one machine value
abbrev both_of : ℕ → Bor (List ℕ) → Val
both_of size slice = vstruct (of_list (vint w64 size ∷ slice_val slice.ref_ptr (length slice.now) ∷ []))

pub cobix_inside_answer_spec : {M : Type 1} → statement M
cobix_inside_answer_spec 𝓤 𝓛 𝓜 𝓡 wired =
    let c = f.clauses 𝓛 𝓜.mem 𝓡.returns in
    proved 𝓛 f.ended stayed c 𝓜 𝓡 (all_said 𝓛 f.signature.params f.ended.kept)
    f.Key.name code.function (code.unfolded 𝓤 𝓛.H 𝓜 𝓡 wired)
    (λ κs. (mut_vals, (shr_slice_vals, (mut_slice_vals, (mut_vals, tt)))))
    (λ κs. (mut_Tells (named 0) κs.0 Ha, (shr_slice_Tells (named 1) κs.1.0 u8, (mut_slice_Tells (named 2) κs.1.1.0 u8, (mut_Tells (named 3) κs.1.1.1.0 (ShrSlice (named 0) κs.0 u8), tt)))))
    (λ κs qs bounds a g are.
    let G = triple_of 𝓛 callee.signature (callee.spec 𝓛 𝓜.mem 𝓡.returns) in
    let z : G.Ghost = ((κs, qs, bounds, a, (mut_vals a.0, (shr_slice_vals a.1.0, (mut_slice_vals a.1.1.0, (mut_vals a.1.1.1.0, tt))))), tt) in
    let L : RattleType = type_at callee.signature.result κs in
    qed 𝓛 (raw (G.pre z) ∷ []) ∵ enter ! _ _ _ _ _ $
    alloc_all ! (λ l. pass_all ! refl ((tt, tt), ((tt, (tt, (record { fits = are.1.0.0.1.0 }, tt))), ((tt, (tt, (record { fits = are.1.1.0.0.1.0 }, tt))), ((tt, tt), tt)))) $
    -- [what the callee asks for; the locals]
    sets ! (addr ! (through ! refl (stop !))) refl (tt, tt) $
    sets ! (addr ! (from ! (fld ! refl (hop ! (look_in_at ! 3 (sub ! 0 refl (whole !))) (stop !))))) refl (tt, tt) $
    sets ! (agg ! (and_then ! (get ! refl) (and_then ! (get_in ! (fld ! refl (stop !)) (sub ! 1 refl (whole !))) (no_more !)))) refl (tt, (tt, (record { fits = are.1.1.0.0.1.0 }, tt))) $
    sets ! (addr ! (through ! refl (stop !))) refl (tt, tt) $
    calls_at ! (framed 𝓤 𝓛.H 𝓜 (tables 𝓤 𝓛.H 𝓜 𝓡 𝓡.env)) G (met 𝓤 𝓛 𝓜 𝓡 (code.calls-cobix_inside::exports::answered 𝓡.env wired)) z
    (and_then ! (get ! refl) (and_then ! (get ! refl) (and_then ! (get ! refl) (and_then ! (get ! refl) (no_more !))))) (λ v.
    use1 𝓛 (later (some (λ (r : L.Denot). (raw (alive 𝓛 f.signature κs qs) ⊛ ‵ (L.own_val r (v ∷ []))) ⊛ some (λ (ws : Lasts callee.ended κs a). ‵ (lasts callee.ended κs a ws)
    ⊛ raw ((callee.clauses 𝓛 𝓜.mem 𝓡.returns κs a).ensures tt r (at_exit callee.ended κs a ws)))))) (id⊢ 𝓤 _) $
    await ! tt $ pick ! (λ r. split ! $ move ! (1 ∷ []) $ pick ! (λ ws. split ! $ move ! (2 ∷ []) $ split ! $ move ! (1 ∷ []) $
    -- [the answer; the tokens; the last values; the clause; the locals]
    peeks ! L (Is L) (shows 𝓛 L) r (v ∷ []) (λ p. drop ! $
    let size = p.1.1.0 in let slice = p.1.1.1.0.0 in
    let is : v ≡ both_of r.size r.delivered = ap only (subst (λ (us : List Val). v ∷ [] ≡ vstruct (of_list (vint w64 r.size ∷ (us ++ []))) ∷ []) slice.0
    (subst (λ (us : List Val). v ∷ [] ≡ vstruct (of_list (us ++ (p.0.1.0 ++ []))) ∷ []) size.0 p.1.0)) in
    lands_as ! is refl (tt, (record { fits = size.1 }, ((tt, (record { fits = slice.1.0 }, tt)), tt))) $
    sets ! (of_opd ! (get_in ! (fld ! refl (stop !)) (sub ! 0 refl (whole !)))) refl (tt, record { fits = size.1 }) $
    returns ! (look_at ! 0 refl) $ free_all ! refl $
    suffices ! _ (ends_at 𝓛 f.ended stayed c z (vint w64 r.size) r.size ws (tt, (tt, (tt, (tt, tt))))) $
    owned ! usize _ (uint_Makes 𝓛 w64) r.size _ (refl, size.1) $ move ! (2 ∷ 0 ∷ []) $ join ! $ move ! (1 ∷ 0 ∷ []) $ join ! $ join ! $ done !))))))
