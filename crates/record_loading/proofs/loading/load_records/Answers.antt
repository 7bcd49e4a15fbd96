use Rattle.std.proofs.Common.{ℕ, List, [], ◌∷◌, sym, subst}
use Rattle.std.specs.List.{IsDistinct}
use Rattle.std.specs.Str.{bytes_eq}
use Rattle.record_loading.proofs.RealLemmas.{name_attached, real_all_stay, real_both}
use Rattle.record_loading.proofs.loading.load_records.Goals as goal

one_name : (name : List ℕ) → IsDistinct bytes_eq (name ∷ [])
unfolding IsDistinct
one_name name = (tt, tt)

pub attach-requires : goal.attach-requires
attach-requires g c = record { distinct = one_name _ }

pub returns-in-Ok-attach-clause-real : goal.returns-in-Ok-attach-clause-real
returns-in-Ok-attach-clause-real g c honest truly =
    let shown = g.L.Library.shown in
    let first = c.args.lib.now in
    let begun = c.attach.new.self in
    let before = c.load_attached.ensures.keeps.honest honest in
    let shows = c.attach.ensures.keeps.truth before c.args.name.bytes truly in
    let named = name_attached (shown.world begun) (shown.world first) c.args.name.bytes c.in-Ok-attach.ensures.attached in
    real_both shown g.met.L.Library.joins g.met.L.Library.ends first begun c.load_attached.new.lib (real_all_stay shown first begun (c.attach.ensures.images before))
    (c.load_attached.ensures.loads.2 honest (subst (λ (name : List ℕ). shown.IsShownTruly begun name) (sym named) shows)).real

pub returns-clause-real : goal.returns-clause-real
returns-clause-real g c honest truly = real_all_stay g.L.Library.shown c.args.lib.now c.attach.new.self (c.attach.ensures.images honest)
