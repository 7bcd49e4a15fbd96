use Rattle.std.proofs.Common.{◌≡◌, ℕ, Some, ap, sym, ◌∙◌, arith}
use Rattle.file_building.specs.NewPlaces.{number_within, told_at}
use Rattle.file_building.proofs.NewPlaceLemmas.{other_told, put_told}
use Rattle.file_building.proofs.new_places.NewPlaces.put.Goals as goal

pub returns : goal.returns
returns c =
    let old = c.args.self.now in
    let mid = c.make_room.new.self in
    let n = c.in-Some.number in
    let made = c.make_room.ensures in
    let at : number_within old.room c.args.old ≡ Some n = sym c.number_of.ensures ∙ c.in-Some.is in
    let here : number_within mid.room c.args.old ≡ Some n = ap (λ (r : ℕ). number_within r c.args.old) made.room ∙ at in
    let within = c.in_ok-make_room.ensures.made in
    record {
      put = λ in_page. record { answer = put_told mid.places.items mid.room c.args.old c.args.new n here (omega (arith, within)); no_damage = tt };
      others = λ p differs. other_told mid.places.items old.places.items mid.room c.args.old c.args.new p n here made.same differs
          ∙ ap (λ (r : ℕ). told_at old.places.items (number_within r p)) made.room;
      room = made.room;
      cause = tt;
    }
