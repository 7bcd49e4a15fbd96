use Rattle.std.proofs.Common.{rules, ◌∷◌, sym, subst, List, ◌≡◌, map}
use Rattle.record_text.specs.declared.column.Column.{Column}
use Rattle.record_text.specs.Json.{member, members}
use Rattle.record_text.specs.Lines.{member_of}
use Rattle.record_text.specs.Room.{AddsInRoom}
use Rattle.record_text.proofs.TextLemmas.{with_commas}
use Rattle.record_text.proofs.json.add_members.Goals as goal

pub returns : goal.returns
returns c =
    let is : c.args.columns.now ≡ c.in-Some.first.now ∷ c.in-Some.rest.now = search rules in
    subst (λ (columns : List Column). AddsInRoom c.args.text.now c.add_more_members.new.text (members (map (member_of c.args.bytes.now) columns)) c.add_more_members.result) (sym is)
    (with_commas member (member_of c.args.bytes.now) _ _ _ c.in-Some.first.now c.in-Some.rest.now c.add_more_members.result c.in_ok-add_member.ensures c.add_more_members.ensures)
