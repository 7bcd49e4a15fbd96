use Rattle.std.proofs.lemmas.Grind.{common_steps}
use Rattle.std.proofs.Common.{◌≡◌, ◌+◌, ◌-◌, sym, ap, subst, ◌∙◌, arith}
use Rattle.std.specs.Prelude.{false, bytes_eq}
use Rattle.std.specs.List.{list_any}
use Rattle.indexed_file.specs.Rank.{has_value}
use Rattle.open_file.proofs.AnswerLemmas.{index_at}
use Rattle.open_file.proofs.FirstLemmas.{there_by_entry, not_there}
use Rattle.open_file.proofs.HeightLemmas.{height_by_key}
use Rattle.open_file.proofs.open_file.OpenFile.has_alternate.Goals as goal

pub returns-in-Some-clause-found : goal.returns-in-Some-clause-found
returns-in-Some-clause-found g c honest file bytes stands same =
    let schema = c.args.self.now.schema in
    let v = c.args.value.now in
    let at = index_at c.args.self.now c.args.k c.requires.key.some c.requires.key.within in
    let found = (rw c.in-Some.is at c.in_ok-entry.ensures.found honest _ _ (stands.parts.alternates_stand (c.args.k - 1) c.alternate-index.result at.0 c.alternate-index.ensures)).answer in
    let there = there_by_entry schema (c.args.k - 1 + 1) v file.rows c.in-Some.entry (sym found) in
    let at_k = subst (λ m. list_any (has_value schema m v) file.rows ≡ bytes_eq c.in-Some.entry.value.items v) at.1 there in
    record { answer = c.eq.ensures ∙ ap (λ w. bytes_eq w v) c.as_slice.ensures.value ∙ sym at_k ∙ ap (λ w. list_any (has_value schema c.args.k w) file.rows) same; no_damage = tt }

pub returns-in-Some-clause-reads : goal.returns-in-Some-clause-reads
returns-in-Some-clause-reads g c =
    let h = height_by_key c.args.self.now.prime c.args.self.now.alternates.items c.args.k c.alternate-index.result c.requires.key.some c.requires.key.within c.alternate-index.ensures in
    record { cause = tt; asked = rw h (c.first_from.ensures.reads.asked); step = grind (arith, common_steps) }

pub returns-in-None-clause-found : goal.returns-in-None-clause-found
returns-in-None-clause-found g c honest file bytes stands same =
    let schema = c.args.self.now.schema in
    let v = c.args.value.now in
    let at = index_at c.args.self.now c.args.k c.requires.key.some c.requires.key.within in
    let found = (rw c.in-None.is at c.in_ok-entry.ensures.found honest _ _ (stands.parts.alternates_stand (c.args.k - 1) c.alternate-index.result at.0 c.alternate-index.ensures)).answer in
    let there = not_there schema (c.args.k - 1 + 1) v file.rows (sym found) in
    let at_k = subst (λ m. list_any (has_value schema m v) file.rows ≡ false) at.1 there in
    record { answer = sym at_k ∙ ap (λ w. list_any (has_value schema c.args.k w) file.rows) same; no_damage = tt }

pub returns-in-None-clause-reads : goal.returns-in-None-clause-reads
returns-in-None-clause-reads g c =
    let h = height_by_key c.args.self.now.prime c.args.self.now.alternates.items c.args.k c.alternate-index.result c.requires.key.some c.requires.key.within c.alternate-index.ensures in
    record { cause = tt; asked = rw h (c.first_from.ensures.reads.asked); step = grind (arith, common_steps) }
