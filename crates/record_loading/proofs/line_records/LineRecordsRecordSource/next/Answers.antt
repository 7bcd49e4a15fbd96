use Rattle.std.proofs.Common.{rules, ◌≡◌, ℕ, List, [], ◌∷◌, ◌++◌, length, take, None, ap, ◌∙◌, subst}
use Rattle.record_loading.specs.LineForm.{line_form, ReadsLineOf}
use Rattle.record_loading.specs.LineRecords.{LineReading}
use Rattle.record_loading.proofs.LineRecordLemmas.{read_on, all_taken}
use Rattle.record_loading.proofs.line_records.LineRecordsRecordSource.next.Goals as goal

pub returns-in-Ok-clause-goes : goal.returns-in-Ok-clause-goes
returns-in-Ok-clause-goes g c =
    let self = c.args.self.now in
    let form = line_form self.form.now self.options in
    let line = c.in-Ok.line in
    let area = c.as_mut_slice.result.now in
    let area_now = c.read_line.new.area in
    let now : LineReading = record { schema = self.schema.now; form = form; given = self.given.records; rest = self.rest.now; mistake = self.mistake } in
    let long : length area ≡ self.schema.now.greatest = search rules in
    let none : self.mistake ≡ None = search rules in
    let whole : self.area.len ≡ length area_now = search rules in
    let kept = c.as_slice.ensures.value ∙ all_taken area_now _ self.area.len whole in
    let given_is : c.note.new.self.records ≡ self.given.records ++ take line.length area_now ∷ [] = c.note.ensures ∙ ap (λ (l : List ℕ). self.given.records ++ take line.length l ∷ []) kept in
    read_on now area area_now line.length line.behind.now long c.read_line.auto.area
    (subst (λ (least : ℕ). ReadsLineOf form self.rest.now least area area_now line.length line.behind.now) c.least-least.ensures.least c.in-Ok.ensures.read) none c.note.new.self.records given_is
