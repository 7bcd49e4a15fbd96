use Rattle.std.proofs.Common.{◌≡◌, List, [], ◌∷◌, length, slice_set, Option, refl, sym, ap, ◌∙◌, subst}
use Rattle.indexed_file.specs.World.{name_at}
use Rattle.indexed_file.specs.Images.{ImagesGo}
use Rattle.verbs.specs.Held.{record_delivered}
use Rattle.verbs.specs.Fits.{HasOperands}
use Rattle.deck_runner.specs.Run.{RunFile, LengthValue, items_after_read}
use Rattle.deck_runner.specs.Stretches.{trace_on}
use Rattle.deck_runner.specs.Running.{line_answered}
use Rattle.deck_runner.proofs.FrameLemmas.{unit_elsewhere, as_many_units, name_kept, names_after as units_after, elsewhere_after, shows_run}
use Rattle.deck_runner.proofs.VerbLemmas.{file_within, file_at, of_file, safe_after, trusted_after, schemas_after, names_after, step_on, as_many_items, run_here, written_over, line_is, caused}
use Rattle.deck_runner.proofs.running_deck.RunningDeck.perform_on.Goals as goal

pub perform-answer-requires-clause-fits : goal.perform-answer-requires-clause-fits
perform-answer-requires-clause-fits g c =
    c.requires.safe.fits c.args.u _ (file_at c.args.self.now.files.items c.args.u (λ schema. HasOperands schema c.args.statement.now) c.index_mut-file.result.now c.requires.part_is c.index_mut-file.ensures.value)

pub perform-answer-requires-clause-key : goal.perform-answer-requires-clause-key
perform-answer-requires-clause-key g c =
    let get = file_at c.args.self.now.files.items c.args.u (λ schema. HasOperands schema c.args.statement.now) c.index_mut-file.result.now c.requires.part_is c.index_mut-file.ensures.value in
    of_file c.args.self.now.files.items c.args.u (λ schema. HasOperands schema c.args.statement.now) _ c.requires.part_is get

pub note_length-requires : goal.note_length-requires
note_length-requires g c =
    let get = file_at c.args.self.now.files.items c.args.u (λ schema. HasOperands schema c.args.statement.now) c.index_mut-file.result.now c.requires.part_is c.index_mut-file.ensures.value in
    rw (c.deref_mut.ensures.value, c.depends_on.ensures, c.perform-answer.ensures.same.depends_on) (c.requires.safe.places c.args.u _ get)

pub returns : goal.returns
returns g c =
    let files = c.args.self.now.files.items in
    let items = c.args.self.now.items.items in
    let file = c.index_mut-file.result.now in
    let next = c.perform-answer.new.self in
    let answer = c.perform-answer.result in
    let line = line_answered c.args.statement.now next answer in
    let done = c.perform-answer.ensures.performed in
    let same = c.perform-answer.ensures.same in
    let limit = c.perform-answer.ensures.limit in
    let get = file_at files c.args.u (λ schema. HasOperands schema c.args.statement.now) file c.requires.part_is c.index_mut-file.ensures.value in
    let within = file_within files c.args.u (λ schema. HasOperands schema c.args.statement.now) c.requires.part_is in
    let world = g.L.Library.shown.world c.args.library.now in
    let world_after = g.L.Library.shown.world c.perform-answer.new.library in
    let read : c.note_length.new.items ≡ items_after_read file.depends_on (record_delivered next.area answer.length) items =
    rw (c.note_length.ensures, c.deref_mut.ensures.value, c.delivered-delivered.ensures.record, c.depends_on.ensures, same.depends_on) refl in
    let many : length c.note_length.new.items ≡ length items = ap (λ (l : List LengthValue). length l) read ∙ as_many_items file.depends_on (record_delivered next.area answer.length) items in
    let written = written_over c.args.self.now.items.len items c.note_length.new.items c.args.self.now.items.ok.0 many in
    let count = ap (λ (l : List LengthValue). length l) written ∙ many in
    let noted = written ∙ read in
    let record_length_is = rw c.deref.ensures.value at c.record_length-length.ensures in
    record {
      goes = record {
        keeps = done.keeps;
        safe = safe_after world world_after c.args.u files file next (length items) _
            c.requires.safe get (λ v other. unit_elsewhere world world_after c.args.u v done.only other) (as_many_units world world_after c.args.u done.only) done.fits same.depends_on count;
        names = names_after files c.args.u file next get same.name;
        schemas = schemas_after files c.args.u file next get same.schema;
        items = count;
        units = units_after world world_after c.args.u done.only;
        elsewhere = elsewhere_after world world_after c.args.u done.only;
        trusted = λ honest trusted.
            let there = (c.requires.safe.fits c.args.u _ get).attached in
            trusted_after (g.L.Library.shown.IsShownTruly c.args.library.now) (g.L.Library.shown.IsShownTruly c.perform-answer.new.library) world world_after c.args.u files next
            trusted (λ v other. unit_elsewhere world world_after c.args.u v done.only other) (λ v. name_kept world world_after c.args.u v there done.only)
            (done.standing honest (trusted.shown c.args.u within) (trusted.standing c.args.u _ get)) (done.keeps.truth honest);
      };
      line = line;
      statement_is = refl;
      text = rw (c.make_line.ensures, c.name.ensures.name, c.delivered-delivered.ensures.record) refl;
      clean_is = c.is_clean.ensures;
      leads = record {
        steps = λ honest trusted.
            let shown = trusted.shown c.args.u within in
            let standing = trusted.standing c.args.u _ get in
            record {
              step = step_on world world_after c.args.u files file next items _
                  c.args.statement.now c.record_length-length.result answer get done.only same limit record_length_is (done.step honest shown standing) noted;
              shows = shows_run g.L.Library.shown c.args.library.now files items;
              shows_after = shows_run g.L.Library.shown c.perform-answer.new.library (slice_set files c.args.u next) items;
              keeps = done.keeps;
              causes = caused g.L.Library.shown c.args.library.now c.perform-answer.new.library c.args.u files file next items c.args.statement.now c.record_length-length.result answer
                  get limit c.perform-answer.ensures.short record_length_is done.cause (done.room honest shown standing) (done.step honest shown standing);
              names = units_after world world_after c.args.u done.only;
              images = subst (λ (o : Option RunFile). ImagesGo g.L.Library.shown.moments (name_at world c.args.u) (trace_on c.args.statement.now o (line ∷ [])) c.args.library.now c.perform-answer.new.library)
                  (sym (run_here world files c.args.u file get)) (done.images honest shown standing);
            };
        lines_are = line_is files c.args.u file next c.args.statement.now answer g.L.Library.shown.may_want_memory (g.L.Library.shown.fault_count c.args.library.now) (g.L.Library.shown.fault_count c.perform-answer.new.library) get same.name done.cause done.memory;
      };
    }
