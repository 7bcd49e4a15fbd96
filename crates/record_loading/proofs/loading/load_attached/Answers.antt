use Rattle.std.proofs.Common.{rules, arith, [], refl, sym, ap, ◌∙◌}
use Rattle.record_loading.specs.Loading.{listing_by}
use Rattle.record_loading.proofs.LoadLemmas.{opens_at_start, not_opened, goes_all, loaded}
use Rattle.record_loading.proofs.loading.load_attached.Goals as goal

pub returns-then-not-is_success-clause-loads : goal.returns-then-not-is_success-clause-loads
returns-then-not-is_success-clause-loads g c =
    let shown = g.L.Library.shown in
    let schema = c.args.schema.now in
    let opens = opens_at_start shown schema c.copy.result c.args.mode c.args.lib.now c.open-opened.new.lib c.new-connector.result c.open-opened.new.self c.open-opened.result c.copy.ensures c.new-connector.ensures c.open-opened.ensures in
    ([], refl, not_opened shown schema c.args.mode (listing_by c.args.form.now c.args.text.now c.args.options []) c.args.area.now c.args.lib.now c.open-opened.new.lib c.open-opened.new.self c.open-opened.result opens (sym c.is_success.ensures ∙ c.if-not-is_success.true) refl)

pub returns-then-not-is_success-clause-only : goal.returns-then-not-is_success-clause-only
returns-then-not-is_success-clause-only g c = (c.open-opened.ensures 0 []).only

pub returns-then-not-is_success-clause-keeps : goal.returns-then-not-is_success-clause-keeps
returns-then-not-is_success-clause-keeps g c = (c.open-opened.ensures 0 []).keeps

pub write_listing-lines-requires-clause-takes : goal.write_listing-lines-requires-clause-takes
write_listing-lines-requires-clause-takes g c =
    let same = (c.open-opened.ensures 0 []).schema ∙ ap (λ h. h.connector.schema) c.new-connector.ensures ∙ c.copy.ensures in
    record {
      fits = (c.open-opened.ensures 0 []).fits;
      least = c.least-least.ensures.least ∙ ap (λ s. s.least) (sym same);
      ordered = (let is = c.least-least.ensures.least in let order = c.least-least.ensures.schema.ordered in let long = c.requires.area.length_is in omega (arith, is, order, long));
      room = record { length_is = c.requires.area.length_is ∙ ap (λ s. s.greatest) (sym same); whole = c.requires.area.whole };
      short = search rules;
    }

pub returns-clause-loads : goal.returns-clause-loads
returns-clause-loads g c =
    let shown = g.L.Library.shown in
    let schema = c.args.schema.now in
    let opens = opens_at_start shown schema c.copy.result c.args.mode c.args.lib.now c.open-opened.new.lib c.new-connector.result c.open-opened.new.self c.open-opened.result c.copy.ensures c.new-connector.ensures c.open-opened.ensures in (
      c.write_listing-lines.ensures.0,
      c.write_listing-lines.ensures.1,
      loaded shown schema c.args.mode (listing_by c.args.form.now c.args.text.now c.args.options c.write_listing-lines.ensures.0) c.args.area.now c.args.lib.now c.open-opened.new.lib c.open-opened.new.self c.open-opened.result opens
          g.met.L.Library.joins g.met.L.Library.ends c.requires.unit.attached (sym c.is_success.ensures ∙ c.if-not-is_success.false) c.write_listing-lines.new.lib c.close-closed.new.lib c.write_listing-lines.new.connector c.close-closed.new.self c.write_listing-lines.result c.close-closed.result
          c.write_listing-lines.ensures.2.goes c.write_listing-lines.ensures.2.lines c.close-closed.ensures.performed,
    )

pub returns-clause-only : goal.returns-clause-only
returns-clause-only g c =
    let shown = g.L.Library.shown in
    let schema = c.args.schema.now in
    let opens = opens_at_start shown schema c.copy.result c.args.mode c.args.lib.now c.open-opened.new.lib c.new-connector.result c.open-opened.new.self c.open-opened.result c.copy.ensures c.new-connector.ensures c.open-opened.ensures in
    (goes_all shown schema c.args.mode (listing_by c.args.form.now c.args.text.now c.args.options c.write_listing-lines.ensures.0) c.args.area.now c.args.lib.now c.open-opened.new.lib c.open-opened.new.self c.open-opened.result opens
    g.met.L.Library.joins g.met.L.Library.ends c.requires.unit.attached (sym c.is_success.ensures ∙ c.if-not-is_success.false) c.write_listing-lines.new.lib c.close-closed.new.lib c.write_listing-lines.new.connector c.close-closed.new.self c.write_listing-lines.result c.close-closed.result
    c.write_listing-lines.ensures.2.goes c.write_listing-lines.ensures.2.lines c.close-closed.ensures.performed).only

pub returns-clause-keeps : goal.returns-clause-keeps
returns-clause-keeps g c =
    let shown = g.L.Library.shown in
    let schema = c.args.schema.now in
    let opens = opens_at_start shown schema c.copy.result c.args.mode c.args.lib.now c.open-opened.new.lib c.new-connector.result c.open-opened.new.self c.open-opened.result c.copy.ensures c.new-connector.ensures c.open-opened.ensures in
    (goes_all shown schema c.args.mode (listing_by c.args.form.now c.args.text.now c.args.options c.write_listing-lines.ensures.0) c.args.area.now c.args.lib.now c.open-opened.new.lib c.open-opened.new.self c.open-opened.result opens
    g.met.L.Library.joins g.met.L.Library.ends c.requires.unit.attached (sym c.is_success.ensures ∙ c.if-not-is_success.false) c.write_listing-lines.new.lib c.close-closed.new.lib c.write_listing-lines.new.connector c.close-closed.new.self c.write_listing-lines.result c.close-closed.result
    c.write_listing-lines.ensures.2.goes c.write_listing-lines.ensures.2.lines c.close-closed.ensures.performed).keeps
