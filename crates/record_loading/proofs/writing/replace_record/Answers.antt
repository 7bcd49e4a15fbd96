use Rattle.std.proofs.Common.{inl, inr, refl, sym, ◌∙◌}
use Rattle.record_loading.proofs.writing.replace_record.Goals as goal

pub returns-then-is_success : goal.returns-then-is_success
returns-then-is_success g c = record { status = c.rewrite-status.result; performed = c.rewrite-status.ensures; passed_by = (refl, sym c.is_success.ensures ∙ c.if-is_success.true) }

pub returns-then-not-replaces_nothing : goal.returns-then-not-replaces_nothing
returns-then-not-replaces_nothing g c = record {
  status = c.rewrite-status.result;
  performed = c.rewrite-status.ensures;
  passed_by = inr (refl, sym c.is_success.ensures ∙ c.if-is_success.false, sym c.replaces_nothing.ensures ∙ c.if-not-replaces_nothing.true);
}

pub returns-then-options : goal.returns-then-options
returns-then-options g c = record {
  status = c.rewrite-status.result;
  performed = c.rewrite-status.ensures;
  passed_by = (refl, refl, sym c.replaces_nothing.ensures ∙ c.if-not-replaces_nothing.false, c.if-options.true);
}

pub returns : goal.returns
returns g c = record {
  status = c.rewrite-status.result;
  performed = c.rewrite-status.ensures;
  passed_by = inl (refl, sym c.replaces_nothing.ensures ∙ c.if-not-replaces_nothing.false, c.if-options.false);
}
