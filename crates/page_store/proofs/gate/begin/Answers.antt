use Rattle.std.proofs.Common.{rules, ◌∙◌, sym, inr}
use Rattle.page_store.proofs.StartLemmas.{beginning_failed, beginning_done, opens_begun}
use Rattle.page_store.proofs.FailedLemmas.{at_err, syncing_seen, beginning_seen, synced_empty}
use Rattle.page_store.proofs.FileLemmas.{there_image}
use Rattle.page_store.proofs.gate.begin.Goals as goal

pub returns-in_err-sync : goal.returns-in_err-sync
returns-in_err-sync g c = record {
  images = search rules;
  opens = search rules;
  failed = at_err _ _ _ (λ honest.
      syncing_seen _ _ (c.requires.file (sym c.sync.ensures.only.honest ∙ honest)).there c.in_err-sync.ensures.failed);
  only = search rules;
  cause = search rules;
}

pub returns-in_err-write : goal.returns-in_err-write
returns-in_err-write g c =
    let same = sym (c.write.ensures.only.honest ∙ c.sync.ensures.only.honest) in
    record {
      images = λ honest.
          let old = c.requires.file (same ∙ honest) in
          let read = there_image 0 _ old.there (g.met.S.Shelf.reads_an_image c.args.shelf.now _ (same ∙ honest)) in
          beginning_failed _ old.empty read _ _ c.in_ok-sync.ensures.done c.in_err-write.ensures.failed;
      opens = search rules;
      failed = at_err _ _ _ (λ honest.
          inr (beginning_seen _ _ (synced_empty _ _ (c.requires.file (same ∙ honest)).empty c.in_ok-sync.ensures.done) c.in_err-write.ensures.failed));
      only = search rules;
      cause = search rules;
    }

pub returns : goal.returns
returns g c =
    let same = sym (c.write.ensures.only.honest ∙ c.sync.ensures.only.honest) in
    record {
      images = λ honest.
          let old = c.requires.file (same ∙ honest) in
          let read = there_image 0 _ old.there (g.met.S.Shelf.reads_an_image c.args.shelf.now _ (same ∙ honest)) in
          beginning_done _ old.empty read _ _ c.in_ok-sync.ensures.done c.in_ok-write.ensures.done;
      opens = λ honest. opens_begun _ _ _ (c.requires.file (same ∙ honest)).empty c.in_ok-sync.ensures.done c.in_ok-write.ensures.done;
      failed = tt;
      only = search rules;
      cause = search rules;
    }
