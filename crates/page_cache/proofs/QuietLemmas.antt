-- Doing nothing goes quietly, and so do two steps in a row.
use Rattle.std.proofs.Common.{◌≡◌, ℕ, refl, sym, ◌∙◌, ap, subst}
use Rattle.page_store.specs.DeviceFile.{DeviceFile}
use Rattle.page_store.proofs.MomentLemmas.{quiet_none, quiet_then}
use Rattle.page_store.specs.ShelfState.{ShelfState, unit_name, unit_file, OnlyAnswers, ChangesOnly}
use Rattle.page_store.specs.Moments.{IsQuiet}
use Rattle.page_cache.specs.Quietly.{GoesQuietly}
use Rattle.page_cache.specs.Calls.{KeepsPages}
use Rattle.page_cache.specs.declared.cache.Cache.{Cache}

pub reads_quietly : (unit : ℕ) (a b : ShelfState) → OnlyAnswers a b → GoesQuietly unit a b
reads_quietly unit a b only = record {
  others = record { names = only.names; others = λ name _. ap (λ file. file name) only.file; honest = only.honest };
  quiet = quiet_none (unit_file a unit) (unit_file b unit) (ap (λ (f : DeviceFile). f.log) same);
}
  where
    same : unit_file b unit ≡ unit_file a unit
    same = ap (λ file. file (unit_name b unit)) only.file ∙ ap (λ names. a.file (unit_name (record a { names = names }) unit)) only.names

pub goes_nowhere : (unit : ℕ) (a : ShelfState) → GoesQuietly unit a a
goes_nowhere unit a = reads_quietly unit a a (record { names = refl; file = refl; honest = λ h. h })

pub goes_then : (unit : ℕ) (a b c : ShelfState) → GoesQuietly unit a b → GoesQuietly unit b c → GoesQuietly unit a c
goes_then unit a b c ab bc =
    let name : unit_name b unit ≡ unit_name a unit = ap (λ names. unit_name (record a { names = names }) unit) ab.others.names in
    let name_c : unit_name c unit ≡ unit_name a unit = ap (λ names. unit_name (record a { names = names }) unit) (bc.others.names ∙ ab.others.names) in
    record {
      others = record {
        names = bc.others.names ∙ ab.others.names;
        others = λ other differs. bc.others.others other (λ e. differs (e ∙ name)) ∙ ab.others.others other differs;
        honest = λ h. ab.others.honest (bc.others.honest h);
      };
      quiet = quiet_then (unit_file a unit) (unit_file b unit) (unit_file c unit) ab.quiet bc.quiet;
    }

pub changes_quietly : (unit : ℕ) (a b : ShelfState) → ChangesOnly unit a b → IsQuiet unit a b → GoesQuietly unit a b
changes_quietly unit a b only quiet = record {
  others = record { names = only.names; others = only.others; honest = λ h. sym only.honest ∙ h };
  quiet = quiet;
}

pub keeps_then : (c d e : Cache) (x y z : ShelfState) → KeepsPages c d x y → KeepsPages d e y z → KeepsPages c e x z
keeps_then c d e x y z cd de = record {
  over = de.over;
  pages = λ h. de.pages h ∙ cd.pages (de.goes.others.honest h);
  keeps = record { store = de.keeps.store ∙ cd.keeps.store; cap = de.keeps.cap ∙ cd.keeps.cap };
  goes = goes_then c.store.unit x y z cd.goes (subst (λ unit. GoesQuietly unit y z) (ap (λ store. store.unit) cd.keeps.store) de.goes);
}
