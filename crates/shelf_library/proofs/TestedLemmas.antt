-- What a crash may leave of a file, in the words of tests: each image of a name passes a test where each thing that a crash may leave stands for something that does.
use Rattle.std.proofs.Common.{◌≡◌, ℕ, suc, ◌+◌, Bool, List, [], ◌∷◌, ◌++◌, length, take, Option, None, Some, IsTrue, refl, sym, ap, subst, ◌∙◌}
use Rattle.std.proofs.Math.Seq.{take-append-add}
use Rattle.shelf_library.proofs.Terms.{File, Absent, Closed, Named, Unsound, throughout_weaker, DeviceFile, Throughout, ShelfState, Header}
use Rattle.shelf_library.proofs.Terms.{reads_back, StandsIn, look_of, named_by, named_of, HeaderLook, Accepted, NoFile, Refused, IsSoundImage}
use Rattle.shelf_library.proofs.Terms.{each_read}
use Rattle.indexed_file.proofs.ImageLemmas.{AllPassTest}
use Rattle.page_store.specs.DeviceFile.{FileStep}
use Rattle.page_store.specs.Images.{Durable, nothing, after_step, durable_from, durable, MayLeave}
use Rattle.page_store.specs.Moments.{AtEachMoment}
use Rattle.page_store.proofs.ImageLemmas.{durable_from-append}
use Rattle.shelf_library.specs.Crashes.{MayBeFound, moments_on}
use Rattle.shelf_library.specs.MomentLaws.{found_such}

-- what holds of all that may be found holds at each moment
at_each : (Q : Option (List ℕ) → Type 0) (d : Durable) (more : List FileStep) → ((n : ℕ) (c : Option (List ℕ)) → MayLeave (durable_from d (take n more)) c → Q c) → AtEachMoment Q d more
at_each Q d [] so = λ c may. so 0 c may
at_each Q d (s ∷ more) so = (λ c may. so 0 c may, at_each Q (after_step d s) more (λ n c may. so (suc n) c may))

throughout_found : (P Q : Option (List ℕ) → Type 0) (old new : DeviceFile) → Throughout P old new → ((c : Option (List ℕ)) → MayBeFound old new c → Q c) → Throughout Q old new
throughout_found P Q old new all so = record {
  more = all.more;
  goes_on = all.goes_on;
  each = at_each Q (durable old.log) all.more (λ n c may.
      let steps : take (length old.log + n) new.log ≡ old.log ++ take n all.more = ap (take (length old.log + n)) all.goes_on ∙ take-append-add old.log all.more n in
      so c (n, subst (λ (d : Durable). MayLeave d c) (sym (ap durable steps ∙ durable_from-append nothing old.log (take n all.more))) may));
}

module _ (test : Named → Bool) where
  -- bytes of an accepted first page stand for rows, and the file passes the test
  pub record PassesClosed (header : Header) (bytes : List ℕ) : Type 0 where
    pub rows : File
    pub stands : StandsIn header bytes rows
    pub passes : IsTrue (test (Closed header.schema rows))

  abbrev pub PassesBy : List ℕ → HeaderLook → Type 0
  PassesBy bytes NoFile = IsTrue (test Absent)
  PassesBy bytes Refused = IsTrue (test Unsound)
  PassesBy bytes (Accepted header) = PassesClosed header bytes

  -- an image really is absent, closed or refused, and passes the test
  abbrev pub Passes : Option (List ℕ) → Type 0
  Passes None = IsTrue (test Absent)
  Passes (Some bytes) = PassesBy bytes (look_of (Some bytes))

  -- what is sound and reads as something that passes does so
  passes_by : (bytes : List ℕ) (look : HeaderLook) → look_of (Some bytes) ≡ look → IsSoundImage (Some bytes) → IsTrue (test (named_by bytes look)) → PassesBy bytes look
  passes_by bytes NoFile is sound passes = passes
  passes_by bytes Refused is sound passes = passes
  passes_by bytes (Accepted header) is sound passes =
      let rows = sound header is in
      record { rows = rows.0; stands = rows.1; passes = subst (λ (file : File). IsTrue (test (Closed header.schema file))) (reads_back header bytes rows.0 is rows.1) passes }

  sound_passes : (c : Option (List ℕ)) → IsSoundImage c → IsTrue (test (named_of c)) → Passes c
  sound_passes None sound passes = passes
  sound_passes (Some bytes) sound passes = passes_by bytes (look_of (Some bytes)) refl sound passes

  -- and the other way round
  sound_by : (bytes : List ℕ) (look : HeaderLook) → look_of (Some bytes) ≡ look → PassesBy bytes look → IsSoundImage (Some bytes) × IsTrue (test (named_by bytes look))
  sound_by bytes NoFile is passes = (λ header accepted. let e : NoFile ≡ Accepted header = sym is ∙ accepted in absurd (cc), passes)
  sound_by bytes Refused is passes = (λ header accepted. let e : Refused ≡ Accepted header = sym is ∙ accepted in absurd (cc), passes)
  sound_by bytes (Accepted header) is passes = (
    λ other accepted.
        let e : Accepted header ≡ Accepted other = sym is ∙ accepted in
        let same : header ≡ other = cc in
        (passes.rows, subst (λ (h : Header). StandsIn h bytes passes.rows) same passes.stands),
    subst (λ (file : File). IsTrue (test (Closed header.schema file))) (sym (reads_back header bytes passes.rows is passes.stands)) passes.passes,
  )

  passes_sound : (c : Option (List ℕ)) → Passes c → IsSoundImage c × IsTrue (test (named_of c))
  passes_sound None passes = (λ header is. absurd (cc), passes)
  passes_sound (Some bytes) passes = sound_by bytes (look_of (Some bytes)) refl passes

  -- each image of a name from one shelf to another passes where each thing that a crash may leave does, and only there
  pub all_pass : (old new : ShelfState) (name : List ℕ) → AllPassTest moments_on test old new name → Throughout Passes (old.file name) (new.file name)
  all_pass old new name each =
      throughout_found IsSoundImage Passes (old.file name) (new.file name) each.0
      (λ c found. sound_passes c (found_such IsSoundImage (old.file name) (new.file name) each.0 c found) (each.1 (named_of c) (c, found, refl)))

  pub each_passes : (old new : ShelfState) (name : List ℕ) → Throughout Passes (old.file name) (new.file name) → AllPassTest moments_on test old new name
  each_passes old new name all =
      each_read (λ image. IsTrue (test image)) (old.file name) (new.file name)
      (throughout_weaker Passes _ (old.file name) (new.file name) passes_sound all)
