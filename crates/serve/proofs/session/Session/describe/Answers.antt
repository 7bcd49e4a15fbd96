use Rattle.std.proofs.Common.{◌≡◌, ℕ, Bool, true, false, List, Option, Some, None, refl, sym, ap, ◌∙◌, cond, rules, arith, subst}
use Rattle.std.specs.Option.{option_map}
use Rattle.arrayvec.specs.ArrayString.{ArrayString}
use Rattle.io_state.specs.FileName.{is_file_name}
use Rattle.std.proofs.lemmas.Grind.{common_steps}
use Rattle.serve.specs.Request.{described_of}
use Rattle.serve.specs.Files.{FileTable, is_free_number}
use Rattle.serve.specs.Steps.{CanBeDescribed, IsShutUnit}
use Rattle.serve.proofs.SessionLemmas.{describe_named}
use Rattle.serve.proofs.session.Session.describe.Goals as goal

-- a name that was made of a text is the name of a file
name_made : (is_name : Bool) (text : List ℕ) (made : Option ArrayString) (name : ArrayString) → option_map (λ n. n.bytes) made ≡ cond is_name (Some text) None → made ≡ Some name → is_name ≡ true
name_made true text made name e is = refl
name_made false text made name e is = absurd (cc)

pub invariant_of-self : goal.invariant_of-self
invariant_of-self g c =
    let table : FileTable = record { places = c.self-2.inside.files.items; opened = c.self-2.inside.order } in
    let same : c.args.self.now.table ≡ table = first_of (search rules, grind (arith, common_steps)) in
    let allowed : CanBeDescribed c.args.self.now.table (described_of c.args.description.now) = record {
      free = first_of (search rules, grind (arith, common_steps));
      file = record { schema = first_of (search rules, grind (arith, common_steps)); name = name_made (is_file_name c.args.description.now.name.now) c.args.description.now.name.now c.file_name_of.result c.in-Some-Some.name c.file_name_of.ensures c.in-Some-Some.is-1 };
      name = first_of (search rules, grind (arith, common_steps));
    } in
    let there : CanBeDescribed table (described_of c.args.description.now) = subst (λ (t : FileTable). CanBeDescribed t (described_of c.args.description.now)) same allowed in
    let gives = c.in-Some.ensures.gives in
    let unit : IsShutUnit (g.L.Library.shown.world c.self-2.inside.library) c.in-Some.unit c.args.description.now.name.now = first_of (search rules, grind (arith, common_steps)) in
    describe_named g.L.Library.shown table c.self-2.inside.library c.self-2.inside.names.items c.self-2.invariant (described_of c.args.description.now) c.in-Some.unit c.from.result c.put.new.place
    (search rules) there.free there unit (c.put.ensures ∙ ap Some c.described_file-file.ensures)
