-- What a request asks for. All of this is ours.
use Rattle.std.specs.Prelude.{ℕ, Bool, List}
use Rattle.io_state.specs.declared.modes.Access.{Access}
use Rattle.io_state.specs.declared.statement.FileStatement.{FileStatement}
use Rattle.record_layout.specs.declared.schema.KeyPart.{KeyPart}
use Rattle.serve.specs.declared.file_description.FileDescription.{FileDescription}
use Rattle.serve.specs.declared.request.SessionRequest.{SessionRequest}
use Rattle.serve.specs.declared.request.SessionRequest.TheVariants.{Describe, Perform, Release}
use Rattle.serve.specs.declared.statement.Performance.{Performance}

-- a file is described, and wants this number
pub record Described : Type 0 where
  pub file : ℕ
  pub access : Access
  pub optional : Bool
  pub least : ℕ
  pub greatest : ℕ
  pub keys : List KeyPart
  pub name : List ℕ

-- a verb on the file of this number: the length of the record that it stores, and the first bytes
-- of the record area
pub record Performed : Type 0 where
  pub file : ℕ
  pub statement : FileStatement
  pub length : ℕ
  pub bytes : List ℕ

pub data Asked : Type 0 where
  Describing : (description : Described) → Asked
  Performing : (performed : Performed) → Asked
  Releasing : (file : ℕ) → Asked

-- these without where their bytes lie in memory
abbrev pub described_of : FileDescription → Described
described_of d = record {
  file = d.file;
  access = d.access;
  optional = d.optional;
  least = d.least;
  greatest = d.greatest;
  keys = d.keys.items;
  name = d.name.now;
}

abbrev pub performed_of : Performance → Performed
performed_of p = record { file = p.file; statement = p.statement; length = p.length; bytes = p.bytes.now }

abbrev pub asked_of : SessionRequest → Asked
asked_of (Describe d) = Describing (described_of d)
asked_of (Perform p) = Performing (performed_of p)
asked_of (Release file) = Releasing file
