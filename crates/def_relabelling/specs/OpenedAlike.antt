-- Uses that can't be told apart even where they are opened.
use Rattle.std.specs.Prelude.{◌≡◌}
use Rattle.def_leakage.specs.Relabelled.{Use}
use Rattle.sse_model.specs.Names.{Table}

-- the names differ by the word alone, their values under these two tables are the same, and so is the plaintext that they cover
pub record AreOpenedAlike (t m : Table) (a b : Use) : Type 0 where
  pub epoch : a.name.epoch ≡ b.name.epoch
  pub kind : a.name.kind ≡ b.name.kind
  pub number : a.name.number ≡ b.name.number
  pub value : t a.name ≡ m b.name
  pub text : a.text ≡ b.text
