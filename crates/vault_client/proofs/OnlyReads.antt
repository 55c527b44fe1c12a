-- A disk that is only read, by one call after another.
use Rattle.std.proofs.Common.{ℕ, List, refl, ◌∙◌}
use Rattle.std.specs.Prelude.{Option}
use Rattle.sse_journal.proofs.Moments.{goes_on_to, started, weakened}
use Rattle.vault_client.specs.OnlyRead.{IsOnlyRead}

module _ {D : Type 0} (content : D → Option (List ℕ)) (images : D → List ℕ → Type 0) (moment : D → ℕ) (left_since : D → ℕ → List ℕ → Type 0) where
  pub read-none : (disk : D) → ((file : List ℕ) → left_since disk (moment disk) file → images disk file) → IsOnlyRead content images moment left_since disk disk
  read-none disk now = record {
    content_is = refl;
    images_are = λ file left. left;
    quiet = started moment left_since disk (images disk) now;
  }

  pub read-both : (a b c : D) → IsOnlyRead content images moment left_since a b → IsOnlyRead content images moment left_since b c → IsOnlyRead content images moment left_since a c
  read-both a b c first second = record {
    content_is = second.content_is ∙ first.content_is;
    images_are = λ file left. first.images_are file (second.images_are file left);
    quiet = goes_on_to moment left_since a b c (images a) first.quiet (weakened moment left_since b c (images b) (images a) first.images_are second.quiet);
  }
