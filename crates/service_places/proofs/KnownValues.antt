-- Facts of a value that may not be there.
use Rattle.std.proofs.Common.{Option, Some, None}
use Rattle.std.specs.Prelude.{IfSome}

pub if_some : {A : Type 0} {P Q : A → Type 0} (o : Option A) → IfSome o P → ((a : A) → P a → Q a) → IfSome o Q
if_some None p f = tt
if_some (Some a) p f = f a p

pub if_some_both : {A : Type 0} {P Q R : A → Type 0} (o : Option A) → IfSome o P → IfSome o Q → ((a : A) → P a → Q a → R a) → IfSome o R
if_some_both None p q f = tt
if_some_both (Some a) p q f = f a p q
