-- The shape of an accepted setup, by its parameters.
use Rattle.std.proofs.Common.{◌≡◌, ℕ, ◌≤◌, None, sym, subst}
use Rattle.client_registry.proofs.SizedLaws.{accepted_shape}
use Rattle.client_registry.specs.Acceptance.{size_refusal}
use Rattle.client_registry.specs.Setup.{Setup}
use Rattle.two_level.specs.Shape.{Shape, IsShape}

pub shape_within : (s : Setup) (b big : ℕ) → size_refusal s ≡ None → b ≡ s.shape.b → big ≡ s.shape.big → IsShape (record { b = b; big = big })
shape_within s b big accepted b_is big_is =
    let limits = accepted_shape s accepted in
    record {
      cell_some = subst (λ n. 1 ≤ n) (sym b_is) limits.0.0;
      cell_most = subst (λ n. n ≤ 64) (sym b_is) limits.0.1;
      block_some = subst (λ n. 1 ≤ n) (sym big_is) limits.1.0;
      block_most = subst (λ n. n ≤ 256) (sym big_is) limits.1.1;
    }

pub same_shape : (s : Shape) (b big : ℕ) → b ≡ s.b → big ≡ s.big → record { b = b; big = big } ≡ s
same_shape s b big b_is big_is = λ i. record { b = b_is i; big = big_is i }
