use Rattle.std.proofs.Common.{◌≡◌, ◌-◌, ◌<◌, ◌^◌, Bool, true, false, ◌||◌, not, nat_lt, refl, sym, ap, ◌∙◌, arith}
use Rattle.std.proofs.lemmas.Bool.{lt-ltb}
use Rattle.client_registry.specs.Facts.{has_counter}
use Rattle.client_registry.specs.IdNumber.{id_number}
use Rattle.client_registry.specs.Registered.{facts}
use Rattle.client_registry.specs.RegistryView.{registered_of}
use Rattle.client_registry.specs.Tally.{counts_of}
use Rattle.client_registry.specs.WordBytes.{word_bytes}
use Rattle.client_registry.proofs.BoundLaws.{counter_within}
use Rattle.client_registry.proofs.registry.Registry.is_full.Goals as goal

or_true : (b : Bool) → (b || true) ≡ true
or_true true = refl
or_true false = refl

-- no counter is at its last
pub returns-then-self-lt4294967295 : goal.returns-then-self-lt4294967295
returns-then-self-lt4294967295 c =
    let id = id_number c.args.id in
    let bs = word_bytes c.args.word.now in
    let f = facts (registered_of c.self.inside) in
    let free : c.self.inside.most < 2 ^ 32 - 1 = omega (arith, c.if-self-lt4294967295.true) in
    let within = counter_within (counts_of c.self.inside.words.entries) c.self.inside.most bs (c.self.invariant.bound free) in
    let less : nat_lt (f.counter bs) (2 ^ 32 - 1) ≡ true = lt-ltb (f.counter bs) (2 ^ 32 - 1) (omega (arith, within, free)) in
    sym (ap not (ap (λ v. has_counter (facts v) id bs) (sym c.self.view_is) ∙ ap (λ b. f.listed bs id || b) less ∙ or_true (f.listed bs id)))
