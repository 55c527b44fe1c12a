use Rattle.std.proofs.Common.{min, sym, ap, ◌∙◌}
use Rattle.std.specs.Prelude.{vec_capacity}
use Rattle.client_registry.specs.HashNumbers.{hash_numbers}
use Rattle.client_registry.specs.Restarted.{restarted}
use Rattle.client_registry.proofs.RestartedSound.{sound_restarted, counts_restarted}
use Rattle.client_registry.proofs.registry.Registry.restart.Goals as goal

pub invariant_of-self : goal.invariant_of-self
invariant_of-self c =
    let had = c.self.invariant in
    sound_restarted c.self.inside (record { documents = c.forget_dead.new.documents; words = c.clear_counts.new.words; next = c.self.inside.next; again = c.self.inside.again; most = 0 }) had
    c.clear_counts.ensures.words c.forget_dead.ensures.kept had.next had.again (c.forget_dead.ensures.hasher ∙ had.hashers ∙ sym c.clear_counts.ensures.hasher) c.clear_counts.ensures.counts

pub returns : goal.returns
returns c =
    (λ i. record {
      counts = counts_restarted c.self.inside.words.entries c.clear_counts.new.words.entries c.clear_counts.ensures.words c.clear_counts.ensures.counts i;
      kept = c.forget_dead.ensures.kept i;
      room = min (vec_capacity c.self.inside.next) (vec_capacity c.self.inside.again);
      keys = hash_numbers (c.clear_counts.ensures.hasher i);
    })
    ∙ ap restarted c.self.view_is
