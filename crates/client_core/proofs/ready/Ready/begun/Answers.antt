use Rattle.std.proofs.Common.{[], sym, subst, arith}
use Rattle.client_registry.proofs.SizedLaws.{IsHistory-setup}
use Rattle.client_registry.specs.Documents.{IsCollected}
use Rattle.client_registry.specs.Registered.{Represents, known_words}
use Rattle.client_core.proofs.ready.Ready.begun.Goals as goal

pub returns-clause-stands : goal.returns-clause-stands
returns-clause-stands c =
    λ f keys o s same past accepted frames.
    record {
      kept = (IsHistory-setup s (subst IsCollected (sym same) c.from_docs.ensures.valid) accepted, omega (arith, frames));
      registry = subst (λ docs. Represents c.from_docs.result (record { documents = docs; shape = s.shape; pad = s.pad }) []) (sym same) (c.from_docs.ensures.setup s.shape s.pad);
      number = omega (arith, frames);
      word_keys = c.new.ensures f (keys o.epoch) (known_words c.from_docs.result);
      past = past;
    }
