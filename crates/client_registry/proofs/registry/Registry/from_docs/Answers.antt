use Rattle.std.proofs.Common.{[], refl, sym, ap, subst, ◌∙◌}
use Rattle.client_registry.specs.Documents.{words_of}
use Rattle.client_registry.specs.HashNumbers.{hash_numbers}
use Rattle.client_registry.specs.Registered.{Represents}
use Rattle.client_registry.specs.RegistryView.{registered_of}
use Rattle.client_registry.specs.declared.registry.Registry.TheInside.{Inside}
use Rattle.client_registry.proofs.SetupLaws.{known_setup, sound_setup, Represents-setup}
use Rattle.client_registry.proofs.registry.Registry.from_docs.Goals as goal

-- the registry of the documents
abbrev made : goal.After-new-2 → Inside
made c = record { documents = c.docs.inside.documents; words = c.clear_counts.new.words; next = c.new.result; again = c.new-2.result; most = 0 }

pub invariant_of-result : goal.invariant_of-result
invariant_of-result c = sound_setup c.docs.inside c.docs.invariant (made c) refl c.clear_counts.ensures.words c.clear_counts.ensures.counts c.new.ensures.items c.new-2.ensures.items (c.docs.invariant.hashers ∙ sym c.clear_counts.ensures.hasher)

pub returns-clause-setup : goal.returns-clause-setup
returns-clause-setup c =
    λ shape pad. subst (λ docs. Represents (registered_of (made c)) (record { documents = docs; shape = shape; pad = pad }) []) (ap (λ v. v.documents) c.docs.view_is) (Represents-setup c.docs.inside c.docs.invariant (made c) refl c.clear_counts.ensures.words c.clear_counts.ensures.counts shape pad)

pub returns-clause-words : goal.returns-clause-words
returns-clause-words c = known_setup c.docs.inside c.docs.invariant (made c) refl c.clear_counts.ensures.words c.clear_counts.ensures.counts ∙ ap (λ v. words_of v.documents) c.docs.view_is

pub returns-clause-keys : goal.returns-clause-keys
returns-clause-keys c = ap hash_numbers c.clear_counts.ensures.hasher ∙ ap (λ v. v.keys) c.docs.view_is
