use Rattle.std.proofs.Common.{◌≡◌, ◌∷◌, [], sym, ◌∙◌, arith, true}
use Rattle.std.proofs.lemmas.List.{length-append}
use Rattle.client_registry.specs.Sized.{is_accepted}
use Rattle.leakage_history.proofs.Refusals.{accepted_by}
use Rattle.leakage_history.specs.Commands.{command_of}
use Rattle.leakage_model.proofs.LeakLaws.{apart-push}
use Rattle.leakage_model.proofs.trail.Trail.take.Goals as goal

pub returns : goal.returns
returns c = λ o s past follows.
    let command = command_of c.args.command.now in
    let ok : is_accepted s past command ≡ true = sym (accepted_by c.args.self.now.registry (record { setup = s; later = past }) follows.registry command) ∙ c.requires.accepted in
    record {
      words = c.in_ok-take.ensures o s past follows.words follows.registry follows.next follows.apart;
      registry = c.in_ok-register.ensures.ok s past follows.registry;
      next = omega (arith, follows.next, length-append past (command ∷ []));
      apart = apart-push s past command follows.apart ok;
    }
