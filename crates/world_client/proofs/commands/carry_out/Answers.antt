use Rattle.std.proofs.Common.{[], ◌∷◌, Some, refl, ap, ◌∙◌, arith}
use Rattle.client_core.specs.Payloads.{update_payload}
use Rattle.client_core.specs.Updates.{command_of_update}
use Rattle.client_registry.specs.Epochs.{begins, key_now, with_commands}
use Rattle.client_registry.specs.Histories.{frames_in}
use Rattle.client_registry.specs.Run.{last_run}
use Rattle.world_client.proofs.Recording.{done, stopped, without_memory, broken}
use Rattle.world_client.proofs.Histories.{is_update-update, sending_update}
use Rattle.world_client.specs.Clients.{IsResting, IsSending}
use Rattle.world_client.proofs.commands.carry_out.Goals as goal

pub returns-in-Made-clause-commanded : goal.returns-in-Made-clause-commanded
returns-in-Made-clause-commanded c = λ f first es payloads fault none rests frame holds.
    let planned = c.args.planned in
    let client = c.args.client in
    let append = c.append_update-appended in
    let does = command_of_update planned.update in
    let owes = c.commit.ensures.owes f (λ epoch. key_now first es) (begins es) (last_run es) rests.stands frame in
    let number = c.commit.ensures.first ∙ c.requires.commits.next in
    done (IsResting f first es) (IsSending f first (with_commands (does ∷ []) es) (frames_in (Some es))) fault payloads (update_payload planned) (update_payload planned) c.args.stop append.result.0
    append.result.1 append.new.journal append.new.disk refl (append.ensures.appended payloads holds) c.in-Made.is none c.commit.result
    (sending_update f first es does c.commit.result (is_update-update planned.update) (c.commit.ensures.key ∙ rests.key) owes (omega (arith, number, rests.stands.number)) (ap (λ p. p.marks.items) c.commit.ensures.past ∙ rests.marks))

pub returns-in-Stopped-clause-commanded : goal.returns-in-Stopped-clause-commanded
returns-in-Stopped-clause-commanded c = λ f first es payloads fault none rests frame holds.
    let append = c.append_update-appended in
    stopped (IsResting f first es) (IsSending f first (with_commands (command_of_update c.args.planned.update ∷ []) es) (frames_in (Some es))) fault payloads (update_payload c.args.planned)
    (update_payload c.args.planned) c.args.stop append.result.0 append.result.1 append.new.journal append.new.disk refl (append.ensures.appended payloads holds) c.in-Stopped.is none

pub returns-in-NoMemory-clause-commanded : goal.returns-in-NoMemory-clause-commanded
returns-in-NoMemory-clause-commanded c = λ f first es payloads fault none rests frame holds.
    let append = c.append_update-appended in
    without_memory (IsResting f first es) (IsSending f first (with_commands (command_of_update c.args.planned.update ∷ []) es) (frames_in (Some es))) fault payloads (update_payload c.args.planned)
    (update_payload c.args.planned) c.args.stop append.result.0 append.result.1 append.new.journal append.new.disk refl (append.ensures.appended payloads holds) c.in-NoMemory.is c.args.client rests

pub returns-in-Broken-clause-commanded : goal.returns-in-Broken-clause-commanded
returns-in-Broken-clause-commanded c = λ f first es payloads fault none rests frame holds.
    let append = c.append_update-appended in
    broken (IsResting f first es) (IsSending f first (with_commands (command_of_update c.args.planned.update ∷ []) es) (frames_in (Some es))) fault payloads (update_payload c.args.planned)
    (update_payload c.args.planned) c.args.stop append.result.0 append.result.1 append.new.journal append.new.disk refl (append.ensures.appended payloads holds) c.in-Broken.is none
