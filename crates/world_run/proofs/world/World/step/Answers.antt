use Rattle.std.proofs.Common.{sym, subst}
use Rattle.keyed_fn.specs.KeyedFn.{keyed_fn}
use Rattle.world_run.proofs.Stepping.{promised_on}
use Rattle.world_run.specs.Worlds.{LeadsTo, event_in}
use Rattle.world_run.proofs.world.World.step.Goals as goal

pub returns-in-Command-clause-leads : goal.returns-in-Command-clause-leads
returns-in-Command-clause-leads g c = λ first w stands.
    let f = keyed_fn g.K.Keyed.prf g.K.Keyed.pad in
    subst (λ e. LeadsTo f first w (event_in e) c.command.result c.command.new.self) (sym c.in-Command.is) (c.command.ensures.leads first w stands)

pub returns-in-Command-clause-promised : goal.returns-in-Command-clause-promised
returns-in-Command-clause-promised g c = λ first v stands. promised_on (keyed_fn g.K.Keyed.prf g.K.Keyed.pad) first v c.command.new.self stands

pub returns-in-Find-clause-leads : goal.returns-in-Find-clause-leads
returns-in-Find-clause-leads g c = λ first w stands.
    let f = keyed_fn g.K.Keyed.prf g.K.Keyed.pad in
    subst (λ e. LeadsTo f first w (event_in e) c.find.result c.find.new.self) (sym c.in-Find.is) (c.find.ensures.leads (keyed_fn g.K.Keyed.prf g.K.Keyed.pad) first w stands)

pub returns-in-Find-clause-promised : goal.returns-in-Find-clause-promised
returns-in-Find-clause-promised g c = λ first v stands. promised_on (keyed_fn g.K.Keyed.prf g.K.Keyed.pad) first v c.find.new.self stands

pub returns-in-Send-clause-leads : goal.returns-in-Send-clause-leads
returns-in-Send-clause-leads g c = λ first w stands.
    let f = keyed_fn g.K.Keyed.prf g.K.Keyed.pad in
    subst (λ e. LeadsTo f first w (event_in e) c.send.result c.send.new.self) (sym c.in-Send.is) (c.send.ensures.leads first w stands)

pub returns-in-Send-clause-promised : goal.returns-in-Send-clause-promised
returns-in-Send-clause-promised g c = λ first v stands. promised_on (keyed_fn g.K.Keyed.prf g.K.Keyed.pad) first v c.send.new.self stands

pub returns-in-Deliver-clause-leads : goal.returns-in-Deliver-clause-leads
returns-in-Deliver-clause-leads g c = λ first w stands.
    let f = keyed_fn g.K.Keyed.prf g.K.Keyed.pad in
    subst (λ e. LeadsTo f first w (event_in e) c.deliver.result c.deliver.new.self) (sym c.in-Deliver.is) (c.deliver.ensures.leads first w stands)

pub returns-in-Deliver-clause-promised : goal.returns-in-Deliver-clause-promised
returns-in-Deliver-clause-promised g c = λ first v stands. promised_on (keyed_fn g.K.Keyed.prf g.K.Keyed.pad) first v c.deliver.new.self stands

pub returns-in-LoseReply-clause-leads : goal.returns-in-LoseReply-clause-leads
returns-in-LoseReply-clause-leads g c = λ first w stands.
    let f = keyed_fn g.K.Keyed.prf g.K.Keyed.pad in
    subst (λ e. LeadsTo f first w (event_in e) c.lose.result c.lose.new.self) (sym c.in-LoseReply.is) (c.lose.ensures.leads (keyed_fn g.K.Keyed.prf g.K.Keyed.pad) first w stands)

pub returns-in-LoseReply-clause-promised : goal.returns-in-LoseReply-clause-promised
returns-in-LoseReply-clause-promised g c = λ first v stands. promised_on (keyed_fn g.K.Keyed.prf g.K.Keyed.pad) first v c.lose.new.self stands

pub returns-in-StopClient-clause-leads : goal.returns-in-StopClient-clause-leads
returns-in-StopClient-clause-leads g c = λ first w stands.
    let f = keyed_fn g.K.Keyed.prf g.K.Keyed.pad in
    subst (λ e. LeadsTo f first w (event_in e) c.stop_client.result c.stop_client.new.self) (sym c.in-StopClient.is) (c.stop_client.ensures.leads (keyed_fn g.K.Keyed.prf g.K.Keyed.pad) first w stands)

pub returns-in-StopClient-clause-promised : goal.returns-in-StopClient-clause-promised
returns-in-StopClient-clause-promised g c = λ first v stands. promised_on (keyed_fn g.K.Keyed.prf g.K.Keyed.pad) first v c.stop_client.new.self stands

pub returns-in-StopServer-clause-leads : goal.returns-in-StopServer-clause-leads
returns-in-StopServer-clause-leads g c = λ first w stands.
    let f = keyed_fn g.K.Keyed.prf g.K.Keyed.pad in
    subst (λ e. LeadsTo f first w (event_in e) c.stop_server.result c.stop_server.new.self) (sym c.in-StopServer.is) (c.stop_server.ensures.leads first w stands)

pub returns-in-StopServer-clause-promised : goal.returns-in-StopServer-clause-promised
returns-in-StopServer-clause-promised g c = λ first v stands. promised_on (keyed_fn g.K.Keyed.prf g.K.Keyed.pad) first v c.stop_server.new.self stands

pub returns-in-StartClient-clause-leads : goal.returns-in-StartClient-clause-leads
returns-in-StartClient-clause-leads g c = λ first w stands.
    let f = keyed_fn g.K.Keyed.prf g.K.Keyed.pad in
    subst (λ e. LeadsTo f first w (event_in e) c.start_client.result c.start_client.new.self) (sym c.in-StartClient.is) (c.start_client.ensures.leads first w stands)

pub returns-in-StartClient-clause-promised : goal.returns-in-StartClient-clause-promised
returns-in-StartClient-clause-promised g c = λ first v stands. promised_on (keyed_fn g.K.Keyed.prf g.K.Keyed.pad) first v c.start_client.new.self stands

pub returns-in-StartServer-clause-leads : goal.returns-in-StartServer-clause-leads
returns-in-StartServer-clause-leads g c = λ first w stands.
    let f = keyed_fn g.K.Keyed.prf g.K.Keyed.pad in
    subst (λ e. LeadsTo f first w (event_in e) c.start_server.result c.start_server.new.self) (sym c.in-StartServer.is) (c.start_server.ensures.leads first w stands)

pub returns-in-StartServer-clause-promised : goal.returns-in-StartServer-clause-promised
returns-in-StartServer-clause-promised g c = λ first v stands. promised_on (keyed_fn g.K.Keyed.prf g.K.Keyed.pad) first v c.start_server.new.self stands
