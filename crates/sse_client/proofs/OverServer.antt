-- A run over a server in this process that had taken nothing.
use Rattle.std.proofs.Common.{◌≡◌, ◌≢◌, ℕ, List, [], ◌++◌, Option, None, Some, refl, sym, ap, subst, ◌∙◌}
use Rattle.std.specs.Prelude.{IfSome}
use Rattle.keyed_fn.specs.KeyedFn.{KeyedFn}
use Rattle.server_core.specs.State.{ServerState, at_first}
use Rattle.def_agreement.specs.TakenFrames.{Expects}
use Rattle.sse_outside.specs.Kept.{Kept}
use Rattle.def_script_meaning.specs.Headline.{IsOverHonest}
use Rattle.def_link_events.proofs.Honest.{IsServed-dropped}
use Rattle.def_link_events.specs.Events.{Event, Remote}
use Rattle.def_link_events.specs.Served as links
use Rattle.def_link_events.specs.Served.{IsServed, idle}
use Rattle.sse_link.specs.LinkStates.{LinkState, link_state_first, served}
use Rattle.sse_client.specs.Stands.{seen, outside_of}
use Rattle.sse_client.specs.OverServer.{IsRunOverServer}
use Rattle.client_journal.specs.Shows.{SinkShows}
use Rattle.sse_client.specs.WholeRuns.{IsRun}
use Rattle.sse_client.proofs.WholeRun.{IfSome-then}

abbrev remote : LinkState → Option Remote
remote told = Some (record { state = told.began; file = told.began_file })

abbrev state_in : ServerState → Option Remote → ServerState
state_in other None = other
state_in other (Some r) = r.state

-- what an honest transcript is, where nothing had passed before it
pub over_honest : (f : KeyedFn) (past events : List Event) (state : ServerState) → past ≡ [] → links.IsHonest f at_first events state → IsOverHonest f at_first (Some past) (Some events) state
over_honest f past events state none honest = record { past = past; told = refl; events = events; adds = ap (λ xs. Some (xs ++ events)) (sym none); honest = honest }

-- a server that has taken nothing expects a setup's first frame
pub fresh_expects : Expects 0 at_first
fresh_expects = record { next = refl; stage = refl }

-- A link that is lent.

module _ (f : KeyedFn) (old new : LinkState) (fresh : old ≡ link_state_first at_first) (kept : remote new ≡ remote old) (honest : IsServed f (idle new.began) new.events (served new)) where
  pub over_server-honest : links.IsHonest f at_first new.events new.state
  over_server-honest =
      subst (λ s. IsServed f (idle s) new.events (idle new.state)) (ap (state_in at_first) kept ∙ ap (λ (t : LinkState). t.began) fresh) (IsServed-dropped f (idle new.began) (served new) new.events honest)

  over : IsOverHonest f at_first (Some old.events) (Some new.events) new.state
  over = over_honest f old.events new.events new.state (ap (λ (t : LinkState). t.events) fresh) over_server-honest

  module _ (records records_now : Kept) (remaining before after : Option (List ℕ)) (sink sink' : SinkShows) (status : ℕ) where
    pub over_server-run : status ≢ 5 → IfSome remaining (λ bytes. IsRun f bytes (outside_of (seen (Some old.events) records) before) (outside_of (seen (Some new.events) records_now) after) sink sink' status)
        → IfSome remaining (λ bytes. IsRunOverServer f bytes (outside_of (seen (Some old.events) records) before) (outside_of (seen (Some new.events) records_now) after) sink sink' new.state status)
    over_server-run no_link = IfSome-then remaining _ _ (λ bytes run. record {
      run = run;
      stopped = run.honest at_first new.state fresh_expects over;
      headline = λ source sink disk memory free. run.headline at_first new.state fresh_expects over free (record { source = source; sink = sink; link = no_link; disk = disk; memory = memory });
    })
