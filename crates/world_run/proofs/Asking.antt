-- A client in a world is to look for a word.
use Rattle.std.proofs.Common.{◌≡◌, ℕ, ◌&&◌, not, Bool, true, false, Option, List, [], ◌∷◌, ◌++◌, None, Some, refl, sym, ap, ◌∙◌, subst}
use Rattle.std.specs.Prelude.{length, map, is_some, unwrap_or, if◌then◌else◌}
use Rattle.std.proofs.lemmas.Bool.{true≢false}
use Rattle.std.proofs.lemmas.List.{map-append}
use Rattle.client_registry.specs.Run.{History}
use Rattle.client_registry.specs.WordBytes.{word_bytes}
use Rattle.client_registry.specs.declared.word.Word.{Word}
use Rattle.keyed_fn.specs.KeyedFn.{KeyedFn}
use Rattle.outside_memory_disk.specs.declared.mem_disk.MemDisk.{MemDisk}
use Rattle.world_client.proofs.Leading.{find_refused, find_taken}
use Rattle.world_client.specs.Clients.{IsClientIn}
use Rattle.world_client.specs.Histories.{records_under}
use Rattle.world_client.specs.declared.state.State.{State}
use Rattle.world_client.specs.declared.state.State.TheVariants as states
use Rattle.world_disks.specs.Disks.{Holds}
use Rattle.world_disks.specs.declared.stop.Stop as code
use Rattle.world_model.specs.World.{Asked, Asks, Client, Greets, Phase, Rests, Sends}
use Rattle.world_model.specs.Events as model
use Rattle.world_model.specs.Events.{Find, Lacks, Made, Leads, asked_for, asking, is_free, settled}
use Rattle.world_rules.specs.Changes.{Change, Deletes, history_of}
use Rattle.world_rules.specs.Promises.{StoreWorld}
use Rattle.world_rules.specs.Rules.{store_rules}
use Rattle.world_server.specs.Sides.{stop_in}
use Rattle.sse_world.specs.declared.event.Outcome.{Outcome}
use Rattle.sse_world.specs.declared.event.Outcome.TheVariants as outcome
use Rattle.world_run.proofs.Sides.{IsRunning, none_in, running_in, runs_client}
use Rattle.world_run.specs.Sides.{ClientPart, IsAsking, IsClient, LeadsFinding, RunsAs, asked_in, can_ask, client_part, is_resting, words_asked}
use Rattle.world_run.specs.declared.running.Running.{Running}

left_of : (a b : Bool) → (a && b) ≡ true → a ≡ true
left_of true b e = refl
left_of false b e = absurd (true≢false (sym e))

right_of : (a b : Bool) → (a && b) ≡ true → b ≡ true
right_of true b e = e
right_of false b e = absurd (true≢false (sym e))

not_true : (b : Bool) → not b ≡ true → b ≡ false
not_true true e = absurd (true≢false (sym e))
not_true false e = refl

module _ (f : KeyedFn) (first : List ℕ) where
  -- it takes a search exactly where it is set up, has nothing to send and waits for nothing
  pub takes_search : (h : History) (phase : Phase (List ℕ)) (state : State) (waits : Bool) → IsClientIn f first h phase state → can_ask f first h phase waits ≡ (is_resting state && not waits)
  takes_search None Greets (states.Greeting client) waits is = refl
  takes_search (Some es) Greets (states.Greeting client) waits is = refl
  takes_search None Rests (states.Fresh client) true is = refl
  takes_search None Rests (states.Fresh client) false is = refl
  takes_search (Some es) Rests (states.Resting client) true is = refl
  takes_search (Some es) Rests (states.Resting client) false is = refl
  takes_search (Some es) (Sends next) (states.Sending client) waits is = refl
  takes_search (Some es) (Asks word) (states.Asking client asked) waits is = refl
  takes_search h phase state waits is = absurd is

  -- and then asks for the word
  pub asks_for : (h : History) (phase : Phase (List ℕ)) (state : State) (word : Word) → IsClientIn f first h phase state → is_resting state ≡ true → IsClientIn f first h (Asks (word_bytes word)) (asked_in state word)
  asks_for (Some es) Rests (states.Resting client) word is e = (is, refl)
  asks_for None Greets (states.Greeting client) word is e = absurd (true≢false (sym e))
  asks_for (Some es) Greets (states.Greeting client) word is e = absurd (true≢false (sym e))
  asks_for None Rests (states.Fresh client) word is e = absurd (true≢false (sym e))
  asks_for (Some es) (Sends next) (states.Sending client) word is e = absurd (true≢false (sym e))
  asks_for (Some es) (Asks other) (states.Asking client asked) word is e = absurd (true≢false (sym e))
  asks_for h phase state word is e = absurd is

  pub asks_so : (h : History) (phase : Phase (List ℕ)) (it after : Running) (word : Word) (asked asked' : List Word) → IsClientIn f first h phase it.state → (is_resting it.state && not it.waits) ≡ true
      → after.state ≡ asked_in it.state word → (after.journal ≡ it.journal) × (after.waits ≡ it.waits) → asked' ≡ asked ++ word ∷ [] → IsAsking f first h phase it word asked asked' outcome.Done after
  asks_so h phase it after word asked asked' is free state same more = (
    takes_search h phase it.state it.waits is ∙ free,
    subst (IsClientIn f first h (Asks (word_bytes word))) (sym state) (asks_for h phase it.state word is (left_of (is_resting it.state) (not it.waits) free)),
    same.0,
    same.1 ∙ not_true it.waits (right_of (is_resting it.state) (not it.waits) free),
    more,
  )

  module _ (w : StoreWorld) (disk : MemDisk) (stop : Option code.Stop) (key : List ℕ) (other : Option (List ℕ)) (asked : List Word) (are : words_asked w ≡ map word_bytes asked) (word : Word) where
    -- no client runs
    pub none_finds : (running after : Option Running) → running ≡ None → after ≡ None → IsClient f first (client_part w) running disk stop key other
        → LeadsFinding f first w (word_bytes word) outcome.Nothing after disk stop key other asked
    none_finds running after none still is =
        let here : IsClient f first (client_part w) None disk stop key other = subst (λ r. IsClient f first (client_part w) r disk stop key other) none is in
        let client : w.client ≡ None = none_in f first disk stop key (client_part w) other here in
        let same : asked_for (store_rules f first) w w.client (word_bytes word) ≡ None = ap (λ c. asked_for (store_rules f first) w c (word_bytes word)) client in (
          w,
          record {
            calls = 0;
            end = Made true;
            possible = (refl, tt);
            comes_to = sym (ap (λ (o : Option StoreWorld). if is_some o then model.Happened else model.Nothing) same);
            is = sym (ap (λ o. unwrap_or o w) same);
          },
          refl,
          subst (λ r. IsClient f first (client_part w) r disk stop key other) (sym still) here,
          are,
        )

    -- one does
    module _ (it : Running) (is : IsClient f first (client_part w) (Some it) disk stop key other) where
      pub run : IsRunning f first (client_part w) it disk stop key
      run = running_in f first disk stop key (client_part w) it other is

      abbrev pub r : Client Change (List ℕ)
      r = run.r

      client_is : w.client ≡ Some r
      client_is = ap (λ (p : ClientPart). p.client) run.part_is

      pub is_in : IsClientIn f first (history_of r.commands) r.phase it.state
      is_in = (run.runs_as).is

      free : (b : Bool) → can_ask f first (history_of r.commands) r.phase it.waits ≡ b → (is_free (store_rules f first) r && (store_rules f first).may_search r.commands (word_bytes word)) ≡ b
      free b e = ap (λ waits. can_ask f first (history_of r.commands) r.phase waits) (sym (run.runs_as).waits) ∙ e

      pub one_finds : (out : Outcome) (after : Running) (asked' : List Word) → IsAsking f first (history_of r.commands) r.phase it word asked asked' out after
          → LeadsFinding f first w (word_bytes word) out (Some after) disk stop key other asked'
      one_finds outcome.Done after asked' a =
          let r' : Client Change (List ℕ) = record { commands = r.commands; phase = Asks (word_bytes word); waits = false } in
          let so : RunsAs f first r' after disk key = record {
            holds = subst (λ j. Holds (records_under f first (history_of r.commands)) j disk) (sym a.2) (run.runs_as).holds;
            is = a.1;
            waits = a.3;
            key_is = (run.runs_as).key_is;
          } in
          let part : record { disk = settled r.commands; client = Some r'; stop = stop_in stop } ≡ client_part (asking (store_rules f first) w r (word_bytes word)) =
          ap (λ (p : ClientPart). record { disk = p.disk; client = Some r'; stop = p.stop }) (sym run.part_is) in (
            asking (store_rules f first) w r (word_bytes word),
            find_taken (store_rules f first) w r (Deletes 0) client_is (word_bytes word) (free true a.0),
            refl,
            subst (λ p. IsClient f first p (Some after) disk stop key other) part (runs_client f first r' after disk stop key other (stop_in stop) so refl run.to_come),
            map-append (λ (x : Asked (List ℕ)). x.word) w.searches (record { word = word_bytes word; before = length r.commands } ∷ []) ∙ ap (λ (words : List (List ℕ)). words ++ word_bytes word ∷ []) are
                ∙ sym (map-append word_bytes asked (word ∷ [])) ∙ ap (map word_bytes) (sym a.4),
          )
      one_finds outcome.Nothing after asked' a = (
        w,
        find_refused (store_rules f first) w r (Deletes 0) client_is (word_bytes word) (free false a.0),
        refl,
        subst (λ it'. IsClient f first (client_part w) (Some it') disk stop key other) (sym a.1) is,
        are ∙ ap (map word_bytes) (sym a.2),
      )
      one_finds outcome.NoMemory after asked' a = (
        w,
        record { calls = 0; end = Lacks; possible = (refl, tt); comes_to = refl; is = refl },
        refl,
        subst (λ it'. IsClient f first (client_part w) (Some it') disk stop key other) (sym a.0) is,
        are ∙ ap (map word_bytes) (sym a.1),
      )
