-- A run that resumes over a link that tells its server, whose vault has all of the client's updates, or all but the last.
use Rattle.std.proofs.Common.{◌≡◌, inl, inr, ℕ, ◌+◌, ◌≤◌, List, [], ◌∷◌, ◌++◌, length, None, Some, flat_map, refl, sym, ap, ◌∙◌, subst, arith}
use Rattle.std.specs.Prelude.{◌⊎◌, Option, IfSome, unwrap_or}
use Rattle.std.proofs.lemmas.List.{append-nil, map-append}
use Rattle.keyed_fn.specs.KeyedFn.{KeyedFn}
use Rattle.keyed_fn.specs.VaultFormulas.{VaultSecrets, vault_slot}
use Rattle.vault_link.specs.Exchanges.{Exchange, event_of_passed, events_of, events_of_passed}
use Rattle.vault_link.specs.Served.{AreServed, IsAnswered, VaultRemote}
use Rattle.vault_server.specs.VaultFrames.{DropFrame, vault_bytes}
use Rattle.vault_server.specs.VaultLeaks.{put_frame, vault_simulate}
use Rattle.vault_server.specs.VaultState.{VaultState}
use Rattle.vault_shelf.proofs.Fronts.{accepted_later, shelf_of-append}
use Rattle.vault_shelf.proofs.Resumed.{resumed_is_rest}
use Rattle.vault_shelf.proofs.SessionLaw.{session_is_simulated_from, stands_after}
use Rattle.vault_shelf.proofs.Simulated.{shelf-without_gets}
use Rattle.vault_shelf.specs.ClientRecords.{AreRecorded, IsRecorded}
use Rattle.vault_shelf.specs.ShelfFaults.{AreAccepted, shelf_fault}
use Rattle.vault_shelf.specs.Shelves.{Shelf, VaultCommand, Put, Drop, Get, empty_shelf, shelf_of, without_gets}
use Rattle.vault_shelf.specs.Standing.{LeftBy}
use Rattle.vault_shelf.specs.VaultLeaking.{vault_leaks}
use Rattle.vault_shelf.specs.VaultSessions.{SlotsDiffer, draw_by, frames_of, sent_by, session_from, vault_draws, vault_stepped}
use Rattle.vault_script.specs.declared.vault_stop.VaultStop.{VaultStop}
use Rattle.doc_vault.proofs.HonestRun.{PassesAs, passes-both, passes-one, served_told, turns_pass}
use Rattle.doc_vault.proofs.RightReplies.{ComesFairly, answer_comes}
use Rattle.doc_vault.specs.Acknowledged as sends
use Rattle.doc_vault.specs.Acknowledged.{StopsSending, sending}
use Rattle.doc_vault.specs.CommandRuns.{IsExchanged}
use Rattle.doc_vault.specs.CommandViews.{shown_of}
use Rattle.doc_vault.specs.FairStops.{AtLink, AtMemory, StopsFairly}
use Rattle.doc_vault.specs.HonestRuns.{PassesHonestly}
use Rattle.doc_vault.specs.HonestTexts.{PrintTheirTexts, accepted_line}
use Rattle.doc_vault.specs.Outcomes.{Shows, Stops, link_stop, memory_stop}
use Rattle.doc_vault.specs.Sights.{HasPassed, LinkSight, ServesAll}
use Rattle.doc_vault.specs.VaultRuns.{AreTurns, Turn, commands_in, passed_in}
use Rattle.vault_client.specs.CatchingUp.{AfterNumber, Elsewhere, HasAll, HasAllButLast, HasCaughtUp, MissesAtMostOne, StopsCatchingUp, StopsSendingAgain, StopsSupply, Supplies, Unacknowledged, Unasked, Unsupplied, Unwritten, left_by}
use Rattle.vault_client.specs.Resumptions.{ResumesHonestly}
use Rattle.vault_client.proofs.LastCommands.{one_row, recorded_last, sent-last}
use Rattle.vault_client.proofs.SentAgain.{frame_of_update, other_outcome}

-- a link whose server is told
pub told_is : (remote : Option VaultRemote) (P : VaultRemote → Type 0) → ((before : VaultRemote) → remote ≡ Some before → P before) → IfSome remote P
told_is None P all = tt
told_is (Some before) P all = all before refl

-- what is so of a server that is told
pub of_told : {A : Type 0} (P : A → Type 0) (m : Option A) (x : A) → m ≡ Some x → IfSome m P → P x
of_told P m x e holds = subst (λ (o : Option _). IfSome o P) e holds

module _ (f : KeyedFn) (keys : VaultSecrets) (cs : List VaultCommand) (recorded : AreRecorded cs) (accepted : AreAccepted empty_shelf cs) (before : VaultRemote) (m : MissesAtMostOne f keys cs before.state) where
  -- what the vault may be missing: nothing, or the last command
  pub data IsMissing : Type 0 where
    Nothing : m.missing ≡ [] → cs ≡ m.earlier → before.state.next ≡ (left_by cs).sent → IsMissing
    One : (c : VaultCommand) → m.missing ≡ c ∷ [] → cs ≡ m.earlier ++ c ∷ [] → before.state.next + 1 ≡ (left_by cs).sent → IsMissing

  pub missing_is : IsMissing
  missing_is = by m.missing refl m.parts m.few
    where
      by : (missing : List VaultCommand) → m.missing ≡ missing → cs ≡ m.earlier ++ missing → length missing ≤ 1 → IsMissing
      by [] e parts few =
          let same = parts ∙ append-nil m.earlier in
          Nothing e same (m.left.next ∙ ap (λ (l : List VaultCommand). (left_by l).sent) (sym same))
      by (c ∷ []) e parts few =
          One c e parts (omega (arith, m.left.next, ap (λ (l : List VaultCommand). (left_by l).sent) parts, sent-last m.earlier c (recorded_last m.earlier c (subst AreRecorded parts recorded))))
      by (c ∷ d ∷ rest) e parts few = absurd (omega (arith, few))

  -- the vault as a server said it is, of which all updates are there
  pub record IsSupplied (again : List Exchange) (frames : ℕ) (remote : Option VaultRemote) : Type 0 where
    pub told : VaultRemote
    pub is : remote ≡ Some told
    pub passes : PassesAs f keys before.state told.state (left_by m.earlier) m.missing again
    pub frames_are : frames ≡ length m.missing

  missing_left : left_by cs ≡ shelf_of (left_by m.earlier) m.missing
  missing_left = ap left_by m.parts ∙ shelf_of-append empty_shelf m.earlier m.missing

  -- the exchange of an update
  passes_update : (c : VaultCommand) → IsRecorded c → shelf_fault (left_by m.earlier) c ≡ None → (again : List Exchange) (after : VaultState) → IsExchanged f keys (left_by m.earlier) c again (shown_of c []) → AreServed before.state again after
      → PassesAs f keys before.state after (left_by m.earlier) (c ∷ []) again
  passes_update (Put id body) is fine again after exchanged served =
      let s = left_by m.earlier in
      passes-one f keys s (Put id body) (put_frame s.sent (draw_by f keys (length s.puts) (record { id = id; body = body }))) refl fine before.state after again (shown_of (Put id body) []) exchanged served
  passes_update (Drop id) is fine again after exchanged served =
      let s = left_by m.earlier in
      passes-one f keys s (Drop id) (DropFrame s.sent (vault_slot f keys.slots (unwrap_or (s.there id) 0))) refl fine before.state after again (shown_of (Drop id) []) exchanged served
  passes_update (Get id) is fine again after exchanged served = absurd is

  module _ (c : VaultCommand) (parts : cs ≡ m.earlier ++ c ∷ []) where
    pub one_recorded : IsRecorded c
    one_recorded = recorded_last m.earlier c (subst AreRecorded parts recorded)

    pub one_fine : shelf_fault (left_by m.earlier) c ≡ None
    one_fine = (accepted_later empty_shelf m.earlier (c ∷ []) (subst (AreAccepted empty_shelf) parts accepted)).0

  pub supplied : (next : ℕ) (again : List Exchange) (frames : ℕ) (asked new : LinkSight) → next ≡ before.state.next → asked.remote ≡ Some before → Supplies f keys cs next again frames → HasPassed again asked new → IsSupplied again frames new.remote
  supplied next again frames asked new own is supplies passed = by missing_is supplies
    where
      by : IsMissing → Supplies f keys cs next again frames → IsSupplied again frames new.remote
      by (Nothing e same all) (HasAll n none frames_are) = record {
        told = before;
        is = subst (λ (xs : List Exchange). ServesAll xs asked.remote new.remote) none passed.served ∙ is;
        passes =
            subst (λ (xs : List Exchange). PassesAs f keys before.state before.state (left_by m.earlier) m.missing xs) (sym none)
            (subst (λ (ds : List VaultCommand). PassesAs f keys before.state before.state (left_by m.earlier) ds []) (sym e) (record { events = refl; state = refl; accepted = tt }));
        frames_are = frames_are ∙ ap length (sym e);
      }
      by (Nothing e same all) (HasAllButLast n one frames_are) = absurd (omega (arith, own, all, n))
      by (One c e parts all) (HasAll n none frames_are) = absurd (omega (arith, own, all, n))
      by (One c e parts all) (HasAllButLast n one frames_are) =
          let row = one_row one.before m.earlier one.command c (sym one.are ∙ parts) in
          let exchanged : IsExchanged f keys (left_by m.earlier) c again (shown_of c []) =
          subst (λ (d : VaultCommand). IsExchanged f keys (left_by m.earlier) d again (shown_of d [])) row.last
          (subst (λ (l : List VaultCommand). IsExchanged f keys (left_by l) one.command again (shown_of one.command [])) row.rows one.exchanged) in
          let served = served_told again before new.remote (subst (λ (r : Option VaultRemote). ServesAll again r new.remote) is passed.served) in
          record {
            told = served.0;
            is = served.1;
            passes = subst (λ (ds : List VaultCommand). PassesAs f keys before.state served.0.state (left_by m.earlier) ds again) (sym e) (passes_update c (one_recorded c parts) (one_fine c parts) again served.0.state exchanged served.2);
            frames_are = frames_are ∙ ap length (sym e);
          }

  module _ (differ : SlotsDiffer f keys) where
    -- the vault is then as all commands left it
    pub supplied_left : (again : List Exchange) (frames : ℕ) (remote : Option VaultRemote) → (s : IsSupplied again frames remote) → LeftBy f keys s.told.state (left_by cs)
    supplied_left again frames remote s =
        subst (λ (v : VaultState). LeftBy f keys v (left_by cs)) (sym s.passes.state)
        (subst (λ (shelf : Shelf). LeftBy f keys (vault_stepped before.state (frames_of f keys (left_by m.earlier) m.missing)) shelf) (sym missing_left)
        (stands_after f keys differ m.missing before.state (left_by m.earlier) m.left s.passes.accepted))

    -- what passes as the session of these commands does
    pub honestly : (after : VaultState) (ds : List VaultCommand) (passed : List Exchange) (remote' : Option VaultRemote) (told : VaultRemote) → remote' ≡ Some told → told.state ≡ after → PassesAs f keys before.state after (left_by m.earlier) ds passed
        → PassesHonestly f keys (left_by m.earlier) before.state ds passed remote'
    honestly after ds passed remote' told is state passes = record {
      accepted = passes.accepted;
      session = passes.events;
      simulated = λ d left. passes.events ∙ ap events_of_passed (session_is_simulated_from f keys d ds before.state (left_by m.earlier) left passes.accepted);
      state = subst (λ (r : Option VaultRemote). IfSome r (λ a. a.state ≡ vault_stepped before.state (frames_of f keys (left_by m.earlier) ds))) (sym is) (state ∙ passes.state);
      left = λ d left.
          subst (λ (r : Option VaultRemote). IfSome r (λ a. LeftBy f keys a.state (shelf_of (left_by m.earlier) ds))) (sym is)
          (subst (λ (v : VaultState). LeftBy f keys v (shelf_of (left_by m.earlier) ds)) (sym (state ∙ passes.state)) (stands_after f keys d ds before.state (left_by m.earlier) left passes.accepted));
    }

    -- with earlier gets in their places
    rest_of : (ds : List VaultCommand) (passed : List Exchange) → AreAccepted (left_by m.earlier) ds → events_of passed ≡ events_of_passed (session_from f keys before.state (left_by m.earlier) ds) → (whole : List VaultCommand) → without_gets whole ≡ m.earlier
        → events_of_passed (vault_simulate (vault_leaks empty_shelf (whole ++ ds)) (vault_draws f keys (whole ++ ds)))
        ≡ events_of_passed (vault_simulate (vault_leaks empty_shelf whole) (vault_draws f keys (whole ++ ds))) ++ events_of passed
    rest_of ds passed fine session whole e =
        let same : left_by m.earlier ≡ left_by whole = ap left_by (sym e) ∙ shelf-without_gets empty_shelf whole in
        let first = vault_simulate (vault_leaks empty_shelf whole) (vault_draws f keys (whole ++ ds)) in
        ap events_of_passed (resumed_is_rest f keys differ whole ds before.state (subst (LeftBy f keys before.state) same m.left) (subst (λ (s : Shelf). AreAccepted s ds) same fine))
        ∙ map-append event_of_passed first (session_from f keys before.state (left_by whole) ds)
        ∙ ap (λ (l : List _). events_of_passed first ++ l) (ap (λ (s : Shelf). events_of_passed (session_from f keys before.state s ds)) (sym same) ∙ sym session)

    pub resumes_honestly : (again : List Exchange) (frames : ℕ) (turns : List Turn) (mid new : LinkSight) → IsSupplied again frames mid.remote → AreTurns f keys (left_by cs) turns → HasPassed (passed_in turns) mid new
        → IfSome mid.remote (λ b. SlotsDiffer f keys → LeftBy f keys b.state (left_by cs) → PrintTheirTexts (left_by cs) turns) → ResumesHonestly f keys cs before.state m frames again turns new.remote
    resumes_honestly again frames turns mid new s are passed texts =
        let served = served_told (passed_in turns) s.told new.remote (subst (λ (r : Option VaultRemote). ServesAll (passed_in turns) r new.remote) s.is passed.served) in
        let of_turns : PassesAs f keys s.told.state served.0.state (shelf_of (left_by m.earlier) m.missing) (commands_in turns) (passed_in turns) =
        subst (λ (shelf : Shelf). PassesAs f keys s.told.state served.0.state shelf (commands_in turns) (passed_in turns)) missing_left (turns_pass f keys s.told.state served.0.state (left_by cs) turns are served.2) in
        let all = passes-both f keys before.state s.told.state served.0.state (left_by m.earlier) m.missing (commands_in turns) again (passed_in turns) s.passes of_turns in
        record {
          frames_are = s.frames_are;
          honest = honestly served.0.state (m.missing ++ commands_in turns) (again ++ passed_in turns) new.remote served.0 served.1 refl all;
          texts = of_told (λ b. SlotsDiffer f keys → LeftBy f keys b.state (left_by cs) → PrintTheirTexts (left_by cs) turns) mid.remote s.told s.is texts differ (supplied_left again frames mid.remote s);
          rest = λ whole e. rest_of (m.missing ++ commands_in turns) (again ++ passed_in turns) all.accepted all.events whole e;
        }

    -- Stops.

    fair_by : (c : VaultCommand) (stop : VaultStop) → ComesFairly f keys (left_by m.earlier) c (Stops stop) → StopsFairly stop
    fair_by c stop (inl is) = absurd (let no : Stops stop ≡ Shows (accepted_line (left_by m.earlier) c) = is in cc)
    fair_by c stop (inr (inl is)) = AtLink (inl (let same : stop ≡ link_stop = cc in same))
    fair_by c stop (inr (inr is)) = AtLink (inr (let same : stop ≡ memory_stop = cc in same))

    sending_fair : (c : VaultCommand) → cs ≡ m.earlier ++ c ∷ [] → (asked new : LinkSight) (stop : VaultStop) → asked.remote ≡ Some before → StopsSendingAgain f keys (left_by m.earlier) c asked new stop → StopsFairly stop
    sending_fair c parts asked new stop tells (Unwritten is same) = AtMemory is
    sending_fair c parts asked new stop tells (Unacknowledged grammar (sends.NotSent is same)) = AtLink is
    sending_fair c parts asked new stop tells (Unacknowledged grammar (sends.NotReplied is passed)) = AtLink (inl is)
    sending_fair c parts asked new stop tells (Unacknowledged grammar (sends.NotOwn reply passed read is_read other stop_is)) =
        let s = left_by m.earlier in
        let x = sending (flat_map vault_bytes (sent_by f keys s c)) (Some reply) in
        let after = served_told (x ∷ []) before new.remote (subst (λ (r : Option VaultRemote). ServesAll (x ∷ []) r new.remote) tells passed.served) in
        let answer : IsAnswered before.state (flat_map vault_bytes (sent_by f keys s c)) reply after.2.0 = after.2.1 in
        fair_by c stop (answer_comes f keys before.state after.2.0 s c reply (Stops stop) differ m.left (one_fine c parts) (frame_of_update f keys s c (one_recorded c parts)) grammar answer
        (record { read = read; is_read = is_read; comes = other_outcome f keys s c (one_recorded c parts) reply read other ∙ ap Stops (sym stop_is) }))

    supply_fair : (n : ℕ) (asked new : LinkSight) (stop : VaultStop) → n ≡ before.state.next → asked.remote ≡ Some before → IsMissing → StopsSupply f keys cs n asked new stop → StopsFairly stop
    supply_fair n asked new stop own tells (Nothing e same all) (Elsewhere not_all not_one is link) = absurd (not_all (own ∙ all))
    supply_fair n asked new stop own tells (One c e parts all) (Elsewhere not_all not_one is link) = absurd (not_one (ap (λ (k : ℕ). k + 1) own ∙ all))
    supply_fair n asked new stop own tells (Nothing e same all) (Unsupplied first c n_is are stops) = absurd (omega (arith, own, all, n_is))
    supply_fair n asked new stop own tells (One c e parts all) (Unsupplied first d n_is are stops) =
        let row = one_row first m.earlier d c (sym are ∙ parts) in
        sending_fair c parts asked new stop tells
        (subst (λ (x : VaultCommand). StopsSendingAgain f keys (left_by m.earlier) x asked new stop) row.last (subst (λ (l : List VaultCommand). StopsSendingAgain f keys (left_by l) d asked new stop) row.rows stops))

    pub catching_fair : (old new : LinkSight) (stop : VaultStop) → old.remote ≡ Some before → StopsCatchingUp f keys cs old new stop → StopsFairly stop
    catching_fair old new stop tells (Unasked stops fair) = AtLink (of_told (λ b. (stop ≡ link_stop) ⊎ (stop ≡ memory_stop)) old.remote before tells fair)
    catching_fair old new stop tells (AfterNumber n asked said own stops) =
        supply_fair n asked new stop (of_told (λ b. n ≡ b.state.next) old.remote before tells own) (said.unmoved ∙ tells) missing_is stops

    pub caught_supplied : (again : List Exchange) (frames : ℕ) (old mid : LinkSight) → old.remote ≡ Some before → HasCaughtUp f keys cs again frames old mid → IsSupplied again frames mid.remote
    caught_supplied again frames old mid tells caught =
        supplied caught.next again frames caught.asked mid (of_told (λ b. caught.next ≡ b.state.next) old.remote before tells caught.own) (caught.question.unmoved ∙ tells) caught.supplies caught.passed
