-- Over a link that tells its server, where the vault stands as a client with identifiers in order left it: a restore finds the texts that are there.
use Rattle.std.proofs.Common.{◌≡◌, inl, inr, ℕ, zero, suc, ◌+◌, ◌-◌, ◌*◌, ◌^◌, ◌<◌, ◌≤◌, Bool, true, false, ◌||◌, List, [], ◌∷◌, ◌++◌, length, length-append, append_assoc, None, Some, refl, sym, ap, ◌∙◌, subst, arith}
use Rattle.std.specs.Prelude.{Option, drop, is_some, option_and_then, option_map}
use Rattle.std.specs.List.{slice_get}
use Rattle.std.proofs.lemmas.List.{append-nil}
use Rattle.keyed_fn.specs.KeyedFn.{KeyedFn}
use Rattle.keyed_fn.specs.VaultFormulas.{VaultSecrets, vault_slot}
use Rattle.vault_server.specs.VaultFrames.{AskFrame, FetchFrame, InVault, VaultReplyText, Next}
use Rattle.vault_server.specs.VaultState.{VaultState}
use Rattle.vault_link.specs.Exchanges.{Exchange}
use Rattle.vault_link.specs.ReplySizes.{IsVaultReply}
use Rattle.vault_link.specs.Served.{IsServed, Serves, VaultRemote}
use Rattle.vault_link.proofs.ReplyLaws.{no_other}
use Rattle.vault_shelf.specs.Scans.{full, one_if}
use Rattle.vault_shelf.specs.Shelves.{Deposit, Shelf, VaultCommand, empty_shelf, shelf_of}
use Rattle.vault_shelf.specs.Standing.{LeftBy}
use Rattle.vault_shelf.proofs.Scans.{AreNumbered, Counts, counts_at_first, counts_of, numbered_at_first, numbered_of}
use Rattle.vault_script.specs.declared.vault_stop.VaultStop.{VaultStop}
use Rattle.doc_vault.specs.FairStops.{AtLink, AtMemory, AtSink, StopsFairly}
use Rattle.doc_vault.specs.Outcomes.{IsRead}
use Rattle.doc_vault.specs.Sights.{LinkSight, ServesAll}
use Rattle.vault_restore.specs.LeftInOrder.{IsLeftInOrder, all_lines, line_there, lines_from}
use Rattle.vault_restore.specs.RestoredLines.{RestoredLine, TextLine, is_forged_line, lines_of_slot}
use Rattle.vault_restore.specs.Restores.{AddsUp, AtEnd, AtNext, HasNoNumber, IsTold, NotAnswered, NotAsked, NotNumbered, StopsAfter, StopsAsking, any_forged, question}
use Rattle.vault_restore.specs.Slots.{Stops, Unfit, Unread}
use Rattle.vault_restore.specs.Visits.{AreVisited, HasVisited, RestoreSight, StopsAtSlot, Unanswered, Unfetched, Unjudged, Unprinted, Unsent, Visit, fetch_of, fetches, lines_in}
use Rattle.vault_restore.proofs.HonestSlots.{IsSaid, comes_there, held_stops, held_there, question_said, slot_right}

-- a link that tells its server still tells it after an exchange
pub record IsStillTold (x : Exchange) (told : VaultRemote) (after : Option VaultRemote) : Type 0 where
  pub now : VaultRemote
  pub is : after ≡ Some now
  pub served : IsServed x.frame x.reply told now

pub still_told : (x : Exchange) (told : VaultRemote) (after : Option VaultRemote) → Serves x.frame x.reply (Some told) after → IsStillTold x told after
still_told x told None serves = absurd serves
still_told x told (Some now) serves = record { now = now; is = refl; served = serves }

module _ (f : KeyedFn) (keys : VaultSecrets) (s : Shelf) (numbered : AreNumbered s) where
  -- the fetch of a slot leaves the vault, and is answered with what the slot holds
  fetched_said : (v : ℕ) (told : VaultRemote) (now : VaultRemote) (bytes : List ℕ) → InVault (FetchFrame (vault_slot f keys.slots v)) → IsServed (fetch_of f keys v (Some bytes)).frame (Some bytes) told now
      → IsSaid told.state (FetchFrame (vault_slot f keys.slots v)) bytes now.state
  fetched_said v told now bytes grammar served = question_said told.state (FetchFrame (vault_slot f keys.slots v)) bytes now.state grammar refl refl served.honest

  -- slots that were fetched: their lines from each of them on, how many there are, no wrong tag, and the vault is unchanged
  pub record AreRight (v : ℕ) (visits : List Visit) (told : VaultRemote) (after : Option VaultRemote) : Type 0 where
    pub lines : (k : ℕ) → k ≤ length visits → lines_in (drop k visits) ≡ lines_from s (v + k) (length visits - k)
    pub counts : length (lines_in visits) + full s.there v ≡ full s.there (v + length visits)
    pub honest : any_forged visits ≡ false
    pub now : VaultRemote
    pub is : after ≡ Some now
    pub stays : now.state ≡ told.state

  none_right : (v : ℕ) (told : VaultRemote) (after : Option VaultRemote) → after ≡ Some told → AreRight v [] told after
  none_right v told after is = record {
    lines = none;
    counts = omega (arith, ap (full s.there) (same v));
    honest = refl;
    now = told;
    is = is;
    stays = refl;
  }
    where
      same : (v : ℕ) → v + 0 ≡ v
      same v = omega arith

      none : (k : ℕ) → k ≤ 0 → lines_in (drop k []) ≡ lines_from s (v + k) (0 - k)
      none zero few = refl
      none (suc k) few = absurd (omega (arith, few))

  more_right : (v : ℕ) (visit : Visit) (visits : List Visit) (told now : VaultRemote) (after : Option VaultRemote) → visit.line ≡ line_there s v → length (lines_of_slot (line_there s v)) ≡ one_if (is_some (s.there (v + 1)))
      → is_forged_line (line_there s v) ≡ false → now.state ≡ told.state → AreRight (v + 1) visits now after → AreRight v (visit ∷ visits) told after
  more_right v visit visits told now after line counts honest stays rest = record {
    lines = lines;
    counts = omega (
      arith,
      rest.counts,
      counts,
      ap (λ (l : Option RestoredLine). length (lines_of_slot l)) line,
      length-append (lines_of_slot visit.line) (lines_in visits),
      ap (full s.there) (next v (length visits)),
      step v,
    );
    honest = (λ i. is_forged_line (line i) || rest.honest i) ∙ ap (λ (b : Bool). b || false) honest;
    now = rest.now;
    is = rest.is;
    stays = rest.stays ∙ stays;
  }
    where
      next : (v k : ℕ) → v + suc k ≡ v + 1 + k
      next v k = omega arith

      from : (a b m n : ℕ) → a ≡ b → m ≡ n → lines_from s a m ≡ lines_from s b n
      from a b m n e1 e2 = λ i. lines_from s (e1 i) (e2 i)

      lines : (k : ℕ) → k ≤ suc (length visits) → lines_in (drop k (visit ∷ visits)) ≡ lines_from s (v + k) (suc (length visits) - k)
      lines zero few =
          (λ i. lines_of_slot (line i) ++ lines_in visits)
          ∙ ap (λ (l : List RestoredLine). lines_of_slot (line_there s v) ++ l) (rest.lines 0 (omega arith) ∙ from (v + 1 + 0) (v + 1) (length visits - 0) (length visits) (omega arith) (omega arith))
          ∙ from v (v + 0) (suc (length visits)) (suc (length visits) - 0) (omega arith) (omega arith)
      lines (suc k) few = rest.lines k (omega (arith, few)) ∙ from (v + 1 + k) (v + suc k) (length visits - k) (suc (length visits) - suc k) (omega arith) (omega arith)

      step : (v : ℕ) → full s.there (v + 1) ≡ full s.there v + one_if (is_some (s.there (v + 1)))
      step v = λ i. by i
        where
          plain : v + 1 ≡ suc v
          plain = omega arith

          by : full s.there (v + 1) ≡ full s.there v + one_if (is_some (s.there (v + 1)))
          by = ap (full s.there) plain ∙ ap (λ (k : ℕ). full s.there v + one_if (is_some (s.there k))) (sym plain)

  pub are_right : (v : ℕ) (visits : List Visit) (told : VaultRemote) (after : Option VaultRemote) → v + length visits ≤ 0xffffffff → LeftBy f keys told.state s → AreVisited f keys v visits
      → ServesAll (fetches f keys v visits) (Some told) after → AreRight v visits told after
  are_right v [] told after most left are served = none_right v told after served
  are_right v (visit ∷ visits) told after most left are served =
      let still = still_told (fetch_of f keys v (Some visit.reply)) told served.0 served.1 in
      let said = fetched_said v told still.now visit.reply are.0.grammar still.served in
      let below : v < 0xffffffff = omega (arith, most) in
      let line = held_there (line_there s v) visit.line (comes_there f keys told.state s left numbered v visit.reply _ below said.is are.0.comes) in
      let right = slot_right f keys told.state s left numbered v below in
      more_right v visit visits told still.now after line right.counts right.honest said.stays
      (are_right (v + 1) visits still.now after (omega (arith, most)) (subst (λ (state : VaultState). LeftBy f keys state s) (sym said.stays) left) are.1
      (subst (λ (r : Option VaultRemote). ServesAll (fetches f keys (v + 1) visits) r after) still.is served.2))

-- The end of the slots.

-- no text is there of a put beyond the last
full_past : (s : Shelf) → Counts s → (k : ℕ) → full s.there (k + length s.puts) ≡ full s.there (length s.puts)
full_past s counts zero = ap (full s.there) (omega arith)
full_past s counts (suc k) =
    ap (full s.there) (plain k (length s.puts))
    ∙ (λ i. full_past s counts k i + one_if (none (s.there (suc (k + length s.puts))) refl i))
    ∙ omega arith
  where
    plain : (k m : ℕ) → suc k + m ≡ suc (k + m)
    plain k m = omega arith

    none : (there : Option ℕ) → s.there (suc (k + length s.puts)) ≡ there → is_some there ≡ false
    none None at = refl
    none (Some put) at = absurd (let within = counts.ids (suc (k + length s.puts)) (ap is_some at) in omega (arith, within.1))

too_many : (s : Shelf) → Counts s → (v : ℕ) → length s.puts ≤ v → s.sent + full s.there v ≡ 2 * length s.puts
too_many s counts v more = omega (arith, counts.count, full_past s counts (v - length s.puts), ap (full s.there) (parts v (length s.puts) more))
  where
    parts : (a b : ℕ) → b ≤ a → a ≡ a - b + b
    parts a b more = omega (arith, more)

-- there are no more puts than updates, since no more puts are there than were made

full_within : (there : ℕ → Option ℕ) (v : ℕ) → full there v ≤ v
full_within there zero = omega arith
full_within there (suc v) = omega (arith, full_within there v, one (is_some (there (suc v))))
  where
    one : (b : Bool) → one_if b ≤ 1
    one true = omega arith
    one false = omega arith

few_puts : (s : Shelf) → Counts s → length s.puts ≤ s.sent
few_puts s counts = omega (arith, counts.count, full_within s.there (length s.puts))

-- the lines of puts beyond the last: none
lines_past : (s : Shelf) → Counts s → (m v : ℕ) → length s.puts ≤ v → lines_from s v m ≡ []
lines_past s counts zero v past = refl
lines_past s counts (suc m) v past = (λ i. lines_of_slot (none (s.there (v + 1)) refl i) ++ lines_past s counts m (v + 1) (omega (arith, past)) i)
  where
    none : (there : Option ℕ) → s.there (v + 1) ≡ there → line_there s v ≡ None
    none None at = ap (λ (m : Option ℕ). option_map (TextLine (v + 1)) (option_and_then (λ put. option_map (λ (d : Deposit). d.body) (slice_get s.puts put)) m)) at
    none (Some put) at = absurd (let within = counts.ids (v + 1) (ap is_some at) in omega (arith, within.1, past))

-- those of some puts, and then of more
lines_both : (s : Shelf) (a b v : ℕ) → lines_from s v (a + b) ≡ lines_from s v a ++ lines_from s (v + a) b
lines_both s zero b v = λ i. lines_from s (plain v i) (none b i)
  where
    plain : (v : ℕ) → v ≡ v + 0
    plain v = omega arith

    none : (b : ℕ) → 0 + b ≡ b
    none b = omega arith
lines_both s (suc a) b v =
    ap (lines_from s v) (more a b)
    ∙ ap (λ (l : List RestoredLine). lines_of_slot (line_there s v) ++ l) (lines_both s a b (v + 1) ∙ (λ i. lines_from s (v + 1) a ++ lines_from s (next v a i) b))
    ∙ sym (append_assoc (lines_of_slot (line_there s v)) (lines_from s (v + 1) a) (lines_from s (v + suc a) b))
  where
    more : (a b : ℕ) → suc a + b ≡ suc (a + b)
    more a b = omega arith

    next : (v a : ℕ) → v + 1 + a ≡ v + suc a
    next v a = omega arith

-- those of all puts, and of numbers beyond them
pub lines_all : (s : Shelf) → Counts s → (n : ℕ) → length s.puts ≤ n → lines_from s 0 n ≡ all_lines s
lines_all s counts n more =
    ap (lines_from s 0) (parts n (length s.puts) more)
    ∙ lines_both s (length s.puts) (n - length s.puts) 0
    ∙ ap (λ (l : List RestoredLine). all_lines s ++ l) (lines_past s counts (n - length s.puts) (0 + length s.puts) (omega arith))
    ∙ append-nil (all_lines s)
  where
    parts : (a b : ℕ) → b ≤ a → a ≡ b + (a - b)
    parts a b more = omega (arith, more)

-- The question, and the whole.

module _ (f : KeyedFn) (keys : VaultSecrets) where
  -- no more slots are fetched than the number says
  pub stops_within : (n : ℕ) (visits : List Visit) (between new : RestoreSight) (stop : VaultStop) → StopsAfter f keys n visits between new stop → length visits ≤ n
  stops_within n visits between new stop (AtNext more stops) = omega (arith, more)
  stops_within n visits between new stop (AtEnd all unfit is same) = omega (arith, all)

  -- the server said its own number, and is unchanged
  pub record IsOwnNumber (n : ℕ) (told : VaultRemote) (after : Option VaultRemote) : Type 0 where
    pub now : VaultRemote
    pub is : after ≡ Some now
    pub stays : now.state ≡ told.state
    pub own : n ≡ told.state.next
    pub most : n ≤ 0xffffffff

  pub own_number : (n : ℕ) (told : VaultRemote) (old new : LinkSight) → old.remote ≡ Some told → IsTold n old new → IsOwnNumber n told new.remote
  own_number n told old new tells is =
      let served = subst (λ (r : Option VaultRemote). ServesAll (question (Some is.reply) ∷ []) r new.remote) tells is.passed.served in
      let still = still_told (question (Some is.reply)) told served.0 served.1 in
      let said = question_said told.state AskFrame is.reply still.now.state tt refl refl still.served.honest in
      let same : Next n ≡ Next told.state.next = no_other (Next n) (Next told.state.next) is.reply is.said said.is in
      let number : n < 2 ^ 32 = is.said.grammar in record {
        now = still.now;
        is = served.2 ∙ still.is;
        stays = said.stays;
        own = (let e : n ≡ told.state.next = cc in e);
        most = omega (arith, number);
      }

  module _ (old : LinkSight) (told : VaultRemote) (tells : old.remote ≡ Some told) (cs : List VaultCommand) (left : IsLeftInOrder f keys told.state cs) where
    abbrev pub shelf : Shelf
    shelf = shelf_of empty_shelf cs

    pub counts : Counts shelf
    counts = counts_of empty_shelf cs counts_at_first left.accepted left.order

    pub numbered : AreNumbered shelf
    numbered = numbered_of empty_shelf cs numbered_at_first left.order

    -- the slots that were fetched after the question: they account for the client's updates, from a vault that stands as before
    pub record AreFetched (n : ℕ) (visits : List Visit) (now : Option VaultRemote) : Type 0 where
      pub before : VaultRemote
      pub stays : before.state ≡ told.state
      pub sent : n ≡ shelf.sent
      pub most : n ≤ 0xffffffff
      pub are : AreRight f keys shelf numbered 0 visits before now

    pub visits_right : (n : ℕ) (asked : LinkSight) (now : Option VaultRemote) (visits : List Visit) → IsTold n old asked → length visits ≤ n → AreVisited f keys 0 visits → ServesAll (fetches f keys 0 visits) asked.remote now
        → AreFetched n visits now
    visits_right n asked now visits is within are served =
        let own = own_number n told old asked tells is in
        let stands : LeftBy f keys own.now.state shelf = subst (λ (v : VaultState). LeftBy f keys v shelf) (sym own.stays) left.left in record {
          before = own.now;
          stays = own.stays;
          sent = own.own ∙ left.left.next;
          most = own.most;
          are = are_right f keys shelf numbered 0 visits own.now now (omega (arith, own.most, within)) stands are (subst (λ (r : Option VaultRemote). ServesAll (fetches f keys 0 visits) r now) own.is served);
        }

    module _ (n : ℕ) (asked : LinkSight) (is : IsTold n old asked) (visits : List Visit) (within : length visits ≤ n) (written : Option (List ℕ)) (between : RestoreSight)
        (visited : HasVisited f keys visits (record { link = asked; written = written }) between) where
      scanned : AreFetched n visits between.link.remote
      scanned = visits_right n asked between.link.remote visits is within visited.are visited.passed.served

      plain : (k : ℕ) → 0 + k ≡ k
      plain k = omega arith

      puts_within : length visits ≡ n → length shelf.puts ≤ length visits
      puts_within all = (let few = few_puts shelf counts in omega (arith, few, scanned.sent, all))

      pub texts_so_far : lines_in visits ≡ lines_from shelf 0 (length visits)
      texts_so_far = scanned.are.lines 0 (omega arith) ∙ (λ i. lines_from shelf 0 (whole (length visits) i))
        where
          whole : (k : ℕ) → k - 0 ≡ k
          whole k = omega arith

      pub all_texts : length visits ≡ n → lines_in visits ≡ all_lines shelf
      all_texts all = texts_so_far ∙ lines_all shelf counts (length visits) (puts_within all)

      -- the number fits what the slots hold
      pub adds_up : length visits ≡ n → AddsUp n visits
      adds_up all = record {
        puts = length shelf.puts;
        count = omega (
          arith,
          scanned.are.counts,
          scanned.sent,
          ap (full shelf.there) (plain (length visits)),
          too_many shelf counts (length visits) (puts_within all),
        );
        beyond =
            scanned.are.lines (length shelf.puts) (puts_within all)
            ∙ lines_past shelf counts (length visits - length shelf.puts) (0 + length shelf.puts) (omega arith);
      }

      pub none_forged : any_forged visits ≡ false
      none_forged = scanned.are.honest

      -- no reply stops the restore at the slot after them
      slot_fair : (new : RestoreSight) (stop : VaultStop) → length visits < n → StopsAtSlot f keys (length visits) between new stop → StopsFairly stop
      slot_fair new stop more (Unfetched (Unsent (inl is) same) unprinted) = AtMemory is
      slot_fair new stop more (Unfetched (Unsent (inr is) same) unprinted) = AtLink is
      slot_fair new stop more (Unfetched (Unanswered is passed) unprinted) = AtLink (inl is)
      slot_fair new stop more (Unfetched (Unjudged reply grammar passed (Unread unread)) unprinted) = AtMemory unread.stop_is
      slot_fair new stop more (Unfetched (Unjudged reply grammar passed (Unfit comes)) unprinted) =
          let are = scanned.are in
          let v = length visits in
          let served = subst (λ (r : Option VaultRemote). ServesAll (fetch_of f keys v (Some reply) ∷ []) r new.link.remote) are.is passed.served in
          let still = still_told (fetch_of f keys v (Some reply)) are.now served.0 served.1 in
          let stands : LeftBy f keys are.now.state shelf = subst (λ (state : VaultState). LeftBy f keys state shelf) (sym (are.stays ∙ scanned.stays)) left.left in
          let said = fetched_said f keys shelf numbered v are.now still.now reply grammar still.served in
          let below : v < 0xffffffff = omega (arith, more, scanned.most) in
          absurd (held_stops (line_there shelf v) stop (comes_there f keys are.now.state shelf stands numbered v reply (Stops stop) below said.is comes))
      slot_fair new stop more (Unprinted visit is passed stops) = AtSink stops.fault stops.stop_is

      -- nor after them all
      pub stop_fair : (new : RestoreSight) (stop : VaultStop) → StopsAfter f keys n visits between new stop → StopsFairly stop
      stop_fair new stop (AtNext more stops) = slot_fair new stop more stops
      stop_fair new stop (AtEnd all unfit is same) = absurd (unfit (adds_up all))

    pub asking_fair : (new : LinkSight) (stop : VaultStop) → StopsAsking old new stop → StopsFairly stop
    asking_fair new stop (NotAsked is same) = AtLink is
    asking_fair new stop (NotAnswered is passed) = AtLink (inl is)
    asking_fair new stop (NotNumbered reply passed unfit) =
        let served = subst (λ (r : Option VaultRemote). ServesAll (question (Some reply) ∷ []) r new.remote) tells passed.served in
        let still = still_told (question (Some reply)) told served.0 served.1 in
        let said = question_said told.state AskFrame reply still.now.state tt refl refl still.served.honest in
        absurd (never reply unfit.read unfit.is_read unfit.other said.is)
      where
        never : (reply : List ℕ) (read : Option VaultReplyText) → IsRead reply read → HasNoNumber read → IsVaultReply (Next told.state.next) reply → ⊥
        never reply None is_none other is = is_none (Next told.state.next) is
        never reply (Some r) is_reply other is = subst (λ (said : VaultReplyText). HasNoNumber (Some said)) (no_other r (Next told.state.next) reply is_reply is) other
