-- A run that was begun stops for no cause of a journal that isn't opened, and with the status 2 only at a bad line.
use Rattle.std.proofs.Common.{◌≡◌, inl, inr, ℕ, Bool, true, false, List, [], ◌∷◌, ◌++◌, None, Some, refl, sym, ap, ◌∙◌, subst, arith, if◌then◌else◌}
use Rattle.std.specs.Prelude.{◌⊎◌, Option, IfSome, ◌==◌, unwrap_or}
use Rattle.std.specs.Option.{option_map}
use Rattle.keyed_fn.specs.KeyedFn.{KeyedFn}
use Rattle.keyed_fn.specs.VaultFormulas.{VaultSecrets, vault_secrets}
use Rattle.script_run_texts.specs.Stops.{stop_of_sink}
use Rattle.script_run_texts.specs.declared.input_stop.InputStop.TheVariants as inputs
use Rattle.sse_outside.specs.Kept.{Kept}
use Rattle.sse_outside.specs.declared.device_fault.DeviceFault.{DeviceFault}
use Rattle.sse_outside.specs.declared.device_fault.DeviceFault.TheVariants as devices
use Rattle.vault_server.specs.VaultFrames.{VaultReplyText, Took, BodyReply, Absent, Next, Clash, NoMemory, StoreFault, BadFrame}
use Rattle.vault_shelf.specs.Shelves.{Shelf, VaultCommand, Put, Drop, Get, empty_shelf, shelf_of}
use Rattle.vault_shelf.specs.VaultTexts.{Fetched, Opened, Oversized, Forged, fetched_text}
use Rattle.sse_script.specs.TextLines.{TakesLine}
use Rattle.vault_script.specs.VaultLines.{vault_line_of}
use Rattle.vault_script.specs.VaultShown.{VaultShownText}
use Rattle.vault_script.specs.VaultStops.{vault_status}
use Rattle.vault_script.specs.declared.vault_stop.VaultStop.{VaultStop}
use Rattle.vault_script.specs.declared.vault_stop.VaultStop.TheVariants as stops
use Rattle.doc_vault.specs.Beginnings as begins
use Rattle.doc_vault.specs.Beginnings.{StopsAt, StopsBeginning}
use Rattle.doc_vault.specs.CommandRuns as does
use Rattle.doc_vault.specs.CommandRuns.{StopsCommand, StopsExchange, StopsKeeping}
use Rattle.doc_vault.specs.Greetings as greets
use Rattle.doc_vault.specs.Greetings.{StopsAsking, StopsGreeting}
use Rattle.doc_vault.specs.LineRuns.{InCommand, StopsTurn, Unprinted}
use Rattle.doc_vault.specs.Openings.{FindsKey, MissesKey}
use Rattle.doc_vault.specs.Outcomes.{Shows, Stops, VaultOutcome, bad_reply, command_outcome, fetched_outcome, unexpected, update_outcome}
use Rattle.doc_vault.specs.ScriptRuns.{AtBadLine, AtCommand, InLine, IsBadLine, StopsAfter, StopsLine, Unread}
use Rattle.doc_vault.specs.Scripts.{AtKeyLine, AtStart, StopsScript, UnderKey}
use Rattle.doc_vault.specs.Sights.{LinkSight, Sight}
use Rattle.doc_vault.specs.VaultRuns.{commands_in, lines_in}
use Rattle.vault_client.specs.Meanings.{BadAfter, HasBadLine, IsBadScript}
use Rattle.vault_client.proofs.StopStatuses.{IsOther, IsRunStop, not_two, other_run}

-- the same stop
pub same_stop : (stop at : VaultStop) → stop ≡ at → IsOther at → IsOther stop
same_stop stop at is run = subst IsOther (sym is) run

-- a sink that failed
pub sink_stop : (fault : DeviceFault) → IsOther (stops.Run (stop_of_sink fault))
sink_stop devices.Failed = tt
sink_stop devices.NoMemory = tt

-- a reply that isn't the one expected
pub unexpected_stop : (bytes : List ℕ) (read : Option VaultReplyText) → IsOther (unexpected bytes read)
unexpected_stop bytes None = tt
unexpected_stop bytes (Some (Took n)) = tt
unexpected_stop bytes (Some (BodyReply tag sealed)) = tt
unexpected_stop bytes (Some Absent) = tt
unexpected_stop bytes (Some (Next n)) = tt
unexpected_stop bytes (Some Clash) = tt
unexpected_stop bytes (Some NoMemory) = tt
unexpected_stop bytes (Some StoreFault) = tt
unexpected_stop bytes (Some BadFrame) = tt

-- the stop of an outcome, if it is one
abbrev OutcomeStop : VaultOutcome → Type 0
OutcomeStop (Shows shown) = Unit {0}
OutcomeStop (Stops stop) = IsOther stop

took_outcome : (own : Bool) (shown : VaultShownText) (bytes : List ℕ) → OutcomeStop (if own then Shows shown else Stops (bad_reply bytes))
took_outcome true shown bytes = tt
took_outcome false shown bytes = tt

update_stop : (n : ℕ) (shown : VaultShownText) (bytes : List ℕ) (read : Option VaultReplyText) → OutcomeStop (update_outcome n shown bytes read)
update_stop n shown bytes None = tt
update_stop n shown bytes (Some (Took m)) = took_outcome (m == n) shown bytes
update_stop n shown bytes (Some (BodyReply tag sealed)) = tt
update_stop n shown bytes (Some Absent) = tt
update_stop n shown bytes (Some (Next m)) = tt
update_stop n shown bytes (Some Clash) = tt
update_stop n shown bytes (Some NoMemory) = tt
update_stop n shown bytes (Some StoreFault) = tt
update_stop n shown bytes (Some BadFrame) = tt

fetched_stop : (id : ℕ) (bytes : List ℕ) (text : Fetched) → OutcomeStop (fetched_outcome id bytes text)
fetched_stop id bytes (Opened text) = tt
fetched_stop id bytes Oversized = tt
fetched_stop id bytes Forged = tt

keeping_stop : (records : List (List ℕ)) (kept kept' : Kept) (stop : VaultStop) → StopsKeeping records kept kept' stop → IsOther stop
keeping_stop records kept kept' stop (does.NoRoom is same) = same_stop stop _ is tt
keeping_stop records kept kept' stop (does.NotTaken fault is now) = same_stop stop _ is tt

pub link_or_memory : (stop a b : VaultStop) → IsOther a → IsOther b → (stop ≡ a) ⊎ (stop ≡ b) → IsOther stop
link_or_memory stop a b is_a is_b (inl is) = same_stop stop a is is_a
link_or_memory stop a b is_a is_b (inr is) = same_stop stop b is is_b

pub asking_stop : (old new : LinkSight) (stop : VaultStop) → StopsAsking old new stop → IsOther stop
asking_stop old new stop (greets.NotAsked is same) = link_or_memory stop _ _ tt tt is
asking_stop old new stop (greets.NotAnswered is passed) = same_stop stop _ is tt
asking_stop old new stop (greets.NotSaid reply passed read is_read no_number is) = same_stop stop _ is (unexpected_stop reply read)

greeting_stop : (old new : LinkSight) (stop : VaultStop) → StopsGreeting old new stop → IsOther stop
greeting_stop old new stop (greets.NoNumber asking) = asking_stop old new stop asking
greeting_stop old new stop (greets.NotFirst n said other is) = same_stop stop _ is tt

module _ (f : KeyedFn) (keys : VaultSecrets) (s : Shelf) where
  command_stop : (c : VaultCommand) (bytes : List ℕ) (read : Option VaultReplyText) → OutcomeStop (command_outcome f keys s c bytes read)
  command_stop (Put id body) bytes read = update_stop s.sent _ bytes read
  command_stop (Drop id) bytes read = update_stop s.sent _ bytes read
  command_stop (Get id) bytes None = tt
  command_stop (Get id) bytes (Some (Took n)) = tt
  command_stop (Get id) bytes (Some (BodyReply tag sealed)) = fetched_stop id bytes (fetched_text f keys (unwrap_or (s.there id) 0) id tag sealed)
  command_stop (Get id) bytes (Some Absent) = tt
  command_stop (Get id) bytes (Some (Next n)) = tt
  command_stop (Get id) bytes (Some Clash) = tt
  command_stop (Get id) bytes (Some NoMemory) = tt
  command_stop (Get id) bytes (Some StoreFault) = tt
  command_stop (Get id) bytes (Some BadFrame) = tt

  exchange_stop : (c : VaultCommand) (old new : LinkSight) (stop : VaultStop) → StopsExchange f keys s c old new stop → IsOther stop
  exchange_stop c old new stop (does.Unsent is same) = link_or_memory stop _ _ tt tt is
  exchange_stop c old new stop (does.Unanswered is passed) = same_stop stop _ is tt
  exchange_stop c old new stop (does.Unread reply is passed) = same_stop stop _ is tt
  exchange_stop c old new stop (does.Unfit reply passed grammar comes) = subst OutcomeStop comes.comes (command_stop c reply comes.read)

  carried_stop : (c : VaultCommand) (old new : LinkSight) (kept kept' : Kept) (stop : VaultStop) → StopsCommand f keys s c old new kept kept' stop → IsOther stop
  carried_stop c old new kept kept' stop (does.Unprepared is same kept_same) = same_stop stop _ is tt
  carried_stop c old new kept kept' stop (does.Unkept keeping same) = keeping_stop _ kept kept' stop keeping
  carried_stop c old new kept kept' stop (does.Cut exchange now) = exchange_stop c old new stop exchange

  turn_stop : (c : VaultCommand) (line : List ℕ) (old new : Sight) (stop : VaultStop) → StopsTurn f keys s c line old new stop → IsOther stop
  turn_stop c line old new stop (InCommand fine has command same) = carried_stop c old.link new.link old.kept new.kept stop command
  turn_stop c line old new stop (Unprinted turn is taken passed kept printing) = same_stop stop _ printing.stop_is (sink_stop printing.fault)

  line_stop : (number : ℕ) (line : List ℕ) (old new : Sight) (stop : VaultStop) → StopsLine f keys s number line old new stop → IsRunStop stop
  line_stop number line old new stop (AtBadLine is bad same) = subst IsRunStop (sym is) tt
  line_stop number line old new stop (AtCommand c said turn) = other_run stop (turn_stop c line old new stop turn)

  line_bad : (number : ℕ) (line : List ℕ) (old new : Sight) (stop : VaultStop) → StopsLine f keys s number line old new stop → vault_status stop ≡ 2 → IsBadLine (vault_line_of line)
  line_bad number line old new stop (AtBadLine is bad same) e = bad
  line_bad number line old new stop (AtCommand c said turn) e = absurd (not_two stop (turn_stop c line old new stop turn) e)

  pub after_stop : (number : ℕ) (left : Option (List (List ℕ))) (old new : Sight) (stop : VaultStop) → StopsAfter f keys s number left old new stop → IsRunStop stop
  after_stop number left old new stop (InLine line left' takes stops) = line_stop number line old new stop stops
  after_stop number left old new stop (Unread why unread is same) = subst IsRunStop (sym is) tt

  -- the next line is bad
  after_bad : (number : ℕ) (left : Option (List (List ℕ))) (old new : Sight) (stop : VaultStop) → StopsAfter f keys s number left old new stop → vault_status stop ≡ 2
      → (line : List ℕ) × (left' : Option (List (List ℕ))) × TakesLine left left' line × IsBadLine (vault_line_of line)
  after_bad number left old new stop (InLine line left' takes stops) e = (line, left', takes, line_bad number line old new stop stops e)
  after_bad number left old new stop (Unread (inputs.Line n) unread is same) e = absurd unread
  after_bad number left old new stop (Unread inputs.Source unread is same) e = absurd (omega (arith, ap vault_status is, e))
  after_bad number left old new stop (Unread inputs.Memory unread is same) e = absurd (omega (arith, ap vault_status is, e))

-- a bad line is among those that were left
bad_behind : (before : List (List ℕ)) (line : List ℕ) (rest : List (List ℕ)) → IsBadLine (vault_line_of line) → HasBadLine (before ++ line ∷ rest)
bad_behind [] line rest bad = inl bad
bad_behind (first ∷ before) line rest bad = inr (bad_behind before line rest bad)

bad_among : (before : List (List ℕ)) (line : List ℕ) (left over left' : Option (List (List ℕ))) → left ≡ option_map (λ rest. before ++ rest) over → TakesLine over left' line → IsBadLine (vault_line_of line) → IfSome left HasBadLine
bad_among before line left over None taken takes bad = subst (λ (l : Option (List (List ℕ))). IfSome l HasBadLine) (sym (taken ∙ ap (option_map (λ rest. before ++ rest)) takes)) tt
bad_among before line left over (Some rest) taken takes bad =
    subst (λ (l : Option (List (List ℕ))). IfSome l HasBadLine) (sym (taken ∙ ap (option_map (λ more. before ++ more)) takes)) (bad_behind before line rest bad)

module _ (f : KeyedFn) where
  beginning_stop : (key : List ℕ) (old new : LinkSight) (kept kept' : Kept) (stop : VaultStop) → StopsBeginning f key old new kept kept' stop → IsOther stop
  beginning_stop key old new kept kept' stop (begins.NotGreeted greeting same) = greeting_stop old new stop greeting
  beginning_stop key old new kept kept' stop (begins.NotMarked said keeping) = keeping_stop _ kept kept' stop keeping

  at_stop : (key : List ℕ) (number : ℕ) (left : Option (List (List ℕ))) (old new : Sight) (stop : VaultStop) → StopsAt f key number left old new stop → IsRunStop stop
  at_stop key number left old new stop (begins.AtBeginning why unprinted) = other_run stop (beginning_stop key old.link new.link old.kept new.kept stop why)
  at_stop key number left old new stop (begins.InLines run) = after_stop f (vault_secrets f key) (shelf_of empty_shelf (commands_in run.lines.run.turns)) _ _ run.lines.between new stop run.lines.stops

  at_bad : (key : List ℕ) (number : ℕ) (left : Option (List (List ℕ))) (old new : Sight) (stop : VaultStop) → StopsAt f key number left old new stop → vault_status stop ≡ 2 → IfSome left HasBadLine
  at_bad key number left old new stop (begins.AtBeginning why unprinted) e = absurd (not_two stop (beginning_stop key old.link new.link old.kept new.kept stop why) e)
  at_bad key number left old new stop (begins.InLines run) e =
      let bad = after_bad f (vault_secrets f key) (shelf_of empty_shelf (commands_in run.lines.run.turns)) _ _ run.lines.between new stop run.lines.stops e in
      bad_among (lines_in run.lines.run.turns) bad.0 left run.lines.left_over bad.1 run.lines.run.lines bad.2 bad.3

  pub script_stop : (left : Option (List (List ℕ))) (old new : Sight) (stop : VaultStop) → StopsScript f left old new stop → IsRunStop stop
  script_stop left old new stop (AtStart is same) = subst IsRunStop (sym is) tt
  script_stop left old new stop (AtKeyLine why is misses same) = subst IsRunStop (sym is) tt
  script_stop left old new stop (UnderKey key number left_over finds stops) = at_stop key number left_over old new stop stops.at

  -- with the status 2, the script isn't in the grammar
  pub script_bad : (left : Option (List (List ℕ))) (old new : Sight) (stop : VaultStop) → StopsScript f left old new stop → vault_status stop ≡ 2 → IfSome left IsBadScript
  script_bad left old new stop (AtStart is same) e = absurd (omega (arith, ap vault_status is, e))
  script_bad left old new stop (AtKeyLine (inputs.Line n) is misses same) e = by left (misses n refl)
    where
      by : (all : Option (List (List ℕ))) → MissesKey 1 all n → IfSome all IsBadScript
      by None missing = tt
      by (Some lines) missing = subst BadAfter (sym missing) tt
  script_bad left old new stop (AtKeyLine inputs.Source is misses same) e = absurd (omega (arith, ap vault_status is, e))
  script_bad left old new stop (AtKeyLine inputs.Memory is misses same) e = absurd (omega (arith, ap vault_status is, e))
  script_bad left old new stop (UnderKey key number left_over finds stops) e = by left finds (at_bad key number left_over old new stop stops.at e)
    where
      by : (all : Option (List (List ℕ))) → FindsKey 1 all key number left_over → IfSome left_over HasBadLine → IfSome all IsBadScript
      by None found bad = tt
      by (Some lines) found bad = subst BadAfter (sym found.2) (subst (λ (l : Option (List (List ℕ))). IfSome l HasBadLine) found.1 bad)
