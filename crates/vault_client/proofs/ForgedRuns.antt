-- A run stops for a wrong tag if and only if a get received a text with one, and it was read.
use Rattle.std.proofs.Common.{◌≡◌, inl, inr, ℕ, Bool, true, false, List, None, Some, refl, sym, subst, if◌then◌else◌}
use Rattle.std.specs.Prelude.{◌⊎◌, Option, ◌==◌, unwrap_or}
use Rattle.keyed_fn.specs.KeyedFn.{KeyedFn}
use Rattle.keyed_fn.specs.VaultFormulas.{VaultSecrets, vault_secrets}
use Rattle.sse_outside.specs.Kept.{Kept}
use Rattle.vault_link.proofs.ReplyLaws.{no_other}
use Rattle.vault_server.specs.VaultFrames.{VaultReplyText, Took, BodyReply, Absent, Next, Clash, NoMemory, StoreFault, BadFrame}
use Rattle.vault_shelf.specs.Shelves.{Shelf, VaultCommand, Put, Drop, Get, empty_shelf, shelf_of}
use Rattle.vault_shelf.specs.VaultTexts.{Fetched, Opened, Oversized, Forged, fetched_text}
use Rattle.vault_script.specs.VaultShown.{VaultShownText}
use Rattle.vault_script.specs.declared.vault_stop.VaultStop.{VaultStop}
use Rattle.vault_script.specs.declared.vault_stop.VaultStop.TheVariants as stops
use Rattle.doc_vault.specs.Beginnings as begins
use Rattle.doc_vault.specs.Beginnings.{StopsAt, StopsBeginning}
use Rattle.doc_vault.specs.CommandRuns as does
use Rattle.doc_vault.specs.CommandRuns.{StopsCommand, StopsExchange, StopsKeeping}
use Rattle.doc_vault.specs.Greetings as greets
use Rattle.doc_vault.specs.Greetings.{StopsAsking, StopsGreeting}
use Rattle.doc_vault.specs.LineRuns.{InCommand, StopsTurn, Unprinted}
use Rattle.doc_vault.specs.Outcomes.{IsRead, Shows, Stops, VaultOutcome, bad_reply, command_outcome, fetched_outcome, unexpected, update_outcome}
use Rattle.doc_vault.specs.ScriptRuns.{AtBadLine, AtCommand, InLine, StopsAfter, StopsLine, Unread}
use Rattle.doc_vault.specs.Scripts.{AtKeyLine, AtStart, StopsScript, UnderKey}
use Rattle.doc_vault.specs.Sights.{LinkSight, Sight}
use Rattle.doc_vault.specs.VaultRuns.{commands_in}
use Rattle.vault_client.specs.Forgeries.{ForgedAfter, ForgedAt, ForgedCommand, ForgedExchange, ForgedLine, ForgedScript, ForgedTurn, HasWrongTag}

-- the stop is that of a wrong tag
abbrev pub IsForgedStop : VaultStop → Type 0
IsForgedStop (stops.Forged id) = Unit {0}
IsForgedStop stops.Clash = ⊥
IsForgedStop (stops.Run cause) = ⊥
IsForgedStop (stops.Unopened stop) = ⊥

-- so is that of an outcome, if it is one
abbrev ForgedOutcome : VaultOutcome → Type 0
ForgedOutcome (Shows shown) = ⊥
ForgedOutcome (Stops stop) = IsForgedStop stop

pub not_forged : {B : Type 0} (stop at : VaultStop) → stop ≡ at → (IsForgedStop at → ⊥) → IsForgedStop stop → B
not_forged stop at is never forged = absurd (never (subst IsForgedStop is forged))

pub either_not : {B : Type 0} (stop a b : VaultStop) → (IsForgedStop a → ⊥) → (IsForgedStop b → ⊥) → (stop ≡ a) ⊎ (stop ≡ b) → IsForgedStop stop → B
either_not stop a b not_a not_b (inl is) forged = not_forged stop a is not_a forged
either_not stop a b not_a not_b (inr is) forged = not_forged stop b is not_b forged

pub unexpected_not : (bytes : List ℕ) (read : Option VaultReplyText) → IsForgedStop (unexpected bytes read) → ⊥
unexpected_not bytes None forged = forged
unexpected_not bytes (Some (Took n)) forged = forged
unexpected_not bytes (Some (BodyReply tag sealed)) forged = forged
unexpected_not bytes (Some Absent) forged = forged
unexpected_not bytes (Some (Next n)) forged = forged
unexpected_not bytes (Some Clash) forged = forged
unexpected_not bytes (Some NoMemory) forged = forged
unexpected_not bytes (Some StoreFault) forged = forged
unexpected_not bytes (Some BadFrame) forged = forged

took_not : (own : Bool) (shown : VaultShownText) (bytes : List ℕ) → ForgedOutcome (if own then Shows shown else Stops (bad_reply bytes)) → ⊥
took_not true shown bytes forged = forged
took_not false shown bytes forged = forged

update_not : (n : ℕ) (shown : VaultShownText) (bytes : List ℕ) (read : Option VaultReplyText) → ForgedOutcome (update_outcome n shown bytes read) → ⊥
update_not n shown bytes None forged = forged
update_not n shown bytes (Some (Took m)) forged = took_not (m == n) shown bytes forged
update_not n shown bytes (Some (BodyReply tag sealed)) forged = forged
update_not n shown bytes (Some Absent) forged = forged
update_not n shown bytes (Some (Next m)) forged = forged
update_not n shown bytes (Some Clash) forged = forged
update_not n shown bytes (Some NoMemory) forged = forged
update_not n shown bytes (Some StoreFault) forged = forged
update_not n shown bytes (Some BadFrame) forged = forged

fetched_forged : (id : ℕ) (bytes : List ℕ) (text : Fetched) → ForgedOutcome (fetched_outcome id bytes text) → text ≡ Forged
fetched_forged id bytes (Opened text) forged = absurd forged
fetched_forged id bytes Oversized forged = absurd forged
fetched_forged id bytes Forged forged = refl

keeping_not : {B : Type 0} (records : List (List ℕ)) (kept kept' : Kept) (stop : VaultStop) → StopsKeeping records kept kept' stop → IsForgedStop stop → B
keeping_not records kept kept' stop (does.NoRoom is same) forged = not_forged stop _ is (λ no. no) forged
keeping_not records kept kept' stop (does.NotTaken fault is now) forged = not_forged stop _ is (λ no. no) forged

pub asking_not : {B : Type 0} (old new : LinkSight) (stop : VaultStop) → StopsAsking old new stop → IsForgedStop stop → B
asking_not old new stop (greets.NotAsked is same) forged = either_not stop _ _ (λ no. no) (λ no. no) is forged
asking_not old new stop (greets.NotAnswered is passed) forged = not_forged stop _ is (λ no. no) forged
asking_not old new stop (greets.NotSaid reply passed read is_read no_number is) forged = not_forged stop _ is (unexpected_not reply read) forged

greeting_not : {B : Type 0} (old new : LinkSight) (stop : VaultStop) → StopsGreeting old new stop → IsForgedStop stop → B
greeting_not old new stop (greets.NoNumber asking) forged = asking_not old new stop asking forged
greeting_not old new stop (greets.NotFirst n said other is) forged = not_forged stop _ is (λ no. no) forged

module _ (f : KeyedFn) (keys : VaultSecrets) (s : Shelf) where
  -- a reply that stops a run so is such a text
  command_forged : (c : VaultCommand) (bytes : List ℕ) (read : Option VaultReplyText) → IsRead bytes read → ForgedOutcome (command_outcome f keys s c bytes read) → HasWrongTag f keys s c bytes
  command_forged (Put id body) bytes read is forged = absurd (update_not s.sent _ bytes read forged)
  command_forged (Drop id) bytes read is forged = absurd (update_not s.sent _ bytes read forged)
  command_forged (Get id) bytes None is forged = absurd forged
  command_forged (Get id) bytes (Some (Took n)) is forged = absurd forged
  command_forged (Get id) bytes (Some (BodyReply tag sealed)) is forged = (tag, sealed, is, fetched_forged id bytes (fetched_text f keys (unwrap_or (s.there id) 0) id tag sealed) forged)
  command_forged (Get id) bytes (Some Absent) is forged = absurd forged
  command_forged (Get id) bytes (Some (Next n)) is forged = absurd forged
  command_forged (Get id) bytes (Some Clash) is forged = absurd forged
  command_forged (Get id) bytes (Some NoMemory) is forged = absurd forged
  command_forged (Get id) bytes (Some StoreFault) is forged = absurd forged
  command_forged (Get id) bytes (Some BadFrame) is forged = absurd forged

  -- and such a text stops it so
  wrong_tag : (c : VaultCommand) (bytes : List ℕ) (read : Option VaultReplyText) → IsRead bytes read → HasWrongTag f keys s c bytes → ForgedOutcome (command_outcome f keys s c bytes read)
  wrong_tag (Put id body) bytes read is wrong = absurd wrong
  wrong_tag (Drop id) bytes read is wrong = absurd wrong
  wrong_tag (Get id) bytes None is wrong = absurd (is (BodyReply wrong.0 wrong.1) wrong.2)
  wrong_tag (Get id) bytes (Some reply) is wrong =
      subst (λ (r : VaultReplyText). ForgedOutcome (command_outcome f keys s (Get id) bytes (Some r))) (no_other (BodyReply wrong.0 wrong.1) reply bytes wrong.2 is)
      (subst (λ (text : Fetched). ForgedOutcome (fetched_outcome id bytes text)) (sym wrong.3) tt)

  module _ (c : VaultCommand) where
    exchange_forged : (old new : LinkSight) (stop : VaultStop) (stopped : StopsExchange f keys s c old new stop) → IsForgedStop stop → ForgedExchange f keys s c stopped
    exchange_forged old new stop (does.Unsent is same) forged = either_not stop _ _ (λ no. no) (λ no. no) is forged
    exchange_forged old new stop (does.Unanswered is passed) forged = not_forged stop _ is (λ no. no) forged
    exchange_forged old new stop (does.Unread reply is passed) forged = not_forged stop _ is (λ no. no) forged
    exchange_forged old new stop (does.Unfit reply passed grammar comes) forged = command_forged c reply comes.read comes.is_read (subst ForgedOutcome (sym comes.comes) forged)

    exchange_wrong : (old new : LinkSight) (stop : VaultStop) (stopped : StopsExchange f keys s c old new stop) → ForgedExchange f keys s c stopped → IsForgedStop stop
    exchange_wrong old new stop (does.Unsent is same) wrong = absurd wrong
    exchange_wrong old new stop (does.Unanswered is passed) wrong = absurd wrong
    exchange_wrong old new stop (does.Unread reply is passed) wrong = absurd wrong
    exchange_wrong old new stop (does.Unfit reply passed grammar comes) wrong = subst ForgedOutcome comes.comes (wrong_tag c reply comes.read comes.is_read wrong)

    carried_forged : (old new : LinkSight) (kept kept' : Kept) (stop : VaultStop) (stopped : StopsCommand f keys s c old new kept kept' stop) → IsForgedStop stop → ForgedCommand f keys s c stopped
    carried_forged old new kept kept' stop (does.Unprepared is same kept_same) forged = not_forged stop _ is (λ no. no) forged
    carried_forged old new kept kept' stop (does.Unkept keeping same) forged = keeping_not _ kept kept' stop keeping forged
    carried_forged old new kept kept' stop (does.Cut exchange now) forged = exchange_forged old new stop exchange forged

    carried_wrong : (old new : LinkSight) (kept kept' : Kept) (stop : VaultStop) (stopped : StopsCommand f keys s c old new kept kept' stop) → ForgedCommand f keys s c stopped → IsForgedStop stop
    carried_wrong old new kept kept' stop (does.Unprepared is same kept_same) wrong = absurd wrong
    carried_wrong old new kept kept' stop (does.Unkept keeping same) wrong = absurd wrong
    carried_wrong old new kept kept' stop (does.Cut exchange now) wrong = exchange_wrong old new stop exchange wrong

    turn_forged : (line : List ℕ) (old new : Sight) (stop : VaultStop) (stopped : StopsTurn f keys s c line old new stop) → IsForgedStop stop → ForgedTurn f keys s c stopped
    turn_forged line old new stop (InCommand fine has command same) forged = carried_forged old.link new.link old.kept new.kept stop command forged
    turn_forged line old new stop (Unprinted turn is taken passed kept printing) forged = not_forged stop _ printing.stop_is (λ no. no) forged

    turn_wrong : (line : List ℕ) (old new : Sight) (stop : VaultStop) (stopped : StopsTurn f keys s c line old new stop) → ForgedTurn f keys s c stopped → IsForgedStop stop
    turn_wrong line old new stop (InCommand fine has command same) wrong = carried_wrong old.link new.link old.kept new.kept stop command wrong
    turn_wrong line old new stop (Unprinted turn is taken passed kept printing) wrong = absurd wrong

  line_forged : (number : ℕ) (line : List ℕ) (old new : Sight) (stop : VaultStop) (stopped : StopsLine f keys s number line old new stop) → IsForgedStop stop → ForgedLine f keys s stopped
  line_forged number line old new stop (AtBadLine is bad same) forged = not_forged stop _ is (λ no. no) forged
  line_forged number line old new stop (AtCommand c said turn) forged = turn_forged c line old new stop turn forged

  line_wrong : (number : ℕ) (line : List ℕ) (old new : Sight) (stop : VaultStop) (stopped : StopsLine f keys s number line old new stop) → ForgedLine f keys s stopped → IsForgedStop stop
  line_wrong number line old new stop (AtBadLine is bad same) wrong = absurd wrong
  line_wrong number line old new stop (AtCommand c said turn) wrong = turn_wrong c line old new stop turn wrong

  pub after_forged : (number : ℕ) (left : Option (List (List ℕ))) (old new : Sight) (stop : VaultStop) (stopped : StopsAfter f keys s number left old new stop) → IsForgedStop stop → ForgedAfter f keys s stopped
  after_forged number left old new stop (InLine line left' takes stops) forged = line_forged number line old new stop stops forged
  after_forged number left old new stop (Unread why unread is same) forged = not_forged stop _ is (λ no. no) forged

  pub after_wrong : (number : ℕ) (left : Option (List (List ℕ))) (old new : Sight) (stop : VaultStop) (stopped : StopsAfter f keys s number left old new stop) → ForgedAfter f keys s stopped → IsForgedStop stop
  after_wrong number left old new stop (InLine line left' takes stops) wrong = line_wrong number line old new stop stops wrong
  after_wrong number left old new stop (Unread why unread is same) wrong = absurd wrong

module _ (f : KeyedFn) where
  beginning_not : {B : Type 0} (key : List ℕ) (old new : LinkSight) (kept kept' : Kept) (stop : VaultStop) → StopsBeginning f key old new kept kept' stop → IsForgedStop stop → B
  beginning_not key old new kept kept' stop (begins.NotGreeted greeting same) forged = greeting_not old new stop greeting forged
  beginning_not key old new kept kept' stop (begins.NotMarked said keeping) forged = keeping_not _ kept kept' stop keeping forged

  at_forged : (key : List ℕ) (number : ℕ) (left : Option (List (List ℕ))) (old new : Sight) (stop : VaultStop) (stopped : StopsAt f key number left old new stop) → IsForgedStop stop → ForgedAt f key stopped
  at_forged key number left old new stop (begins.AtBeginning why unprinted) forged = beginning_not key old.link new.link old.kept new.kept stop why forged
  at_forged key number left old new stop (begins.InLines run) forged = after_forged f (vault_secrets f key) (shelf_of empty_shelf (commands_in run.lines.run.turns)) _ _ run.lines.between new stop run.lines.stops forged

  at_wrong : (key : List ℕ) (number : ℕ) (left : Option (List (List ℕ))) (old new : Sight) (stop : VaultStop) (stopped : StopsAt f key number left old new stop) → ForgedAt f key stopped → IsForgedStop stop
  at_wrong key number left old new stop (begins.AtBeginning why unprinted) wrong = absurd wrong
  at_wrong key number left old new stop (begins.InLines run) wrong = after_wrong f (vault_secrets f key) (shelf_of empty_shelf (commands_in run.lines.run.turns)) _ _ run.lines.between new stop run.lines.stops wrong

  pub script_forged : (left : Option (List (List ℕ))) (old new : Sight) (stop : VaultStop) (stopped : StopsScript f left old new stop) → IsForgedStop stop → ForgedScript f stopped
  script_forged left old new stop (AtStart is same) forged = not_forged stop _ is (λ no. no) forged
  script_forged left old new stop (AtKeyLine why is misses same) forged = not_forged stop _ is (λ no. no) forged
  script_forged left old new stop (UnderKey key number left_over finds stops) forged = at_forged key number left_over old new stop stops.at forged

  pub script_wrong : (left : Option (List (List ℕ))) (old new : Sight) (stop : VaultStop) (stopped : StopsScript f left old new stop) → ForgedScript f stopped → IsForgedStop stop
  script_wrong left old new stop (AtStart is same) wrong = absurd wrong
  script_wrong left old new stop (AtKeyLine why is misses same) wrong = absurd wrong
  script_wrong left old new stop (UnderKey key number left_over finds stops) wrong = at_wrong key number left_over old new stop stops.at wrong
