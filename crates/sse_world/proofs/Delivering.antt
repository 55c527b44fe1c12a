-- A frame that comes to the server of a world.
use Rattle.std.proofs.Common.{◌≡◌, ℕ, zero, suc, ◌+◌, ◌==◌, ◌&&◌, Bool, true, false, List, [], ◌∷◌, length, slice_get, refl, sym, ap, ◌∙◌, subst}
use Rattle.std.specs.Prelude.{Option, Some, None, IfSome, if◌then◌else◌}
use Rattle.keyed_fn.specs.KeyedFn.{KeyedFn}
use Rattle.outside_memory_disk.specs.declared.mem_disk.MemDisk.{MemDisk}
use Rattle.sse_frames.specs.Frames.{FrameText, IsFrame}
use Rattle.sse_frames.specs.Replies.{ReplyText}
use Rattle.server_core.specs.State.{at_first}
use Rattle.sse_server.specs.StoreView.{StoreView}
use Rattle.sse_server.specs.Taken.{AreTaken}
use Rattle.world_disks.specs.declared.stop.Stop as code
use Rattle.world_model.specs.Rules.{Rules}
use Rattle.world_model.specs.World.{Disk, Client, Message, Reply}
use Rattle.world_model.specs.Events.{Deliver, Leads, waiting_with}
use Rattle.world_rules.specs.Changes.{Change}
use Rattle.world_rules.specs.Promises.{StoreWorld}
use Rattle.world_rules.specs.Rules.{store_rules}
use Rattle.world_server.proofs.Leading.{delivered_leads, missing_leads}
use Rattle.world_server.specs.Replies.{CanWrite}
use Rattle.world_server.specs.Sides.{ServerPart, IsServer, Runs, Delivers}
use Rattle.world_server.specs.Waiting.{frame_of, IsMessage, IsKept, Waits, outcome_of, server_part, with_server}
use Rattle.world_server.specs.declared.replies.Replies.{Replies}
use Rattle.world_server.specs.declared.server_side.Delivered.{Delivered}
use Rattle.world_server.specs.declared.server_side.Delivered.TheVariants.{Nothing, Replied}
use Rattle.sse_world.specs.Stands.{AreMessages, IsWaiting, IsLink, waits_in, kept_reply, IsServersWork}
use Rattle.sse_world.proofs.Rules.{server_rules}

-- The message at a place.

pub message_at : (messages : List (Message FrameText)) (sent : List (List ℕ)) (i : ℕ) (bytes : List ℕ) → AreMessages messages sent → slice_get sent i ≡ Some bytes
    → (message : Message FrameText) × (slice_get messages i ≡ Some message) × IsMessage message bytes
message_at [] [] i bytes are e = let none : None ≡ Some bytes = e in cc
message_at [] (b ∷ sent) i bytes are e = absurd are
message_at (m ∷ messages) [] i bytes are e = absurd are
message_at (m ∷ messages) (b ∷ sent) zero bytes are e = let same : b ≡ bytes = some_is b bytes e in (m, refl, subst (IsMessage m) same are.0)
  where
    some_is : (x y : List ℕ) → Some x ≡ Some y → x ≡ y
    some_is x y q = cc
message_at (m ∷ messages) (b ∷ sent) (suc i) bytes are e = message_at messages sent i bytes are.1 e

pub no_message_at : (messages : List (Message FrameText)) (sent : List (List ℕ)) (i : ℕ) → AreMessages messages sent → slice_get sent i ≡ None → slice_get messages i ≡ None
no_message_at [] [] i are e = refl
no_message_at [] (b ∷ sent) i are e = absurd are
no_message_at (m ∷ messages) [] i are e = absurd are
no_message_at (m ∷ messages) (b ∷ sent) zero are e = let some : Some b ≡ None = e in cc
no_message_at (m ∷ messages) (b ∷ sent) (suc i) are e = no_message_at messages sent i are.1 e

pub as_many : (messages : List (Message FrameText)) (sent : List (List ℕ)) → AreMessages messages sent → length messages ≡ length sent
as_many [] [] are = refl
as_many [] (b ∷ sent) are = absurd are
as_many (m ∷ messages) [] are = absurd are
as_many (m ∷ messages) (b ∷ sent) are = ap suc (as_many messages sent are.1)

abbrev pub frame_sent : (message : Message FrameText) (bytes : List ℕ) → IsMessage message bytes → IsFrame bytes
frame_sent message bytes is = record { frame = frame_of message; grammar = is.grammar; spelled = is.spelled }

-- The reply that waits.

module _ (rules : Rules Change FrameText (List ℕ) (List ReplyText)) (reply : Reply (List ReplyText)) (replies : Replies) (is_kept : IsKept reply replies × CanWrite replies) where
  kept_by : (b : Bool) → IsWaiting (if b then Some reply else None) (if (b && true) && true then Some replies else None)
  kept_by true = is_kept
  kept_by false = tt

  pub waiting_kept : (is_last waits : Bool) (client : Option (Client Change (List ℕ))) (waiting : Option (Reply (List ReplyText))) (now : Option Replies) → waits ≡ waits_in client → IsWaiting waiting now
      → IsWaiting (waiting_with rules reply is_last client waiting) (kept_reply now replies (waits && is_last))
  waiting_kept true waits None waiting now e is = subst (λ b. IsWaiting waiting (kept_reply now replies (b && true))) (sym e) is
  waiting_kept true waits (Some r) None None e is = subst (λ b. IsWaiting (if r.waits then Some reply else None) (kept_reply None replies (b && true))) (sym e) (kept_by r.waits)
  waiting_kept true waits (Some r) None (Some now) e is = absurd is
  waiting_kept true waits (Some r) (Some other) None e is = absurd is
  waiting_kept true true (Some r) (Some other) (Some now) e is = is
  waiting_kept true false (Some r) (Some other) (Some now) e is = is
  waiting_kept false true client waiting now e is = is
  waiting_kept false false client waiting now e is = is

running_taken : (part : ServerPart) (store : Option StoreView) (disk : MemDisk) (stop : Option code.Stop) → IsServer part store disk stop → IfSome part.taken (λ taken. AreTaken at_first taken)
running_taken part store disk stop is = by part.disk part.taken store is.runs
  where
    by : (model : Disk FrameText) (taken : Option (List FrameText)) (store : Option StoreView) → Runs model taken store disk → IfSome taken (λ taken. AreTaken at_first taken)
    by model None store runs = tt
    by model (Some taken) None runs = absurd runs
    by model (Some taken) (Some s) runs = runs.1.is.are_taken

-- The world after it.

module _ (f : KeyedFn) (key : List ℕ) (w : StoreWorld) (place : ℕ) (store' : Option StoreView) (disk' : MemDisk) (stop' : Option code.Stop) (sent : List (List ℕ)) (waiting : Option Replies) (link : IsLink w sent waiting) where
  -- a world that the event leads to, which the new parts stand for
  abbrev pub IsAfter : Delivered → Option Replies → Type 0
  IsAfter d waiting' =
      (v : StoreWorld) × Leads (store_rules f key) w (Deliver place) (outcome_of d) v × IsServersWork w v × IsServer (server_part v) store' disk' stop' × IsLink v sent waiting'

  module _ (store : Option StoreView) (disk : MemDisk) (stop : Option code.Stop) (server : IsServer (server_part w) store disk stop) (message : Message FrameText) (bytes : List ℕ) (at : slice_get w.sent place ≡ Some message) (is : IsMessage message bytes) (d : Delivered)
      (came : (new : ServerPart) × Delivers f (server_part w) w.server (frame_of message) d new × IsServer new store' disk' stop') where
    abbrev leaves : (now : Option (Reply (List ReplyText))) × Waits f (store_rules f key) w place d now × Leads (store_rules f key) w (Deliver place) (outcome_of d) (with_server w came.0 now)
    leaves = delivered_leads f (store_rules f key) (server_rules f key) w place message d came.0 at is.kind is.grammar (running_taken (server_part w) store disk stop server) server.to_come came.1

    pub after_reply : (kept : Replies) (waits is_last : Bool) → CanWrite kept → d ≡ Replied kept → waits ≡ waits_in w.client → is_last ≡ (place + 1 == length sent) → IsAfter d (kept_reply waiting kept (waits && is_last))
    after_reply kept waits is_last can e waiting_is last_is =
        let now = leaves.0 in
        let replied : Waits f (store_rules f key) w place (Replied kept) now = subst (λ x. Waits f (store_rules f key) w place x now) e leaves.1 in
        let last : is_last ≡ (place + 1 == length w.sent) = last_is ∙ ap (λ n. place + 1 == n) (sym (as_many w.sent sent link.messages)) in
        let kept_is = waiting_kept (store_rules f key) replied.0 kept (replied.1, can) is_last waits w.client w.waiting waiting waiting_is link.waits in (
          with_server w came.0 now,
          leaves.2,
          refl,
          came.2,
          record { messages = link.messages; waits = subst (λ x. IsWaiting x (kept_reply waiting kept (waits && is_last))) (ap (λ b. waiting_with (store_rules f key) replied.0 b w.client w.waiting) last ∙ sym replied.2) kept_is },
        )

    pub after_other : ((now : Option (Reply (List ReplyText))) → Waits f (store_rules f key) w place d now → now ≡ w.waiting) → IsAfter d waiting
    after_other stays =
        (with_server w came.0 leaves.0, leaves.2, refl, came.2, record { messages = link.messages; waits = subst (λ x. IsWaiting x waiting) (sym (stays leaves.0 leaves.1)) link.waits })

pub same_after : (f : KeyedFn) (key : List ℕ) (w : StoreWorld) (place : ℕ) (store : Option StoreView) (disk : MemDisk) (stop : Option code.Stop) (sent : List (List ℕ)) (waiting : Option Replies) → IsServer (server_part w) store disk stop → IsLink w sent waiting
    → slice_get sent place ≡ None → (v : StoreWorld) × Leads (store_rules f key) w (Deliver place) (outcome_of Nothing) v × IsServersWork w v × IsServer (server_part v) store disk stop × IsLink v sent waiting
same_after f key w place store disk stop sent waiting server link none = (w, missing_leads f (store_rules f key) (server_rules f key) w place (no_message_at w.sent sent place link.messages none), refl, server, link)
