-- Stops and starts keep what holds.
use Rattle.std.proofs.Common.{◌≡◌, ◌≤◌, Bool, true, false, [], ◌∷◌, ◌++◌, length, refl}
use Rattle.world_model.specs.Rules.{Rules, AreNumbered, IsFront}
use Rattle.world_model.specs.World.{World}
use Rattle.world_model.specs.Events.{End, Made, Crashes, Lacks, Breaks, left, in_doubt, client_gone, server_gone, client_started, server_started}
use Rattle.world_model.proofs.Held.{IsNext, IsWhole, IsHeld, whole_later, client_later, good_later, base_left, next_left, base_left_server, length_left}

module _ {C F W A : Type 0} (rules : Rules C F W A) (laws : AreNumbered rules) where
  -- the client is gone, over a disk as it was
  pub client_gone_held : (w : World C F W A) → IsHeld rules w → IsHeld rules (client_gone rules w w.client_disk)
  client_gone_held w i = record { base = i.base; is_next = i.is_next; whole = i.whole; serves = i.serves; runs = tt; good = tt }

  -- over what a crash left of it
  pub client_left_held : (w : World C F W A) (there : Bool) → IsHeld rules w → IsHeld rules (client_gone rules w (left there w.client_disk))
  client_left_held w there i = record {
    base = base_left rules laws w.client_disk.records w.client_disk.doubt w.server_disk.records there w.sent w.searches w.done i.base i.whole;
    is_next = next_left rules laws w.client_disk.records w.client_disk.doubt w.server_disk.records there w.server_disk.doubt (i.base).accepted i.whole i.is_next;
    whole = whole_none there;
    serves = i.serves;
    runs = tt;
    good = tt;
  }
    where
      whole_none : (there : Bool) → IsWhole rules (left there w.client_disk).records w.server_disk.records (left there w.client_disk).doubt
      whole_none true = tt
      whole_none false = tt

  -- over one with a record more in doubt
  pub client_doubts_held : (w : World C F W A) (c : C) → IsHeld rules w → (length (rules.frames w.client_disk.records) ≤ length w.server_disk.records) × (rules.accepts w.client_disk.records c ≡ true) → IsHeld rules (client_gone rules w (in_doubt w.client_disk c))
  client_doubts_held w c i all = record { base = i.base; is_next = i.is_next; whole = all; serves = i.serves; runs = tt; good = tt }

  -- over what a crash left of that
  pub client_crash_held : (w : World C F W A) (c : C) (there : Bool) → IsHeld rules w → (length (rules.frames w.client_disk.records) ≤ length w.server_disk.records) × (rules.accepts w.client_disk.records c ≡ true)
      → IsHeld rules (client_gone rules w (left there (in_doubt w.client_disk c)))
  client_crash_held w c there i all = client_left_held (client_gone rules w (in_doubt w.client_disk c)) there (client_doubts_held w c i all)

  pub client_started_held : (w : World C F W A) (end : End) → IsHeld rules w → IsHeld rules (client_started rules w end)
  client_started_held w (Made true) i =
      let gone = client_left_held w true i in
      record { base = gone.base; is_next = gone.is_next; whole = tt; serves = gone.serves; runs = record { commands = refl; settled = refl; phase = tt; out = tt }; good = tt }
  client_started_held w (Made false) i =
      let gone = client_left_held w false i in
      record { base = gone.base; is_next = gone.is_next; whole = tt; serves = gone.serves; runs = record { commands = refl; settled = refl; phase = tt; out = tt }; good = tt }
  client_started_held w (Crashes there) i = client_left_held w there i
  client_started_held w Lacks i = client_gone_held w i
  client_started_held w Breaks i = client_gone_held w i

  -- the server is gone, over a disk as it was
  pub server_gone_held : (w : World C F W A) → IsHeld rules w → IsHeld rules (server_gone rules w w.server_disk)
  server_gone_held w i = record { base = i.base; is_next = i.is_next; whole = i.whole; serves = tt; runs = i.runs; good = i.good }

  pub server_left_held : (w : World C F W A) (there : Bool) → IsHeld rules w → IsHeld rules (server_gone rules w (left there w.server_disk))
  server_left_held w there i =
      let h = w.client_disk.records in
      let s = w.server_disk.records in
      let s' = (left there w.server_disk).records in
      let longer : length s ≤ length s' = length_left rules laws s w.server_disk.doubt there in
      record {
        base = base_left_server rules laws h s w.server_disk.doubt there w.sent w.searches w.done i.base i.is_next;
        is_next = next_none there;
        whole = whole_later rules laws h w.client_disk.doubt s s' longer i.whole;
        serves = tt;
        runs = client_later rules laws h w.client_disk.doubt s s' w.sent w.searches w.client longer i.runs;
        good = good_later rules laws h s s' w.client w.waiting longer i.good;
      }
    where
      next_none : (there : Bool) → IsNext rules w.client_disk.records (left there w.server_disk).records (left there w.server_disk).doubt
      next_none true = tt
      next_none false = tt

  pub server_doubts_held : (w : World C F W A) (f : F) → IsHeld rules w → IsFront (w.server_disk.records ++ f ∷ []) (rules.frames w.client_disk.records) × (rules.takes w.server_disk.records f ≡ true) → IsHeld rules (server_gone rules w (in_doubt w.server_disk f))
  server_doubts_held w f i front = record { base = i.base; is_next = front; whole = i.whole; serves = tt; runs = i.runs; good = i.good }

  pub server_crash_held : (w : World C F W A) (f : F) (there : Bool) → IsHeld rules w → IsFront (w.server_disk.records ++ f ∷ []) (rules.frames w.client_disk.records) × (rules.takes w.server_disk.records f ≡ true)
      → IsHeld rules (server_gone rules w (left there (in_doubt w.server_disk f)))
  server_crash_held w f there i front = server_left_held (server_gone rules w (in_doubt w.server_disk f)) there (server_doubts_held w f i front)

  pub server_started_held : (w : World C F W A) (end : End) → IsHeld rules w → IsHeld rules (server_started rules w end)
  server_started_held w (Made true) i =
      let gone = server_left_held w true i in
      record { base = gone.base; is_next = tt; whole = gone.whole; serves = (refl, refl); runs = gone.runs; good = gone.good }
  server_started_held w (Made false) i =
      let gone = server_left_held w false i in
      record { base = gone.base; is_next = tt; whole = gone.whole; serves = (refl, refl); runs = gone.runs; good = gone.good }
  server_started_held w (Crashes there) i = server_left_held w there i
  server_started_held w Lacks i = server_gone_held w i
  server_started_held w Breaks i = server_gone_held w i
