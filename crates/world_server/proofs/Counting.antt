-- What is left of a stop after a start of a server that didn't run.
use Rattle.std.proofs.Common.{◌≡◌, ℕ, ◌-◌, refl, sym, ◌∙◌, subst}
use Rattle.std.specs.Prelude.{Option, Result, Ok, Err}
use Rattle.outside_memory_disk.specs.MemDisk.{next_call_of}
use Rattle.outside_memory_disk.specs.declared.mem_disk.MemDisk.{MemDisk}
use Rattle.world_disks.specs.declared.started.Unstarted.{Unstarted}
use Rattle.world_disks.specs.declared.started.Unstarted.TheVariants as unstarted
use Rattle.world_disks.specs.declared.stop.Stop as code
use Rattle.world_model.specs.Events.{later}
use Rattle.world_server.proofs.Sides.{left_counted}
use Rattle.world_server.specs.Sides.{IsLeftOf, stop_in}

broken_apart : {X : Type 0} (r : Result X Unstarted) → r ≡ Err unstarted.Broken → r ≡ Err unstarted.Stopped → ⊥
broken_apart r broken stopped = cc

module _ {X : Type 0} (r : Result X Unstarted) (old mid after : MemDisk) (stop stop' now : Option code.Stop) (calls : ℕ) (disk : mid ≡ old) (same : stop' ≡ stop)
    (counted : (r ≡ Err unstarted.Stopped → ⊥) → calls ≡ next_call_of after - next_call_of mid) where
  left_opened : (r ≡ Err unstarted.Stopped → ⊥) → stop_in now ≡ later calls (stop_in stop') → IsLeftOf old stop after now
  left_opened not is = subst (λ d. IsLeftOf d stop after now) disk (subst (λ s. IsLeftOf mid s after now) same (left_counted mid after stop' now calls (counted not) is))

  pub left_started : (x : X) → r ≡ Ok x → stop_in now ≡ later calls (stop_in stop') → IsLeftOf old stop after now
  left_started x ok is = left_opened (λ e. let clash : Ok x ≡ Err unstarted.Stopped = sym ok ∙ e in cc) is

  pub left_unstarted : (why : Unstarted) → r ≡ Err why → (why ≡ unstarted.Broken → stop_in now ≡ later calls (stop_in stop')) → (why ≡ unstarted.Stopped → ⊥) → IsLeftOf old stop after now
  left_unstarted unstarted.Stopped err is not = absurd (not refl)
  left_unstarted unstarted.Broken err is not = left_opened (broken_apart r err) (is refl)
