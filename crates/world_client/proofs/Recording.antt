-- What a command comes to by the append of its record.
use Rattle.std.proofs.Common.{◌≡◌, ◌≢◌, ℕ, List, Option, None, Some, Result, Err, refl, sym, ap, ◌∙◌, subst}
use Rattle.std.specs.Prelude.{IsSome, IsOkUnless}
use Rattle.std.specs.Result.{result_err}
use Rattle.client_core.specs.Plans.{without_docs}
use Rattle.client_core.specs.States.{BehindState, ClientOf}
use Rattle.outside_memory_disk.specs.declared.mem_disk.MemDisk.{MemDisk}
use Rattle.sse_journal.specs.declared.journal.Journal.{Journal}
use Rattle.world_disks.specs.Disks.{IsAppended}
use Rattle.world_disks.specs.declared.stop.Stop.{Stop}
use Rattle.world_disks.specs.declared.appended.Appended.{Appended}
use Rattle.world_disks.specs.declared.appended.Appended.TheVariants as appended
use Rattle.world_client.specs.Commanding.{IsCommanded}
use Rattle.world_client.specs.declared.commanded.Commanded.TheVariants as commanded

module _ {B E : Type 0} (Before : B → Type 0) (After : ClientOf BehindState → Type 0) (fault : Option E) (payloads : List (List ℕ)) (payload payload' : List ℕ) (stop : Option Stop) (a : Appended) (calls : ℕ) (journal : Journal) (disk : MemDisk)
    (same : payload ≡ payload') (is : IsAppended payloads payload stop a calls journal disk) where
  spelled : (x : Appended) → a ≡ x → IsAppended payloads payload' stop x calls journal disk
  spelled x e = subst (λ p. IsAppended payloads p stop x calls journal disk) same (subst (λ x. IsAppended payloads payload stop x calls journal disk) e is)

  pub done : a ≡ appended.Made → fault ≡ None → (client : ClientOf BehindState) → After client → IsCommanded Before After fault payloads payload' stop (commanded.Done client) calls journal disk
  done e none client after = let had = spelled appended.Made e in (after, none, had.0, had.1)

  pub stopped : a ≡ appended.Stopped → fault ≡ None → IsCommanded Before After fault payloads payload' stop commanded.Stopped calls journal disk
  stopped e none = let had = spelled appended.Stopped e in (none, had.0, had.1)

  pub without_memory : a ≡ appended.NoMemory → (client : B) → Before client → IsCommanded Before After fault payloads payload' stop (commanded.NoMemory client) calls journal disk
  without_memory e client before = (before, spelled appended.NoMemory e)

  pub broken : a ≡ appended.Broken → fault ≡ None → IsCommanded Before After fault payloads payload' stop commanded.Broken calls journal disk
  broken e none = let had = spelled appended.Broken e in (none, had.0, had.1)

-- what was refused has a fault
pub refused_for : {T E : Type 0} (result : Result T E) (x memory : E) (fault : Option E) → result ≡ Err x → (result ≢ Err memory → result_err result ≡ fault) → x ≢ memory → IsSome fault
refused_for {T} {E} result x memory fault is told other = shown fault (sym (ap (λ r. result_err r) is) ∙ told not)
  where
    not : result ≢ Err memory
    not same = other cc

    shown : (fault : Option E) → Some x ≡ fault → IsSome fault
    shown None p = cc
    shown (Some y) p = refl

-- and so has a setup that was refused
pub refused_setup : {T E D : Type 0} (result : Result T (E × D)) (x memory : E) (docs : D) (fault : Option E) → result ≡ Err (x, docs) → (fault ≡ None → IsOkUnless (without_docs result) memory) → x ≢ memory → IsSome fault
refused_setup {T} {E} {D} result x memory docs None is built other =
    let unless : IsOkUnless {T = T} (Err x) memory = subst (λ r. IsOkUnless (without_docs {X = T} {E = E} {D = D} r) memory) is (built refl) in
    absurd (other unless)
refused_setup {T} {E} {D} result x memory docs (Some y) is built other = refl
