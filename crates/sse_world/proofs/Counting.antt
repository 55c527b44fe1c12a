-- What is left of a server's stop after an event, by what the event came to.
use Rattle.std.proofs.Common.{◌≡◌}
use Rattle.std.specs.Prelude.{Option, Some, None, IsSome, Result, Ok, Err, OnErr}
use Rattle.outside_memory_disk.specs.declared.mem_disk.MemDisk.{MemDisk}
use Rattle.sse_server.specs.StoreView.{StoreView}
use Rattle.world_disks.specs.declared.started.Unstarted.{Unstarted}
use Rattle.world_disks.specs.declared.started.Unstarted.TheVariants as unstarted
use Rattle.world_disks.specs.declared.stop.Stop as code
use Rattle.world_model.specs.Events as model
use Rattle.world_server.specs.Sides.{IsLeftOf}
use Rattle.world_server.specs.Waiting.{outcome_of_start}
use Rattle.sse_world.specs.Stands.{IsCountedIn, outcome_in}
use Rattle.sse_world.specs.declared.event.Outcome.{Outcome}
use Rattle.sse_world.specs.declared.event.Outcome.TheVariants.{Done, Nothing, NoMemory}

module _ (before after : MemDisk) (stop now : Option code.Stop) where
  pub counted_done : (store : Option StoreView) → IsLeftOf before stop after now → IsCountedIn Done store before stop after now
  counted_done None left = tt
  counted_done (Some s) left = left

  pub counted_gone : (store : Option StoreView) → store ≡ None → IsCountedIn Done store before stop after now
  counted_gone None gone = tt
  counted_gone (Some s) gone = cc

  pub counted_stayed : (store : Option StoreView) → IsSome store → IsCountedIn NoMemory store before stop after now
  counted_stayed None some = cc
  counted_stayed (Some s) some = tt

  pub counted_broken : (store : Option StoreView) → IsLeftOf before stop after now → IsCountedIn NoMemory store before stop after now
  counted_broken None left = left
  counted_broken (Some s) left = tt

  -- and after a start
  pub counted_start : (r : Result (Unit {0}) Unstarted) (out : Outcome) (store : Option StoreView) → outcome_in out ≡ outcome_of_start r → OnErr r (store ≡ None) → ((r ≡ Err unstarted.Stopped → ⊥) → IsLeftOf before stop after now)
      → IsCountedIn out store before stop after now
  counted_start (Ok u) Done store e gone left = counted_done store (left (λ s. cc))
  counted_start (Ok u) Nothing store e gone left = tt
  counted_start (Ok u) NoMemory store e gone left = let clash : model.NoMemory ≡ model.Happened = e in cc
  counted_start (Err unstarted.Stopped) Done store e gone left = counted_gone store gone
  counted_start (Err unstarted.Stopped) Nothing store e gone left = tt
  counted_start (Err unstarted.Stopped) NoMemory store e gone left = let clash : model.NoMemory ≡ model.Happened = e in cc
  counted_start (Err unstarted.Broken) Done store e gone left = let clash : model.Happened ≡ model.NoMemory = e in cc
  counted_start (Err unstarted.Broken) Nothing store e gone left = tt
  counted_start (Err unstarted.Broken) NoMemory store e gone left = counted_broken store (left (λ s. cc))
