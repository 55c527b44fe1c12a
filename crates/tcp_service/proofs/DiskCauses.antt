-- The disk over several calls.
use Rattle.std.proofs.Common.{◌≡◌, ◌⊎◌, inl, inr, ℕ, List, Ok, Err, sym, subst, ◌∙◌, arith}
use Rattle.std.specs.declared.option.Option.{Option}
use Rattle.std.specs.declared.result.Result.{Result}
use Rattle.sse_outside.specs.Causes.{Rose}
use Rattle.tcp_service.specs.Arrivals.{IsCame}
use Rattle.tcp_service.specs.Disks.{IsSteady, HasFallen, SoFar, EndsDisk, HasDiskCause, StaysClosed}
use Rattle.tcp_service.specs.declared.conn_end.ConnEnd.{ConnEnd}
use Rattle.tcp_service.specs.declared.conn_end.ConnEnd.TheVariants.{Closed, CutShort, ReadFault, WriteFault, OutOfMemory, BadFrame, UnknownOwner, StoreFault}

module _ (sound sound2 : Type 0) (faults now : ℕ) where
  -- at an end at which the sink failed, either may be
  pub cut-end : (end : ConnEnd) → (end ≡ WriteFault) ⊎ (end ≡ OutOfMemory) → SoFar sound sound2 faults now → EndsDisk sound sound2 faults now end
  cut-end end (inl is) far = subst (λ e. EndsDisk sound sound2 faults now e) (sym is) far
  cut-end end (inr is) far = subst (λ e. EndsDisk sound sound2 faults now e) (sym is) far

  -- a read leaves it as it was
  pub disk-more : (held held2 : List ℕ) (left left2 : Option (List ℕ)) (result : Result Unit ConnEnd) → IsCame held held2 left left2 result → IsSteady sound sound2 faults now → HasDiskCause sound sound2 faults now result
  disk-more held held2 left left2 (Ok _) came steady = steady
  disk-more held held2 left left2 (Err Closed) came steady = steady
  disk-more held held2 left left2 (Err CutShort) came steady = steady
  disk-more held held2 left left2 (Err ReadFault) came steady = steady
  disk-more held held2 left left2 (Err WriteFault) came steady = inl steady
  disk-more held held2 left left2 (Err OutOfMemory) came steady = inl steady
  disk-more held held2 left left2 (Err BadFrame) came steady = steady
  disk-more held held2 left left2 (Err UnknownOwner) came steady = steady
  disk-more held held2 left left2 (Err StoreFault) came steady = absurd came.1

-- one after the other
module _ (sound mid sound2 : Type 0) (faults middle now : ℕ) where
  pub steady-steady : IsSteady sound mid faults middle → IsSteady mid sound2 middle now → IsSteady sound sound2 faults now
  steady-steady a b = record { count = b.count ∙ a.count; stays = λ s. b.stays (a.stays s) }

  steady-fell : IsSteady sound mid faults middle → HasFallen mid middle now → HasFallen sound faults now
  steady-fell a b = record { later = omega (arith, a.count, b.later); rose = λ s. subst (λ k. Rose k now) a.count (b.rose (a.stays s)) }

  steady-far : IsSteady sound mid faults middle → SoFar mid sound2 middle now → SoFar sound sound2 faults now
  steady-far a (inl b) = inl (steady-steady a b)
  steady-far a (inr b) = inr (steady-fell a b)

  pub ends-after : (end : ConnEnd) → IsSteady sound mid faults middle → EndsDisk mid sound2 middle now end → EndsDisk sound sound2 faults now end
  ends-after Closed a b = steady-steady a b
  ends-after CutShort a b = steady-steady a b
  ends-after ReadFault a b = steady-steady a b
  ends-after WriteFault a b = steady-far a b
  ends-after OutOfMemory a b = steady-far a b
  ends-after BadFrame a b = steady-steady a b
  ends-after UnknownOwner a b = steady-steady a b
  ends-after StoreFault a b = steady-fell a b

-- a server that takes no update frame any more, over two calls
pub StaysClosed-then : {D : Type 0} (closed closed2 closed3 : Type 0) (disk disk2 disk3 : D) → StaysClosed closed closed2 disk disk2 → StaysClosed closed2 closed3 disk2 disk3 → StaysClosed closed closed3 disk disk3
StaysClosed-then closed closed2 closed3 disk disk2 disk3 first second = λ is.
    let one = first is in
    let two = second one.1 in
    (two.0 ∙ one.0, two.1)
