-- The counts of a connection's source and sink, by how it ended.
use Rattle.std.specs.Prelude.{◌≡◌, ℕ, Result, MatchResult}
use Rattle.sse_outside.specs.Causes.{Rose}
use Rattle.tcp_service.specs.declared.conn_end.ConnEnd.{ConnEnd}
use Rattle.tcp_service.specs.declared.conn_end.ConnEnd.TheVariants.{Closed, CutShort, ReadFault, WriteFault, OutOfMemory, BadFrame, UnknownOwner, StoreFault}

-- the source's count of faults, by how the connection ended
abbrev pub EndsSource : (faults now : ℕ) → ConnEnd → Type 0
EndsSource faults now Closed = now ≡ faults
EndsSource faults now CutShort = now ≡ faults
EndsSource faults now ReadFault = Rose faults now
EndsSource faults now WriteFault = now ≡ faults
EndsSource faults now OutOfMemory = now ≡ faults
EndsSource faults now BadFrame = now ≡ faults
EndsSource faults now UnknownOwner = now ≡ faults
EndsSource faults now StoreFault = now ≡ faults

-- the sink's counts of faults and of shortages, by how the connection ended
abbrev pub EndsSink : (faults now shortages now_short : ℕ) → ConnEnd → Type 0
EndsSink faults now shortages now_short Closed = (now ≡ faults) × (now_short ≡ shortages)
EndsSink faults now shortages now_short CutShort = (now ≡ faults) × (now_short ≡ shortages)
EndsSink faults now shortages now_short ReadFault = (now ≡ faults) × (now_short ≡ shortages)
EndsSink faults now shortages now_short WriteFault = Rose faults now × (now_short ≡ shortages)
EndsSink faults now shortages now_short OutOfMemory = (now ≡ faults) × Rose shortages now_short
EndsSink faults now shortages now_short BadFrame = (now ≡ faults) × (now_short ≡ shortages)
EndsSink faults now shortages now_short UnknownOwner = (now ≡ faults) × (now_short ≡ shortages)
EndsSink faults now shortages now_short StoreFault = (now ≡ faults) × (now_short ≡ shortages)

-- the counts of a step: of a source, and of a sink
abbrev pub HasSourceCause : (faults now : ℕ) → Result Unit ConnEnd → Type 0
HasSourceCause faults now result = MatchResult result (λ _. now ≡ faults) (λ end. EndsSource faults now end)

abbrev pub HasSinkCause : (faults now shortages now_short : ℕ) → Result Unit ConnEnd → Type 0
HasSinkCause faults now shortages now_short result =
    MatchResult result (λ _. (now ≡ faults) × (now_short ≡ shortages)) (λ end. EndsSink faults now shortages now_short end)
