-- Bytes that come in over a connection, after those that are held.
use Rattle.std.specs.Prelude.{◌≡◌, ◌≢◌, ℕ, ◌+◌, ◌-◌, ◌*◌, ◌^◌, List, [], ◌++◌, length, Option, Result, MatchResult}
use Rattle.std.specs.Io.KnownBytes.{prepend_known, IsAtEnd}
use Rattle.tcp_service.specs.declared.conn_end.ConnEnd.{ConnEnd}
use Rattle.tcp_service.specs.declared.conn_end.ConnEnd.TheVariants.{Closed, CutShort, ReadFault, WriteFault, OutOfMemory, BadFrame, UnknownOwner, StoreFault}

-- why no bytes came
abbrev pub Stops : ConnEnd → (held : List ℕ) (left left2 : Option (List ℕ)) → Type 0
Stops Closed held left left2 = (held ≡ []) × IsAtEnd left2 × (left ≡ left2)
Stops CutShort held left left2 = (held ≢ []) × IsAtEnd left2 × (left ≡ left2)
Stops ReadFault held left left2 = left ≡ left2
Stops WriteFault held left left2 = ⊥
Stops OutOfMemory held left left2 = ⊥
Stops BadFrame held left left2 = ⊥
Stops UnknownOwner held left left2 = ⊥
Stops StoreFault held left left2 = ⊥

-- bytes were read after those held, or none came
abbrev pub IsCame : (held held2 : List ℕ) (left left2 : Option (List ℕ)) → Result Unit ConnEnd → Type 0
IsCame held held2 left left2 result = MatchResult result
    (λ _. (read : List ℕ) × (held2 ≡ held ++ read) × (left ≡ prepend_known read left2))
    (λ end. (held2 ≡ held) × Stops end held left left2)

-- why a loop over a connection ends: the bytes that are held, and twice those that the source may still give
abbrev pub bytes_to_come : List ℕ → ℕ → ℕ
bytes_to_come held handed_out = length held + 2 * (2 ^ 63 - handed_out)
