-- Why a source brings no reply.
use Rattle.std.specs.Prelude.{◌≡◌, ◌⊎◌, ℕ, ◌<◌, List, length, Option, None, IfSome}
use Rattle.std.specs.Io.KnownBytes.{IsAtEnd}
use Rattle.sse_outside.specs.Causes.{Rose}
use Rattle.sized_replies.specs.Sizes.{size_in_front}

-- why no bytes came: the input is at its end, or the source's count of faults rose
abbrev pub IsDry : (left : Option (List ℕ)) (faults now : ℕ) → Type 0
IsDry left faults now = IsAtEnd left ⊎ Rose faults now

-- why so many bytes weren't read: fewer were left, or the source's count of faults rose
abbrev pub IsCutShort : (wanted : ℕ) (left : Option (List ℕ)) (faults now : ℕ) → Type 0
IsCutShort wanted left faults now = IfSome left (λ bytes. length bytes < wanted) ⊎ Rose faults now

-- why no reply was taken: what was left ends inside one, or the source's count of faults rose
abbrev pub EndsInside : (most : ℕ) (left : Option (List ℕ)) (faults now : ℕ) → Type 0
EndsInside most left faults now = IfSome left (λ bytes. size_in_front most bytes ≡ None) ⊎ Rose faults now
