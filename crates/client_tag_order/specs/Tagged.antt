-- Tags with their positions, and the order in which they are sorted.
use Rattle.std.specs.Prelude.{◌≡◌, ℕ, ◌+◌, List, [], ◌∷◌, Option, None, Some, nat_lt, if◌then◌else◌}
use Rattle.sse_frames.specs.Order.{by_bytes}
use Rattle.client_tag_order.specs.declared.tagged.Tagged.{Tagged}

-- each tag with its position, the first at position i
abbrev pub tagged_from : ℕ → List (List ℕ) → List Tagged
tagged_from i [] = []
tagged_from i (tag ∷ tags) = record { tag = tag; position = i } ∷ tagged_from (i + 1) tags

-- these are the tags with their positions by rising tag; those with equal tags stay in their order
abbrev pub IsOrderOf : List (List ℕ) → List Tagged → Type 0
IsOrderOf tags sorted = sorted ≡ by_bytes (λ e. e.tag) (tagged_from 0 tags)

-- of two clashes the one with the lesser second position, the first where they are equal
abbrev pub least_second : Option (ℕ × ℕ) → ℕ × ℕ → Option (ℕ × ℕ)
least_second None here = Some here
least_second (Some clash) here = if nat_lt here.1 clash.1 then Some here else Some clash
