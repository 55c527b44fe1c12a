-- The texts of the traffic that a client sends.
use Rattle.std.specs.Prelude.{ℕ, Bool, false, List, [], ◌∷◌, drop, nat_lt}

-- whether a body begins with the kind of a frame, which is below 0x80: those of replies are not
abbrev pub is_frame_body : List ℕ → Bool
is_frame_body [] = false
is_frame_body (kind ∷ rest) = nat_lt kind 0x80

-- whether a text, its body behind four bytes of length, is a client's
abbrev pub is_sent : List ℕ → Bool
is_sent text = is_frame_body (drop 4 text)
