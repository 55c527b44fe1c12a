-- A link that plays back bytes: its observable parts.
use Rattle.std.specs.Prelude.{◌≡◌, ℕ, List, [], ◌∷◌, ◌++◌, None, Some, drop, take, refl}
use Rattle.std.specs.Coded.{Coded, code_by, coded×, coded_list, coded_ℕ}
use Rattle.sized_replies.specs.Sizes.{size_in_front}
use Rattle.sse_outside.specs.Causes.{Rose}
use Rattle.vault_link.specs.Exchanges.{Exchange, exchanges_code}

pub record ScriptState : Type 0 where
  pub exchanges : List Exchange
  -- the bytes that weren't handed out
  pub rest : List ℕ
  pub faults : ℕ

-- a frame was sent, and the reply in front of the bytes was handed over to it
pub record PlaysBack (frame reply : List ℕ) (n : ℕ) (old new : ScriptState) : Type 0 where
  pub size : size_in_front 65600 old.rest ≡ Some n
  pub reply_is : reply ≡ take n old.rest
  pub rest : new.rest ≡ drop n old.rest
  pub exchanges : new.exchanges ≡ old.exchanges ++ record { frame = frame; reply = Some reply } ∷ []

-- a frame was sent, and the bytes end before a reply to it does
pub record PlaysOut (frame : List ℕ) (old new : ScriptState) : Type 0 where
  pub ends : size_in_front 65600 old.rest ≡ None
  pub rest : new.rest ≡ old.rest
  pub exchanges : new.exchanges ≡ old.exchanges ++ record { frame = frame; reply = None } ∷ []
  pub rose : Rose old.faults new.faults

abbrev pub script_code : Coded ScriptState
script_code = code_by (List Exchange × (List ℕ × ℕ)) (coded× exchanges_code (coded× (coded_list coded_ℕ) coded_ℕ)) (λ s. (s.exchanges, (s.rest, s.faults))) (λ p. record { exchanges = p.0; rest = p.1.0; faults = p.1.1 }) (λ _. refl)
