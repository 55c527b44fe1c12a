-- Servers that have taken nothing.
use Rattle.std.proofs.Common.{◌≡◌, ℕ, List, [], ◌∷◌, ◌++◌, length, map, refl, ap, arith, ◌∙◌}
use Rattle.server_core.specs.State.{ServerState, at_first}
use Rattle.sse_owners.specs.Owned.{states_of}

module _ {S : Type 0} (state : S → ServerState) where
  -- none of these has
  abbrev pub AreFresh : List S → Type 0
  AreFresh [] = Unit {0}
  AreFresh (one ∷ more) = (state one ≡ at_first) × AreFresh more

  pub fresh_append : (servers : List S) (one : S) → AreFresh servers → state one ≡ at_first → AreFresh (servers ++ one ∷ [])
  fresh_append [] one fresh is = (is, tt)
  fresh_append (first ∷ more) one fresh is = (fresh.0, fresh_append more one fresh.1 is)

  -- one for each owner: their states are those of owners of whom nothing was taken
  pub fresh_states : (servers : List S) (numbers : List ℕ) → length servers ≡ length numbers → AreFresh servers → map state servers ≡ states_of numbers []
  fresh_states [] [] same fresh = refl
  fresh_states [] (number ∷ numbers) same fresh = absurd (omega (arith, same))
  fresh_states (one ∷ more) [] same fresh = absurd (omega (arith, same))
  fresh_states (one ∷ more) (number ∷ numbers) same fresh =
      ap (λ first. first ∷ map state more) fresh.0 ∙ ap (λ rest. at_first ∷ rest) (fresh_states more numbers (omega (arith, same)) fresh.1)
