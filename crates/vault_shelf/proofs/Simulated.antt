-- What the simulator makes of commands and of others after them.
use Rattle.std.proofs.Common.{◌≡◌, ℕ, ◌+◌, List, [], ◌∷◌, ◌++◌, length, refl, sym, ◌∙◌, Some, None}
use Rattle.std.specs.Prelude.{Option, unwrap_or}
use Rattle.std.proofs.lemmas.List.{length-append}
use Rattle.vault_server.specs.VaultFrames.{PutFrame, DropFrame, FetchFrame, Took, BodyReply}
use Rattle.vault_server.specs.VaultLeaks.{VaultLeak, FetchLeak, VaultDraw, draw_of_put, Sent, Received, simulated_from}
use Rattle.vault_shelf.specs.Shelves.{VaultCommand, Put, Drop, Get, Shelf, shelf_after, shelf_of, without_gets}
use Rattle.vault_shelf.specs.VaultLeaking.{vault_leaks}

-- of commands and others after them it makes what it makes of the commands, and then what it makes of the others
pub simulated-append : (draws : List VaultDraw) (s : Shelf) (xs ys : List VaultCommand)
    → simulated_from s.sent (length s.puts) (vault_leaks s (xs ++ ys)) draws
    ≡ simulated_from s.sent (length s.puts) (vault_leaks s xs) draws ++ simulated_from (shelf_of s xs).sent (length (shelf_of s xs).puts) (vault_leaks (shelf_of s xs) ys) draws
simulated-append draws s [] ys = refl
simulated-append draws s (Put id body ∷ xs) ys =
    let next = shelf_after s (Put id body) in
    let more : length s.puts + 1 ≡ length next.puts = sym (length-append s.puts (record { id = id; body = body } ∷ [])) in
    let d = draw_of_put draws (length s.puts) in
    let later = simulated_from (shelf_of next xs).sent (length (shelf_of next xs).puts) (vault_leaks (shelf_of next xs) ys) draws in
    (λ i. Sent (PutFrame s.sent d.slot d.tag d.sealed) ∷ Received (Took s.sent) ∷ simulated_from (s.sent + 1) (more i) (vault_leaks next (xs ++ ys)) draws)
    ∙ (λ i. Sent (PutFrame s.sent d.slot d.tag d.sealed) ∷ Received (Took s.sent) ∷ simulated-append draws next xs ys i)
    ∙ (λ i. Sent (PutFrame s.sent d.slot d.tag d.sealed) ∷ Received (Took s.sent) ∷ simulated_from (s.sent + 1) (sym more i) (vault_leaks next xs) draws ++ later)
simulated-append draws s (Drop id ∷ xs) ys =
    λ i. Sent (DropFrame s.sent (draw_of_put draws (unwrap_or (s.there id) 0)).slot) ∷ Received (Took s.sent) ∷ simulated-append draws (shelf_after s (Drop id)) xs ys i
simulated-append draws s (Get id ∷ xs) ys = by (simulated-append draws s xs ys) (s.there id)
  where
    fetched : Option ℕ → List VaultLeak
    fetched m = elim m [ None ↦ [] | Some p ↦ FetchLeak p ∷ [] ]

    by : simulated_from s.sent (length s.puts) (vault_leaks s (xs ++ ys)) draws ≡ simulated_from s.sent (length s.puts) (vault_leaks s xs) draws ++ simulated_from (shelf_of s xs).sent (length (shelf_of s xs).puts) (vault_leaks (shelf_of s xs) ys) draws
        → (m : Option ℕ) → simulated_from s.sent (length s.puts) (fetched m ++ vault_leaks s (xs ++ ys)) draws
        ≡ simulated_from s.sent (length s.puts) (fetched m ++ vault_leaks s xs) draws ++ simulated_from (shelf_of s xs).sent (length (shelf_of s xs).puts) (vault_leaks (shelf_of s xs) ys) draws
    by e None = e
    by e (Some p) = λ i. Sent (FetchFrame (draw_of_put draws p).slot) ∷ Received (BodyReply (draw_of_put draws p).tag (draw_of_put draws p).sealed) ∷ e i

-- earlier gets change nothing of what a client knows
pub shelf-without_gets : (s : Shelf) (cs : List VaultCommand) → shelf_of s (without_gets cs) ≡ shelf_of s cs
shelf-without_gets s [] = refl
shelf-without_gets s (Put id body ∷ cs) = shelf-without_gets (shelf_after s (Put id body)) cs
shelf-without_gets s (Drop id ∷ cs) = shelf-without_gets (shelf_after s (Drop id)) cs
shelf-without_gets s (Get id ∷ cs) = shelf-without_gets s cs
