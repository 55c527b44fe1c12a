-- Exchanges with an honest server join, and the answer to the bytes of a frame of the grammar is the vault's step.
use Rattle.std.proofs.Common.{◌≡◌, inl, inr, ℕ, None, Some, Option, List, [], ◌∷◌, ◌++◌, refl, ap, ◌∙◌, subst}
use Rattle.std.proofs.lemmas.Grind.{flat_map-append}
use Rattle.vault_server.specs.VaultAnswers.{vault_answered, step_of}
use Rattle.vault_server.specs.VaultFrames.{VaultFrameText, InVault, vault_body, vault_bytes}
use Rattle.vault_server.specs.VaultState.{VaultState, vault_step}
use Rattle.vault_server.proofs.Fronts.{back_is, length-be32}
use Rattle.vault_server.proofs.FrameGrammar.{read_back}
use Rattle.vault_link.specs.Exchanges.{Exchange, events_of, exchange_events}
use Rattle.vault_link.specs.Served.{ArePlain, AreServed, IsAnswered, IsHonestReply, IsPlain, IsStep, body_of, exchanges_from, frames_in}
use Rattle.sse_frames.specs.Frames.{be32}
use Rattle.std.specs.Prelude.{length, IsSomeAnd}

-- one exchange more
pub served-push : (before : VaultState) (exchanges : List Exchange) (between after : VaultState) (x : Exchange) → AreServed before exchanges between → IsHonestReply between x.frame x.reply after
    → AreServed before (exchanges ++ x ∷ []) after
served-push before [] between after x are is = (after, subst (λ s. IsHonestReply s x.frame x.reply after) are is, refl)
served-push before (y ∷ ys) between after x are is = (are.0, are.1, served-push are.0 ys between after x are.2 is)

-- one session and then another
pub served-append : (before between after : VaultState) (first later : List Exchange) → AreServed before first between → AreServed between later after → AreServed before (first ++ later) after
served-append before between after [] later are then = subst (λ s. AreServed s later after) are then
served-append before between after (y ∷ ys) later are then = (are.0, are.1, served-append are.0 between after ys later are.2 then)

-- what passed in the exchanges of one session and then another
pub events_of-append : (first later : List Exchange) → events_of (first ++ later) ≡ events_of first ++ events_of later
events_of-append first later = flat_map-append exchange_events first later

-- what follows the length of a frame is its body
pub body_of-bytes : (frame : VaultFrameText) → body_of (vault_bytes frame) ≡ vault_body frame
body_of-bytes frame = back_is 4 (be32 (length (vault_body frame))) (vault_body frame) (length-be32 (length (vault_body frame)))

-- the answer to a frame of the grammar
pub answered-frame : (s : VaultState) (frame : VaultFrameText) → InVault frame → vault_answered s (body_of (vault_bytes frame)) ≡ vault_step s frame
answered-frame s frame is = ap (vault_answered s) (body_of-bytes frame) ∙ ap (step_of s) (read_back frame is)

-- a reply that reports neither out of memory nor a fault of the disk is that of the vault's step
pub is_step : (before : VaultState) (frame reply : List ℕ) (after : VaultState) → IsAnswered before frame reply after → IsPlain reply → IsStep before frame reply after
is_step before frame reply after (inl step) plain = step
is_step before frame reply after (inr (inl lacks)) plain = absurd (plain.has_memory lacks.reply_is)
is_step before frame reply after (inr (inr fails)) plain = absurd (plain.has_disk fails.reply_is)

-- if all replies are such, the exchanges are those of the vault's steps
pub served-plain : (before : VaultState) (exchanges : List Exchange) (after : VaultState) → AreServed before exchanges after → ArePlain exchanges → exchanges ≡ exchanges_from before (frames_in exchanges)
served-plain before [] after are plain = refl
served-plain before (x ∷ xs) after are plain = by x.reply refl are.1 plain.0 (served-plain are.0 xs after are.2 plain.1)
  where
    by : (reply : Option (List ℕ)) → x.reply ≡ reply → IsHonestReply before x.frame reply are.0 → IsSomeAnd reply IsPlain → xs ≡ exchanges_from are.0 (frames_in xs) → x ∷ xs ≡ exchanges_from before (frames_in (x ∷ xs))
    by None is honest p rest = elim p [ ]
    by (Some reply) is honest p rest =
        let step = is_step before x.frame reply are.0 honest p in
        let later : xs ≡ exchanges_from (vault_answered before (body_of x.frame)).0 (frames_in xs) = rest ∙ ap (λ s. exchanges_from s (frames_in xs)) step.state in
        λ i. record { frame = x.frame; reply = (is ∙ ap Some step.reply_is) i } ∷ later i
