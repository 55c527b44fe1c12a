-- The bytes of a reply are those of one reply only, and are one reply as a link hands it over.
use Rattle.std.proofs.Common.{◌≡◌, ℕ, ◌+◌, ◌≤◌, List, ◌++◌, length, length-append, drop, take, sym, ap, ◌∙◌, arith}
use Rattle.std.specs.Prelude.{Some}
use Rattle.std.proofs.lemmas.List.{take-append-drop}
use Rattle.std.specs.Int.{w32, from_be_bytes}
use Rattle.sse_frames.specs.Frames.{be32}
use Rattle.sse_frames.specs.declared.fault.FrameFault.{FrameFault}
use Rattle.sized_replies.proofs.SizeLaws.{size_in_front-whole}
use Rattle.vault_server.specs.VaultFrames.{VaultReplyText, Took, BodyReply, Absent, Next, Clash, NoMemory, StoreFault, BadFrame, InVaultReplies, vault_reply_body, vault_reply_bytes, IsVaultReplyBody}
use Rattle.vault_server.specs.VaultReading.{reply_in, number_in}
use Rattle.vault_server.proofs.Fronts.{AreBytes, back_is, length-be32, number_bytes, ok_inside}
use Rattle.vault_server.proofs.ReplyGrammar.{read_back}
use Rattle.vault_link.specs.ReplySizes.{IsOneReply, IsVaultReply}

-- what follows the length of a reply is its body
pub reply_body-bytes : (reply : VaultReplyText) → drop 4 (vault_reply_bytes reply) ≡ vault_reply_body reply
reply_body-bytes reply = back_is 4 (be32 (length (vault_reply_body reply))) (vault_reply_body reply) (length-be32 (length (vault_reply_body reply)))

-- two replies with the same bytes are one
pub one_reply : (r t : VaultReplyText) → InVaultReplies r → InVaultReplies t → vault_reply_bytes r ≡ vault_reply_bytes t → r ≡ t
one_reply r t is is2 same =
    ok_inside {E = FrameFault} r t (sym (read_back r is) ∙ ap reply_in (sym (reply_body-bytes r) ∙ ap (drop 4) same ∙ reply_body-bytes t) ∙ read_back t is2)

record IsInRange (body : List ℕ) : Type 0 where
  some : 1 ≤ length body
  few : length body ≤ 65600

in_range : (reply : VaultReplyText) → InVaultReplies reply → IsInRange (vault_reply_body reply)
in_range (Took n) is = record { some = omega (arith, length-be32 n); few = omega (arith, length-be32 n) }
in_range (BodyReply tag sealed) is = record {
  some = omega arith;
  few = omega (arith, length-append tag sealed, is.tag_is.size_is, is.sealed_is.size);
}
in_range Absent is = record { some = omega arith; few = omega arith }
in_range (Next n) is = record { some = omega (arith, length-be32 n); few = omega (arith, length-be32 n) }
in_range Clash is = record { some = omega arith; few = omega arith }
in_range NoMemory is = record { some = omega arith; few = omega arith }
in_range StoreFault is = record { some = omega arith; few = omega arith }
in_range BadFrame is = record { some = omega arith; few = omega arith }

-- how many bytes a reply has
pub length-reply : (reply : VaultReplyText) → length (vault_reply_bytes reply) ≡ 4 + length (vault_reply_body reply)
length-reply reply = omega (arith, length-append (be32 (length (vault_reply_body reply))) (vault_reply_body reply), length-be32 (length (vault_reply_body reply)))

-- the bytes of a reply are one reply
pub is_one_reply : (reply : VaultReplyText) → InVaultReplies reply → IsOneReply (length (vault_reply_bytes reply)) (vault_reply_bytes reply)
is_one_reply reply is =
    let range = in_range reply is in
    record {
      size = size_in_front-whole 65600 (vault_reply_body reply) (omega arith) range.some range.few ∙ ap Some (sym (length-reply reply));
      least = omega (arith, length-reply reply);
      most = omega (arith, length-reply reply, range.few);
    }

-- a body with its length in front is its reply
pub whole_reply : (bytes head body : List ℕ) → AreBytes bytes → head ≡ take 4 bytes → body ≡ drop 4 bytes → 4 ≤ length bytes → from_be_bytes w32 head ≡ length body → (reply : VaultReplyText) → IsVaultReplyBody reply body → IsVaultReply reply bytes
whole_reply bytes head body are front back long size reply is =
    let number : number_in bytes ≡ length body = ap (from_be_bytes w32) (sym front) ∙ size in
    let spelled : take 4 bytes ≡ be32 (length body) = sym (number_bytes bytes are long) ∙ ap be32 number in record {
      grammar = is.grammar;
      spelled = sym (take-append-drop 4 bytes) ∙ (λ i. spelled i ++ sym back i) ∙ ap (λ b. be32 (length b) ++ b) is.spelled;
    }

-- bytes that are a reply are no other
pub no_other : (r t : VaultReplyText) (bytes : List ℕ) → IsVaultReply r bytes → IsVaultReply t bytes → r ≡ t
no_other r t bytes is is2 = one_reply r t is.grammar is2.grammar (sym is.spelled ∙ is2.spelled)
