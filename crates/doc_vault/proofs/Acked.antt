-- An update that is sent again, by what the reply to it is.
use Rattle.std.proofs.Common.{◌≡◌, ◌≢◌, inl, inr, ℕ, List, [], ◌∷◌, None, Some, Ok, Err, refl, sym, ap, ◌∙◌, subst}
use Rattle.std.specs.Prelude.{◌⊎◌, ◌==◌, Bool, true, false, Option, Result, if◌then◌else◌}
use Rattle.std.specs.Result.{IsErrAnd}
use Rattle.std.proofs.lemmas.Bool.{true≢false}
use Rattle.vault_server.specs.VaultFrames.{VaultReplyText, Took, BodyReply, Absent, Next, Clash, NoMemory, StoreFault, BadFrame}
use Rattle.vault_shelf.proofs.Rows.{number_is, same_number}
use Rattle.vault_script.specs.VaultShown.{VaultShownText, Stored}
use Rattle.vault_script.specs.declared.vault_stop.VaultStop.{VaultStop}
use Rattle.doc_vault.specs.Acknowledged.{Acknowledges, NotOwn, NotReplied, NotSent, sending}
use Rattle.doc_vault.specs.Outcomes.{ComesTo, IsRead, Shows, Stops, VaultOutcome, bad_reply, judged, link_stop, memory_stop, unexpected, update_outcome}
use Rattle.doc_vault.specs.Sights.{HasPassed, LinkSight}

-- only the update's own acknowledgement shows a line
own_took : (n : ℕ) (shown : VaultShownText) (bytes : List ℕ) (read : Option VaultReplyText) → update_outcome n shown bytes read ≡ Shows shown → read ≡ Some (Took n)
own_took n shown bytes None e = cc
own_took n shown bytes (Some (Took m)) e = by (m == n) refl e
  where
    by : (t : Bool) → (m == n) ≡ t → (if t then Shows shown else Stops (bad_reply bytes)) ≡ Shows shown → Some (Took m) ≡ Some (Took n)
    by true same shows = ap (λ (k : ℕ). Some (Took k)) (number_is m n same)
    by false same shows = cc
own_took n shown bytes (Some (BodyReply tag sealed)) e = cc
own_took n shown bytes (Some Absent) e = cc
own_took n shown bytes (Some (Next m)) e = cc
own_took n shown bytes (Some Clash) e = cc
own_took n shown bytes (Some NoMemory) e = cc
own_took n shown bytes (Some StoreFault) e = cc
own_took n shown bytes (Some BadFrame) e = cc

-- and no other reply does
record IsOther (n : ℕ) (bytes : List ℕ) (read : Option VaultReplyText) (stop : VaultStop) : Type 0 where
  other : read ≢ Some (Took n)
  stop_is : stop ≡ unexpected bytes read

stopped_by : (stop at : VaultStop) → ◌≡◌ {A = VaultOutcome} (Stops at) (Stops stop) → stop ≡ at
stopped_by stop at e = cc

other_took : (n : ℕ) (shown : VaultShownText) (bytes : List ℕ) (read : Option VaultReplyText) (stop : VaultStop) → update_outcome n shown bytes read ≡ Stops stop → IsOther n bytes read stop
other_took n shown bytes None stop e = record { other = λ no. cc; stop_is = stopped_by stop _ e }
other_took n shown bytes (Some (Took m)) stop e = by (m == n) refl e
  where
    by : (t : Bool) → (m == n) ≡ t → (if t then Shows shown else Stops (bad_reply bytes)) ≡ Stops stop → IsOther n bytes (Some (Took m)) stop
    by true same stops = cc
    by false same stops = record {
      other = λ no. let is : m ≡ n = cc in true≢false (sym (subst (λ (k : ℕ). (k == n) ≡ true) (sym is) (same_number n)) ∙ same);
      stop_is = stopped_by stop (bad_reply bytes) stops;
    }
other_took n shown bytes (Some (BodyReply tag sealed)) stop e = record { other = λ no. cc; stop_is = stopped_by stop _ e }
other_took n shown bytes (Some Absent) stop e = record { other = λ no. cc; stop_is = stopped_by stop _ e }
other_took n shown bytes (Some (Next m)) stop e = record { other = λ no. cc; stop_is = stopped_by stop _ e }
other_took n shown bytes (Some Clash) stop e = record { other = λ no. cc; stop_is = stopped_by stop _ e }
other_took n shown bytes (Some NoMemory) stop e = record { other = λ no. cc; stop_is = stopped_by stop _ e }
other_took n shown bytes (Some StoreFault) stop e = record { other = λ no. cc; stop_is = stopped_by stop _ e }
other_took n shown bytes (Some BadFrame) stop e = record { other = λ no. cc; stop_is = stopped_by stop _ e }

module _ (frame : List ℕ) (n : ℕ) (old new : LinkSight) where
  -- the reply was received
  pub acknowledges-by : (reply : List ℕ) (result : Result Unit VaultStop) → HasPassed (sending frame (Some reply) ∷ []) old new
      → ((shown : VaultShownText) → ComesTo (update_outcome n shown) reply (judged shown result)) → Acknowledges frame n old new result
  acknowledges-by reply (Ok done) passed comes =
      let came = comes (Stored 0) in record {
        reply = reply;
        passed = passed;
        own = subst (IsRead reply) (own_took n (Stored 0) reply came.read came.comes) came.is_read;
      }
  acknowledges-by reply (Err stop) passed comes =
      let came = comes (Stored 0) in
      let is = other_took n (Stored 0) reply came.read stop came.comes in
      NotOwn reply passed came.read came.is_read is.other is.stop_is

  -- it wasn't
  pub acknowledges-cut : (result : Result Unit VaultStop) (at : VaultStop) → IsErrAnd result (λ stop. stop ≡ at)
      → ((at ≡ link_stop) × HasPassed (sending frame None ∷ []) old new) ⊎ (((at ≡ link_stop) ⊎ (at ≡ memory_stop)) × (new ≡ old)) → Acknowledges frame n old new result
  acknowledges-cut (Ok done) at is cut = absurd is
  acknowledges-cut (Err stop) at is (inl cut) = NotReplied (is ∙ cut.0) cut.1
  acknowledges-cut (Err stop) at is (inr (inl at_link, same)) = NotSent (inl (is ∙ at_link)) same
  acknowledges-cut (Err stop) at is (inr (inr at_memory, same)) = NotSent (inr (is ∙ at_memory)) same
