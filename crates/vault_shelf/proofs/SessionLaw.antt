-- A session of a client with a vault is what the simulator makes of leaks and draws, if puts of different numbers have different slots.
use Rattle.std.proofs.Common.{◌≡◌, ℕ, zero, suc, ◌+◌, ◌<◌, ◌≤◌, Bool, true, false, not, ◌==◌, List, [], ◌∷◌, ◌++◌, length, refl, sym, ap, ◌∙◌, subst, arith, Some, None}
use Rattle.std.specs.Prelude.{Option, is_some, unwrap_or, if◌then◌else◌}
use Rattle.std.specs.Cmp.Lexicographic.{slice_cmp}
use Rattle.std.specs.FinMap as finmap
use Rattle.std.specs.List.{slice_get}
use Rattle.std.specs.Ordering.{nat_cmp}
use Rattle.std.proofs.lemmas.Bool.{true≢false}
use Rattle.std.proofs.lemmas.List.{length-append}
use Rattle.std.proofs.lemmas.Option.{slice_get_within}
use Rattle.keyed_fn.specs.KeyedFn.{KeyedFn}
use Rattle.keyed_fn.specs.VaultFormulas.{VaultSecrets, vault_slot}
use Rattle.vault_server.specs.VaultFrames.{VaultFrameText, DropFrame, FetchFrame, AskFrame, VaultReplyText, Took, BodyReply, Next, Clash}
use Rattle.vault_server.specs.VaultLeaks.{VaultLeak, DropLeak, FetchLeak, VaultDraw, draw_of_put, put_frame, Sent, Received, simulated_from, vault_simulate}
use Rattle.vault_server.specs.VaultState.{VaultState, empty_vault, vault_refusal, vault_taken, handed, step_unless, vault_step}
use Rattle.vault_shelf.specs.Shelves.{VaultCommand, Put, Drop, Get, Deposit, Shelf, empty_shelf, set_there, shelf_after, shelf_of}
use Rattle.vault_shelf.specs.ShelfFaults.{AreAccepted}
use Rattle.vault_shelf.specs.Standing.{held_by, IsGone, IsThere, LeftBy}
use Rattle.vault_shelf.specs.VaultLeaking.{vault_leaks}
use Rattle.vault_shelf.specs.VaultSessions.{draw_by, draws_from, exchanged_with, session_from, vault_session, vault_draws, SlotsDiffer, frames_of, vault_stepped}
use Rattle.vault_shelf.proofs.Accepted.{IsAcceptedPut, accepted_put, accepted_drop}
use Rattle.vault_shelf.proofs.Rows.{slice_get-more, slice_get-last, no_some, some_inside, same_number, number_is}
use Rattle.vault_shelf.proofs.SlotMaps.{get_there, get_elsewhere, get_beside, get_gone}

-- A client and a vault that left where the client left it.

module _ (f : KeyedFn) (keys : VaultSecrets) where
  abbrev drawn : ℕ → Deposit → VaultDraw
  drawn = draw_by f keys

  abbrev slot : ℕ → List ℕ
  slot = vault_slot f keys.slots

  pub at_first : LeftBy f keys empty_vault empty_shelf
  at_first = record {
    next = refl;
    there = λ id p e. no_some p e;
    empty = λ v below gone. finmap.get-empty (slice_cmp nat_cmp) (vault_slot f keys.slots v);
    few = omega arith;
  }

  -- the slots of puts to come are empty
  free : (vault : VaultState) (s : Shelf) → LeftBy f keys vault s → (v : ℕ) → length s.puts ≤ v → v < 0xffffffff → finmap.get vault.slots (slot v) ≡ None
  free vault s left v from below =
      left.empty v below (λ id at.
      let was = left.there id v at in
      absurd (omega (arith, from, slice_get_within s.puts v was.deposit was.among)))

  -- the draws of puts by their numbers
  draws_at : (v : ℕ) (puts : List Deposit) (p : ℕ) (d : Deposit) → slice_get puts p ≡ Some d → slice_get (draws_from f keys v puts) p ≡ Some (drawn (v + p) d)
  draws_at v [] p d e = no_some d e
  draws_at v (x ∷ xs) zero d e = ap Some (ap (drawn v) (some_inside x d e) ∙ ap (λ n. drawn n d) (omega arith))
  draws_at v (x ∷ xs) (suc p) d e = draws_at (v + 1) xs p d e ∙ ap (λ n. Some (drawn n d)) (omega arith)

  -- a put stays among the puts
  puts_stay : (s : Shelf) (cs : List VaultCommand) (p : ℕ) (d : Deposit) → slice_get s.puts p ≡ Some d → slice_get (shelf_of s cs).puts p ≡ Some d
  puts_stay s [] p d e = e
  puts_stay s (Put id body ∷ cs) p d e = puts_stay (shelf_after s (Put id body)) cs p d (slice_get-more s.puts (record { id = id; body = body } ∷ []) p d e)
  puts_stay s (Drop id ∷ cs) p d e = puts_stay (shelf_after s (Drop id)) cs p d e
  puts_stay s (Get id ∷ cs) p d e = puts_stay s cs p d e

  -- so its draw is found by its number
  draw_found : (s : Shelf) (cs : List VaultCommand) (p : ℕ) (d : Deposit) → slice_get s.puts p ≡ Some d → draw_of_put (draws_from f keys 0 (shelf_of s cs).puts) p ≡ drawn p d
  draw_found s cs p d e = ap (λ found. unwrap_or found (record { slot = []; tag = []; sealed = [] })) (draws_at 0 (shelf_of s cs).puts p d (puts_stay s cs p d e)) ∙ ap (λ n. drawn n d) (omega arith)

  module _ (differ : SlotsDiffer f keys) where
    abbrev put_of : (id : ℕ) (body : List ℕ) → Deposit
    put_of id body = record { id = id; body = body }

    -- Puts.

    module _ (vault : VaultState) (s : Shelf) (agrees : LeftBy f keys vault s) (id : ℕ) (body : List ℕ) (accepted : IsAcceptedPut s id body) where
      abbrev v : ℕ
      v = length s.puts

      abbrev frame : VaultFrameText
      frame = put_frame s.sent (drawn v (put_of id body))

      below : v < 0xffffffff
      below = accepted.place

      pub put_taken : vault_step vault frame ≡ (vault_taken vault frame, Took s.sent)
      put_taken =
          let number : (s.sent == vault.next) ≡ true = ap (λ n. s.sent == n) agrees.next ∙ same_number s.sent in
          let empty : finmap.contains_key vault.slots (slot v) ≡ false = ap is_some (free vault s agrees v (omega arith) below) in
          let taken : vault_refusal vault frame ≡ None = (λ i. if number i then (if empty i then Some Clash else None) else Some (Next vault.next)) in
          ap (λ r. step_unless r vault frame) taken

      put_there : (id2 p : ℕ) → set_there s.there id (Some v) id2 ≡ Some p → IsThere f keys (vault_taken vault frame) (shelf_after s (Put id body)) id2 p
      put_there id2 p e = by (id2 == id) refl e
        where
          by : (b : Bool) → (id2 == id) ≡ b → (if b then Some v else s.there id2) ≡ Some p → IsThere f keys (vault_taken vault frame) (shelf_after s (Put id body)) id2 p
          by true same e =
              let at : v ≡ p = some_inside v p e in
              subst (IsThere f keys (vault_taken vault frame) (shelf_after s (Put id body)) id2) at (record {
                deposit = put_of id body;
                own = sym (number_is id2 id same);
                among = slice_get-last s.puts (put_of id body);
                short = accepted.short;
                held = get_there vault.slots (slot v) (held_by (drawn v (put_of id body)));
              })
          by false other e =
              let was = agrees.there id2 p e in
              let within : p < length s.puts = slice_get_within s.puts p was.deposit was.among in
              record {
                deposit = was.deposit;
                own = was.own;
                among = slice_get-more s.puts (put_of id body ∷ []) p was.deposit was.among;
                short = was.short;
                held = get_elsewhere vault.slots (slot v) (slot p) (held_by (drawn v (put_of id body))) (λ same. absurd (omega (arith, within, differ p v (omega (arith, within, below)) below same))) ∙ was.held;
              }

      -- an identifier that was there is another one, so it is there as before
      put_gone : (w : ℕ) → IsGone f keys (shelf_after s (Put id body)) w → IsGone f keys s w
      put_gone w gone other at = by (other == id) refl
        where
          by : (b : Bool) → (other == id) ≡ b → ⊥
          by true e =
              let same : other ≡ id = number_is other id e in
              true≢false (sym (ap is_some (ap s.there (sym same) ∙ at)) ∙ accepted.free)
          by false e = gone other ((λ i. if e i then Some v else s.there other) ∙ at)

      put_leaves : LeftBy f keys (vault_taken vault frame) (shelf_after s (Put id body))
      put_leaves = record {
        next = ap (λ n. n + 1) agrees.next;
        there = put_there;
        empty = λ w few gone.
            let apart_slots : slot w ≡ slot v → ⊥ = λ same. gone id ((λ i. if same_number id i then Some v else s.there id) ∙ ap Some (sym (differ w v few below same))) in
            get_elsewhere vault.slots (slot v) (slot w) (held_by (drawn v (put_of id body))) apart_slots ∙ agrees.empty w few (put_gone w gone);
        few = omega (arith, below, length-append s.puts (put_of id body ∷ []));
      }

    -- Drops.

    module _ (vault : VaultState) (s : Shelf) (agrees : LeftBy f keys vault s) (id p : ℕ) (at : s.there id ≡ Some p) where
      abbrev drop_frame : VaultFrameText
      drop_frame = DropFrame s.sent (slot p)

      was : IsThere f keys vault s id p
      was = agrees.there id p at

      pub drop_taken : vault_step vault drop_frame ≡ (vault_taken vault drop_frame, Took s.sent)
      drop_taken =
          let number : (s.sent == vault.next) ≡ true = ap (λ n. s.sent == n) agrees.next ∙ same_number s.sent in
          let full : not (finmap.contains_key vault.slots (slot p)) ≡ false = ap (λ h. not (is_some h)) was.held in
          let taken : vault_refusal vault drop_frame ≡ None = (λ i. if number i then (if full i then Some Clash else None) else Some (Next vault.next)) in
          ap (λ r. step_unless r vault drop_frame) taken

      drop_there : (id2 q : ℕ) → set_there s.there id None id2 ≡ Some q → IsThere f keys (vault_taken vault drop_frame) (shelf_after s (Drop id)) id2 q
      drop_there id2 q e = by (id2 == id) refl e
        where
          by : (b : Bool) → (id2 == id) ≡ b → (if b then None else s.there id2) ≡ Some q → IsThere f keys (vault_taken vault drop_frame) (shelf_after s (Drop id)) id2 q
          by true same e = no_some q e
          by false other e =
              let its = agrees.there id2 q e in
              let p_within : p < length s.puts = slice_get_within s.puts p was.deposit was.among in
              let q_within : q < length s.puts = slice_get_within s.puts q its.deposit its.among in
              let apart_ids : q ≡ p → ⊥ = (λ same.
              let one : its.deposit ≡ was.deposit = some_inside its.deposit was.deposit (sym its.among ∙ ap (slice_get s.puts) same ∙ was.among) in
              let ids : id2 ≡ id = sym its.own ∙ ap (λ (d : Deposit). d.id) one ∙ was.own in
              true≢false (sym (same_number id) ∙ ap (λ n. n == id) (sym ids) ∙ other)) in
              record {
                deposit = its.deposit;
                own = its.own;
                among = its.among;
                short = its.short;
                held = get_beside vault.slots (slot p) (slot q) (λ same. apart_ids (differ q p (omega (arith, q_within, agrees.few)) (omega (arith, p_within, agrees.few)) same)) ∙ its.held;
              }

      p_within : p < length s.puts
      p_within = slice_get_within s.puts p was.deposit was.among

      drop_empty : (w : ℕ) → w < 0xffffffff → IsGone f keys (shelf_after s (Drop id)) w → finmap.get (vault_taken vault drop_frame).slots (slot w) ≡ None
      drop_empty w below gone = by (w == p) refl
        where
          by : (b : Bool) → (w == p) ≡ b → finmap.get (finmap.remove vault.slots (slot p)) (slot w) ≡ None
          by true e = ap (λ n. finmap.get (finmap.remove vault.slots (slot p)) (slot n)) (number_is w p e) ∙ get_gone vault.slots (slot p)
          by false e =
              get_beside vault.slots (slot p) (slot w) (λ same. differs (differ w p below (omega (arith, p_within, agrees.few)) same))
              ∙ agrees.empty w below (λ other there. still other (other == id) refl there)
            where
              differs : w ≡ p → ⊥
              differs same = true≢false (sym (same_number p) ∙ ap (λ n. n == p) (sym same) ∙ e)

              still : (other : ℕ) (b2 : Bool) → (other == id) ≡ b2 → s.there other ≡ Some w → ⊥
              still other true e2 there = differs (some_inside w p (sym there ∙ ap s.there (number_is other id e2) ∙ at))
              still other false e2 there = gone other ((λ i. if e2 i then None else s.there other) ∙ there)

      drop_leaves : LeftBy f keys (vault_taken vault drop_frame) (shelf_after s (Drop id))
      drop_leaves = record { next = ap (λ n. n + 1) agrees.next; there = drop_there; empty = drop_empty; few = agrees.few }

    -- Whole sessions.

    -- what is sent and simulated for the next command, and then what is for the others
    pub session_is_simulated_from : (cs : List VaultCommand) (vault : VaultState) (s : Shelf) → LeftBy f keys vault s → AreAccepted s cs
        → session_from f keys vault s cs ≡ simulated_from s.sent (length s.puts) (vault_leaks s cs) (draws_from f keys 0 (shelf_of s cs).puts)
    session_is_simulated_from [] vault s left are = refl
    session_is_simulated_from (Put id body ∷ cs) vault s left are =
        let frame = put_frame s.sent (drawn (length s.puts) (put_of id body)) in
        let next = shelf_after s (Put id body) in
        let draws = draws_from f keys 0 (shelf_of next cs).puts in
        let leaks = vault_leaks next cs in
        let taken = put_taken vault s left id body (accepted_put s id body are.0) in
        let more : length next.puts ≡ length s.puts + 1 = length-append s.puts (put_of id body ∷ []) in
        let there : LeftBy f keys (vault_taken vault frame) next = put_leaves vault s left id body (accepted_put s id body are.0) in
        let draw : draw_of_put draws (length s.puts) ≡ drawn (length s.puts) (put_of id body) =
        draw_found next cs (length s.puts) (put_of id body) (slice_get-last s.puts (put_of id body)) in
        (λ i. Sent frame ∷ Received (taken i).1 ∷ session_from f keys (taken i).0 next cs)
        ∙ (λ i. Sent (put_frame s.sent (sym draw i)) ∷ Received (Took s.sent) ∷ session_is_simulated_from cs (vault_taken vault frame) next there are.1 i)
        ∙ (λ i. Sent (put_frame s.sent (draw_of_put draws (length s.puts))) ∷ Received (Took s.sent) ∷ simulated_from (s.sent + 1) (more i) leaks draws)
    session_is_simulated_from (Drop id ∷ cs) vault s left are =
        let accepted = accepted_drop s id are.0 in
        let p = accepted.put in
        let next = shelf_after s (Drop id) in
        let draws = draws_from f keys 0 (shelf_of next cs).puts in
        let leaks = vault_leaks next cs in
        let frame = DropFrame s.sent (slot p) in
        let taken = drop_taken vault s left id p accepted.there in
        let was = left.there id p accepted.there in
        let left2 : LeftBy f keys (vault_taken vault frame) next = drop_leaves vault s left id p accepted.there in
        let draw : draw_of_put draws p ≡ drawn p was.deposit = draw_found next cs p was.deposit was.among in
        ap (λ m. exchanged_with f keys vault (DropFrame s.sent (slot (unwrap_or m 0)) ∷ []) (λ now. session_from f keys now next cs)) accepted.there
        ∙ (λ i. Sent frame ∷ Received (taken i).1 ∷ session_from f keys (taken i).0 next cs)
        ∙ (λ i. Sent (DropFrame s.sent (sym draw i).slot) ∷ Received (Took s.sent) ∷ session_is_simulated_from cs (vault_taken vault frame) next left2 are.1 i)
        ∙ ap (λ m. simulated_from s.sent (length s.puts) (DropLeak (unwrap_or m 0) ∷ leaks) draws) (sym accepted.there)
    session_is_simulated_from (Get id ∷ cs) vault s left are = by (session_is_simulated_from cs vault s left are.1) (s.there id) refl
      where
        draws : List VaultDraw
        draws = draws_from f keys 0 (shelf_of s cs).puts

        leaks : List VaultLeak
        leaks = vault_leaks s cs

        asked : Option ℕ → List VaultFrameText
        asked m = elim m [ None ↦ [] | Some p ↦ FetchFrame (slot p) ∷ [] ]

        fetched : Option ℕ → List VaultLeak
        fetched m = elim m [ None ↦ [] | Some p ↦ FetchLeak p ∷ [] ]

        by : session_from f keys vault s cs ≡ simulated_from s.sent (length s.puts) leaks draws → (m : Option ℕ) → s.there id ≡ m → exchanged_with f keys vault (asked (s.there id)) (λ now. session_from f keys now s cs)
            ≡ simulated_from s.sent (length s.puts) (fetched (s.there id) ++ leaks) draws
        by after None e =
            ap (λ m. exchanged_with f keys vault (asked m) (λ now. session_from f keys now s cs)) e
            ∙ after
            ∙ ap (λ m. simulated_from s.sent (length s.puts) (fetched m ++ leaks) draws) (sym e)
        by after (Some p) e =
            let was = left.there id p e in
            let draw : draw_of_put draws p ≡ drawn p was.deposit = draw_found s cs p was.deposit was.among in
            ap (λ m. exchanged_with f keys vault (asked m) (λ now. session_from f keys now s cs)) e
            ∙ (λ i. Sent (FetchFrame (slot p)) ∷ Received (handed (was.held i)) ∷ after i)
            ∙ (λ i. Sent (FetchFrame (sym draw i).slot) ∷ Received (BodyReply (sym draw i).tag (sym draw i).sealed) ∷ simulated_from s.sent (length s.puts) leaks draws)
            ∙ ap (λ m. simulated_from s.sent (length s.puts) (fetched m ++ leaks) draws) (sym e)

    -- all that passes between the client and a vault that holds nothing is what the simulator makes of leaks and draws
    pub session_is_simulated : (cs : List VaultCommand) → AreAccepted empty_shelf cs → vault_session f keys cs ≡ vault_simulate (vault_leaks empty_shelf cs) (vault_draws f keys cs)
    session_is_simulated cs are =
        ap (λ rest. Sent AskFrame ∷ Received (Next 0) ∷ rest)
        (session_is_simulated_from cs empty_vault empty_shelf (at_first) are)

    -- A session that goes on with a vault that left where commands of earlier sessions left it.

    -- where the vault left after commands' frames
    pub stands_after : (cs : List VaultCommand) (vault : VaultState) (s : Shelf) → LeftBy f keys vault s → AreAccepted s cs → LeftBy f keys (vault_stepped vault (frames_of f keys s cs)) (shelf_of s cs)
    stands_after [] vault s left are = left
    stands_after (Put id body ∷ cs) vault s left are =
        let frame = put_frame s.sent (drawn (length s.puts) (put_of id body)) in
        let next = shelf_after s (Put id body) in
        let taken = put_taken vault s left id body (accepted_put s id body are.0) in
        let more : length next.puts ≡ length s.puts + 1 = length-append s.puts (put_of id body ∷ []) in
        let there : LeftBy f keys (vault_taken vault frame) next = put_leaves vault s left id body (accepted_put s id body are.0) in
        subst (λ (now : VaultState × VaultReplyText). LeftBy f keys (vault_stepped now.0 (frames_of f keys next cs)) (shelf_of next cs)) (sym taken) (stands_after cs (vault_taken vault frame) next there are.1)
    stands_after (Drop id ∷ cs) vault s left are =
        let accepted = accepted_drop s id are.0 in
        let next = shelf_after s (Drop id) in
        let frame = DropFrame s.sent (slot accepted.put) in
        let taken = drop_taken vault s left id accepted.put accepted.there in
        let left2 : LeftBy f keys (vault_taken vault frame) next = drop_leaves vault s left id accepted.put accepted.there in
        subst (λ (m : Option ℕ). LeftBy f keys (vault_stepped vault (DropFrame s.sent (slot (unwrap_or m 0)) ∷ frames_of f keys next cs)) (shelf_of next cs)) (sym accepted.there)
        (subst (λ (now : VaultState × VaultReplyText). LeftBy f keys (vault_stepped now.0 (frames_of f keys next cs)) (shelf_of next cs)) (sym taken) (stands_after cs (vault_taken vault frame) next left2 are.1))
    stands_after (Get id ∷ cs) vault s left are = by (stands_after cs vault s left are.1) (s.there id)
      where
        asked : Option ℕ → List VaultFrameText
        asked m = elim m [ None ↦ [] | Some p ↦ FetchFrame (slot p) ∷ [] ]

        by : LeftBy f keys (vault_stepped vault (frames_of f keys s cs)) (shelf_of s cs) → (m : Option ℕ) → LeftBy f keys (vault_stepped vault (asked m ++ frames_of f keys s cs)) (shelf_of s cs)
        by after None = after
        by after (Some p) = after

    -- what passes then is what the simulator makes of the rest, by the draws of all
    pub session_goes_on : (before later : List VaultCommand) → AreAccepted empty_shelf before → AreAccepted (shelf_of empty_shelf before) later
        → session_from f keys (vault_stepped empty_vault (frames_of f keys empty_shelf before)) (shelf_of empty_shelf before) later
        ≡ simulated_from (shelf_of empty_shelf before).sent (length (shelf_of empty_shelf before).puts) (vault_leaks (shelf_of empty_shelf before) later)
        (draws_from f keys 0 (shelf_of (shelf_of empty_shelf before) later).puts)
    session_goes_on before later are accepted_later =
        session_is_simulated_from later (vault_stepped empty_vault (frames_of f keys empty_shelf before)) (shelf_of empty_shelf before)
        (stands_after before empty_vault empty_shelf (at_first) are) accepted_later
