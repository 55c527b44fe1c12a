-- What one connection that begins with an owner's number leaves.
use Rattle.std.proofs.Common.{◌≡◌, ◌⊎◌, inl, inr, ℕ, ◌<◌, ◌^◌, List, [], ◌++◌, get_or, refl, sym, ap, subst, ◌∙◌}
use Rattle.std.specs.Prelude.{Contains}
use Rattle.std.specs.declared.option.Option.{Option}
use Rattle.std.specs.Int.{w64, to_be_bytes}
use Rattle.std.specs.Io.KnownBytes.{append_known, prepend_known, IsAtEnd}
use Rattle.std.proofs.lemmas.List.{append-nil, get_or-map}
use Rattle.keyed_fn.specs.KeyedFn.{KeyedFn}
use Rattle.sse_outside.specs.Causes.{Rose}
use Rattle.sse_frames.specs.Replies.{OutOfPlace, reply_bytes}
use Rattle.sse_outside.specs.Fronts.{TookFront}
use Rattle.server_core.specs.State.{at_first}
use Rattle.sse_owners.specs.Owned.{OwnedFrame, state_of}
use Rattle.sse_owners.specs.OwnersView.{OwnersView, GivesAtMostOneMore, IsOwnersOf, chosen_owner, chosen_state}
use Rattle.tcp_service.specs.declared.conn_end.ConnEnd.{ConnEnd}
use Rattle.tcp_service.specs.declared.conn_end.ConnEnd.TheVariants.{CutShort, ReadFault, UnknownOwner}
use Rattle.server_connections.specs.Connections.{IsConnection, Finishes}
use Rattle.tcp_service.specs.Faults.{EndsSource, EndsSink}
use Rattle.server_connections.specs.ConnectionSteps.{IsSaidLast}
use Rattle.tcp_service.specs.Disks.{IsSteady, EndsDisk}
use Rattle.server_connections.specs.Handled.{Since}
use Rattle.tcp_service.specs.Heads.{IsCutShort}
use Rattle.server_connections.specs.OwnersLasting.{AreOwnersLasting, with_own}
use Rattle.server_connections.specs.OwnerConnections.{ServesOwner}
use Rattle.server_connections.specs.Turns.{AreTurns, frames_of, acknowledged}
use Rattle.tcp_service.proofs.Pieces.{both_read}

-- the chosen owner's server, after frames that were taken
chosen_is : (frames : List OwnedFrame) (owners : OwnersView) (owner : ℕ) (content : Option (List ℕ)) (images : List ℕ → Type 0) → IsOwnersOf frames owners content images → chosen_owner owners ≡ owner → chosen_state owners ≡ state_of owner frames
chosen_is frames owners owner content images is same =
    ap (λ l. get_or l owners.chosen at_first) is.states_are ∙ get_or-map (λ n. state_of n frames) owners.numbers owners.chosen 0 at_first is.chosen_is_one ∙ ap (λ n. state_of n frames) same

module _ (f : KeyedFn) (owners chosen owners2 : OwnersView) (owner : ℕ) (left0 left left2 written written2 : Option (List ℕ)) (content content2 : Option (List ℕ)) (images images2 : List ℕ → Type 0) (frames : List OwnedFrame) where
  pub served_owner : (end : ConnEnd) → chosen.numbers ≡ owners.numbers → chosen_owner chosen ≡ owner → owner < 2 ^ 64 → Contains owners.numbers owner → left0 ≡ prepend_known (to_be_bytes w64 owner) left
      → IsOwnersOf frames chosen content images
      → IsConnection f left left2 written written2 (λ since more. AreOwnersLasting since more chosen content images) (λ since more. AreOwnersLasting since more owners2 content2 images2) (chosen_state chosen) end (chosen_state owners2)
      → ServesOwner f owners owners2 frames left0 left2 written written2 content2 images2
  served_owner end numbers same short known head is conn =
      let since : Since = record { numbers = owners.numbers; owner = owner; taken = frames } in
      let begun : IsOwnersOf (with_own since []) chosen content images = subst (λ l. IsOwnersOf l chosen content images) (sym (append-nil frames)) is in
      let lasting : AreOwnersLasting since (acknowledged conn.turns) owners2 content2 images2 =
      conn.lasting since [] (record {
        numbers = numbers;
        owner = same;
        taken = begun;
        left = λ bytes image. subst (λ ns. GivesAtMostOneMore ns (with_own since []) bytes) numbers (begun.left bytes image);
      }) in
      let frames2 : List OwnedFrame = with_own since (acknowledged conn.turns) in
      let after : chosen_state owners2 ≡ state_of owner frames2 = chosen_is frames2 owners2 owner content2 images2 lasting.taken lasting.owner in
      record {
        frames2 = frames2;
        numbers = lasting.numbers;
        served = inr (inr (record {
          owner = owner;
          short = short;
          known = known;
          turns = conn.turns;
          rest = conn.rest;
          end = end;
          answered = subst (λ s. AreTurns f (state_of owner frames) conn.turns s) after (subst (λ s. AreTurns f s conn.turns (chosen_state owners2)) (chosen_is frames chosen owner content images is same) conn.answered);
          read_is = both_read left0 left left2 (to_be_bytes w64 owner) (frames_of conn.turns ++ conn.rest) (to_be_bytes w64 owner ++ frames_of conn.turns ++ conn.rest) head conn.read_is refl;
          finish = subst (λ s. Finishes end conn.turns s conn.rest left2 written written2) after conn.finish;
          taken_are = refl;
        }));
        owners_are = lasting.taken;
      }

module _ (f : KeyedFn) (owners owners2 : OwnersView) (owner : ℕ) (left0 left written written2 : Option (List ℕ)) (content : Option (List ℕ)) (images : List ℕ → Type 0) (frames : List OwnedFrame) where
  pub refused_owner : (end : ConnEnd) → owners2 ≡ owners → owner < 2 ^ 64 → (Contains owners.numbers owner → ⊥) → left0 ≡ prepend_known (to_be_bytes w64 owner) left → IsSaidLast written written2 OutOfPlace UnknownOwner end
      → IsOwnersOf frames owners content images → ServesOwner f owners owners2 frames left0 left written written2 content images
  refused_owner end same short unknown head said is = record {
    frames2 = frames;
    numbers = ap (λ (v : OwnersView). v.numbers) same;
    served = inr (inl (record { owner = owner; short = short; unknown = unknown; read_is = head; refused = refused said; none_taken = refl }));
    owners_are = subst (λ v. IsOwnersOf frames v content images) (sym same) is;
  }
    where
      refused : IsSaidLast written written2 OutOfPlace UnknownOwner end → (written2 ≡ append_known written (reply_bytes OutOfPlace)) ⊎ TookFront written written2 (reply_bytes OutOfPlace)
      refused (inl all) = inl all.1
      refused (inr cut) = inr cut.front

  pub cut_head : (end : ConnEnd) (faults now : ℕ) → IsCutShort 8 left0 left faults now end → IsOwnersOf frames owners content images → ServesOwner f owners owners frames left0 left written written content images
  cut_head end faults now cut is = record {
    frames2 = frames;
    numbers = refl;
    served = inl (record { read = cut.read; short = cut.short; read_is = cut.read_is; unanswered = refl; none_taken = refl });
    owners_are = is;
  }

-- The causes of an end before the first frame.

pub cut-source : (size : ℕ) (left left2 : Option (List ℕ)) (faults now : ℕ) (end : ConnEnd) → IsCutShort size left left2 faults now end → EndsSource faults now end
cut-source size left left2 faults now end cut = by cut.why
  where
    by : ((end ≡ CutShort) × IsAtEnd left2 × (now ≡ faults)) ⊎ ((end ≡ ReadFault) × Rose faults now) → EndsSource faults now end
    by (inl short) = subst (λ e. EndsSource faults now e) (sym short.0) short.2
    by (inr fault) = subst (λ e. EndsSource faults now e) (sym fault.0) fault.1

pub cut-sink : (size : ℕ) (left left2 : Option (List ℕ)) (faults now : ℕ) (end : ConnEnd) (count shortages : ℕ) → IsCutShort size left left2 faults now end → EndsSink count count shortages shortages end
cut-sink size left left2 faults now end count shortages cut = by cut.why
  where
    by : ((end ≡ CutShort) × IsAtEnd left2 × (now ≡ faults)) ⊎ ((end ≡ ReadFault) × Rose faults now) → EndsSink count count shortages shortages end
    by (inl short) = subst (λ e. EndsSink count count shortages shortages e) (sym short.0) (refl, refl)
    by (inr fault) = subst (λ e. EndsSink count count shortages shortages e) (sym fault.0) (refl, refl)

pub cut-disk : (size : ℕ) (left left2 : Option (List ℕ)) (faults now : ℕ) (end : ConnEnd) (sound : Type 0) (count : ℕ) → IsCutShort size left left2 faults now end → EndsDisk sound sound count count end
cut-disk size left left2 faults now end sound count cut = by cut.why
  where
    steady : IsSteady sound sound count count
    steady = record { count = refl; stays = λ s. s }

    by : ((end ≡ CutShort) × IsAtEnd left2 × (now ≡ faults)) ⊎ ((end ≡ ReadFault) × Rose faults now) → EndsDisk sound sound count count end
    by (inl short) = subst (λ e. EndsDisk sound sound count count e) (sym short.0) steady
    by (inr fault) = subst (λ e. EndsDisk sound sound count count e) (sym fault.0) steady
