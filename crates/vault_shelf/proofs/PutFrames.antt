-- The frame of a put, by its fields.
use Rattle.std.proofs.Common.{◌≡◌, ⊎_elim, ℕ, ◌<◌, ◌≤◌, true, All, List, length, sym, ap, ◌∙◌, subst, arith}
use Rattle.std.specs.Prelude.{Err, Ok, OnOk, Result, get_or}
use Rattle.chacha_stream.proofs.Laws.{All-xored, length-xored}
use Rattle.std.proofs.Math.Dec.{leb}
use Rattle.std.proofs.lemmas.Bool.Decides.{leb_tells}
use Rattle.std.proofs.lemmas.List.{get_or_default, get_or_past}
use Rattle.vault_shelf.specs.Shelves.{Shelf}
use Rattle.vault_shelf.specs.VaultSessions.{draw_by, sealed_by}
use Rattle.keyed_fn.specs.Xored.{xored}
use Rattle.keyed_fn.specs.KeyedFn.{IsKeyedFn, KeyedFn}
use Rattle.keyed_fn.specs.VaultFormulas.{VaultSecrets, vault_pad, vault_slot, vault_tag}
use Rattle.sse_frames.specs.Frames.{IsBytes}
use Rattle.vault_server.specs.VaultFrames.{IsPut, PutFrame}
use Rattle.vault_server.specs.VaultLeaks.{put_frame}

pub put_frames : (f : KeyedFn) (keys : VaultSecrets) (s : Shelf) (n v id : ℕ) (body slot tag sealed : List ℕ) → n ≡ s.sent → v ≡ length s.puts → slot ≡ vault_slot f keys.slots v
    → tag ≡ vault_tag f keys.tags v id (sealed_by f keys v body) → sealed ≡ sealed_by f keys v body → PutFrame n slot tag sealed ≡ put_frame s.sent (draw_by f keys (length s.puts) (record { id = id; body = body }))
put_frames f keys s n v id body slot tag sealed number put slot_is tag_is sealed_is =
    (λ i. PutFrame (number i) (slot_is i) (tag_is i) (sealed_is i))
    ∙ ap (λ w. put_frame s.sent (draw_by f keys w (record { id = id; body = body }))) put

-- the fields of a put's frame are in the grammar
pub is_put : (f : KeyedFn) → IsKeyedFn f → (keys : VaultSecrets) (n v : ℕ) (body slot tag sealed : List ℕ) → n < 0xffffffff → IsBytes 16 slot → IsBytes 32 tag → length body ≤ 65536 → ((i : ℕ) → get_or body i 0 < 256)
    → sealed ≡ sealed_by f keys v body → IsPut n slot tag sealed
is_put f laws keys n v body slot tag sealed number slot_is tag_is short bytes is =
    let pad = vault_pad f keys.pads v (length body) in
    let size : length sealed ≡ length body = ap length is ∙ length-xored body pad in record {
      number = number;
      slot_is = slot_is;
      tag_is = tag_is;
      sealed_is = record {
        size = omega (arith, short, size);
        each = λ i.
            subst (λ (xs : List ℕ). get_or xs i 0 < 256) (sym is)
            (each_byte (xored body pad) (All-xored body pad (λ k d within. inside k d within) (laws.pad_bytes keys.pads v (length body)) (omega (arith, laws.pad_length keys.pads v (length body)))) i);
      };
    }
  where
    inside : (k d : ℕ) → k < length body → get_or body k d < 256
    inside k d within = subst (λ b. b < 256) (sym (get_or_default body k d 0 within)) (bytes k)

    each_byte : (xs : List ℕ) → All (λ b. b < 256) xs → (i : ℕ) → get_or xs i 0 < 256
    each_byte xs all i =
        ⊎_elim (λ (le : (leb (length xs) i ≡ true) × (length xs ≤ i)). subst (λ b. b < 256) (sym (get_or_past xs i 0 le.1)) (omega arith))
        (λ gt. all i 0 gt.1) (leb_tells (length xs) i)

pub on_ok : {A E X : Type 0} (result : Result A E) → X → OnOk result X
on_ok (Ok value) x = x
on_ok (Err fault) x = tt
