-- What a vault answers of a text, and what the client makes of that.
use Rattle.std.proofs.Common.{◌≡◌, ℕ, ◌<◌, ◌≤◌, true, List, length, refl, sym, ap, ◌∙◌, arith, Some}
use Rattle.std.specs.Prelude.{bytes_eq, nat_le, option_and_then, option_map, if◌then◌else◌}
use Rattle.std.specs.List.{slice_get}
use Rattle.std.proofs.lemmas.Bool.{le-leb}
use Rattle.std.proofs.lemmas.Slice.Eq.{bytes_eq-Decides}
use Rattle.chacha_stream.proofs.Laws.{length-xored, xored-xored}
use Rattle.keyed_fn.specs.KeyedFn.{KeyedFn}
use Rattle.keyed_fn.specs.VaultFormulas.{VaultSecrets, vault_pad, vault_slot}
use Rattle.keyed_fn.specs.Xored.{xored}
use Rattle.vault_server.specs.VaultFrames.{Absent, BodyReply, FetchFrame}
use Rattle.vault_server.specs.VaultLeaks.{VaultDraw}
use Rattle.vault_server.specs.VaultState.{VaultState, handed, vault_step}
use Rattle.vault_shelf.specs.Shelves.{Deposit, Shelf, text_there}
use Rattle.vault_shelf.specs.Standing.{IsGone, LeftBy}
use Rattle.vault_shelf.specs.VaultSessions.{draw_by, sealed_by}
use Rattle.vault_shelf.specs.VaultTexts.{Forged, Opened, Oversized, fetched_text}

module _ (f : KeyedFn) (keys : VaultSecrets) where
  -- what a put draws is opened to its text
  pub fetched-draw : (put : ℕ) (deposit : Deposit) → length deposit.body ≤ 65536 → fetched_text f keys put deposit.id (draw_by f keys put deposit).tag (draw_by f keys put deposit).sealed ≡ Opened deposit.body
  fetched-draw put deposit short =
      let body = deposit.body in
      let pad = vault_pad f keys.pads put (length body) in
      let tag = (draw_by f keys put deposit).tag in
      let size : length (sealed_by f keys put body) ≡ length body = length-xored body pad in
      let right : bytes_eq tag tag ≡ true = (bytes_eq-Decides tag tag).1 refl in
      let fits : nat_le (length (sealed_by f keys put body)) 65536 ≡ true = le-leb (length (sealed_by f keys put body)) 65536 (omega (arith, size, short)) in
      (λ i. if right i then (if fits i then Opened (xored (sealed_by f keys put body) (vault_pad f keys.pads put (size i))) else Oversized) else Forged)
      ∙ ap Opened (xored-xored body pad)

  -- a get of a text that is there is answered with what its put drew, which is opened to the text
  pub record IsGot (vault : VaultState) (s : Shelf) (id put : ℕ) : Type 0 where
    pub body : List ℕ
    pub draw : VaultDraw
    pub text : text_there s id ≡ Some body
    pub reply : (vault_step vault (FetchFrame (vault_slot f keys.slots put))).1 ≡ BodyReply draw.tag draw.sealed
    pub opened : fetched_text f keys put id draw.tag draw.sealed ≡ Opened body

  pub get_gives_text : (vault : VaultState) (s : Shelf) (id put : ℕ) → LeftBy f keys vault s → s.there id ≡ Some put → IsGot vault s id put
  get_gives_text vault s id put left at =
      let was = left.there id put at in
      let draw = draw_by f keys put was.deposit in record {
        body = was.deposit.body;
        draw = draw;
        text = ap (λ m. option_and_then (λ p. option_map (λ (d : Deposit). d.body) (slice_get s.puts p)) m) at ∙ ap (option_map (λ (d : Deposit). d.body)) was.among;
        reply = ap handed was.held;
        opened = ap (λ n. fetched_text f keys put n draw.tag draw.sealed) (sym was.own) ∙ fetched-draw put was.deposit was.short;
      }

  -- a fetch of any other put's slot is answered that it is empty
  pub fetched_gone : (vault : VaultState) (s : Shelf) (put : ℕ) → LeftBy f keys vault s → put < 0xffffffff → IsGone f keys s put → (vault_step vault (FetchFrame (vault_slot f keys.slots put))).1 ≡ Absent
  fetched_gone vault s put left below gone = ap handed (left.empty put below gone)
