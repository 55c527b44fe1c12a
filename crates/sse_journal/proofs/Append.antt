-- What stands after each call of an append, over any disk.
use Rattle.std.proofs.Common.{◌≡◌, inl, ℕ, ◌+◌, List, [], ◌∷◌, ◌++◌, length, drop, refl, sym, ◌∙◌, ap, subst, arith, append_assoc, length-append, ◌≤◌}
use Rattle.std.specs.Prelude.{All, Some, IfSome, Option, None}
use Rattle.std.specs.Option.{option_map}
use Rattle.std.proofs.lemmas.List.{take_at, drop_at, take_all, drop_all, append-nil, length-take, length-drop}
use Rattle.sse_outside.specs.Images.{overwritten, Torn, Follows, Only}
use Rattle.sse_outside.proofs.DiskLaws.{torn_written}
use Rattle.sse_journal.specs.Files.{framed, record_bytes, front, file, IsPayload, Gives, GivesWithOrWithout}
use Rattle.sse_journal.specs.Holds.{IsSettled}
use Rattle.sse_journal.specs.AnyMoment.{LeavesOnly}
use Rattle.sse_journal.proofs.Moments.{started}
use Rattle.sse_journal.proofs.Once.{file_gives}
use Rattle.sse_journal.proofs.Torn.{staged, front_push, behind_commit, at_commit}

pub written_behind : (payloads : List (List ℕ)) (payload : List ℕ) → overwritten (length (front payloads) + 1) (framed payload ++ 0 ∷ []) (file payloads) ≡ staged payloads payload
written_behind payloads payload =
    ap (λ (l : List ℕ). l ++ (framed payload ++ 0 ∷ []) ++ drop (at + length (framed payload ++ 0 ∷ [])) (file payloads)) (take_all at (file payloads) (omega (arith, size)))
    ∙ ap (λ (l : List ℕ). file payloads ++ (framed payload ++ 0 ∷ []) ++ l) (drop_all (at + length (framed payload ++ 0 ∷ [])) (file payloads) (omega (arith, size)))
    ∙ append-nil (file payloads ++ (framed payload ++ 0 ∷ []))
    ∙ append_assoc (front payloads) (0 ∷ []) (framed payload ++ 0 ∷ [])
  where
    at : ℕ
    at = length (front payloads) + 1

    size : length (file payloads) ≡ length (front payloads) + 1
    size = length-append (front payloads) (0 ∷ [])

pub written_commit : (payloads : List (List ℕ)) (payload : List ℕ) → overwritten (length (front payloads)) (1 ∷ []) (staged payloads payload) ≡ file (payloads ++ payload ∷ [])
written_commit payloads payload =
    ap (λ (l : List ℕ). l ++ (1 ∷ []) ++ drop (length (front payloads) + 1) (staged payloads payload)) (take_at (front payloads) _ (length (front payloads)) refl)
    ∙ ap (λ (l : List ℕ). (front payloads ++ 1 ∷ []) ++ l) back
    ∙ append_assoc (front payloads) (1 ∷ []) (framed payload ++ 0 ∷ [])
    ∙ sym (append_assoc (front payloads) (record_bytes payload) (0 ∷ []))
    ∙ ap (λ (l : List ℕ). l ++ 0 ∷ []) (front_push payloads payload)
  where
    back : drop (length (front payloads) + 1) (staged payloads payload) ≡ framed payload ++ 0 ∷ []
    back = ap (λ (l : List ℕ). drop (length (front payloads) + 1) l) (sym (append_assoc (front payloads) (0 ∷ []) (framed payload ++ 0 ∷ [])))
        ∙ drop_at (front payloads ++ 0 ∷ []) (framed payload ++ 0 ∷ []) (length (front payloads) + 1) (length-append (front payloads) (0 ∷ []))

-- images after a call, where those before it are one file
pub images_from : (old new : List ℕ → Type 0) (bytes : List ℕ) (step : List ℕ → List ℕ → Type 0) (P : List ℕ → Type 0) → Only bytes old → Follows step old new → ((c : List ℕ) → step bytes c → P c) → (c : List ℕ) → new c → P c
images_from old new bytes step P only follows each c left =
    let from = follows c left in
    each c (subst (λ (d : List ℕ). step d c) (only from.0 from.1) from.2)

-- The calls of an append, one after the other.
module _ {D : Type 0} (content : D → Option (List ℕ)) (images : D → List ℕ → Type 0) (moment : D → ℕ) (left_since : D → ℕ → List ℕ → Type 0) (payloads : List (List ℕ)) (payload : List ℕ) (are : All IsPayload payloads) (is : IsPayload payload) (end : ℕ) (ends : end ≡ length (front payloads)) (bytes : List ℕ) (bytes_are : bytes ≡ framed payload ++ 0 ∷ []) where
  abbrev P : List ℕ → Type 0
  P = GivesWithOrWithout payloads payload

  pub begun : (d : D) → ((c : List ℕ) → left_since d (moment d) c → images d c) → IsSettled payloads (content d) (images d) → LeavesOnly moment left_since d d P
  begun d only_now settled = started moment left_since d P (λ c left. inl (subst (Gives payloads) (sym (settled.durable c (only_now c left))) (file_gives payloads are)))

  pub images_behind : (d e : D) → IsSettled payloads (content d) (images d) → Follows (Torn (end + 1) (length bytes)) (images d) (images e) → (c : List ℕ) → images e c → P c
  images_behind d e settled torn =
      images_from (images d) (images e) (file payloads) (Torn (end + 1) (length bytes)) P settled.durable torn (λ c step.
      inl (behind_commit payloads are payload is (length bytes) c (subst (λ (n : ℕ). Torn (n + 1) (length bytes) (file payloads) c) ends step)))

  pub content_behind : (d e : D) → IsSettled payloads (content d) (images d) → content e ≡ option_map (overwritten (end + 1) bytes) (content d) → content e ≡ Some (staged payloads payload)
  content_behind d e settled written =
      written ∙ ap (option_map (overwritten (end + 1) bytes)) settled.reads ∙ ap (λ (n : ℕ). Some (overwritten (n + 1) bytes (file payloads))) ends ∙ ap (λ (b : List ℕ). Some (overwritten (length (front payloads) + 1) b (file payloads))) bytes_are
      ∙ ap Some (written_behind payloads payload)

  pub images_at : (d e : D) → Only (staged payloads payload) (images d) → Follows (Torn end 1) (images d) (images e) → (c : List ℕ) → images e c → P c
  images_at d e only torn =
      images_from (images d) (images e) (staged payloads payload) (Torn end 1) P only torn (λ c step.
      at_commit payloads are payload is c (subst (λ (n : ℕ). Torn n 1 (staged payloads payload) c) ends step))

  pub content_at : (d e : D) → content d ≡ Some (staged payloads payload) → content e ≡ option_map (overwritten end (1 ∷ [])) (content d) → content e ≡ Some (file (payloads ++ payload ∷ []))
  content_at d e reads written =
      written ∙ ap (option_map (overwritten end (1 ∷ []))) reads ∙ ap (λ (n : ℕ). Some (overwritten n (1 ∷ []) (staged payloads payload))) ends ∙ ap Some (written_commit payloads payload)

-- a sync that succeeded over a disk that reads as this file
pub only_synced : (content : Option (List ℕ)) (images : List ℕ → Type 0) (bytes : List ℕ) → content ≡ Some bytes → IfSome content (λ file. Only file images) → Only bytes images
only_synced content images bytes reads durable = subst (λ (o : Option (List ℕ)). IfSome o (λ file. Only file images)) reads durable

-- where the disk tells its content: how long the file is behind a write

length-overwritten : (at : ℕ) (bytes file : List ℕ) → at ≤ length file → at + length bytes ≤ length (overwritten at bytes file)
length-overwritten at bytes file le = grind (arith, length-append, length-take, length-drop)

pub long_behind : (o : Option (List ℕ)) (at : ℕ) (bytes : List ℕ) → IfSome o (λ f. at ≤ length f) → IfSome (option_map (overwritten at bytes) o) (λ f. at + length bytes ≤ length f)
long_behind None at bytes le = tt
long_behind (Some f) at bytes le = length-overwritten at bytes f le

pub no_shorter_behind : (o : Option (List ℕ)) (at n : ℕ) (bytes : List ℕ) → IfSome o (λ f. n ≤ length f) → IfSome (option_map (overwritten at bytes) o) (λ f. n ≤ length f)
no_shorter_behind None at n bytes le = tt
no_shorter_behind (Some f) at n bytes le = omega (arith, le, (torn_written at bytes f).no_shorter)
