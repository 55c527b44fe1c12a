-- What stands after each call of a repair, over any disk.
use Rattle.std.proofs.Common.{◌≡◌, ◌≢◌, inr, ℕ, ◌+◌, ◌<◌, List, [], ◌∷◌, ◌++◌, length, take, drop, refl, sym, ◌∙◌, ap, subst, arith, append_assoc, length-append}
use Rattle.std.specs.Prelude.{All, Some, Option}
use Rattle.std.specs.Option.{option_map}
use Rattle.std.proofs.lemmas.List.{take_at, drop_all, append-nil}
use Rattle.sse_outside.specs.Images.{overwritten, Torn, Shortened, Follows, Only}
use Rattle.sse_journal.specs.Files.{magic, front, file, IsPayload, Gives}
use Rattle.sse_journal.specs.AnyMoment.{LeavesOnly}
use Rattle.sse_journal.specs.Holds.{IsAllOf}
use Rattle.sse_journal.proofs.Moments.{started}
use Rattle.sse_journal.proofs.Torn.{cut_behind, last_commit, torn_magic, torn_first_commit}
use Rattle.sse_journal.proofs.Append.{images_from}

cut_tail : (payloads : List (List ℕ)) (commit : ℕ) (tail : List ℕ) → take (length (front payloads) + 1) (front payloads ++ commit ∷ tail) ≡ front payloads ++ commit ∷ []
cut_tail payloads commit tail =
    ap (λ (l : List ℕ). take (length (front payloads) + 1) l) (sym (append_assoc (front payloads) (commit ∷ []) tail))
    ∙ take_at (front payloads ++ commit ∷ []) tail (length (front payloads) + 1) (length-append (front payloads) (commit ∷ []))

written_last : (payloads : List (List ℕ)) (commit : ℕ) → overwritten (length (front payloads)) (0 ∷ []) (front payloads ++ commit ∷ []) ≡ file payloads
written_last payloads commit =
    ap (λ (l : List ℕ). (l ++ 0 ∷ []) ++ drop (length (front payloads) + 1) (front payloads ++ commit ∷ [])) (take_at (front payloads) (commit ∷ []) (length (front payloads)) refl)
    ∙ ap (λ (l : List ℕ). (front payloads ++ 0 ∷ []) ++ l) (drop_all (length (front payloads) + 1) (front payloads ++ commit ∷ []) (omega (arith, length-append (front payloads) (commit ∷ []))))
    ∙ append-nil (front payloads ++ 0 ∷ [])

pub unset_gives : (payloads : List (List ℕ)) (commit : ℕ) (tail : List ℕ) → All IsPayload payloads → (commit ≡ 1 → tail ≡ []) → Gives payloads (front payloads ++ commit ∷ tail)
unset_gives payloads commit tail are not_set = inr (record { payloads_are = are; commit = commit; tail = tail; are = refl; unset = not_set })

module _ {D : Type 0} (content : D → Option (List ℕ)) (images : D → List ℕ → Type 0) (moment : D → ℕ) (left_since : D → ℕ → List ℕ → Type 0) where
  -- before the first call, where the disk is all of one file that has P
  pub begun_at : (d : D) (bytes : List ℕ) (P : List ℕ → Type 0) → ((c : List ℕ) → left_since d (moment d) c → images d c) → IsAllOf bytes (content d) (images d) → P bytes → LeavesOnly moment left_since d d P
  begun_at d bytes P only_now all has = started moment left_since d P (λ c left. subst P (sym (all.durable c (only_now c left))) has)

module _ {D : Type 0} (content : D → Option (List ℕ)) (images : D → List ℕ → Type 0) (payloads : List (List ℕ)) (commit : ℕ) (tail : List ℕ) (end : ℕ) (ends : end ≡ length (front payloads)) where
  pub images_cut : (d e : D) → All IsPayload payloads → commit ≢ 1 → IsAllOf (front payloads ++ commit ∷ tail) (content d) (images d) → Follows (Shortened (end + 1)) (images d) (images e) → (c : List ℕ) → images e c → Gives payloads c
  images_cut d e are not_set all cut =
      images_from (images d) (images e) (front payloads ++ commit ∷ tail) (Shortened (end + 1)) (Gives payloads) all.durable cut (λ c step.
      cut_behind payloads commit tail c are not_set (subst (λ (n : ℕ). Shortened (n + 1) (front payloads ++ commit ∷ tail) c) ends step))

  pub content_cut : (d e : D) → IsAllOf (front payloads ++ commit ∷ tail) (content d) (images d) → content e ≡ option_map (take (end + 1)) (content d) → content e ≡ Some (front payloads ++ commit ∷ [])
  content_cut d e all cut =
      cut ∙ ap (option_map (take (end + 1))) all.reads ∙ ap (λ (n : ℕ). Some (take (n + 1) (front payloads ++ commit ∷ tail))) ends ∙ ap Some (cut_tail payloads commit tail)

  pub images_cleared : (d e : D) → All IsPayload payloads → IsAllOf (front payloads ++ commit ∷ []) (content d) (images d) → Follows (Torn end 1) (images d) (images e) → (c : List ℕ) → images e c → Gives payloads c
  images_cleared d e are all torn =
      images_from (images d) (images e) (front payloads ++ commit ∷ []) (Torn end 1) (Gives payloads) all.durable torn (λ c step.
      last_commit payloads commit c are (subst (λ (n : ℕ). Torn n 1 (front payloads ++ commit ∷ []) c) ends step))

  pub content_cleared : (d e : D) → IsAllOf (front payloads ++ commit ∷ []) (content d) (images d) → content e ≡ option_map (overwritten end (0 ∷ [])) (content d) → content e ≡ Some (file payloads)
  content_cleared d e all written =
      written ∙ ap (option_map (overwritten end (0 ∷ []))) all.reads ∙ ap (λ (n : ℕ). Some (overwritten n (0 ∷ []) (front payloads ++ commit ∷ []))) ends ∙ ap Some (written_last payloads commit)

-- a file that is too short for a journal

magic_written : (bytes : List ℕ) → length bytes < 9 → overwritten 0 magic bytes ≡ magic
magic_written bytes short = ap (λ (l : List ℕ). magic ++ l) (drop_all 8 bytes (omega (arith, short)))

commit_written : overwritten 8 (0 ∷ []) magic ≡ file []
unfolding front
commit_written = refl

module _ {D : Type 0} (content : D → Option (List ℕ)) (images : D → List ℕ → Type 0) (bytes : List ℕ) (short : length bytes < 9) where
  pub images_magic : (d e : D) → IsAllOf bytes (content d) (images d) → Follows (Torn 0 8) (images d) (images e) → (c : List ℕ) → images e c → Gives [] c
  images_magic d e all torn = images_from (images d) (images e) bytes (Torn 0 8) (Gives []) all.durable torn (λ c step. torn_magic bytes c short step)

  pub content_magic : (d e : D) → IsAllOf bytes (content d) (images d) → content e ≡ option_map (overwritten 0 magic) (content d) → content e ≡ Some magic
  content_magic d e all written = written ∙ ap (option_map (overwritten 0 magic)) all.reads ∙ ap Some (magic_written bytes short)

  pub images_first_commit : (d e : D) → Only magic (images d) → Follows (Torn 8 1) (images d) (images e) → (c : List ℕ) → images e c → Gives [] c
  images_first_commit d e only torn = images_from (images d) (images e) magic (Torn 8 1) (Gives []) only torn (λ c step. torn_first_commit magic c refl refl step)

  pub content_first_commit : (d e : D) → content d ≡ Some magic → content e ≡ option_map (overwritten 8 (0 ∷ [])) (content d) → content e ≡ Some (file [])
  content_first_commit d e reads written = written ∙ ap (option_map (overwritten 8 (0 ∷ []))) reads ∙ ap Some commit_written
