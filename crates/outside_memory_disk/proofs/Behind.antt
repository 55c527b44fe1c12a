-- What a crash may leave behind one change more.
use Rattle.std.proofs.Common.{◌≡◌, ℕ, List, [], ◌∷◌, ◌++◌, length, sym, ◌∙◌, subst}
use Rattle.sse_outside.specs.Images.{Elapses}
use Rattle.sse_outside.specs.Changes.{Change, Synced, file_behind, left_behind, IsImage, WasLeft}
use Rattle.sse_outside.proofs.DiskLaws.{image-push, elapses_push, reads_as_image}

module _ (first : List ℕ) (before now : List Change) (x : Change) (more : now ≡ before ++ x ∷ []) where
  pub image_back : (c : List ℕ) → IsImage first now c → left_behind x (file_behind first before) (IsImage first before) c
  image_back c image = image-push first before x c (subst (λ (k : List Change). IsImage first k c) more image)

  pub elapses_more : Elapses (length before) (length now) (WasLeft first before) (WasLeft first now) (IsImage first now)
  elapses_more = subst (λ (k : List Change). Elapses (length before) (length k) (WasLeft first before) (WasLeft first k) (IsImage first k)) (sym more) (elapses_push first before x)

module _ (first : List ℕ) (before now : List Change) (more : now ≡ before ++ Synced ∷ []) where
  pub only_synced : (bytes c : List ℕ) → bytes ≡ file_behind first before → IsImage first now c → c ≡ bytes
  only_synced bytes c replayed image = image_back first before now Synced more c image ∙ sym replayed

  pub no_other : (c : List ℕ) → IsImage first now c → IsImage first before c
  no_other c image = subst (IsImage first before) (sym (image_back first before now Synced more c image)) (reads_as_image first before)
