-- What is picked is an image.
use Rattle.std.proofs.Common.{◌≡◌, inl, inr, ℕ, ◌+◌, ◌-◌, ◌/◌, ◌%◌, ◌≤◌, List, [], ◌∷◌, ◌++◌, length, take, drop, refl, subst, arith}
use Rattle.std.specs.Prelude.{◌==◌, if◌then◌else◌, true, false, Bool}
use Rattle.std.proofs.lemmas.List.{length-take, get_or-take}
use Rattle.std.proofs.lemmas.Grind.{elements}
use Rattle.sse_outside.specs.Images.{overwritten, Torn, Shortened}
use Rattle.sse_outside.specs.Changes.{Change, Wrote, FailedToWrite, CutTo, FailedToCut, Synced, behind, left_behind, IsLeft, IsImage}
use Rattle.sse_outside.proofs.DiskLaws.{torn_same, torn_written, shortened_same, shortened_cut}
use Rattle.outside_memory_disk.specs.Picked.{others, torn_write, torn_cut, picked, image_picked}

torn_wider : (at n m : ℕ) (d c : List ℕ) → n ≤ m → Torn at n d c → Torn at m d c
torn_wider at n m d c le torn = record {
  no_shorter = torn.no_shorter;
  no_longer = omega (arith, le, torn.no_longer);
  same = λ i lt or. torn.same i lt (elim or [ inl before ↦ inl before | inr behind_it ↦ inr (omega (arith, behind_it, le)) ]);
}

pick_case : {X : Type 0} (P : X → Type 0) (b : Bool) (x y : X) → P x → P y → P (if b then x else y)
pick_case P true x y px py = px
pick_case P false x y px py = py

length-others : (bytes : List ℕ) → length (others bytes) ≡ length bytes
length-others bytes = grind (arith, elements)

pub torn_write_is : (way at : ℕ) (bytes image : List ℕ) → Torn at (length bytes) image (torn_write way at bytes image)
torn_write_is way at bytes image =
    let P = λ (c : List ℕ). Torn at (length bytes) image c in
    pick_case P (way == 0) _ _ (torn_same at (length bytes) image)
    (pick_case P (way == 1) _ _ (torn_written at bytes image)
    (pick_case P (way == 2) _ _ (torn_wider at _ (length bytes) image _ (omega (arith, length-take (length bytes / 2) bytes)) (torn_written at (take (length bytes / 2) bytes) image))
    (subst (λ (n : ℕ). Torn at n image (overwritten at (others bytes) image)) (length-others bytes) (torn_written at (others bytes) image))))

pub torn_cut_is : (way len : ℕ) (image : List ℕ) → Shortened len image (torn_cut way len image)
torn_cut_is way len image =
    let P = λ (c : List ℕ). Shortened len image c in
    pick_case P (way == 0) _ _ (shortened_same len image)
    (pick_case P (way == 1) _ _ (shortened_cut len image)
    (pick_case P (way == 2) _ _ half rest))
  where
    half : Shortened len image (take (len + (length image - len) / 2) image)
    half = record {
      no_shorter = omega (arith, length-take (len + (length image - len) / 2) image);
      no_longer = omega (arith, length-take (len + (length image - len) / 2) image);
      same = λ i lt in_new. get_or-take (len + (length image - len) / 2) image i 0 (omega (arith, lt));
    }

    rest : Shortened len image (take len image ++ others (drop len image))
    rest = record {
      no_shorter = grind (arith, elements);
      no_longer = grind (arith, elements);
      same = λ i lt in_new. grind (arith, elements);
    }

picked_left : (pick rest : ℕ) (file image : List ℕ) (images : List ℕ → Type 0) (changes : List Change) → images image → IsLeft file images changes (picked pick rest file image changes)
picked_left pick rest file image images [] is = is
picked_left pick rest file image images (Wrote at bytes ∷ changes) is = picked_left pick (rest / 4) (behind (Wrote at bytes) file) (torn_write (rest % 4) at bytes image) (left_behind (Wrote at bytes) file images) changes (image, is, torn_write_is (rest % 4) at bytes image)
picked_left pick rest file image images (FailedToWrite at bytes ∷ changes) is = picked_left pick (rest / 4) file (torn_write (rest % 4) at bytes image) (left_behind (FailedToWrite at bytes) file images) changes (image, is, torn_write_is (rest % 4) at bytes image)
picked_left pick rest file image images (CutTo len ∷ changes) is = picked_left pick (rest / 4) (behind (CutTo len) file) (torn_cut (rest % 4) len image) (left_behind (CutTo len) file images) changes (image, is, torn_cut_is (rest % 4) len image)
picked_left pick rest file image images (FailedToCut len ∷ changes) is = picked_left pick (rest / 4) file (torn_cut (rest % 4) len image) (left_behind (FailedToCut len) file images) changes (image, is, torn_cut_is (rest % 4) len image)
picked_left pick rest file image images (Synced ∷ changes) is = picked_left pick pick file file (left_behind Synced file images) changes refl

pub image_picked_is : (pick : ℕ) (first : List ℕ) (changes : List Change) → IsImage first changes (image_picked pick first changes)
image_picked_is pick first changes = picked_left pick pick first first (λ d. d ≡ first) changes refl
