-- Laws of a disk in memory, which its members cite.
use Rattle.std.proofs.Common.{◌≡◌, ◌⊎◌, inl, inr, ℕ, ◌+◌, ◌-◌, ◌<◌, ◌≤◌, min, List, [], ◌∷◌, ◌++◌, length, take, refl, sym, subst, arith, length-append}
use Rattle.std.proofs.lemmas.List.{take_all, take-append-le, length-take, length-drop, get_or-take}
use Rattle.std.proofs.lemmas.Grind.{elements}
use Rattle.std.proofs.lemmas.Bool.{cases_order}
use Rattle.sse_outside.specs.Images.{overwritten, Torn, Shortened, Elapses}
use Rattle.sse_outside.specs.Changes.{Change, Wrote, FailedToWrite, CutTo, FailedToCut, Synced, behind, file_behind, left_behind, IsLeft, IsImage, WasLeft}

-- one call

pub torn_same : (at n : ℕ) (d : List ℕ) → Torn at n d d
torn_same at n d = record { no_shorter = omega arith; no_longer = omega arith; same = λ i lt or. refl }

pub shortened_same : (n : ℕ) (d : List ℕ) → Shortened n d d
shortened_same n d = record { no_shorter = omega arith; no_longer = omega arith; same = λ i lt in_new. refl }

length-overwritten : (at : ℕ) (bytes file : List ℕ) → length (overwritten at bytes file) ≡ min at (length file) + (length bytes + (length file - (at + length bytes)))
length-overwritten at bytes file = grind (arith, length-append, length-take, length-drop)

pub torn_written : (at : ℕ) (bytes file : List ℕ) → Torn at (length bytes) file (overwritten at bytes file)
torn_written at bytes file = record {
  no_shorter = omega (arith, length-overwritten at bytes file);
  no_longer = omega (arith, length-overwritten at bytes file);
  same = λ i lt or. elim or [
    | inl before ↦ grind (arith, elements)
    | inr behind_it ↦ grind (arith, elements)
  ];
}

pub shortened_cut : (n : ℕ) (file : List ℕ) → Shortened n file (take n file)
shortened_cut n file = record {
  no_shorter = omega (arith, length-take n file);
  no_longer = omega (arith, length-take n file);
  same = λ i lt in_new. get_or-take n file i 0 lt;
}

-- what is read after a call is one of its images
reads_behind : (x : Change) (file : List ℕ) (images : List ℕ → Type 0) → images file → left_behind x file images (behind x file)
reads_behind (Wrote at bytes) file images is = (file, is, torn_written at bytes file)
reads_behind (FailedToWrite at bytes) file images is = (file, is, torn_same at (length bytes) file)
reads_behind (CutTo len) file images is = (file, is, shortened_cut len file)
reads_behind (FailedToCut len) file images is = (file, is, shortened_same len file)
reads_behind Synced file images is = refl

-- any calls

reads_left : (file : List ℕ) (images : List ℕ → Type 0) (changes : List Change) → images file → IsLeft file images changes (file_behind file changes)
reads_left file images [] is = is
reads_left file images (x ∷ xs) is = reads_left (behind x file) (left_behind x file images) xs (reads_behind x file images is)

pub reads_as_image : (first : List ℕ) (changes : List Change) → IsImage first changes (file_behind first changes)
reads_as_image first changes = reads_left first (λ d. d ≡ first) changes refl

-- one call more

pub file_behind-push : (file : List ℕ) (changes : List Change) (x : Change) → file_behind file (changes ++ x ∷ []) ≡ behind x (file_behind file changes)
file_behind-push file [] x = refl
file_behind-push file (y ∷ ys) x = file_behind-push (behind y file) ys x

left-push : (file : List ℕ) (images : List ℕ → Type 0) (changes : List Change) (x : Change) (c : List ℕ) → IsLeft file images (changes ++ x ∷ []) c → left_behind x (file_behind file changes) (IsLeft file images changes) c
left-push file images [] x c left = left
left-push file images (y ∷ ys) x c left = left-push (behind y file) (left_behind y file images) ys x c left

pub image-push : (first : List ℕ) (changes : List Change) (x : Change) (c : List ℕ) → IsImage first (changes ++ x ∷ []) c → left_behind x (file_behind first changes) (IsImage first changes) c
image-push first changes x c left = left-push first (λ d. d ≡ first) changes x c left

-- moments

pub counts_now : (first : List ℕ) (changes : List Change) (t : ℕ) (c : List ℕ) → t ≤ length changes → IsImage first changes c → WasLeft first changes t c
counts_now first changes t c le image = record {
  k = length changes;
  since = le;
  within = omega arith;
  image = subst (λ (l : List Change). IsImage first l c) (sym (take_all (length changes) changes (omega arith))) image;
}

pub only_now : (first : List ℕ) (changes : List Change) (c : List ℕ) → WasLeft first changes (length changes) c → IsImage first changes c
only_now first changes c was = subst (λ (l : List Change). IsImage first l c) (take_all was.k changes was.since) was.image

pub elapses_none : (first : List ℕ) (changes : List Change) → Elapses (length changes) (length changes) (WasLeft first changes) (WasLeft first changes) (IsImage first changes)
elapses_none first changes = record { later = omega arith; nothing_else = λ t c le was. inl was; keeps = λ t c le was. was }

was_before : (first : List ℕ) (changes : List Change) (x : Change) (t : ℕ) (c : List ℕ) → WasLeft first (changes ++ x ∷ []) t c → WasLeft first changes t c ⊎ IsImage first (changes ++ x ∷ []) c
was_before first changes x t c was = elim (nat_cases was.k (length changes)) [
  | inl early ↦ inl (record {
    k = was.k;
    since = was.since;
    within = early;
    image = subst (λ (l : List Change). IsImage first l c) (take-append-le was.k changes (x ∷ []) early) was.image;
  })
  | inr late ↦ inr (subst (λ (l : List Change). IsImage first l c) (take_all was.k (changes ++ x ∷ []) (omega (arith, late, length-append changes (x ∷ [])))) was.image)
]
  where
    nat_cases : (a b : ℕ) → (a ≤ b) ⊎ (b < a)
    nat_cases a b = elim (cases_order a b) [
      | inl same ↦ inl (omega (arith, same))
      | inr (inl less) ↦ inl (omega (arith, less))
      | inr (inr more) ↦ inr more
    ]

pub elapses_push : (first : List ℕ) (changes : List Change) (x : Change) → Elapses (length changes) (length (changes ++ x ∷ [])) (WasLeft first changes) (WasLeft first (changes ++ x ∷ [])) (IsImage first (changes ++ x ∷ []))
elapses_push first changes x = record {
  later = omega (arith, length-append changes (x ∷ []));
  nothing_else = λ t c le was. was_before first changes x t c was;
  keeps = λ t c le was. record {
    k = was.k;
    since = was.since;
    within = omega (arith, was.within, length-append changes (x ∷ []));
    image = subst (λ (l : List Change). IsImage first l c) (sym (take-append-le was.k changes (x ∷ []) was.within)) was.image;
  };
}

-- as it reads it is an image
pub reads_now : (first : List ℕ) (changes : List Change) (bytes : List ℕ) → bytes ≡ file_behind first changes → IsImage first changes bytes
reads_now first changes bytes replayed = subst (IsImage first changes) (sym replayed) (reads_as_image first changes)
