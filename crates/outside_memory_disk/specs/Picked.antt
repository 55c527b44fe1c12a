-- One file that a crash may leave, chosen by a number.
use Rattle.std.specs.Prelude.{◌==◌, ℕ, ◌+◌, ◌-◌, ◌/◌, ◌%◌, if◌then◌else◌, List, [], ◌∷◌, ◌++◌, length, map, take, drop}
use Rattle.sse_outside.specs.Changes.{Change, Wrote, FailedToWrite, CutTo, FailedToCut, Synced, behind}
use Rattle.sse_outside.specs.Images.{overwritten}

-- as many bytes, each another one
abbrev pub others : List ℕ → List ℕ
others bytes = map (λ byte. 255 - byte) bytes

-- what a write leaves of an image: nothing, all, the first half of its bytes, or other bytes in their place
abbrev pub torn_write : (way at : ℕ) (bytes image : List ℕ) → List ℕ
torn_write way at bytes image =
    if way == 0 then image
    else if way == 1 then overwritten at bytes image
    else if way == 2 then overwritten at (take (length bytes / 2) bytes) image
    else overwritten at (others bytes) image

-- what a cut leaves: the whole image, the cut one, one with the first half of what is cut, or other bytes in its place
abbrev pub torn_cut : (way len : ℕ) (image : List ℕ) → List ℕ
torn_cut way len image =
    if way == 0 then image
    else if way == 1 then take len image
    else if way == 2 then take (len + (length image - len) / 2) image
    else take len image ++ others (drop len image)

-- from an image and the file as it reads, what these changes leave: each takes the last digit of the rest of the number,
-- to the base 4, and after a sync the whole number is there again
abbrev pub picked : (pick rest : ℕ) (file image : List ℕ) (changes : List Change) → List ℕ
picked pick rest file image [] = image
picked pick rest file image (Wrote at bytes ∷ changes) = picked pick (rest / 4) (behind (Wrote at bytes) file) (torn_write (rest % 4) at bytes image) changes
picked pick rest file image (FailedToWrite at bytes ∷ changes) = picked pick (rest / 4) file (torn_write (rest % 4) at bytes image) changes
picked pick rest file image (CutTo len ∷ changes) = picked pick (rest / 4) (behind (CutTo len) file) (torn_cut (rest % 4) len image) changes
picked pick rest file image (FailedToCut len ∷ changes) = picked pick (rest / 4) file (torn_cut (rest % 4) len image) changes
picked pick rest file image (Synced ∷ changes) = picked pick pick file file changes

-- the image of this number, on a disk that began with a file and made these changes
abbrev pub image_picked : (pick : ℕ) (first : List ℕ) (changes : List Change) → List ℕ
image_picked pick first changes = picked pick pick first first changes
