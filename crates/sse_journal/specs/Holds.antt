-- The contents of a disk under a journal.
use Rattle.std.specs.Prelude.{◌≡◌, ℕ, List, length, All, Option, Some}
use Rattle.sse_journal.specs.Files.{front, file, IsPayload, Gives}
use Rattle.sse_outside.specs.Images.{Only}

-- the disk reads as this file, and each crash leaves it
pub record IsAllOf (bytes : List ℕ) (content : Option (List ℕ)) (images : List ℕ → Type 0) : Type 0 where
  pub reads : content ≡ Some bytes
  pub durable : Only bytes images

-- it holds the file of these records
abbrev pub IsSettled : (payloads : List (List ℕ)) (content : Option (List ℕ)) (images : List ℕ → Type 0) → Type 0
IsSettled payloads content images = IsAllOf (file payloads) content images

-- a journal with this end and this many records has the records that this file gives, over a disk that holds them
pub record IsStarted (bytes : List ℕ) (end records : ℕ) (content : Option (List ℕ)) (images : List ℕ → Type 0) : Type 0 where
  pub payloads : List (List ℕ)
  pub gives : Gives payloads bytes
  pub payloads_are : All IsPayload payloads
  pub end_is : end ≡ length (front payloads)
  pub records_are : records ≡ length payloads
  pub settled : IsSettled payloads content images
