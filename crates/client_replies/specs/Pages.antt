-- A contract's view of the pages that a search brings.
use Rattle.std.specs.Prelude.{◌≡◌, ℕ, ◌+◌, ◌<◌, ◌^◌, ◌≤◌, Bool, true, false, List, ◌++◌, length, Result, Ok, Err}
use Rattle.sse_frames.specs.Replies.{ReplyText, Page}
use Rattle.sse_frames.specs.FrameViews.{numbers_in}
use Rattle.sse_frames.specs.Sizes.{AreIds}
use Rattle.sse_frames.specs.ReadOutcomes.{IsReply}
use Rattle.client_replies.specs.Faults.{IsFaultOf}
use Rattle.client_replies.specs.Gathered.{Gathered}
use Rattle.client_replies.specs.declared.found.Progress.{Progress}
use Rattle.client_replies.specs.declared.found.Progress.TheVariants as progress
use Rattle.client_replies.specs.declared.reply_fault.ReplyFault.{ReplyFault}
use Rattle.client_replies.specs.declared.reply_fault.ReplyFault.TheVariants as faults

-- whether a reply is a page
abbrev pub is_page : ReplyText → Bool
is_page (Page last ids) = true
is_page _ = false

-- whether no page is to come
abbrev pub is_done : Progress → Bool
is_done progress.More = false
is_done progress.Done = true

-- the bytes are a page, of these joined identifiers
pub record IsPageIn (bytes : List ℕ) (last : Bool) (ids : List ℕ) : Type 0 where
  pub reply : IsReply (Page last (numbers_in ids)) bytes
  pub sizes : AreIds last ids

-- the bytes are a page that may follow so many: there are at most 2^20, and only the first may be empty
pub record IsNextPage (pages : ℕ) (bytes : List ℕ) (last : Bool) (ids : List ℕ) : Type 0 where
  pub reply : IsReply (Page last ids) bytes
  pub within : pages < 2 ^ 20
  pub some : 1 ≤ pages → 1 ≤ length ids

-- no page that may follow, and which fault that is
pub record IsNoPage (pages : ℕ) (bytes : List ℕ) (fault : ReplyFault) : Type 0 where
  pub none : (last : Bool) (ids : List ℕ) → IsNextPage pages bytes last ids → ⊥
  pub fault_is : IsFaultOf bytes fault

-- a page that may follow is taken, unless there is no memory; else it is a fault
abbrev pub IsRefused : ℕ → List ℕ → ReplyFault → Type 0
IsRefused pages bytes faults.OutOfMemory = (last : Bool) × (ids : List ℕ) × IsNextPage pages bytes last ids
IsRefused pages bytes fault = IsNoPage pages bytes fault

-- what the bytes of a reply make of the pages that came: the next page is appended, and after an error all is as before
abbrev pub AfterPage : Gathered → List ℕ → Gathered → Result Progress ReplyFault → Type 0
AfterPage old bytes new (Ok told) =
    (ids : List ℕ) × IsNextPage old.pages bytes (is_done told) ids × (new.ids ≡ old.ids ++ ids) × (new.pages ≡ old.pages + 1)
AfterPage old bytes new (Err fault) = IsRefused old.pages bytes fault × (new.ids ≡ old.ids) × (new.pages ≡ old.pages)
