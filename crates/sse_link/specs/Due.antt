-- The replies to come after a reply.
use Rattle.std.specs.Prelude.{ℕ, Bool, false, not, List, [], ◌∷◌, ◌++◌, take, Option, Some, None, if◌then◌else◌}
use Rattle.keyed_fn.specs.KeyedFn.{KeyedFn}
use Rattle.server_core.specs.State.{ServerState}
use Rattle.server_core.specs.Walk.{contents_of, rest_of, IsFront, HasPage}
use Rattle.sse_frames.specs.Replies.{ReplyText, Page, InReplies}
use Rattle.sse_frames.specs.ReadOutcomes.{IsReply}
use Rattle.sse_frames.specs.FrameViews.{reply_view}
use Rattle.sse_frames.specs.SentParts.{pages}
use Rattle.sse_link.specs.declared.due.Due.{Due}
use Rattle.sse_link.specs.declared.due.Due.TheVariants as dues

-- whether a reply is a page that isn't the last
abbrev pub leaves_more : ReplyText → Bool
leaves_more (Page last ids) = not last
leaves_more _ = false

-- these bytes are a page of the grammar that isn't the last; after no others another reply is due
pub record IsOpenPage (reply : List ℕ) : Type 0 where
  pub ids : List ℕ
  pub is : IsReply (Page false ids) reply

-- the replies that wait, beside a page and a server: the page has the first identifiers of a search, and the walk gives the
-- others
abbrev pub waiting : KeyedFn → ServerState → Due → (page : List ℕ) → List ReplyText
waiting f s dues.Nothing page = []
waiting f s (dues.Single reply) page = reply_view reply ∷ []
waiting f s (dues.Pages count walk) page = pages (take count page ++ rest_of f (contents_of s) walk)

-- the first of them
abbrev pub first_of : Due → (page : List ℕ) → Option ReplyText
first_of dues.Nothing page = None
first_of (dues.Single reply) page = Some (reply_view reply)
first_of (dues.Pages count walk) page = Some (Page walk.is_over (take count page))

-- whether there are others
abbrev pub is_more : Due → Bool
is_more (dues.Pages count walk) = not walk.is_over
is_more _ = false

-- the others
abbrev pub behind_first : KeyedFn → ServerState → Due → List ReplyText
behind_first f s (dues.Pages count walk) = if walk.is_over then [] else pages (rest_of f (contents_of s) walk)
behind_first f s _ = []

-- a reply that is no page
abbrev pub IsSingle : ReplyText → Type 0
IsSingle (Page last ids) = ⊥
IsSingle _ = Unit {0}

-- what waits can be written, and where it is a search's, it goes on
abbrev pub IsDue : KeyedFn → ServerState → Due → (page : List ℕ) → Type 0
IsDue f s dues.Nothing page = Unit {0}
IsDue f s (dues.Single reply) page = InReplies (reply_view reply) × IsSingle (reply_view reply)
IsDue f s (dues.Pages count walk) page = HasPage f (contents_of s) count walk page

-- a reply waits, and the first can be written
abbrev pub CanWrite : Due → (page : List ℕ) → Type 0
CanWrite dues.Nothing page = ⊥
CanWrite (dues.Single reply) page = InReplies (reply_view reply) × IsSingle (reply_view reply)
CanWrite (dues.Pages count walk) page = IsFront count walk.is_over page
