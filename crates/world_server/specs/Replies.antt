-- What a server replied.
use Rattle.std.specs.Prelude.{List, [], ◌∷◌, ◌<◌, All}
use Rattle.sse_frames.specs.FrameViews.{reply_view}
use Rattle.sse_frames.specs.Replies.{ReplyText, Page, InReplies}
use Rattle.sse_frames.specs.SentParts.{pages}
use Rattle.sse_frames.specs.Sizes.{HasReplySizes}
use Rattle.world_server.specs.declared.replies.Replies.{Replies}
use Rattle.world_server.specs.declared.replies.Replies.TheVariants.{Single, Found}

-- the replies that are kept so
abbrev pub replies_in : Replies → List ReplyText
replies_in (Single reply) = reply_view reply ∷ []
replies_in (Found ids) = pages ids.items

abbrev pub IsNoPage : ReplyText → Type 0
IsNoPage (Page last ids) = ⊥
IsNoPage text = Unit {0}

-- each of them can be written, and one that is kept by itself is no page
abbrev pub CanWrite : Replies → Type 0
CanWrite (Single reply) = InReplies (reply_view reply) × HasReplySizes reply × IsNoPage (reply_view reply)
CanWrite (Found ids) = All (λ id. 0 < id) ids.items
