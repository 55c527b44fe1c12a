-- The replies to a frame, before they are written.
use Rattle.std.specs.Prelude.{◌≡◌, ℕ, List, [], ◌∷◌, ◌++◌, take, Option}
use Rattle.std.specs.Io.KnownBytes.{append_known}
use Rattle.keyed_fn.specs.KeyedFn.{KeyedFn}
use Rattle.sse_frames.specs.FrameViews.{reply_view}
use Rattle.sse_frames.specs.Replies.{ReplyText, InReplies}
use Rattle.sse_frames.specs.SentParts.{pages}
use Rattle.sse_frames.specs.Sizes.{HasReplySizes}
use Rattle.server_core.specs.State.{ServerState}
use Rattle.server_core.specs.Walk.{HasPage, contents_of, rest_of}
use Rattle.server_connections.specs.declared.reply_list.ReplyList.{ReplyList}
use Rattle.server_connections.specs.declared.reply_list.ReplyList.TheVariants.{Single, Pages}

-- the replies, beside a page and a server
abbrev pub replies_in : KeyedFn → ServerState → ReplyList → (page : List ℕ) → List ReplyText
replies_in f s (Single reply) page = reply_view reply ∷ []
replies_in f s (Pages first) page = pages (take first.count page ++ rest_of f (contents_of s) first.walk)

-- they can be written, and where they are a search's, it goes on
abbrev pub CanSay : KeyedFn → ServerState → ReplyList → (page : List ℕ) → Type 0
CanSay f s (Single reply) page = InReplies (reply_view reply) × HasReplySizes reply
CanSay f s (Pages first) page = HasPage f (contents_of s) first.count first.walk page

-- of these bytes some were written, and the rest wasn't yet
pub record IsSaying (written0 written : Option (List ℕ)) (all rest : List ℕ) : Type 0 where
  pub said : List ℕ
  pub all_is : all ≡ said ++ rest
  pub written_is : written ≡ append_known written0 said
