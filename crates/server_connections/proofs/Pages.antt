-- The pages of a search, one after the other.
use Rattle.std.proofs.Common.{◌≡◌, ℕ, Bool, true, false, List, [], ◌∷◌, ◌++◌, length, take, drop, map, refl, sym, ap, subst, ◌∙◌, arith, append_assoc, length-append}
use Rattle.std.specs.Prelude.{flat_map, if◌then◌else◌}
use Rattle.std.specs.declared.option.Option.{Option}
use Rattle.std.specs.Io.KnownBytes.{append_known}
use Rattle.std.proofs.Math.Seq.{take-append_seam}
use Rattle.std.proofs.lemmas.List.{append-nil, take-append-le}
use Rattle.keyed_fn.specs.KeyedFn.{KeyedFn}
use Rattle.sse_outside.proofs.Known.{append_known-twice}
use Rattle.sse_outside.specs.Fronts.{TookFront}
use Rattle.sse_frames.specs.Replies.{ReplyText, Page, reply_bytes}
use Rattle.sse_frames.specs.SentParts.{pages}
use Rattle.server_core.specs.State.{ServerState}
use Rattle.server_core.specs.Walk.{HasPage, contents_of, rest_of}
use Rattle.server_core.specs.declared.walk.Walk.{Walk}
use Rattle.sse_link.specs.declared.due.Due.TheVariants as dues
use Rattle.sse_link.proofs.Pages.{waiting-first}
use Rattle.tcp_service.proofs.Pieces.{front-more}
use Rattle.tcp_service.specs.Writing.{IsUnsaid}
use Rattle.server_connections.specs.RepliesLeft.{IsSaying}
use Rattle.tcp_service.specs.declared.conn_end.ConnEnd.{ConnEnd}
use Rattle.server_connections.specs.Turns.{bytes_of}

joined-reply_bytes : (replies : List ReplyText) → flat_map (λ bytes. bytes) (map reply_bytes replies) ≡ bytes_of replies
joined-reply_bytes [] = refl
joined-reply_bytes (reply ∷ replies) = ap (λ l. reply_bytes reply ++ l) (joined-reply_bytes replies)

-- what is said behind the page in front
abbrev pub behind_page : KeyedFn → ServerState → Walk → List ReplyText
behind_page f s walk = if walk.is_over then [] else pages (rest_of f (contents_of s) walk)

-- the page in front, and the others
first_pages : (f : KeyedFn) (s : ServerState) (count : ℕ) (walk : Walk) (page : List ℕ) → HasPage f (contents_of s) count walk page → length page ≡ 8192
    → map reply_bytes (pages (take count page ++ rest_of f (contents_of s) walk)) ≡ reply_bytes (Page walk.is_over (take count page)) ∷ map reply_bytes (behind_page f s walk)
first_pages f s count walk page has long = by walk.is_over refl
  where
    by : (over : Bool) → walk.is_over ≡ over
        → map reply_bytes (pages (take count page ++ rest_of f (contents_of s) walk)) ≡ reply_bytes (Page walk.is_over (take count page)) ∷ map reply_bytes (behind_page f s walk)
    by true over =
        waiting-first f s (dues.Pages count walk) dues.Nothing page [] (reply_bytes (Page walk.is_over (take count page))) long has has.front refl (ap (λ b. if b then [] else pages (rest_of f (contents_of s) walk)) (sym over))
        ∙ ap (λ b. reply_bytes (Page walk.is_over (take count page)) ∷ map reply_bytes (if b then [] else pages (rest_of f (contents_of s) walk))) (sym over)
    by false over =
        waiting-first f s (dues.Pages count walk) (dues.Pages 0 walk) page [] (reply_bytes (Page walk.is_over (take count page))) long has has.front refl (ap (λ b. if b then [] else pages (rest_of f (contents_of s) walk)) (sym over))
        ∙ ap (λ b. reply_bytes (Page walk.is_over (take count page)) ∷ map reply_bytes (if b then [] else pages (rest_of f (contents_of s) walk))) (sym over)

pub pages_said : (f : KeyedFn) (s : ServerState) (count : ℕ) (walk : Walk) (page : List ℕ) → HasPage f (contents_of s) count walk page → length page ≡ 8192
    → bytes_of (pages (take count page ++ rest_of f (contents_of s) walk)) ≡ reply_bytes (Page walk.is_over (take count page)) ++ bytes_of (behind_page f s walk)
pages_said f s count walk page has long =
    sym (joined-reply_bytes (pages (take count page ++ rest_of f (contents_of s) walk)))
    ∙ ap (flat_map (λ bytes. bytes)) (first_pages f s count walk page has long)
    ∙ ap (λ l. reply_bytes (Page walk.is_over (take count page)) ++ l) (joined-reply_bytes (behind_page f s walk))

-- Replies that are written piece by piece.

pub saying-next : (written0 written written2 : Option (List ℕ)) (all rest piece behind : List ℕ) → IsSaying written0 written all rest → rest ≡ piece ++ behind → written2 ≡ append_known written piece
    → IsSaying written0 written2 all behind
saying-next written0 written written2 all rest piece behind is parts grown = record {
  said = is.said ++ piece;
  all_is = is.all_is ∙ ap (λ l. is.said ++ l) parts ∙ sym (append_assoc is.said piece behind);
  written_is = grown ∙ ap (λ k. append_known k piece) is.written_is ∙ append_known-twice written0 is.said piece;
}

-- all was said
pub saying-all : (written0 written : Option (List ℕ)) (all rest : List ℕ) → IsSaying written0 written all rest → rest ≡ [] → written ≡ append_known written0 all
saying-all written0 written all rest is none = is.written_is ∙ ap (append_known written0) (sym (is.all_is ∙ ap (λ l. is.said ++ l) none ∙ append-nil is.said))

-- a proper front of a list is one of a longer list
longer : (old new : Option (List ℕ)) (front behind all : List ℕ) → all ≡ front ++ behind → TookFront old new front → TookFront old new all
longer old new front behind all is cut = record {
  n = cut.n;
  short = omega (arith, ap length is, length-append front behind, cut.short);
  taken = cut.taken ∙ ap (append_known old) (sym (ap (take cut.n) is ∙ take-append-le cut.n front behind (omega (arith, cut.short))));
}

-- it was cut inside a piece
pub saying-cut : (written0 written written2 : Option (List ℕ)) (all rest piece behind : List ℕ) → IsSaying written0 written all rest → rest ≡ piece ++ behind → TookFront written written2 piece
    → TookFront written0 written2 all
saying-cut written0 written written2 all rest piece behind is parts front =
    let cut = front-more written0 written written2 is.said piece is.written_is front in
    longer written0 written2 (is.said ++ piece) behind all (is.all_is ∙ ap (λ l. is.said ++ l) parts ∙ sym (append_assoc is.said piece behind)) cut

-- a page that was lent whole is the page
pub lent_page : (lent items : List ℕ) (len : ℕ) → len ≡ length lent → take len (lent ++ drop (length lent) items) ≡ lent
lent_page lent items len is = ap (λ n. take n (lent ++ drop (length lent) items)) is ∙ take-append_seam lent (drop (length lent) items)

module _ (f : KeyedFn) (s : ServerState) (count : ℕ) (walk : Walk) (page : List ℕ) (written0 written written2 : Option (List ℕ)) (all : List ℕ) (over : Bool)
    (has : HasPage f (contents_of s) count walk page) (long : length page ≡ 8192)
    (saying : IsSaying written0 written all (bytes_of (pages (take count page ++ rest_of f (contents_of s) walk)))) (is : over ≡ walk.is_over) where
  abbrev piece : List ℕ
  piece = reply_bytes (Page walk.is_over (take count page))

  -- the page in front was cut
  pub cut-page : (end : ConnEnd) → IsUnsaid end written written2 (reply_bytes (Page over (take count page))) → IsUnsaid end written0 written2 all
  cut-page end unsaid = record {
    end_is = unsaid.end_is;
    front = saying-cut written0 written written2 all _ piece (bytes_of (behind_page f s walk)) saying (pages_said f s count walk page has long)
        (subst (λ b. TookFront written written2 (reply_bytes (Page b (take count page)))) is unsaid.front);
  }

  said-page : written2 ≡ append_known written (reply_bytes (Page over (take count page))) → IsSaying written0 written2 all (bytes_of (behind_page f s walk))
  said-page grown = saying-next written0 written written2 all _ piece (bytes_of (behind_page f s walk)) saying (pages_said f s count walk page has long)
      (grown ∙ ap (λ b. append_known written (reply_bytes (Page b (take count page)))) is)

  -- it was the last one
  pub last-page : walk.is_over ≡ true → written2 ≡ append_known written (reply_bytes (Page over (take count page))) → written2 ≡ append_known written0 all
  last-page last grown = saying-all written0 written2 all (bytes_of (behind_page f s walk)) (said-page grown)
      (ap (λ b. bytes_of (if b then [] else pages (rest_of f (contents_of s) walk))) last)

  -- others follow
  pub next-page : (ids : List ℕ) → walk.is_over ≡ false → written2 ≡ append_known written (reply_bytes (Page over (take count page))) → rest_of f (contents_of s) walk ≡ ids
      → IsSaying written0 written2 all (bytes_of (pages ids))
  next-page ids more grown handed =
      subst (λ l. IsSaying written0 written2 all (bytes_of (pages l))) handed
      (subst (λ b. IsSaying written0 written2 all (bytes_of (if b then [] else pages (rest_of f (contents_of s) walk)))) more (said-page grown))
