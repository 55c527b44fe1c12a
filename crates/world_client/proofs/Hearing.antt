-- What a client makes of a whole answer, by what the server replied.
use Rattle.std.proofs.Common.{◌≡◌, ℕ, ◌+◌, ◌==◌, Bool, true, false, List, [], ◌∷◌, ◌++◌, length, take, drop, Vec, Global, None, Some, Result, Ok, Err, inl, inr, refl, sym, ap, ◌∙◌, subst}
use Rattle.std.specs.Prelude.{if◌then◌else◌}
use Rattle.std.proofs.Math.Seq.{take-append_seam}
use Rattle.client_core.specs.States.{ClientOf, ReadyState}
use Rattle.client_registry.specs.Histories.{frames_in}
use Rattle.client_registry.specs.Live.{in_order}
use Rattle.client_registry.specs.Run.{Epochs, History}
use Rattle.client_registry.specs.declared.word.Word.{Word}
use Rattle.keyed_fn.specs.KeyedFn.{KeyedFn}
use Rattle.list_packing.specs.Parts.{parts}
use Rattle.sse_frames.proofs.Replied.{joined-pages}
use Rattle.sse_frames.specs.FrameViews.{reply_view}
use Rattle.sse_frames.specs.ReadOutcomes.{IsReply}
use Rattle.sse_frames.specs.Replies.{ReplyText, InReplies, reply_bytes}
use Rattle.sse_frames.specs.Replies as replies
use Rattle.sse_frames.specs.SentParts.{page_each, pages_of, pages}
use Rattle.sse_frames.specs.declared.reply.Reply as code
use Rattle.world_model.specs.World.{Phase, Greets, Rests, Sends, Asks, Reply, Next, Took, Shown, Refused}
use Rattle.world_rules.specs.Promises.{ids_shown}
use Rattle.world_rules.specs.Rules.{are_pages}
use Rattle.world_server.specs.Replies.{IsNoPage}
use Rattle.world_server.specs.Waiting.{IsKept, IsOfSearch, IsRefusal}
use Rattle.world_server.specs.declared.replies.Replies.TheVariants as kept
use Rattle.world_client.specs.Answering.{GoesOn}
use Rattle.world_client.specs.Clients.{IsClientIn}
use Rattle.world_client.specs.Hearing.{Hears, HasFound, IsRepliedTo, IsFoundBy, is_sending, report_at, report_of}
use Rattle.world_client.specs.Histories.{phase_at}
use Rattle.world_client.specs.declared.report.Report.{Report}
use Rattle.world_client.specs.declared.report.Report.TheVariants as report
use Rattle.world_client.specs.declared.state.Gone.{Gone}
use Rattle.world_client.specs.declared.state.Gone.TheVariants as gone
use Rattle.world_client.specs.declared.state.State.{State}
use Rattle.world_client.specs.declared.state.State.TheVariants as states

-- a reply that was written at the front of a buffer
pub front_of : (text : ReplyText) (len : ℕ) (out old : List ℕ) → InReplies text → len ≡ length (reply_bytes text) → out ≡ reply_bytes text ++ drop len old → IsReply text (take len out)
front_of text len out old grammar size bytes = record {
  grammar = grammar;
  spelled = ap (take len) bytes ∙ ap (λ n. take n (reply_bytes text ++ drop len old)) size ∙ take-append_seam (reply_bytes text) (drop len old);
}

-- Pages.

are_pages-each : (ids : List ℕ) (others : List (List ℕ)) → are_pages (page_each ids others) ≡ true
are_pages-each ids [] = refl
are_pages-each ids (more ∷ others) = are_pages-each more others

are_pages-of : (ps : List (List ℕ)) → are_pages (pages_of ps) ≡ true
are_pages-of [] = refl
are_pages-of (p ∷ ps) = are_pages-each p ps

-- the pages of an answer are pages, and each list of them begins with one
pub are_pages-pages : (ids : List ℕ) → are_pages (pages ids) ≡ true
are_pages-pages ids = are_pages-of (parts 8192 ids)

one_page : (text : ReplyText) (ps : List (List ℕ)) → pages_of ps ≡ text ∷ [] → IsNoPage text → ⊥
one_page text [] e apart = let same : replies.Page true [] ≡ text = cc in subst IsNoPage (sym same) apart
one_page text (p ∷ []) e apart = let same : replies.Page true p ≡ text = cc in subst IsNoPage (sym same) apart
one_page text (p ∷ more ∷ ps) e apart = let same : replies.Page false p ≡ text = cc in subst IsNoPage (sym same) apart

no_pages : (ids : List ℕ) (text : ReplyText) → pages ids ≡ text ∷ [] → IsNoPage text → ⊥
no_pages ids text e apart = one_page text (parts 8192 ids) e apart

refusal_no_page : (text : ReplyText) → IsRefusal text → IsNoPage text
refusal_no_page (replies.Page last ids) is = is
refusal_no_page (replies.Next q) is = tt
refusal_no_page (replies.Took q) is = tt
refusal_no_page (replies.Number q) is = tt
refusal_no_page (replies.Clash what place) is = tt
refusal_no_page replies.BadList is = tt
refusal_no_page replies.NoMemory is = tt
refusal_no_page replies.StoreFault is = tt
refusal_no_page (replies.BadFrame reason) is = tt
refusal_no_page replies.OutOfPlace is = tt

-- a reply that is no page is no answer to a search
not_pages : (text : ReplyText) → IsNoPage text → are_pages (text ∷ []) ≡ false
not_pages (replies.Page last ids) apart = absurd apart
not_pages (replies.Next q) apart = refl
not_pages (replies.Took q) apart = refl
not_pages (replies.Number q) apart = refl
not_pages (replies.Clash what place) apart = refl
not_pages replies.BadList apart = refl
not_pages replies.NoMemory apart = refl
not_pages replies.StoreFault apart = refl
not_pages (replies.BadFrame reason) apart = refl
not_pages replies.OutOfPlace apart = refl

same_text : (a b : ReplyText) (rest : List ReplyText) → a ∷ rest ≡ b ∷ [] → a ≡ b
same_text a b rest e = cc

abbrev Outcome : Type 0
Outcome = Result (State × Report) Gone

no_error : (a : Result State Gone) (x : State) → a ≡ Ok x → a ≡ Err gone.Unwanted → ⊥
no_error a x ok is = let clash : Ok x ≡ Err gone.Unwanted = sym ok ∙ is in cc

same_error : (a : Result State Gone) (why : Gone) → a ≡ Err why → a ≡ Err gone.Unwanted → why ≡ gone.Unwanted
same_error a why err is = let same : Err why ≡ Err gone.Unwanted = sym err ∙ is in cc

module _ (f : KeyedFn) (first : List ℕ) (h : History) where
  -- One reply.

  -- a client that greets sent no frame before, and one that sends did
  greets_first : (client : State) → IsClientIn f first h Greets client → is_sending client ≡ false
  greets_first (states.Greeting client) is = refl
  greets_first (states.Fresh client) is = refl
  greets_first (states.Resting client) is = refl
  greets_first (states.Asking client word) is = refl
  greets_first (states.Sending client) is = absurd (by h is)
    where
      by : (h : History) → IsClientIn f first h Greets (states.Sending client) → ⊥
      by None is = is
      by (Some es) is = is

  -- an answer that isn't wanted ends it
  ends : (phase : Phase (List ℕ)) (text : ReplyText) (sending : Bool) (result : Outcome) → ((other : Result State Gone) → GoesOn f first h phase text other → other ≡ Err gone.Unwanted) → IsRepliedTo f first h phase text sending result → result ≡ Err gone.Unwanted
  ends phase text sending (Ok heard) only is = absurd (no_error (Ok heard.0) heard.0 refl (only (Ok heard.0) is.0))
  ends phase text sending (Err why) only is = ap (λ g. Err g) (same_error (Err why) why refl (only (Err why) is))

  greets_other : (text : ReplyText) → ((n : ℕ) → text ≡ replies.Next n → ⊥) → (other : Result State Gone) → GoesOn f first h Greets text other → other ≡ Err gone.Unwanted
  greets_other (replies.Next n) not other is = absurd (not n refl)
  greets_other (replies.Took n) not other is = is
  greets_other (replies.Number n) not other is = is
  greets_other (replies.Clash what place) not other is = is
  greets_other (replies.Page last ids) not other is = is
  greets_other replies.BadList not other is = is
  greets_other replies.NoMemory not other is = is
  greets_other replies.StoreFault not other is = is
  greets_other (replies.BadFrame reason) not other is = is
  greets_other replies.OutOfPlace not other is = is

  sends_other : (next : ℕ) (text : ReplyText) → ((n : ℕ) → text ≡ replies.Took n → ⊥) → (other : Result State Gone) → GoesOn f first h (Sends next) text other → other ≡ Err gone.Unwanted
  sends_other next (replies.Took n) not other is = absurd (not n refl)
  sends_other next (replies.Next n) not other is = is
  sends_other next (replies.Number n) not other is = is
  sends_other next (replies.Clash what place) not other is = is
  sends_other next (replies.Page last ids) not other is = is
  sends_other next replies.BadList not other is = is
  sends_other next replies.NoMemory not other is = is
  sends_other next replies.StoreFault not other is = is
  sends_other next (replies.BadFrame reason) not other is = is
  sends_other next replies.OutOfPlace not other is = is

  greeted : (n : ℕ) (sending : Bool) → sending ≡ false → (result : Outcome) → IsRepliedTo f first h Greets (replies.Next n) sending result → Hears f first h Greets (Next n) result
  greeted n sending e (Ok heard) is = (is.0.0, is.0.1, is.1 ∙ ap (λ b. report_of b heard.0) e)
  greeted n sending e (Err gone.Unwanted) is = is
  greeted n sending e (Err gone.NoMemory) is = is

  -- the reply is no number of a frame that is expected or was taken
  not_next : (text : ReplyText) → IsRefusal text → (n : ℕ) → text ≡ replies.Next n → ⊥
  not_next text is n e = subst IsRefusal e is

  not_took : (text : ReplyText) → IsRefusal text → (n : ℕ) → text ≡ replies.Took n → ⊥
  not_took text is n e = subst IsRefusal e is

  -- nor is that to a search
  searched_next : (all : List ReplyText) (text : ReplyText) → text ∷ [] ≡ all → IsNoPage text → IsOfSearch all → (n : ℕ) → text ≡ replies.Next n → ⊥
  searched_next all text e apart (inl is) n same = no_pages is.0 text (sym is.1 ∙ sym e) apart
  searched_next all text e apart (inr (inl is)) n same = let clash : replies.BadList ≡ replies.Next n = sym (same_text text replies.BadList [] (e ∙ is)) ∙ same in cc
  searched_next all text e apart (inr (inr is)) n same = let clash : replies.OutOfPlace ≡ replies.Next n = sym (same_text text replies.OutOfPlace [] (e ∙ is)) ∙ same in cc

  searched_took : (all : List ReplyText) (text : ReplyText) → text ∷ [] ≡ all → IsNoPage text → IsOfSearch all → (n : ℕ) → text ≡ replies.Took n → ⊥
  searched_took all text e apart (inl is) n same = no_pages is.0 text (sym is.1 ∙ sym e) apart
  searched_took all text e apart (inr (inl is)) n same = let clash : replies.BadList ≡ replies.Took n = sym (same_text text replies.BadList [] (e ∙ is)) ∙ same in cc
  searched_took all text e apart (inr (inr is)) n same = let clash : replies.OutOfPlace ≡ replies.Took n = sym (same_text text replies.OutOfPlace [] (e ∙ is)) ∙ same in cc

  -- a client whose last frame was taken rests or sends the next one
  report_sent : (es : Epochs) (next : ℕ) (b : Bool) (state : State) → IsClientIn f first (Some es) (if b then Rests else Sends next) state → report_of true state ≡ (if b then report.Updated else report.Nothing)
  report_sent es next true (states.Resting client) is = refl
  report_sent es next true (states.Greeting client) is = absurd is
  report_sent es next true (states.Fresh client) is = absurd is
  report_sent es next true (states.Sending client) is = absurd is
  report_sent es next true (states.Asking client word) is = absurd is
  report_sent es next false (states.Sending client) is = refl
  report_sent es next false (states.Greeting client) is = refl
  report_sent es next false (states.Fresh client) is = refl
  report_sent es next false (states.Resting client) is = absurd is
  report_sent es next false (states.Asking client word) is = refl

sends_is : (f : KeyedFn) (first : List ℕ) (h : History) (next : ℕ) (client : State) → IsClientIn f first h (Sends next) client → (is_sending client ≡ true) × (es : Epochs) × (h ≡ Some es)
sends_is f first None next (states.Sending client) is = absurd is
sends_is f first (Some es) next (states.Sending client) is = (refl, es, refl)
sends_is f first None next (states.Greeting client) is = absurd is
sends_is f first (Some es) next (states.Greeting client) is = absurd is
sends_is f first None next (states.Fresh client) is = absurd is
sends_is f first (Some es) next (states.Fresh client) is = absurd is
sends_is f first None next (states.Resting client) is = absurd is
sends_is f first (Some es) next (states.Resting client) is = absurd is
sends_is f first None next (states.Asking client word) is = absurd is
sends_is f first (Some es) next (states.Asking client word) is = absurd is

abbrev pub is_asking : State → Bool
is_asking (states.Asking client word) = true
is_asking other = false

asks_is : (f : KeyedFn) (first : List ℕ) (h : History) (word : List ℕ) (client : State) → IsClientIn f first h (Asks word) client → is_asking client ≡ true
asks_is f first h word (states.Asking client asked) is = refl
asks_is f first None word (states.Greeting client) is = absurd is
asks_is f first (Some es) word (states.Greeting client) is = absurd is
asks_is f first None word (states.Fresh client) is = absurd is
asks_is f first (Some es) word (states.Fresh client) is = absurd is
asks_is f first None word (states.Resting client) is = absurd is
asks_is f first (Some es) word (states.Resting client) is = absurd is
asks_is f first None word (states.Sending client) is = absurd is
asks_is f first (Some es) word (states.Sending client) is = absurd is

module _ (f : KeyedFn) (first : List ℕ) where
  acknowledged : (h : History) (next n : ℕ) (sending : Bool) → sending ≡ true → (es : Epochs) → h ≡ Some es → (result : Outcome) → IsRepliedTo f first h (Sends next) (replies.Took n) sending result → Hears f first h (Sends next) (Took n) result
  acknowledged h next n sending e es some (Ok heard) is =
      let state : IsClientIn f first (Some es) (phase_at (Some es) (next + 1)) heard.0 = subst (λ x. IsClientIn f first x (phase_at x (next + 1)) heard.0) some is.0.1 in
      let at : report_at (Some es) (next + 1) ≡ report_at h (next + 1) = ap (λ x. report_at x (next + 1)) (sym some) in
      (is.0.0, is.0.1, is.1 ∙ ap (λ b. report_of b heard.0) e ∙ report_sent f first h es (next + 1) (next + 1 == frames_in (Some es)) heard.0 state ∙ at)
  acknowledged h next n sending e es some (Err gone.Unwanted) is = is
  acknowledged h next n sending e es some (Err gone.NoMemory) is = is

  -- what one reply makes of a client, by the model's reply that it is
  pub hears_reply : (h : History) (phase : Phase (List ℕ)) (client : State) (answer : Reply (List ReplyText)) (reply : code.Reply) → IsKept answer (kept.Single reply) → IsNoPage (reply_view reply) → IsClientIn f first h phase client
      → (result : Outcome) → IsRepliedTo f first h phase (reply_view reply) (is_sending client) result → Hears f first h phase answer result
  hears_reply h Greets client (Next n) reply is apart in_phase result came =
      greeted f first h n (is_sending client) (greets_first f first h client in_phase) result (subst (λ t. IsRepliedTo f first h Greets t (is_sending client) result) (same_text (reply_view reply) (replies.Next n) [] is) came)
  hears_reply h Greets client (Took n) reply is apart in_phase result came =
      ends f first h Greets (replies.Took n) (is_sending client) result (λ other goes. goes) (subst (λ t. IsRepliedTo f first h Greets t (is_sending client) result) (same_text (reply_view reply) (replies.Took n) [] is) came)
  hears_reply h Greets client (Shown all) reply is apart in_phase result came = ends f first h Greets (reply_view reply) (is_sending client) result (greets_other f first h (reply_view reply) (searched_next f first h all (reply_view reply) is.0 apart is.1)) came
  hears_reply h Greets client Refused reply is apart in_phase result came =
      ends f first h Greets (reply_view reply) (is_sending client) result (greets_other f first h (reply_view reply) (not_next f first h (reply_view reply) (subst IsRefusal (sym (same_text (reply_view reply) is.0 [] is.1)) is.2))) came
  hears_reply h Rests client answer reply is apart in_phase result came = ends f first h Rests (reply_view reply) (is_sending client) result (λ other goes. goes) came
  hears_reply h (Sends next) client (Took n) reply is apart in_phase result came =
      let sends = sends_is f first h next client in_phase in
      acknowledged h next n (is_sending client) sends.0 sends.1 sends.2 result (subst (λ t. IsRepliedTo f first h (Sends next) t (is_sending client) result) (same_text (reply_view reply) (replies.Took n) [] is) came)
  hears_reply h (Sends next) client (Next n) reply is apart in_phase result came =
      ends f first h (Sends next) (replies.Next n) (is_sending client) result (λ other goes. goes) (subst (λ t. IsRepliedTo f first h (Sends next) t (is_sending client) result) (same_text (reply_view reply) (replies.Next n) [] is) came)
  hears_reply h (Sends next) client (Shown all) reply is apart in_phase result came =
      ends f first h (Sends next) (reply_view reply) (is_sending client) result (sends_other f first h next (reply_view reply) (searched_took f first h all (reply_view reply) is.0 apart is.1)) came
  hears_reply h (Sends next) client Refused reply is apart in_phase result came =
      ends f first h (Sends next) (reply_view reply) (is_sending client) result (sends_other f first h next (reply_view reply) (not_took f first h (reply_view reply) (subst IsRefusal (sym (same_text (reply_view reply) is.0 [] is.1)) is.2))) came
  hears_reply h (Asks word) client (Shown all) reply is apart in_phase result came =
      subst (Hears f first h (Asks word) (Shown all)) (sym (ends f first h (Asks word) (reply_view reply) (is_sending client) result (λ other goes. goes) came)) (ap are_pages (sym is.0) ∙ not_pages (reply_view reply) apart)
  hears_reply h (Asks word) client (Next n) reply is apart in_phase result came = ends f first h (Asks word) (reply_view reply) (is_sending client) result (λ other goes. goes) came
  hears_reply h (Asks word) client (Took n) reply is apart in_phase result came = ends f first h (Asks word) (reply_view reply) (is_sending client) result (λ other goes. goes) came
  hears_reply h (Asks word) client Refused reply is apart in_phase result came = ends f first h (Asks word) (reply_view reply) (is_sending client) result (λ other goes. goes) came

  -- Pages.

  shows : (h : History) (word : List ℕ) (all : List ReplyText) (ids : List ℕ) → pages ids ≡ all → (result : Outcome) → IsFoundBy f first h (Asks word) ids result → Hears f first h (Asks word) (Shown all) result
  shows h word all ids same (Ok heard) came =
      (ap are_pages (sym same) ∙ are_pages-pages ids, came.0, subst (HasFound heard.1) (ap in_order (sym (joined-pages ids)) ∙ ap ids_shown same) came.1)
  shows h word all ids same (Err why) came = absurd came

  -- what the pages of identifiers make of a client, by the model's reply that they are
  pub hears_pages : (h : History) (phase : Phase (List ℕ)) (answer : Reply (List ReplyText)) (ids : Vec ℕ Global) → IsKept answer (kept.Found ids) → (result : Outcome) → IsFoundBy f first h phase ids.items result → Hears f first h phase answer result
  hears_pages h phase (Next n) ids is result came = absurd (no_pages ids.items (replies.Next n) is tt)
  hears_pages h phase (Took n) ids is result came = absurd (no_pages ids.items (replies.Took n) is tt)
  hears_pages h phase Refused ids is result came = absurd (no_pages ids.items is.0 is.1 (refusal_no_page is.0 is.2))
  hears_pages h Greets (Shown all) ids is result came = came
  hears_pages h Rests (Shown all) ids is result came = came
  hears_pages h (Sends next) (Shown all) ids is result came = came
  hears_pages h (Asks word) (Shown all) ids is result came = shows h word all ids.items is.0 result came

  -- in each state
  pub found_asking : (h : History) (phase : Phase (List ℕ)) (client : ClientOf ReadyState) (word : Word) (ids : List ℕ) (found : Vec ℕ Global) → found.items ≡ in_order ids → IsClientIn f first h phase (states.Asking client word)
      → IsFoundBy f first h phase ids (Ok (states.Resting client, report.Found found))
  found_asking None Greets client word ids found same is = absurd is
  found_asking (Some es) Greets client word ids found same is = absurd is
  found_asking None Rests client word ids found same is = absurd is
  found_asking (Some es) Rests client word ids found same is = absurd is
  found_asking None (Sends next) client word ids found same is = absurd is
  found_asking (Some es) (Sends next) client word ids found same is = absurd is
  found_asking None (Asks asked) client word ids found same is = absurd is
  found_asking (Some es) (Asks asked) client word ids found same is = (is.0, same)

  pub found_other : (h : History) (phase : Phase (List ℕ)) (client : State) (ids : List ℕ) → is_asking client ≡ false → IsClientIn f first h phase client → IsFoundBy f first h phase ids (Err gone.Unwanted)
  found_other h Greets client ids other is = refl
  found_other h Rests client ids other is = refl
  found_other h (Sends next) client ids other is = refl
  found_other h (Asks word) client ids other is = let clash : true ≡ false = sym (asks_is f first h word client is) ∙ other in cc
