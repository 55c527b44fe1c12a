-- Searches one after the other: what was exchanged of them, and where they are cut.
use Rattle.std.proofs.Common.{◌≡◌, ◌≢◌, ℕ, zero, suc, ◌+◌, ◌<◌, ◌≤◌, List, [], ◌∷◌, ◌++◌, length, map, take, drop, get_or, refl, sym, ap, subst, ◌∙◌, append_assoc, arith, inr}
use Rattle.std.proofs.Math.Seq.{take-append-add, drop-append-add}
use Rattle.std.proofs.lemmas.List.{map-append, length-map}
use Rattle.client_registry.proofs.SeenWords.{front_more, front_and_rest}
use Rattle.client_registry.specs.Live.{in_order}
use Rattle.client_registry.specs.WordBytes.{word_bytes}
use Rattle.client_registry.specs.declared.word.Word.{Word}
use Rattle.keyed_fn.specs.KeyFormulas.{token_of}
use Rattle.keyed_fn.specs.KeyedFn.{KeyedFn}
use Rattle.sse_frames.specs.Exchange.{searches}
use Rattle.sse_frames.specs.Frames.{FrameText, SearchFrame}
use Rattle.sse_script.specs.Shown as says
use Rattle.sse_script.specs.Shown.{Cause}
use Rattle.def_script_meaning.proofs.GoneAsMeant.{AreExchanged-both, AreExchanged-none}
use Rattle.def_script_meaning.specs.Exchange.{Told, AreExchanged, AreCut, IsCut}
use Rattle.def_link_events.specs.Events.{Event}
use Rattle.sse_client.proofs.PartOfExchange.{AreCut-first}
use Rattle.sse_client.proofs.TranscriptsJoined.{Adds-joined, Adds-nothing}
use Rattle.sse_client.specs.Exchanges.{HasExchanged, HasSearched, HaveSearched, HasCut, search_frames}

pub HaveSearched-none : (told : Told) → HaveSearched told told [] []
HaveSearched-none told = record {
  answers = [];
  exchanged = record { events = []; adds = Adds-nothing told told refl; exchanged = AreExchanged-none };
  rising = refl;
}

-- one more search
pub HaveSearched-next : (old now new : Told) (frames : List FrameText) (frame : FrameText) (lists : List (List ℕ)) (found : List ℕ)
    → HaveSearched old now frames lists → HasSearched now new frame found → HaveSearched old new (frames ++ frame ∷ []) (lists ++ found ∷ [])
HaveSearched-next old now new frames frame lists found before next = record {
  answers = before.answers ++ next.answer ∷ [];
  exchanged = record {
    events = before.exchanged.events ++ next.exchanged.events;
    adds = Adds-joined old now new before.exchanged.events next.exchanged.events before.exchanged.adds next.exchanged.adds;
    exchanged = AreExchanged-both before.answers (next.answer ∷ []) frames (frame ∷ []) before.exchanged.events next.exchanged.events before.exchanged.exchanged next.exchanged.exchanged;
  };
  rising = (λ i. before.rising i ++ next.rising i ∷ []) ∙ sym (map-append in_order before.answers (next.answer ∷ []));
}

-- a cut of the frames after those that were exchanged cuts all of them
HasCut-after : (old now new : Told) (answers : List (List ℕ)) (done left : List FrameText) (c : Cause) → HasExchanged old now answers done → HasCut now new left c → HasCut old new (done ++ left) c
HasCut-after old now new answers done left c way more = record {
  events = way.events ++ more.events;
  adds = Adds-joined old now new way.events more.events way.adds more.adds;
  cut = record {
    n = length done + more.cut.n;
    answers = answers ++ more.cut.answers;
    before = way.events ++ more.cut.before;
    cut = more.cut.cut;
    parts = ap (λ es. way.events ++ es) more.cut.parts ∙ sym (append_assoc way.events more.cut.before more.cut.cut);
    exchanged =
        subst (λ fs. AreExchanged (answers ++ more.cut.answers) fs (way.events ++ more.cut.before)) (sym (take-append-add done left more.cut.n))
        (AreExchanged-both answers more.cut.answers done (take more.cut.n left) way.events more.cut.before way.exchanged more.cut.exchanged);
    one_more = subst (λ fs. IsCut fs more.cut.cut c) (sym (drop-append-add done left more.cut.n)) more.cut.one_more;
  };
}

-- a cut of one frame is a cut there, whatever frames come after it
AreCut-one : (frame : FrameText) (later : List FrameText) (c : Cause) (n : ℕ) (answers : List (List ℕ)) (events before cut : List Event) → events ≡ before ++ cut → AreExchanged answers (take n (frame ∷ [])) before
    → IsCut (drop n (frame ∷ [])) cut c → AreCut (frame ∷ later) events c
AreCut-one frame later c zero answers events before cut parts exchanged one = record { n = 0; answers = answers; before = before; cut = cut; parts = parts; exchanged = exchanged; one_more = one }
AreCut-one frame later c (suc zero) answers events before cut parts exchanged one = absurd one
AreCut-one frame later c (suc (suc n)) answers events before cut parts exchanged one = absurd one

HasCut-one : (old new : Told) (frame : FrameText) (later : List FrameText) (c : Cause) → HasCut old new (frame ∷ []) c → HasCut old new (frame ∷ later) c
HasCut-one old new frame later c more = record {
  events = more.events;
  adds = more.adds;
  cut = AreCut-one frame later c more.cut.n more.cut.answers more.events more.cut.before more.cut.cut more.cut.parts more.cut.exchanged more.cut.one_more;
}

-- nothing was sent yet, for want of memory
pub HasCut-none : (told : Told) (frames : List FrameText) → frames ≢ [] → HasCut told told frames says.NoMemory
HasCut-none told [] some = absurd (some refl)
HasCut-none told (frame ∷ frames) some = record { events = []; adds = Adds-nothing told told refl; cut = AreCut-first frame frames [] says.NoMemory (inr refl) }

-- Of the words of a list, by place.

module _ (f : KeyedFn) (key : List ℕ) (words : List Word) (i : ℕ) (word : Word) (within : i < length words) (at : word ≡ get_or words i word) where
  abbrev frame_of : List ℕ → FrameText
  frame_of w = SearchFrame (token_of f key w)

  abbrev asked : List Word → List FrameText
  asked ws = search_frames f key (map word_bytes ws)

  asked_more : asked (take (i + 1) words) ≡ asked (take i words) ++ frame_of (word_bytes word) ∷ []
  asked_more = ap (map frame_of) (front_more word_bytes words i word (word_bytes word) within at refl) ∙ map-append frame_of (map word_bytes (take i words)) (word_bytes word ∷ [])

  asked_all : asked words ≡ asked (take i words) ++ frame_of (word_bytes word) ∷ asked (drop (i + 1) words)
  asked_all =
      ap (map frame_of)
      (front_and_rest word_bytes words i word (word_bytes word) within at refl ∙ append_assoc (map word_bytes (take i words)) (word_bytes word ∷ []) (map word_bytes (drop (i + 1) words)))
      ∙ map-append frame_of (map word_bytes (take i words)) (word_bytes word ∷ map word_bytes (drop (i + 1) words))

  -- the words up to this one were searched
  pub searched_more : (old now new : Told) (lists : List (List ℕ)) (found : List ℕ) → HaveSearched old now (asked (take i words)) lists → HasSearched now new (frame_of (word_bytes word)) found
      → HaveSearched old new (asked (take (i + 1) words)) (lists ++ found ∷ [])
  searched_more old now new lists found before next =
      subst (λ fs. HaveSearched old new fs (lists ++ found ∷ [])) (sym asked_more) (HaveSearched-next old now new (asked (take i words)) (frame_of (word_bytes word)) lists found before next)

  -- this one's search was cut
  pub cut_here : (old now new : Told) (lists : List (List ℕ)) (c : Cause) → HaveSearched old now (asked (take i words)) lists → HasCut now new (frame_of (word_bytes word) ∷ []) c → HasCut old new (asked words) c
  cut_here old now new lists c before more =
      subst (λ fs. HasCut old new fs c) (sym asked_all)
      (HasCut-after old now new before.answers (asked (take i words)) (frame_of (word_bytes word) ∷ asked (drop (i + 1) words)) c before.exchanged (HasCut-one now new (frame_of (word_bytes word)) (asked (drop (i + 1) words)) c more))

-- each search has one answer
searches_counted : (f : KeyedFn) (key : List ℕ) (words : List (List ℕ)) → searches (search_frames f key words) ≡ length words
searches_counted f key [] = refl
searches_counted f key (word ∷ words) = omega (arith, searches_counted f key words)

pub answers_counted : (f : KeyedFn) (key : List ℕ) (words : List (List ℕ)) (old new : Told) (answers : List (List ℕ)) → HasExchanged old new answers (search_frames f key words) → length answers ≡ length words
answers_counted f key words old new answers h = h.exchanged.count ∙ searches_counted f key words

-- some word, some frame

pub some_of : {A : Type 0} (xs : List A) → xs ≢ [] → 1 ≤ length xs
some_of [] some = absurd (some refl)
some_of (x ∷ xs) some = omega arith

pub frames_of_some : (f : KeyedFn) (key : List ℕ) (words : List Word) → words ≢ [] → search_frames f key (map word_bytes words) ≢ []
frames_of_some f key [] some e = absurd (some refl)
frames_of_some f key (word ∷ words) some e = absurd (cc)

-- and each word one list
pub lists_counted : {V : Type 0} (items : V → List ℕ) (f : KeyedFn) (key : List ℕ) (words : List (List ℕ)) (old new : Told) (lists : List V) → HaveSearched old new (search_frames f key words) (map items lists) → length lists ≡ length words
lists_counted items f key words old new lists h = sym (length-map lists items) ∙ ap length h.rising ∙ length-map h.answers in_order ∙ answers_counted f key words old new h.answers h.exchanged
