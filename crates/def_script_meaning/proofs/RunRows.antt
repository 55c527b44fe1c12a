-- A short script under the toy function, with a setup, a search and its answer, meets all that the headline supposes; and
-- its session, cut by a fault of the link after each of its events, is a run that shows this cause.
use Rattle.std.proofs.Common.{◌≡◌, ◌⊎◌, ℕ, ◌+◌, inl, inr, true, false, List, [], ◌∷◌, ◌++◌, map, take, drop, Some, None, refl, sym, ap, subst, arith, lit≤}
use Rattle.std.specs.Prelude.{codes, replicate, All}
use Rattle.std.specs.Fmt.{digits}
use Rattle.std.specs.FinMap as map
use Rattle.std.specs.FinSet as set
use Rattle.std.specs.List.{AllByRecursion}
use Rattle.std.specs.Str.{is_utf8, chars}
use Rattle.std.specs.Str.Lossy.{utf8_valid_len}
use Rattle.std.proofs.lemmas.List.Elements.{All-nil, All-cons}
use Rattle.hex.proofs.OnLiterals.{hex_on_literals}
use Rattle.client_registry.specs.Command.{Search}
use Rattle.client_registry.specs.Histories.{IsKept}
use Rattle.client_registry.specs.Run.{Run, History, From, at_first}
use Rattle.client_registry.specs.Setup.{Setup, setup_of}
use Rattle.keyed_fn.specs.KeyedFn.{KeyedFn, keyed_fn, IsKeyedFn}
use Rattle.keyed_fn.specs.Toy.{toy_prf, toy_pad}
use Rattle.keyed_fn.specs.ToyLaws.{length-toy_prf, All-toy_prf, length-toy_pad, All-toy_pad, take-toy_pad}
use Rattle.sse_frames.specs.Exchange.{ForTook, ForAnswer, exchange, searches}
use Rattle.sse_frames.specs.Frames.{FrameText, Hello, InGrammar, frame_bytes}
use Rattle.sse_frames.specs.Replies.{ReplyText, Next, Took, Page, IsIdentifier, reply_bytes}
use Rattle.server_core.specs.State as server
use Rattle.server_core.specs.State.{ServerState}
use Rattle.server_core.specs.Step.{step, steps}
use Rattle.def_link_events.proofs.Honest.{Serves-step}
use Rattle.def_link_events.specs.Events.{Event, Sent, Received}
use Rattle.def_link_events.specs.Served.{Served, IsServed, IsHonest, idle}
use Rattle.def_link_events.specs.declared.mark.Mark.TheVariants.{Stepped}
use Rattle.sse_model.proofs.CollisionTest.{IsCollisionFree-from_test}
use Rattle.sse_model.proofs.HistoryLaws.{frames_sent-in_grammar}
use Rattle.sse_model.specs.Drawn.{IsCollisionFree}
use Rattle.sse_model.specs.Histories.{table_at}
use Rattle.sse_script.specs.Shown.{DiskFault, LinkFault}
use Rattle.script_documents.specs.LineDocument.{document}
use Rattle.def_script_meaning.proofs.Headline.{headline}
use Rattle.def_script_meaning.proofs.Within.{meaning_is_kept}
use Rattle.def_script_meaning.proofs.GoneAsMeant.{Adds-nothing, Keeps-nothing, AreExchanged-none, append_known-nothing}
use Rattle.client_records.specs.Records.{setup_record}
use Rattle.keyed_fn.specs.KeyFormulas.{mark_of}
use Rattle.def_script_meaning.specs.Carries.{Outside, Carries, frames_by}
use Rattle.def_script_meaning.specs.Exchange.{AreExchanged, AreCut, IsCut, IsAwaiting, bare, as_event}
use Rattle.def_script_meaning.specs.HelloExchange.{IsTurned}
use Rattle.def_script_meaning.specs.Headline.{IsOverHonest, IsUndisturbed, Headline}
use Rattle.def_script_meaning.specs.Lines.{script_lines}
use Rattle.def_script_meaning.specs.Meaning.{meaning}
use Rattle.def_script_meaning.specs.Outcome.{Place, Finds, opened, Collects, SetsUp, Does}
use Rattle.def_script_meaning.specs.Runs.{Ended, ended, Opens, IsGreeted}
use Rattle.def_script_meaning.specs.Stops.{AtEnd, At}
use lib.Utf8.{encode}

abbrev pub toy : KeyedFn
toy = keyed_fn toy_prf toy_pad

pub toy_laws : IsKeyedFn toy
toy_laws = record { prf_length = length-toy_prf; prf_bytes = All-toy_prf; pad_length = length-toy_pad; pad_bytes = All-toy_pad; pad_prefix = take-toy_pad }

abbrev script : List ℕ
script = codes "key " ++ replicate 64 48 ++ codes "\ndoc 1 a\nsetup 1 1\nfind a\n"

abbrev pub key : List ℕ
key = replicate 32 0

abbrev pub a : List ℕ
a = 0x61 ∷ []

abbrev pub setup : Setup
setup = setup_of (document 1 (a ∷ []) ∷ []) 1 1

abbrev run : Run
run = record { setup = setup; later = Search a ∷ [] }

-- The events.

abbrev pub sent : FrameText → Event
sent frame = Sent (frame_bytes frame) Stepped

abbrev pub received : ReplyText → Event
received reply = Received (reply_bytes reply)

abbrev pub place : Place
place = record { key = key; mark = Some (mark_of toy); used = []; documents = document 1 (a ∷ []) ∷ []; history = None }

abbrev searching : Place
searching = record { key = key; mark = Some (mark_of toy); used = []; documents = document 1 (a ∷ []) ∷ []; history = Some (From at_first (record { setup = setup; later = [] })) }

abbrev pub setting_up : List FrameText
setting_up = frames_by toy place (SetsUp setup)

-- these frames, each acknowledged
abbrev pub acknowledged : ℕ → List FrameText → List Event
acknowledged q [] = []
acknowledged q (frame ∷ frames) = sent frame ∷ received (Took q) ∷ acknowledged (q + 1) frames

abbrev pub greeting : List Event
greeting = sent Hello ∷ received (Next 0) ∷ []

abbrev asking : List FrameText
asking = frames_by toy searching (Does (Search a ∷ []) (Finds (1 ∷ [])))

abbrev answered : List Event
answered = map sent asking ++ received (Page true (1 ∷ [])) ∷ []

abbrev passing : List Event
passing = greeting ++ acknowledged 0 setting_up ++ answered

setup_row : AreExchanged [] setting_up (acknowledged 0 setting_up)
setup_row = record { ids = All-nil (All IsIdentifier); count = refl; each = refl }

one : All IsIdentifier (1 ∷ [])
one = All-cons IsIdentifier 1 [] (omega arith, omega arith) (All-nil IsIdentifier)

search_row : AreExchanged ((1 ∷ []) ∷ []) asking answered
search_row = record { ids = All-cons (All IsIdentifier) (1 ∷ []) [] one (All-nil (All IsIdentifier)); count = refl; each = refl }

-- What is printed.

abbrev pub set_up_text : List ℕ
set_up_text = codes "set up 1 words 0 blocks\n"

abbrev found_text : List ℕ
found_text = codes "found 1: 1\n"

abbrev pub seen : List Event → List (List ℕ) → List ℕ → Outside
seen events records text = record { told = Some events; kept = record { records = Some records; refused = [] }; written = Some text }

abbrev pub set_up_records : List (List ℕ)
set_up_records = setup_record (mark_of toy key) setup ∷ []

-- The run.

pub collects_row : (o : Outside) → Carries toy (opened (Some (mark_of toy)) key) (Collects (document 1 (a ∷ []))) o o
collects_row o = record {
  kept = Keeps-nothing o.kept;
  answers = [];
  sent = record { events = []; adds = Adds-nothing o.told; exchanged = AreExchanged-none; no_clash = refl };
  printed = sym (append_known-nothing o.written);
}

pub sets_up_row : Carries toy place (SetsUp setup) (seen greeting [] []) (seen (greeting ++ acknowledged 0 setting_up) set_up_records set_up_text)
unfolding digits
sets_up_row = record {
  kept = refl;
  answers = [];
  sent = record { events = acknowledged 0 setting_up; adds = refl; exchanged = setup_row; no_clash = refl };
  printed = refl;
}

finds_row : Carries toy searching (Does (Search a ∷ []) (Finds (1 ∷ []))) (seen (greeting ++ acknowledged 0 setting_up) set_up_records set_up_text) (seen passing set_up_records (set_up_text ++ found_text))
unfolding digits
finds_row = record {
  kept = refl;
  answers = (1 ∷ []) ∷ [];
  sent = record { events = answered; adds = refl; exchanged = search_row; no_clash = refl };
  printed = refl;
}

abbrev end : Ended
end = ended (seen passing set_up_records (set_up_text ++ found_text)) (Some key) (Some (From at_first run)) (AtEnd false)

pub greeted_row : IsGreeted 0 0 (seen [] [] []) (seen greeting [] [])
greeted_row = record { greets = record { next = 0; least = lit≤ tt; most = lit≤ tt; events = greeting; adds = refl; each = refl }; unkept = refl; unprinted = refl }

opens_row : Opens toy 1 (script_lines script) (seen [] [] []) end
unfolding hex_on_literals utf8_valid_len is_utf8 chars encode
opens_row = inr (inr (
  seen greeting [] [],
  greeted_row,
  inr (inr (
    seen greeting [] [],
    collects_row (seen greeting [] []),
    inr (inr (
      seen (greeting ++ acknowledged 0 setting_up) set_up_records set_up_text,
      sets_up_row,
      inr (inr (seen passing set_up_records (set_up_text ++ found_text), finds_row, inl refl)),
    )),
  )),
))

-- over a link that lies, what was received is printed
lies_row : Carries toy searching (Does (Search a ∷ []) (Finds (1 ∷ []))) (seen [] [] []) (seen (map sent asking ++ received (Page true (77 ∷ [])) ∷ []) [] (codes "found 1: 77\n"))
unfolding digits
lies_row = record {
  kept = refl;
  answers = (77 ∷ []) ∷ [];
  sent = record {
    events = map sent asking ++ received (Page true (77 ∷ [])) ∷ [];
    adds = refl;
    exchanged = record { ids = All-cons (All IsIdentifier) (77 ∷ []) [] (All-cons IsIdentifier 77 [] (omega arith, omega arith) (All-nil IsIdentifier)) (All-nil (All IsIdentifier)); count = refl; each = refl };
    no_clash = refl;
  };
  printed = refl;
}

-- What the headline supposes.

-- what a server receives of replies that wait
received_all : (s : ServerState) (due : List (List ℕ)) (later : List Event) (last : Served) → IsServed toy (idle s) later last → IsServed toy (record { state = s; due = due }) (map Received due ++ later) last
received_all s [] later last served = served
received_all s (reply ∷ due) later last served = (due, refl, received_all s due later last served)

-- a server's steps are an honest transcript
unfoldable pub stepped : List FrameText → List (List ReplyText) → List Event
stepped [] replies = []
stepped (frame ∷ frames) [] = []
stepped (frame ∷ frames) (rs ∷ replies) = sent frame ∷ map Received (map reply_bytes rs) ++ stepped frames replies

pub honest_steps : (s : ServerState) (frames : List FrameText) → AllByRecursion InGrammar frames → IsHonest toy s (stepped frames (steps toy s frames).1) (steps toy s frames).0
unfolding stepped
honest_steps s [] grammar = (refl, inl refl)
honest_steps s (frame ∷ frames) grammar = (
  record { state = (step toy s frame).0; due = map reply_bytes (step toy s frame).1 },
  Serves-step toy s frame grammar.0,
  received_all (step toy s frame).0 (map reply_bytes (step toy s frame).1) _ _ (honest_steps (step toy s frame).0 frames grammar.1),
)

abbrev frames : List FrameText
frames = setting_up ++ asking

replies_row : (steps toy server.at_first (Hello ∷ frames)).1 ≡ (Next 0 ∷ []) ∷ (Took 0 ∷ []) ∷ (Took 1 ∷ []) ∷ (Took 2 ∷ []) ∷ (Page true (1 ∷ []) ∷ []) ∷ []
replies_row = simp (map.gets, set.members)

free_row : IsCollisionFree (table_at toy key run) at_first run
free_row = IsCollisionFree-from_test (table_at toy key run) at_first run refl

kept_row : IsKept (Some (From at_first run))
unfolding hex_on_literals utf8_valid_len is_utf8 chars encode
kept_row = (meaning_is_kept (Some (mark_of toy)) script).0

honest_row : IsOverHonest toy server.at_first (Some []) (Some passing) (steps toy server.at_first frames).0
unfolding stepped
honest_row = record {
  past = [];
  told = refl;
  events = passing;
  adds = refl;
  honest = subst (λ replies. IsHonest toy server.at_first (stepped (Hello ∷ frames) replies) (steps toy server.at_first frames).0) replies_row
      (honest_steps server.at_first (Hello ∷ frames) (tt, frames_sent-in_grammar toy key (Some (From at_first run)) toy_laws kept_row free_row));
}

pub calm_row : IsUndisturbed 0
calm_row = record {
  source = λ e. absurd (omega (arith, e));
  sink = λ e. absurd (omega (arith, e));
  link = λ e. absurd (omega (arith, e));
  disk = λ e. absurd (omega (arith, e));
  memory = λ e. absurd (omega (arith, e));
}

-- so what is said of such runs is said of this one
headline_row : Headline toy server.at_first (meaning (Some (mark_of toy)) script) (seen [] [] []) (seen passing set_up_records (set_up_text ++ found_text)) 0 (steps toy server.at_first frames).0
unfolding hex_on_literals utf8_valid_len is_utf8 chars encode
headline_row = headline toy toy_laws script (seen [] [] []) end opens_row server.at_first (steps toy server.at_first frames).0 (record { next = refl; stage = refl }) honest_row (seen passing set_up_records (set_up_text ++ found_text))
    (record { told = refl; kept = refl; q = 0; printed = sym (append_known-nothing (Some (set_up_text ++ found_text))) }) free_row calm_row

-- The same session, cut by the link after so many of its events.

-- no reply came, and one is to come
pub awaits_took : (q : ℕ) → IsAwaiting (ForTook q) []
awaits_took q = record { allowed = record { ids = []; each = All-nil IsIdentifier; few = lit≤ tt; rest = reply_bytes (Took q) ∷ []; first = refl }; more = λ e. absurd (cc) }

awaits_answer : IsAwaiting ForAnswer []
awaits_answer = record { allowed = record { ids = []; each = All-nil IsIdentifier; few = lit≤ tt; rest = reply_bytes (Page true []) ∷ []; first = refl }; more = λ e. absurd (cc) }

-- frames were acknowledged, and of the next this passed
cut_at : (fs : List FrameText) (n : ℕ) (before cut : List Event) → AreExchanged [] (take n fs) before → IsCut (drop n fs) cut LinkFault → AreCut fs (before ++ cut) LinkFault
cut_at fs n before cut exchanged one_more = record { n = n; answers = []; before = before; cut = cut; parts = refl; exchanged = exchanged; one_more = one_more }

first_frames : (n : ℕ) → map bare (acknowledged 0 (take n setting_up)) ≡ map as_event (exchange [] (take n setting_up)) → 0 ≡ searches (take n setting_up) → AreExchanged [] (take n setting_up) (acknowledged 0 (take n setting_up))
first_frames n each count = record { ids = All-nil (All IsIdentifier); count = count; each = each }

away : (events : List Event) → IsTurned 0 0 events LinkFault → Opens toy 1 (script_lines script) (seen [] [] []) (ended (seen events [] []) (Some key) None (At LinkFault))
unfolding hex_on_literals utf8_valid_len is_utf8 chars encode
away events turned =
    inr (inl (record { cause = LinkFault; stops = refl; away = record { events = events; adds = refl; turned = turned }; unkept = refl; unprinted = refl; same_key = refl; history = refl }))

in_setup : (events : List Event) → AreCut setting_up events LinkFault → Opens toy 1 (script_lines script) (seen [] [] []) (ended (seen (greeting ++ events) set_up_records []) (Some key) (Some (From at_first (record { setup = setup; later = [] }))) (At LinkFault))
unfolding hex_on_literals utf8_valid_len is_utf8 chars encode
in_setup events cut = inr (inr (
  seen greeting [] [],
  greeted_row,
  inr (inr (
    seen greeting [] [],
    collects_row (seen greeting [] []),
    inr (inl (record { within = inl (inr (inr (inr (record { cause = LinkFault; stops = refl; kept = refl; events = events; adds = refl; cut = cut; no_clash = λ some. refl; unprinted = refl })))); key = refl; history = refl })),
  )),
))

in_search : (events : List Event) → AreCut asking events LinkFault → Opens toy 1 (script_lines script) (seen [] [] []) (ended (seen (greeting ++ acknowledged 0 setting_up ++ events) set_up_records set_up_text) (Some key) (Some (From at_first run)) (At LinkFault))
unfolding hex_on_literals utf8_valid_len is_utf8 chars encode
in_search events cut = inr (inr (
  seen greeting [] [],
  greeted_row,
  inr (inr (
    seen greeting [] [],
    collects_row (seen greeting [] []),
    inr (inr (
      seen (greeting ++ acknowledged 0 setting_up) set_up_records set_up_text,
      sets_up_row,
      inr (inl (record { within = inl (inr (inr (inr (record { cause = LinkFault; stops = refl; kept = refl; events = events; adds = refl; cut = cut; no_clash = λ some. refl; unprinted = refl })))); key = refl; history = refl })),
    )),
  )),
))

-- the setup's record is refused, or there is no memory to hand it over: nothing is sent of the setup
abbrev without_record : (refused : List (List ℕ)) → Outside
without_record refused = record { told = Some greeting; kept = record { records = Some []; refused = refused }; written = Some [] }

refused_record : (refused : List (List ℕ)) → (refused ≡ []) ⊎ (refused ≡ set_up_records)
    → Opens toy 1 (script_lines script) (seen [] [] []) (ended (without_record refused) (Some key) (Some (From at_first (record { setup = setup; later = [] }))) (At DiskFault))
unfolding hex_on_literals utf8_valid_len is_utf8 chars encode
refused_record refused kept = inr (inr (
  seen greeting [] [],
  greeted_row,
  inr (inr (
    seen greeting [] [],
    collects_row (seen greeting [] []),
    inr (inl (record {
      within = inl (inr (inr (inl (record {
        stops = inl refl;
        some = λ e. absurd (cc);
        no_clash = refl;
        unsent = refl;
        kept = elim kept [ inl none ↦ inl (ap (λ r. record { records = Some []; refused = r }) none) | inr all ↦ inr (ap (λ r. record { records = Some []; refused = r }) all) ];
        unprinted = refl;
      }))));
      key = refl;
      history = refl;
    })),
  )),
))

abbrev cut_run : (events : List Event) (records : List (List ℕ)) (text : List ℕ) → History → Type 0
cut_run events records text h = Opens toy 1 (script_lines script) (seen [] [] []) (ended (seen events records text) (Some key) h (At LinkFault))

abbrev set_up_alone : History
set_up_alone = Some (From at_first (record { setup = setup; later = [] }))

after_0 : cut_run (take 0 passing) [] [] None
after_0 = away [] (inl refl)

after_1 : cut_run (take 1 passing) [] [] None
after_1 = away (sent Hello ∷ []) (refl, inl refl)

after_2 : cut_run (take 2 passing) set_up_records [] set_up_alone
after_2 = in_setup [] (cut_at setting_up 0 [] [] AreExchanged-none (inl refl))

after_3 : cut_run (take 3 passing) set_up_records [] set_up_alone
after_3 = in_setup _ (cut_at setting_up 0 [] (take 1 (map sent setting_up)) AreExchanged-none (refl, ([], refl, inl (awaits_took 0))))

after_4 : cut_run (take 4 passing) set_up_records [] set_up_alone
after_4 = in_setup _ (cut_at setting_up 1 (acknowledged 0 (take 1 setting_up)) [] (first_frames 1 refl refl) (inl refl))

after_5 : cut_run (take 5 passing) set_up_records [] set_up_alone
after_5 = in_setup _ (cut_at setting_up 1 (acknowledged 0 (take 1 setting_up)) (take 1 (map sent (drop 1 setting_up))) (first_frames 1 refl refl) (refl, ([], refl, inl (awaits_took 1))))

after_6 : cut_run (take 6 passing) set_up_records [] set_up_alone
after_6 = in_setup _ (cut_at setting_up 2 (acknowledged 0 (take 2 setting_up)) [] (first_frames 2 refl refl) (inl refl))

after_7 : cut_run (take 7 passing) set_up_records [] set_up_alone
after_7 = in_setup _ (cut_at setting_up 2 (acknowledged 0 (take 2 setting_up)) (take 1 (map sent (drop 2 setting_up))) (first_frames 2 refl refl) (refl, ([], refl, inl (awaits_took 2))))

after_8 : cut_run (take 8 passing) set_up_records set_up_text (Some (From at_first run))
after_8 = in_search [] (cut_at asking 0 [] [] AreExchanged-none (inl refl))

after_9 : cut_run (take 9 passing) set_up_records set_up_text (Some (From at_first run))
after_9 = in_search _ (cut_at asking 0 [] (map sent asking) AreExchanged-none (refl, ([], refl, inl awaits_answer)))
