-- A short script under the toy function that adds a document, deletes it and adds it again with one word more meets all that
-- the headline supposes too; its session, cut by a fault of the link within an addition or a deletion, is a run that shows
-- this cause; and so is one that finds equal labels in an addition.
use Rattle.std.proofs.Common.{◌≡◌, ℕ, inl, inr, true, false, List, [], ◌∷◌, ◌++◌, map, take, Some, refl, sym, subst, arith}
use Rattle.std.specs.Prelude.{codes, replicate, All}
use Rattle.std.specs.Fmt.{digits}
use Rattle.std.specs.Str.{is_utf8, chars}
use Rattle.std.specs.Str.Lossy.{utf8_valid_len}
use Rattle.std.proofs.lemmas.List.Elements.{All-nil, All-cons}
use Rattle.hex.proofs.OnLiterals.{hex_on_literals}
use Rattle.client_registry.specs.Command.{Command, Add, Delete, Search}
use Rattle.client_registry.specs.Histories.{IsKept}
use Rattle.client_registry.specs.Run.{Run, From, at_first}
use Rattle.def_agreement.proofs.Histories.{replies_agree}
use Rattle.def_agreement.specs.TakenFrames.{Expects}
use Rattle.sse_frames.specs.Exchange.{ForTook, asked}
use Rattle.sse_frames.specs.Frames.{FrameText, Hello}
use Rattle.sse_frames.specs.Replies.{Next, Page, IsIdentifier}
use Rattle.server_core.specs.State as server
use Rattle.server_core.specs.Step.{steps}
use Rattle.def_link_events.specs.Events.{Event}
use Rattle.def_link_events.specs.Served.{IsHonest}
use Rattle.sse_model.proofs.CollisionTest.{IsCollisionFree-from_test}
use Rattle.sse_model.proofs.HistoryLaws.{frames_sent-in_grammar}
use Rattle.sse_model.specs.Drawn.{IsCollisionFree}
use Rattle.sse_model.specs.Histories.{table_at}
use Rattle.sse_script.specs.Shown.{LinkFault, LabelClash}
use Rattle.sse_script.specs.Shown.{Added, Deleted}
use Rattle.keyed_fn.specs.KeyFormulas.{mark_of}
use Rattle.script_documents.specs.LineDocument.{document}
use Rattle.def_script_meaning.proofs.GoneAsMeant.{AreExchanged-none, append_known-nothing}
use Rattle.def_script_meaning.proofs.Headline.{headline}
use Rattle.def_script_meaning.proofs.RunRows.{toy, toy_laws, key, a, setup, sent, received, place, setting_up, acknowledged, greeting, set_up_records, set_up_text, seen, collects_row, sets_up_row, greeted_row, stepped, honest_steps, calm_row, awaits_took}
use Rattle.def_script_meaning.proofs.Within.{meaning_is_kept}
use Rattle.def_script_meaning.specs.Carries.{Carries, frames_by, records_by}
use Rattle.def_script_meaning.specs.Exchange.{AreCut, IsAwaiting}
use Rattle.def_script_meaning.specs.Headline.{IsOverHonest, Headline}
use Rattle.def_script_meaning.specs.Lines.{script_lines}
use Rattle.def_script_meaning.specs.Meaning.{meaning}
use Rattle.def_script_meaning.specs.Outcome.{Place, Says, Finds, Outcome, Does}
use Rattle.def_script_meaning.specs.Runs.{Ended, ended, Opens}
use Rattle.def_script_meaning.specs.Stops.{AtEnd, At}
use lib.Utf8.{encode}

abbrev script : List ℕ
script = codes "key " ++ replicate 64 48 ++ codes "\ndoc 1 a\nsetup 1 1\nadd 5 a\ndel 5\nadd 5 a c\nfind a\n"

abbrev c : List ℕ
c = 0x63 ∷ []

abbrev commands : List Command
commands = Add (document 5 (a ∷ [])) ∷ Delete 5 ∷ Add (document 5 (a ∷ c ∷ [])) ∷ Search a ∷ []

abbrev run : Run
run = record { setup = setup; later = commands }

-- after the first n of them
abbrev behind : ℕ → Place
behind n = record place { history = Some (From at_first (record { setup = setup; later = take n commands })) }

-- What each comes to, and its frames.

abbrev adds : Outcome
adds = Does (Add (document 5 (a ∷ [])) ∷ []) (Says (Added 5))

abbrev deletes : Outcome
deletes = Does (Delete 5 ∷ []) (Says (Deleted 5))

abbrev adds_again : Outcome
adds_again = Does (Add (document 5 (a ∷ c ∷ [])) ∷ []) (Says (Added 5))

abbrev finds : Outcome
finds = Does (Search a ∷ []) (Finds (1 ∷ 5 ∷ []))

abbrev adding : List FrameText
adding = frames_by toy (behind 0) adds

abbrev deleting : List FrameText
deleting = frames_by toy (behind 1) deletes

abbrev adding_again : List FrameText
adding_again = frames_by toy (behind 2) adds_again

abbrev asking : List FrameText
asking = frames_by toy (behind 3) finds

-- What passes, and what is printed, after each.

abbrev answered : List Event
answered = map sent asking ++ received (Page true (1 ∷ 5 ∷ [])) ∷ []

abbrev set_up : List Event
set_up = greeting ++ acknowledged 0 setting_up

abbrev added : List Event
added = set_up ++ acknowledged 3 adding

abbrev deleted : List Event
deleted = added ++ acknowledged 4 deleting

abbrev added_again : List Event
added_again = deleted ++ acknowledged 5 adding_again

abbrev passing : List Event
passing = added_again ++ answered

abbrev added_records : List (List ℕ)
added_records = set_up_records ++ records_by toy (behind 0) adds

abbrev deleted_records : List (List ℕ)
deleted_records = added_records ++ records_by toy (behind 1) deletes

abbrev records : List (List ℕ)
records = deleted_records ++ records_by toy (behind 2) adds_again

abbrev added_text : List ℕ
added_text = set_up_text ++ codes "added 5\n"

abbrev deleted_text : List ℕ
deleted_text = added_text ++ codes "deleted 5\n"

abbrev added_again_text : List ℕ
added_again_text = deleted_text ++ codes "added 5\n"

abbrev text : List ℕ
text = added_again_text ++ codes "found 2: 1 5\n"

adds_row : Carries toy (behind 0) adds (seen set_up set_up_records set_up_text) (seen added added_records added_text)
unfolding digits
adds_row = record {
  kept = refl;
  answers = [];
  sent = record { events = acknowledged 3 adding; adds = refl; exchanged = record { ids = All-nil (All IsIdentifier); count = refl; each = refl }; no_clash = refl };
  printed = refl;
}

deletes_row : Carries toy (behind 1) deletes (seen added added_records added_text) (seen deleted deleted_records deleted_text)
unfolding digits
deletes_row = record {
  kept = refl;
  answers = [];
  sent = record { events = acknowledged 4 deleting; adds = refl; exchanged = record { ids = All-nil (All IsIdentifier); count = refl; each = refl }; no_clash = refl };
  printed = refl;
}

adds_again_row : Carries toy (behind 2) adds_again (seen deleted deleted_records deleted_text) (seen added_again records added_again_text)
unfolding digits
adds_again_row = record {
  kept = refl;
  answers = [];
  sent = record { events = acknowledged 5 adding_again; adds = refl; exchanged = record { ids = All-nil (All IsIdentifier); count = refl; each = refl }; no_clash = refl };
  printed = refl;
}

both : All IsIdentifier (1 ∷ 5 ∷ [])
both = All-cons IsIdentifier 1 (5 ∷ []) (omega arith, omega arith) (All-cons IsIdentifier 5 [] (omega arith, omega arith) (All-nil IsIdentifier))

finds_row : Carries toy (behind 3) finds (seen added_again records added_again_text) (seen passing records text)
unfolding digits
finds_row = record {
  kept = refl;
  answers = (1 ∷ 5 ∷ []) ∷ [];
  sent = record {
    events = answered;
    adds = refl;
    exchanged = record { ids = All-cons (All IsIdentifier) (1 ∷ 5 ∷ []) [] both (All-nil (All IsIdentifier)); count = refl; each = refl };
    no_clash = refl;
  };
  printed = refl;
}

-- The run.

abbrev end : Ended
end = ended (seen passing records text) (Some key) (Some (From at_first run)) (AtEnd false)

opens_row : Opens toy 1 (script_lines script) (seen [] [] []) end
unfolding hex_on_literals utf8_valid_len is_utf8 chars encode
opens_row = inr (inr (
  seen greeting [] [],
  greeted_row,
  inr (inr (
    seen greeting [] [],
    collects_row (seen greeting [] []),
    inr (inr (
      seen set_up set_up_records set_up_text,
      sets_up_row,
      inr (inr (
        seen added added_records added_text,
        adds_row,
        inr (inr (
          seen deleted deleted_records deleted_text,
          deletes_row,
          inr (inr (
            seen added_again records added_again_text,
            adds_again_row,
            inr (inr (seen passing records text, finds_row, inl refl)),
          )),
        )),
      )),
    )),
  )),
))

-- What the headline supposes.

abbrev frames : List FrameText
frames = setting_up ++ adding ++ deleting ++ adding_again ++ asking

free_row : IsCollisionFree (table_at toy key run) at_first run
free_row = IsCollisionFree-from_test (table_at toy key run) at_first run refl

kept_row : IsKept (Some (From at_first run))
unfolding hex_on_literals utf8_valid_len is_utf8 chars encode
kept_row = (meaning_is_kept (Some (mark_of toy)) script).0

expects_row : Expects 0 server.at_first
expects_row = record { next = refl; stage = refl }

honest_row : IsOverHonest toy server.at_first (Some []) (Some passing) (steps toy server.at_first frames).0
unfolding stepped
honest_row = record {
  past = [];
  told = refl;
  events = passing;
  adds = refl;
  honest = subst (λ replies. IsHonest toy server.at_first (stepped (Hello ∷ frames) ((Next 0 ∷ []) ∷ replies)) (steps toy server.at_first frames).0)
      (replies_agree toy key (Some (From at_first run)) server.at_first toy_laws kept_row free_row expects_row)
      (honest_steps server.at_first (Hello ∷ frames) (tt, frames_sent-in_grammar toy key (Some (From at_first run)) toy_laws kept_row free_row));
}

-- so what is said of such runs is said of this one
headline_row : Headline toy server.at_first (meaning (Some (mark_of toy)) script) (seen [] [] []) (seen passing records text) 0 (steps toy server.at_first frames).0
unfolding hex_on_literals utf8_valid_len is_utf8 chars encode
headline_row = headline toy toy_laws script (seen [] [] []) end opens_row server.at_first (steps toy server.at_first frames).0 expects_row honest_row (seen passing records text)
    (record { told = refl; kept = refl; q = 0; printed = sym (append_known-nothing (Some text)) }) free_row calm_row

-- The same session, cut by the link after a frame was sent.

cut_frame : (frame : FrameText) (later : List FrameText) (q : ℕ) → asked frame ≡ ForTook q → AreCut (frame ∷ later) (sent frame ∷ []) LinkFault
cut_frame frame later q asks = record {
  n = 0;
  answers = [];
  before = [];
  cut = sent frame ∷ [];
  parts = refl;
  exchanged = AreExchanged-none;
  one_more = (refl, ([], refl, inl (subst (λ asks. IsAwaiting asks []) (sym asks) (awaits_took q))));
}

after_an_addition : Opens toy 1 (script_lines script) (seen [] [] []) (ended (seen (set_up ++ take 1 (acknowledged 3 adding)) added_records set_up_text) (Some key) (behind 1).history (At LinkFault))
unfolding hex_on_literals utf8_valid_len is_utf8 chars encode
after_an_addition = inr (inr (
  seen greeting [] [],
  greeted_row,
  inr (inr (
    seen greeting [] [],
    collects_row (seen greeting [] []),
    inr (inr (
      seen set_up set_up_records set_up_text,
      sets_up_row,
      inr (inl (record {
        within = inl (inr (inr (inr (record { cause = LinkFault; stops = refl; kept = refl; events = take 1 (acknowledged 3 adding); adds = refl; cut = cut_frame _ [] 3 refl; no_clash = λ some. refl; unprinted = refl }))));
        key = refl;
        history = refl;
      })),
    )),
  )),
))

after_a_deletion : Opens toy 1 (script_lines script) (seen [] [] []) (ended (seen (added ++ take 1 (acknowledged 4 deleting)) deleted_records added_text) (Some key) (behind 2).history (At LinkFault))
unfolding hex_on_literals utf8_valid_len is_utf8 chars encode
after_a_deletion = inr (inr (
  seen greeting [] [],
  greeted_row,
  inr (inr (
    seen greeting [] [],
    collects_row (seen greeting [] []),
    inr (inr (
      seen set_up set_up_records set_up_text,
      sets_up_row,
      inr (inr (
        seen added added_records added_text,
        adds_row,
        inr (inl (record {
          within = inl (inr (inr (inr (record { cause = LinkFault; stops = refl; kept = refl; events = take 1 (acknowledged 4 deleting); adds = refl; cut = cut_frame _ [] 4 refl; no_clash = λ some. refl; unprinted = refl }))));
          key = refl;
          history = refl;
        })),
      )),
    )),
  )),
))

-- An addition of two words that have equal labels: the client finds them, and sends nothing of it.

abbrev colliding : List ℕ
colliding = codes "key " ++ replicate 64 48 ++ codes "\ndoc 1 a\nsetup 1 1\nadd 5 da ac\n"

abbrev in_hand : Run
in_hand = record { setup = setup; later = Add (document 5 ((0x64 ∷ 0x61 ∷ []) ∷ (0x61 ∷ 0x63 ∷ []) ∷ [])) ∷ [] }

collides_row : Opens toy 1 (script_lines colliding) (seen [] [] []) (ended (seen set_up set_up_records set_up_text) (Some key) (Some (From at_first in_hand)) (At (LabelClash 0 1)))
unfolding hex_on_literals utf8_valid_len is_utf8 chars encode
collides_row = inr (inr (
  seen greeting [] [],
  greeted_row,
  inr (inr (
    seen greeting [] [],
    collects_row (seen greeting [] []),
    inr (inr (
      seen set_up set_up_records set_up_text,
      sets_up_row,
      inr (inl (record { within = inl (inl (record { cause = LabelClash 0 1; found = refl; stops = refl; nothing = refl })); key = refl; history = refl })),
    )),
  )),
))
