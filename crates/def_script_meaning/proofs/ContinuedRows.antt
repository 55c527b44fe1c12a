-- A session that goes on, under the toy function: a server that has taken a setup is greeted by a client that doesn't know whether
-- its last frame came there; it expects the update 3, one of the two that are possible, takes an addition of this number,
-- answers a search with both documents, and takes a deletion and the setup of a new key.
use Rattle.std.proofs.Common.{◌≡◌, ℕ, inl, inr, true, false, List, [], ◌∷◌, ◌++◌, map, Some, None, refl, sym, subst, arith, lit<, lit≤}
use Rattle.std.specs.Prelude.{codes, fold, replicate, All, Option}
use Rattle.std.specs.Fmt.{digits}
use Rattle.std.specs.Str.{is_utf8, chars}
use Rattle.std.specs.Str.Lossy.{utf8_valid_len}
use Rattle.std.proofs.lemmas.List.Elements.{All-nil, All-cons}
use Rattle.client_records.specs.Records.{renewal_record}
use Rattle.client_registry.specs.Command.{Add, Delete, Search}
use Rattle.client_registry.specs.Document.{Document}
use Rattle.client_registry.specs.Epochs as epochs
use Rattle.client_registry.specs.Epochs.{Step, next_begins, setup_renewed, step_after}
use Rattle.client_registry.specs.Histories.{IsKept}
use Rattle.client_registry.specs.Run.{Run, Epochs, From, at_first}
use Rattle.keyed_fn.specs.KeyFormulas.{mark_of}
use Rattle.script_documents.specs.LineDocument.{document}
use Rattle.def_link_events.specs.Events.{Event}
use Rattle.def_link_events.specs.Served.{IsHonest}
use Rattle.server_core.specs.State as server
use Rattle.server_core.specs.State.{ServerState}
use Rattle.server_core.specs.Step.{steps}
use Rattle.def_agreement.proofs.Histories.{history_held}
use Rattle.def_agreement.specs.Held.{Holds}
use Rattle.sse_frames.specs.Frames.{FrameText, Hello}
use Rattle.sse_frames.specs.Replies.{Next, Took, Page, IsIdentifier}
use Rattle.sse_model.proofs.CollisionTest.{IsCollisionFree-from_test}
use Rattle.sse_model.specs.Drawn.{IsCollisionFree}
use Rattle.sse_model.specs.Histories.{table_at, frames_sent, HasNoCollision}
use Rattle.sse_script.specs.Shown.{Added, Deleted}
use Rattle.def_script_meaning.specs.Carries.{Carries, frames_by, records_by}
use Rattle.def_script_meaning.specs.Continues.{at_epochs, GoesOn, Continued}
use Rattle.def_script_meaning.specs.Headline.{IsOverHonest}
use Rattle.def_script_meaning.specs.Lines.{Command as CommandLine}
use Rattle.def_script_meaning.specs.Lines.{Line, Doc, SetupLine, AddLine, Del, Find, RebuildLine}
use Rattle.def_script_meaning.specs.Meaning.{follow}
use Rattle.def_script_meaning.specs.Outcome.{Place, Says, Finds, Outcome, Does, Renews, opened}
use Rattle.def_script_meaning.specs.Runs.{Ended, ended, IsGreeted}
use Rattle.def_script_meaning.specs.Since.{frames_since}
use Rattle.def_script_meaning.specs.Stops.{AtEnd}
use Rattle.def_script_meaning.proofs.ContinuedSessions.{continued, since_is_answered}
use Rattle.def_script_meaning.proofs.GoneAsMeant.{append_known-nothing}
use Rattle.def_script_meaning.proofs.Kept.{IsKeptAt, IsKeptAt-opened, kept_next, kept_follow}
use Rattle.def_script_meaning.proofs.RunRows.{toy, toy_laws, key, a, setup, sent, received, acknowledged, seen, stepped, honest_steps, calm_row}
use lib.Utf8.{encode}

abbrev docs : List Document
docs = document 1 (a ∷ []) ∷ []

abbrev run : Run
run = record { setup = setup; later = [] }

abbrev es : Epochs
es = From at_first run

-- another key
abbrev ones : List ℕ
ones = replicate 32 1

abbrev more : List Step
more = epochs.Does (Add (document 5 (a ∷ []))) ∷ epochs.Does (Search a) ∷ epochs.Does (Delete 1) ∷ epochs.Renews ones ∷ []

abbrev lines : List (Option Line)
lines = Some (CommandLine (AddLine 5 (a ∷ []))) ∷ Some (CommandLine (Find a)) ∷ Some (CommandLine (Del 1)) ∷ Some (CommandLine (RebuildLine ones)) ∷ []

-- the last epoch before the renewal, and the one that begins with it
abbrev old : Run
old = record { setup = setup; later = Add (document 5 (a ∷ [])) ∷ Search a ∷ Delete 1 ∷ [] }

abbrev new : Run
new = record { setup = setup_renewed old; later = [] }

-- What holds before the session.

kept_row : IsKeptAt 64 (at_epochs (mark_of toy) [] key docs es)
unfolding utf8_valid_len is_utf8 chars encode
kept_row = kept_next 32 (record { key = key; mark = Some (mark_of toy); used = []; documents = docs; history = None }) (SetupLine 1 1 1) tt (kept_next 0 (opened (Some (mark_of toy)) key) (Doc 1 (a ∷ [])) (lit< tt) (IsKeptAt-opened (Some (mark_of toy)) 0 key))

whole_kept_row : IsKept (Some (fold step_after es more))
unfolding utf8_valid_len is_utf8 chars encode
whole_kept_row = (kept_follow 64 (at_epochs (mark_of toy) [] key docs es) 1 lines false (lit< tt, (tt, (lit< tt, (tt, tt)))) kept_row).0

free_row : IsCollisionFree (table_at toy key run) at_first run
free_row = IsCollisionFree-from_test (table_at toy key run) at_first run refl

whole_free_row : HasNoCollision toy key (Some (fold step_after es more))
whole_free_row = (IsCollisionFree-from_test (table_at toy key old) at_first old refl, IsCollisionFree-from_test (table_at toy ones new) (next_begins (From at_first old)) new refl)

-- a server that was sent the setup's three frames
abbrev before : ServerState
before = (steps toy server.at_first (frames_sent toy key (Some (From at_first run)))).0

held_row : Holds (table_at toy key run) at_first setup [] before
held_row = history_held toy key (From at_first run) server.at_first toy_laws kept_row.history free_row (record { next = refl; stage = refl })

next_row : before.next ≡ 3
next_row = held_row.next

-- The session.

abbrev adding : List FrameText
adding = frames_by toy (at_epochs (mark_of toy) [] key docs es) (Does (Add (document 5 (a ∷ [])) ∷ []) (Says (Added 5)))

abbrev added : Place
added = at_epochs (mark_of toy) [] key docs (From at_first (record { setup = setup; later = Add (document 5 (a ∷ [])) ∷ [] }))

abbrev finds : Outcome
finds = Does (Search a ∷ []) (Finds (1 ∷ 5 ∷ []))

abbrev asking : List FrameText
asking = frames_by toy added finds

abbrev found : Place
found = at_epochs (mark_of toy) [] key docs (From at_first (record { setup = setup; later = Add (document 5 (a ∷ [])) ∷ Search a ∷ [] }))

abbrev deletes : Outcome
deletes = Does (Delete 1 ∷ []) (Says (Deleted 1))

abbrev deleting : List FrameText
deleting = frames_by toy found deletes

abbrev deleted : Place
deleted = at_epochs (mark_of toy) [] key docs (From at_first old)

abbrev renews : Outcome
renews = Renews ones (setup_renewed old)

abbrev renewing : List FrameText
renewing = frames_by toy deleted renews

abbrev greeted : List Event
greeted = sent Hello ∷ received (Next 3) ∷ []

abbrev asked : List Event
asked = greeted ++ acknowledged 3 adding ++ map sent asking ++ received (Page true (1 ∷ 5 ∷ [])) ∷ []

abbrev passing : List Event
passing = asked ++ acknowledged 4 deleting ++ acknowledged 5 renewing

abbrev added_records : List (List ℕ)
added_records = records_by toy (at_epochs (mark_of toy) [] key docs es) (Does (Add (document 5 (a ∷ [])) ∷ []) (Says (Added 5)))

abbrev deleted_records : List (List ℕ)
deleted_records = added_records ++ records_by toy found deletes

-- that of the renewal is the last
abbrev records : List (List ℕ)
records = deleted_records ++ renewal_record (mark_of toy ones) ∷ []

abbrev added_text : List ℕ
added_text = codes "added 5\n"

abbrev found_text : List ℕ
found_text = added_text ++ codes "found 2: 1 5\n"

abbrev deleted_text : List ℕ
deleted_text = found_text ++ codes "deleted 1\n"

abbrev text : List ℕ
text = deleted_text ++ codes "rebuilt 1 words 0 blocks\n"

adds_row : Carries toy (at_epochs (mark_of toy) [] key docs es) (Does (Add (document 5 (a ∷ [])) ∷ []) (Says (Added 5))) (seen greeted [] []) (seen (greeted ++ acknowledged 3 adding) added_records added_text)
unfolding digits
adds_row = record {
  kept = refl;
  answers = [];
  sent = record { events = acknowledged 3 adding; adds = refl; exchanged = record { ids = All-nil (All IsIdentifier); count = refl; each = refl }; no_clash = refl };
  printed = refl;
}

finds_row : Carries toy added finds (seen (greeted ++ acknowledged 3 adding) added_records added_text) (seen asked added_records found_text)
unfolding digits
finds_row = record {
  kept = refl;
  answers = (1 ∷ 5 ∷ []) ∷ [];
  sent = record {
    events = map sent asking ++ received (Page true (1 ∷ 5 ∷ [])) ∷ [];
    adds = refl;
    exchanged = record {
      ids = All-cons (All IsIdentifier) (1 ∷ 5 ∷ []) [] (All-cons IsIdentifier 1 (5 ∷ []) (omega arith, omega arith) (All-cons IsIdentifier 5 [] (omega arith, omega arith) (All-nil IsIdentifier))) (All-nil (All IsIdentifier));
      count = refl;
      each = refl;
    };
    no_clash = refl;
  };
  printed = refl;
}

deletes_row : Carries toy found deletes (seen asked added_records found_text) (seen (asked ++ acknowledged 4 deleting) deleted_records deleted_text)
unfolding digits
deletes_row = record {
  kept = refl;
  answers = [];
  sent = record { events = acknowledged 4 deleting; adds = refl; exchanged = record { ids = All-nil (All IsIdentifier); count = refl; each = refl }; no_clash = refl };
  printed = refl;
}

renews_row : Carries toy deleted renews (seen (asked ++ acknowledged 4 deleting) deleted_records deleted_text) (seen passing records text)
unfolding digits
renews_row = record {
  kept = refl;
  answers = [];
  sent = record { events = acknowledged 5 renewing; adds = refl; exchanged = record { ids = All-nil (All IsIdentifier); count = refl; each = refl }; no_clash = refl };
  printed = refl;
}

abbrev end : Ended
end = ended (seen passing records text) (Some key) (Some (fold step_after es more)) (AtEnd false)

-- the number is one of 2 and 3
greeted_row : IsGreeted 2 3 (seen [] [] []) (seen greeted [] [])
greeted_row = record { greets = record { next = 3; least = lit≤ tt; most = lit≤ tt; events = greeted; adds = refl; each = refl }; unkept = refl; unprinted = refl }

goes_on_row : GoesOn toy 2 3 (at_epochs (mark_of toy) [] key docs es) 1 lines false (seen [] [] []) end
unfolding utf8_valid_len is_utf8 chars encode
goes_on_row = inr (
  seen greeted [] [],
  greeted_row,
  inr (inr (
    seen (greeted ++ acknowledged 3 adding) added_records added_text,
    adds_row,
    inr (inr (
      seen asked added_records found_text,
      finds_row,
      inr (inr (seen (asked ++ acknowledged 4 deleting) deleted_records deleted_text, deletes_row, inr (inr (seen passing records text, renews_row, inl refl)))),
    )),
  )),
)

-- it is honest
abbrev frames : List FrameText
frames = frames_since toy key es more

honest_row : IsOverHonest toy before (Some []) (Some passing) (steps toy before frames).0
unfolding stepped
honest_row =
    let answered = since_is_answered toy toy_laws key es before held_row more whole_kept_row whole_free_row in
    let replies : (steps toy before (Hello ∷ frames)).1 ≡ (Next 3 ∷ []) ∷ (Took 3 ∷ []) ∷ (Page true (1 ∷ 5 ∷ []) ∷ []) ∷ (Took 4 ∷ []) ∷ (Took 5 ∷ []) ∷ (Took 6 ∷ []) ∷ (Took 7 ∷ []) ∷ [] =
    λ i. (Next (next_row i) ∷ []) ∷ answered.replies i in
    record {
      past = [];
      told = refl;
      events = passing;
      adds = refl;
      honest = subst (λ rs. IsHonest toy before (stepped (Hello ∷ frames) rs) (steps toy before frames).0) replies (honest_steps before (Hello ∷ frames) (tt, answered.grammar));
    }

-- so what is said of such sessions is said of this one
continued_row : Continued toy before key es (follow (at_epochs (mark_of toy) [] key docs es) 1 lines false) (seen [] [] []) (seen passing records text) 0 (steps toy before frames).0
unfolding utf8_valid_len is_utf8 chars encode
continued_row = continued toy toy_laws key es before held_row (mark_of toy) [] docs 64 1 lines false (lit< tt, (tt, (lit< tt, (tt, tt)))) kept_row 2 3 (lit< tt) (omega (arith, next_row)) (omega (arith, next_row))
    (seen [] [] []) end goes_on_row (steps toy before frames).0 honest_row (seen passing records text) (record { told = refl; kept = refl; q = 0; printed = sym (append_known-nothing (Some text)) }) whole_free_row calm_row
