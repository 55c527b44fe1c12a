-- A run goes as its script means: by induction over the lines that are left.
use Rattle.std.proofs.Common.{◌≡◌, ℕ, zero, suc, ◌+◌, ◌≤◌, inl, List, [], ◌∷◌, ◌++◌, length, map, take, drop, Some, None, refl, sym, ap, ◌∙◌, subst, arith, append_assoc, length-append}
use Rattle.std.specs.Prelude.{flat_map, Option, All, option_map}
use Rattle.std.specs.Io.KnownBytes.{append_known}
use Rattle.std.proofs.Math.Seq.{take-append-add, drop-append-add}
use Rattle.std.proofs.lemmas.List.{append-nil, map-append, length-map, take-append-le, drop-append-le, length-drop}
use Rattle.std.proofs.lemmas.List.Concat.{flat_map-append}
use Rattle.std.proofs.lemmas.List.Elements.{All-nil, All-append}
use Rattle.client_registry.specs.Live.{in_order}
use Rattle.keyed_fn.specs.KeyedFn.{KeyedFn}
use Rattle.sse_frames.specs.Exchange.{Asked, exchange}
use Rattle.sse_frames.specs.Frames.{FrameText}
use Rattle.sse_frames.specs.Replies.{IsIdentifier}
use Rattle.def_link_events.specs.Events.{Event}
use Rattle.sse_model.proofs.ExchangeLaws.{exchange-append, searches-append}
use Rattle.sse_script.specs.Shown.{Cause, BadWords, BadLine, SourceFault, LinkFault, DiskFault, NoMemory, LabelClash, PlaceClash, NumberClash, Clash, PeerElsewhere, BadReply, NoJournal, HasRecords, BadRecord, WrongKey}
use Rattle.sse_script.specs.Shown.{Found, Matched}
use Rattle.sse_script.specs.Stops.{cause_status}
use Rattle.sse_script.specs.Texts.{text_of}
use Rattle.sse_outside.specs.Kept.{Kept, with_records}
use Rattle.def_script_meaning.specs.Carries.{Keeps, with_answers, text_with}
use Rattle.def_script_meaning.specs.Exchange.{Told, Adds, AreExchanged, ShowsInReplies, as_event, bare}
use Rattle.def_script_meaning.specs.Goes.{IsLeft, Passes, Prints, updates_count, frames_in_hand}
use Rattle.def_script_meaning.specs.HelloExchange.{ShowsInAnswer}
use Rattle.def_script_meaning.specs.Outcome.{Printed, Says, Finds}
use Rattle.def_script_meaning.specs.Stops.{status_of}
use Rattle.def_script_meaning.specs.Outcome.{Printed, Says, Finds, Matches}
use Rattle.bool_search.specs.Chosen.{chosen_by}
use Rattle.def_script_meaning.specs.Runs.{Ended}
use Rattle.def_script_meaning.proofs.FollowedPlaces.{finds}

-- Events.

pub Adds-nothing : {A : Type 0} (told : Option (List A)) → Adds told told []
Adds-nothing None = refl
Adds-nothing (Some all) = ap (λ xs. Some xs) (sym (append-nil all))

pub Keeps-nothing : (kept : Kept) → Keeps kept kept []
Keeps-nothing kept = ap (λ records. record { records = records; refused = kept.refused }) (Adds-nothing kept.records)

pub Adds-joined : {A : Type 0} (old between new : Option (List A)) (xs ys : List A) → Adds old between xs → Adds between new ys → Adds old new (xs ++ ys)
Adds-joined None between new xs ys first second = second ∙ ap (option_map (λ told. told ++ ys)) first
Adds-joined (Some told) between new xs ys first second = second ∙ ap (option_map (λ told. told ++ ys)) first ∙ ap (λ es. Some es) (append_assoc told xs ys)

pub Keeps-joined : (old between new : Kept) (xs ys : List (List ℕ)) → Keeps old between xs → Keeps between new ys → Keeps old new (xs ++ ys)
Keeps-joined old between new xs ys first second =
    second
    ∙ ap (with_records ys) first
    ∙ ap (λ records. record { records = records; refused = old.refused }) (Adds-joined old.records (option_map (λ all. all ++ xs) old.records) (option_map (λ all. all ++ ys) (option_map (λ all. all ++ xs) old.records)) xs ys refl refl)

pub AreExchanged-none : AreExchanged [] [] []
AreExchanged-none = record { ids = All-nil (All IsIdentifier); count = refl; each = refl }

-- frames that were exchanged, and then others
pub AreExchanged-both : (xs ys : List (List ℕ)) (frames more : List FrameText) (es ds : List Event) → AreExchanged xs frames es → AreExchanged ys more ds → AreExchanged (xs ++ ys) (frames ++ more) (es ++ ds)
AreExchanged-both xs ys frames more es ds first second = record {
  ids = All-append (All IsIdentifier) xs ys first.ids second.ids;
  count = omega (arith, length-append xs ys, searches-append frames more, first.count, second.count);
  each =
      map-append bare es ds
      ∙ (λ i. first.each i ++ second.each i)
      ∙ sym (map-append as_event (exchange xs frames) (exchange ys more))
      ∙ ap (map as_event) (sym (exchange-append frames more xs ys first.count));
}

-- Text.

pub append_known-nothing : (known : Option (List ℕ)) → append_known known [] ≡ known
append_known-nothing None = refl
append_known-nothing (Some bytes) = ap (λ b. Some b) (append-nil bytes)

-- where there are as many answers as the first lines have searches, the lines after them take the answers after
with_answers-append : (xs ys : List (List ℕ)) (s t : List Printed) → length xs ≡ length (finds s) → with_answers (xs ++ ys) (s ++ t) ≡ with_answers xs s ++ with_answers ys t
with_answers-append [] ys [] t count = refl
with_answers-append (ids ∷ xs) ys [] t count = absurd (omega (arith, count))
with_answers-append xs ys (Says line ∷ s) t count = ap (λ rest. line ∷ rest) (with_answers-append xs ys s t count)
with_answers-append [] ys (Finds found ∷ s) t count = absurd (omega (arith, count))
with_answers-append (ids ∷ xs) ys (Finds found ∷ s) t count = ap (λ rest. Found ids ∷ rest) (with_answers-append xs ys s t (omega (arith, count)))
with_answers-append xs ys (Matches fields lists ∷ s) t count =
    let sum : length (lists ++ finds s) ≡ length lists + length (finds s) = length-append lists (finds s) in
    let few : length lists ≤ length xs = omega (arith, count, sum) in
    let left : length (drop (length lists) xs) ≡ length (finds s) = length-drop (length lists) xs ∙ omega (arith, count, sum) in
    (λ i. Matched (chosen_by fields (take-append-le (length lists) xs ys few i)) ∷ with_answers (drop-append-le (length lists) xs ys few i) (s ++ t))
    ∙ ap (λ rest. Matched (chosen_by fields (take (length lists) xs)) ∷ rest) (with_answers-append (drop (length lists) xs) ys s t left)

pub text_with-append : (xs ys : List (List ℕ)) (s t : List Printed) → length xs ≡ length (finds s) → text_with (xs ++ ys) (s ++ t) ≡ text_with xs s ++ text_with ys t
text_with-append xs ys s t count =
    ap (λ answers. flat_map text_of (with_answers answers (s ++ t))) (map-append in_order xs ys)
    ∙ ap (flat_map text_of) (with_answers-append (map in_order xs) (map in_order ys) s t (length-map xs in_order ∙ count))
    ∙ flat_map-append text_of (with_answers (map in_order xs) s) (with_answers (map in_order ys) t)

-- Fronts.

-- a front of a list is one of a longer list
pub front_more : {A : Type 0} (p : ℕ) (xs ys : List A) → (q : ℕ) × (take q (xs ++ ys) ≡ take p xs)
front_more zero xs ys = (0, refl)
front_more (suc p) [] ys = (0, refl)
front_more (suc p) (x ∷ xs) ys = let rest = front_more p xs ys in (suc rest.0, ap (λ more. x ∷ more) rest.1)

-- What passed since a moment, and then what passed before it.

pub Passes-behind : (f : KeyedFn) (frames more : List FrameText) (xs ys : List (List ℕ)) (old now : Told) (end : Ended) (events : List Event) → Adds old now events → AreExchanged xs frames events → Passes f more ys now end
    → Passes f (frames ++ more) (xs ++ ys) old end
Passes-behind f frames more xs ys old now end events adds first rest = record {
  events = events ++ rest.events;
  adds = Adds-joined old now end.outside.told events rest.events adds rest.adds;
  n = length frames + rest.n;
  before = events ++ rest.before;
  cut = rest.cut;
  parts = ap (λ es. events ++ es) rest.parts ∙ sym (append_assoc events rest.before rest.cut);
  exchanged = subst (λ fs. AreExchanged (xs ++ ys) fs (events ++ rest.before)) (sym (take-append-add frames more rest.n)) (AreExchanged-both xs ys frames (take rest.n more) events rest.before first rest.exchanged);
  left = subst (λ fs. IsLeft f end fs rest.cut) (sym (drop-append-add frames more rest.n)) rest.left;
  most = subst (λ fs. updates_count fs ≤ frames_in_hand end.history) (sym (drop-append-add frames more rest.n)) rest.most;
  whole = λ few. AreExchanged-both xs ys frames more events rest.events first (rest.whole few);
}

-- nothing passes, and no frame is left
pub Passes-none : (f : KeyedFn) (now : Told) (end : Ended) → end.outside.told ≡ now → status_of end.stop ≤ 7 → Passes f [] [] now end
Passes-none f now end same outside = record {
  events = [];
  adds = same ∙ Adds-nothing now;
  n = 0;
  before = [];
  cut = [];
  parts = refl;
  exchanged = AreExchanged-none;
  left = inl (refl, refl, outside);
  most = omega arith;
  whole = λ few. AreExchanged-none;
}

pub Prints-none : (m : _) (answers : List (List ℕ)) (now end : Option (List ℕ)) → end ≡ now → Prints m answers now end
Prints-none m answers now end same = record { p = 0; written = same ∙ sym (append_known-nothing now) }

-- The statuses of stops within a line.

pub shows_status : (asks : Asked) (replies : List (List ℕ)) (cause : Cause) → ShowsInReplies asks replies cause → 5 ≤ cause_status cause
shows_status asks replies BadWords shows = absurd shows
shows_status asks replies (BadLine number) shows = absurd shows
shows_status asks replies SourceFault shows = absurd shows
shows_status asks replies LinkFault shows = omega arith
shows_status asks replies DiskFault shows = omega arith
shows_status asks replies NoMemory shows = omega arith
shows_status asks replies (LabelClash first second) shows = omega arith
shows_status asks replies (PlaceClash first second) shows = omega arith
shows_status asks replies (NumberClash first second) shows = omega arith
shows_status asks replies (Clash what place) shows = omega arith
shows_status asks replies (PeerElsewhere low high got) shows = omega arith
shows_status asks replies (BadReply start) shows = omega arith
shows_status asks replies NoJournal shows = absurd shows
shows_status asks replies HasRecords shows = absurd shows
shows_status asks replies (BadRecord number) shows = absurd shows
shows_status asks replies WrongKey shows = absurd shows

pub answer_status : (low high : ℕ) (answer : List ℕ) (cause : Cause) → ShowsInAnswer low high answer cause → 5 ≤ cause_status cause
answer_status low high answer BadWords shows = absurd shows
answer_status low high answer (BadLine number) shows = absurd shows
answer_status low high answer SourceFault shows = absurd shows
answer_status low high answer LinkFault shows = omega arith
answer_status low high answer DiskFault shows = omega arith
answer_status low high answer NoMemory shows = omega arith
answer_status low high answer (LabelClash first second) shows = omega arith
answer_status low high answer (PlaceClash first second) shows = omega arith
answer_status low high answer (NumberClash first second) shows = omega arith
answer_status low high answer (Clash what place) shows = omega arith
answer_status low high answer (PeerElsewhere least most next) shows = omega arith
answer_status low high answer (BadReply start) shows = omega arith
answer_status low high answer NoJournal shows = absurd shows
answer_status low high answer HasRecords shows = absurd shows
answer_status low high answer (BadRecord number) shows = absurd shows
answer_status low high answer WrongKey shows = absurd shows
