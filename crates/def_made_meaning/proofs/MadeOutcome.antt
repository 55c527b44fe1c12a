-- A made script is carried out to its end, and no command of it is refused.
use Rattle.std.proofs.Common.{◌≡◌, ◌≢◌, ◌⊎◌, inl, inr, ℕ, zero, suc, ◌+◌, ◌-◌, ◌*◌, ◌/◌, ◌%◌, ◌<◌, ◌≤◌, ◌^◌, ◌==◌, Bool, true, false, cond, not, ◌&&◌, ◌||◌, List, [], ◌∷◌, ◌++◌, length, map, nat_le, filter, refl, sym, ap, subst, ◌∙◌, arith}
use Rattle.std.specs.Prelude.{Option, None, Some, codes, decimal, option_map, All, if◌then◌else◌}
use Rattle.std.specs.List.{position_from, range_with_len}
use Rattle.std.specs.Option.{option_and_then, option_or}
use Rattle.std.proofs.lemmas.Bool.{eqb-false, eqb-true, leb-false, leb-true, le-ltb, ne_eqb}
use Rattle.std.proofs.lemmas.List.{length_push, map-append}
use Rattle.std.proofs.lemmas.List.Elements.{All-head, All-tail}
use Rattle.std.proofs.lemmas.List.Filters.{length-filter_both}
use Rattle.std.proofs.lemmas.List.Folds.{list_any-append}
use Rattle.std.proofs.lemmas.List.FromFn.{map-range_with_len_more}
use Rattle.std.proofs.lemmas.Map.Views.{any-filter_same}
use Rattle.std.proofs.lemmas.Simd.{map-map}
use Rattle.client_registry.proofs.LiveLaws.{counter-below, live-push}
use Rattle.client_registry.proofs.SizedLaws.{accepted_frames}
use Rattle.client_registry.specs.Command.{Command, Add, Delete, is_update}
use Rattle.client_registry.specs.Command as commands
use Rattle.client_registry.specs.Document.{Document}
use Rattle.client_registry.specs.Documents.{is_live}
use Rattle.client_registry.specs.Histories.{counter_in, empty, frames_in, is_listed_in}
use Rattle.client_registry.specs.Live.{live, matching_in}
use Rattle.client_registry.specs.Run.{History, From, at_first}
use Rattle.client_registry.specs.Setup.{Setup, setup_with}
use Rattle.client_registry.specs.WordRule.{word_refusal}
use Rattle.client_registry.specs.declared.faults.WordFault.{WordFault}
use Rattle.keyed_fn.specs.KeyFormulas.{mark_of}
use Rattle.keyed_fn.specs.KeyedFn.{KeyedFn}
use Rattle.script_documents.specs.Refused.{bad_word, word_refused}
use Rattle.script_documents.proofs.Passed.{document_passed}
use Rattle.script_made_documents.proofs.MadeDocuments.{document_refusal-made}
use Rattle.script_made_lines.proofs.ReadingLaws.{read-made_text}
use Rattle.script_made_lines.specs.Lines.{made_key, made_lines}
use Rattle.script_made_lines.specs.ReadLines.{said_by}
use Rattle.script_made_lines.specs.Script.{made_text}
use Rattle.script_made_lines.specs.Words.{made_words, searched_word, shared_word}
use Rattle.sse_script.specs.Lines.{line_of}
use Rattle.sse_script.specs.Lines as read
use Rattle.sse_script.specs.TextLines.{lines_of}
use Rattle.sse_script.specs.declared.refusal.Refusal.{Refusal}
use Rattle.sse_script.specs.declared.refusal.Refusal.TheVariants.{AlreadyLive, CounterFull, HistoryFull, UnknownDocument, Zero}
use Rattle.sse_script.specs.Shown as shown
use Rattle.def_script_meaning.specs.Carries.{Outside}
use Rattle.def_script_meaning.specs.Lines.{Line, Request, line_read, script_lines}
use Rattle.def_script_meaning.specs.Lines as lines
use Rattle.def_script_meaning.specs.Meaning.{follow, meaning, meant_from}
use Rattle.def_script_meaning.specs.Outcome.{Collects, Does, Finds, Outcome, Place, Says, SetsUp, after, is_refusal, outcome, unless}
use Rattle.def_script_meaning.specs.Refused.{add_refusal, counter_refusal, delete_refusal, frame_refusal}
use Rattle.def_script_meaning.specs.Runs.{Ended, Opens}
use Rattle.def_script_meaning.specs.Stops.{AtEnd, status_of}
use Rattle.def_script_meaning.proofs.RunGoes.{goes}
use Rattle.def_made_meaning.proofs.DocumentsLaws.{collect_refusal-next, collected-made, live_behind, live_within, made_doc, made_docs}
use Rattle.def_made_meaning.proofs.SetupLaws.{index_refusal-made, size_refusal-made}

-- from this place on these lines are carried out to the end, and none is refused
abbrev EndsWell : Place → List (Option Line) → Type 0
EndsWell place left = (number : ℕ) → (follow place number left false).end ≡ AtEnd false

-- one line that comes to this, which is no refusal
one_line : (place : Place) (request : Request) (result : Outcome) (left : List (Option Line)) → outcome place request ≡ result → is_refusal result ≡ false → EndsWell (after result place) left
    → EndsWell place (Some (lines.Command request) ∷ left)
one_line place request result left comes fine rest = λ number.
    subst (λ (r : Outcome). (follow (after r place) (number + 1) left (is_refusal r)).end ≡ AtEnd false) (sym comes)
    (subst (λ (b : Bool). (follow (after result place) (number + 1) left b).end ≡ AtEnd false) (sym fine) (rest (number + 1)))

-- the lines of the script
abbrev collected_line : (seed i : ℕ) → Option Line
collected_line seed i = Some (lines.Command (lines.Doc i (made_words seed i)))

abbrev added_line : (seed i : ℕ) → Option Line
added_line seed i = Some (lines.Command (lines.AddLine i (made_words seed i)))

abbrev deleted_line : ℕ → Option Line
deleted_line i = Some (lines.Command (lines.Del i))

abbrev searched_line : (seed s : ℕ) → Option Line
searched_line seed s = Some (lines.Command (lines.Find (searched_word seed s)))

abbrev searched_lines : ℕ → List (Option Line)
searched_lines seed = map (searched_line seed) (range_with_len 0 200)

abbrev new_lines : (seed n : ℕ) → List (Option Line)
new_lines seed n = map (added_line seed) (range_with_len (n + 1) (n / 20)) ++ searched_lines seed

abbrev added_lines : (seed n : ℕ) → List (Option Line)
added_lines seed n = map (λ t. added_line seed (20 * t)) (range_with_len 1 (n / 20)) ++ new_lines seed n

abbrev behind_lines : (seed n : ℕ) → List (Option Line)
behind_lines seed n = map (λ t. deleted_line (10 * t)) (range_with_len 1 (n / 10)) ++ added_lines seed n

abbrev all_lines : (seed n : ℕ) → List (Option Line)
all_lines seed n = map (collected_line seed) (range_with_len 1 n) ++ Some (lines.Command (lines.SetupLine 16 64 1)) ∷ behind_lines seed n

-- ---- the documents

-- while they are collected
abbrev collecting : (seed : ℕ) (mark : Option (List ℕ → List ℕ)) (key : List ℕ) (k : ℕ) → Place
collecting seed mark key k = record { key = key; mark = mark; used = []; documents = made_docs seed k; history = empty }

collects : (seed : ℕ) (mark : Option (List ℕ → List ℕ)) (key : List ℕ) (k more n : ℕ) (left : List (Option Line)) → k + more ≡ n → n ≤ 10000 → EndsWell (collecting seed mark key n) left
    → EndsWell (collecting seed mark key k) (map (collected_line seed) (range_with_len (k + 1) more) ++ left)
collects seed mark key k zero n left sum few rest =
    let same : n ≡ k = omega (arith, sum) in
    subst (λ m. EndsWell (collecting seed mark key m) left) same rest
collects seed mark key k (suc more) n left sum few rest =
    let next : EndsWell (collecting seed mark key (k + 1)) (map (collected_line seed) (range_with_len (k + 1 + 1) more) ++ left) =
    collects seed mark key (k + 1) more n left (omega (arith, sum)) few rest in
    one_line (collecting seed mark key k) (lines.Doc (k + 1) (made_words seed (k + 1))) (Collects (made_doc seed (k + 1)))
    (map (collected_line seed) (range_with_len (k + 1 + 1) more) ++ left)
    (ap (λ (r : Option Refusal). unless r (Collects (made_doc seed (k + 1)))) (collect_refusal-next seed k (omega (arith, sum, few)))) refl
    (subst (λ (docs : List Document). EndsWell (record { key = key; mark = mark; used = []; documents = docs; history = empty }) (map (collected_line seed) (range_with_len (k + 1 + 1) more) ++ left))
    (map-range_with_len_more (made_doc seed) 1 k (k + 1) (omega arith)) next)

-- ---- behind the setup

-- after these deletions of the first t tenth documents of n
record AreTenthsDeleted (seed n t : ℕ) (cs : List Command) : Type 0 where
  count : length cs ≤ t
  there : (x : ℕ) → 10 * t < x → x ≤ n → is_live (live (made_docs seed n) cs) x ≡ true
  gone : (j : ℕ) → 1 ≤ j → j ≤ t → is_live (live (made_docs seed n) cs) (10 * j) ≡ false
  above : (x : ℕ) → n < x → is_live (live (made_docs seed n) cs) x ≡ false

module _ (seed : ℕ) (mark : Option (List ℕ → List ℕ)) (key : List ℕ) (n : ℕ) (few : n ≤ 10000) where
  abbrev setup : Setup
  setup = setup_with (made_docs seed n) 16 64 1

  abbrev with_commands : List Command → History
  with_commands cs = Some (From at_first (record { setup = setup; later = cs }))

  abbrev behind : List Command → Place
  behind cs = record { key = key; mark = mark; used = []; documents = made_docs seed n; history = with_commands cs }

  abbrev live_now : List Command → ℕ → Bool
  live_now cs id = is_live (live (made_docs seed n) cs) id

  sets_up : (left : List (Option Line)) → EndsWell (behind []) left → EndsWell (collecting seed mark key n) (Some (lines.Command (lines.SetupLine 16 64 1)) ∷ left)
  sets_up left rest =
      one_line (collecting seed mark key n) (lines.SetupLine 16 64 1) (SetsUp setup) left
      (ap (λ (r : Option Refusal). unless r (SetsUp setup)) (index_refusal-made seed n few)) refl rest

  updates_few : (cs : List Command) → length (filter is_update cs) ≤ length cs
  updates_few cs =
      let both = length-filter_both is_update (λ c. not (is_update c)) (λ c. refl) cs in
      omega (arith, both)

  frame_none : (cs : List Command) → length cs ≤ 5000 → frame_refusal (with_commands cs) ≡ None
  frame_none cs short =
      let frames = accepted_frames setup (size_refusal-made seed n few) (collected-made seed n few) in
      let within : frames_in (with_commands cs) + 1 ≤ 2 ^ 32 - 1 = omega (arith, short, frames, updates_few cs) in
      λ i. if le-ltb (2 ^ 32 - 1) (frames_in (with_commands cs) + 1) within i then Some HistoryFull else None

  -- Deletions.

  deletes_one : (cs : List Command) (id : ℕ) (left : List (Option Line)) → 1 ≤ id → length cs ≤ 5000 → live_now cs id ≡ true
      → EndsWell (behind (cs ++ Delete id ∷ [])) left → EndsWell (behind cs) (deleted_line id ∷ left)
  deletes_one cs id left some short there rest =
      let none : delete_refusal (with_commands cs) id ≡ None =
      λ i. if ne_eqb id 0 (λ e. omega (arith, e, some)) i then Some Zero else if not (there i) then Some (UnknownDocument id) else frame_none cs short i in
      one_line (behind cs) (lines.Del id) (Does (Delete id ∷ []) (Says (shown.Deleted id))) left
      (ap (λ (r : Option Refusal). unless r (Does (Delete id ∷ []) (Says (shown.Deleted id)))) none) refl rest

  -- whether a document is live after a deletion
  live_deleted : (cs : List Command) (id x : ℕ) (b : Bool) → not (x == id) ≡ b → live_now (cs ++ Delete id ∷ []) x ≡ (b && live_now cs x)
  live_deleted cs id x b is =
      ap (λ (docs : List Document). is_live docs x) (live-push (made_docs seed n) cs (Delete id))
      ∙ any-filter_same (λ (d : Document). x == d.id) (λ (d : Document). not (d.id == id)) b
      (λ d same. ap (λ m. not (m == id)) (sym (eqb-true x d.id same)) ∙ is) (live (made_docs seed n) cs)

  abbrev AreDeleted : ℕ → List Command → Type 0
  AreDeleted t cs = AreTenthsDeleted seed n t cs

  none_deleted : AreDeleted 0 []
  none_deleted = record {
    count = omega arith;
    there = λ x some within. live_within seed 1 n x (omega (arith, some)) (omega (arith, within));
    gone = λ j some none. absurd (omega (arith, some, none));
    above = λ x more. live_behind seed 1 n x (omega (arith, more));
  }

  one_deleted : (t : ℕ) (cs : List Command) → 10 * (t + 1) ≤ n → AreDeleted t cs → AreDeleted (t + 1) (cs ++ Delete (10 * (t + 1)) ∷ [])
  one_deleted t cs within were =
      let same : (x : ℕ) → x ≢ 10 * (t + 1) → live_now (cs ++ Delete (10 * (t + 1)) ∷ []) x ≡ live_now cs x = λ x apart. live_deleted cs (10 * (t + 1)) x true (ap not (ne_eqb x (10 * (t + 1)) apart)) in record {
        count = omega (arith, were.count, length_push cs (Delete (10 * (t + 1))));
        there = λ x low high. same x (λ e. omega (arith, e, low)) ∙ were.there x (omega (arith, low)) high;
        gone = λ j some last. gone_at j some last;
        above = λ x more. same x (λ e. omega (arith, e, more, within)) ∙ were.above x more;
      }
    where
      itself : (m : ℕ) → (m == m) ≡ true
      itself m = by (m == m) refl
        where
          by : (b : Bool) → (m == m) ≡ b → b ≡ true
          by true e = refl
          by false e = absurd (eqb-false m m e refl)

      gone_at : (j : ℕ) → 1 ≤ j → j ≤ t + 1 → live_now (cs ++ Delete (10 * (t + 1)) ∷ []) (10 * j) ≡ false
      gone_at j some last = by (nat_le j t) refl
        where
          by : (b : Bool) → nat_le j t ≡ b → live_now (cs ++ Delete (10 * (t + 1)) ∷ []) (10 * j) ≡ false
          by true e =
              let before : j ≤ t = leb-true j t e in
              live_deleted cs (10 * (t + 1)) (10 * j) true (ap not (ne_eqb (10 * j) (10 * (t + 1)) (λ same. omega (arith, same, before)))) ∙ were.gone j some before
          by false e =
              let now : j ≡ t + 1 = omega (arith, leb-false j t e, last) in
              live_deleted cs (10 * (t + 1)) (10 * j) false (ap (λ m. not (10 * m == 10 * (t + 1))) now ∙ ap not (itself (10 * (t + 1))))

  deletes : (t more last : ℕ) (cs : List Command) (left : List (Option Line)) → t + more ≡ last → 10 * last ≤ n → AreDeleted t cs
      → ((cs' : List Command) → AreDeleted last cs' → EndsWell (behind cs') left)
      → EndsWell (behind cs) (map (λ t. deleted_line (10 * t)) (range_with_len (t + 1) more) ++ left)
  deletes t zero last cs left sum within were rest =
      let same : t ≡ last = omega (arith, sum) in
      rest cs (subst (λ m. AreDeleted m cs) same were)
  deletes t (suc more) last cs left sum within were rest =
      let own : 10 * (t + 1) ≤ n = omega (arith, sum, within) in
      deletes_one cs (10 * (t + 1)) (map (λ t. deleted_line (10 * t)) (range_with_len (t + 1 + 1) more) ++ left) (omega arith) (omega (arith, own, few, were.count))
      (were.there (10 * (t + 1)) (omega arith) own)
      (deletes (t + 1) more last (cs ++ Delete (10 * (t + 1)) ∷ []) left (omega (arith, sum)) within (one_deleted t cs own were) rest)

  -- Additions.

  no_position : (p : List ℕ → Bool) → ((word : List ℕ) → p word ≡ false) → (k : ℕ) (words : List (List ℕ)) → position_from p k words ≡ None
  no_position p none k [] = refl
  no_position p none k (word ∷ words) = ap (λ (b : Bool). cond b (Some k) (position_from p (k + 1) words)) (none word) ∙ no_position p none (k + 1) words

  counter_none : (cs : List Command) (d : Document) → length cs ≤ 5000 → counter_refusal (with_commands cs) d ≡ None
  counter_none cs d short = ap (option_map CounterFull) (no_position (λ word. not (is_listed_in (with_commands cs) word d.id) && (counter_in (with_commands cs) word == 2 ^ 32 - 1)) none 0 d.words)
    where
      either : (b : Bool) → (b && false) ≡ false
      either true = refl
      either false = refl

      none : (word : List ℕ) → (not (is_listed_in (with_commands cs) word d.id) && (counter_in (with_commands cs) word == 2 ^ 32 - 1)) ≡ false
      none word =
          let below = counter-below setup word cs in
          ap (λ (b : Bool). not (is_listed_in (with_commands cs) word d.id) && b) (ne_eqb (counter_in (with_commands cs) word) (2 ^ 32 - 1) (λ e. omega (arith, e, below, short, updates_few cs)))
          ∙ either (not (is_listed_in (with_commands cs) word d.id))

  adds_one : (cs : List Command) (id : ℕ) (left : List (Option Line)) → 1 ≤ id → id < 2 ^ 36 → length cs ≤ 5000 → live_now cs id ≡ false
      → EndsWell (behind (cs ++ Add (made_doc seed id) ∷ [])) left → EndsWell (behind cs) (added_line seed id ∷ left)
  adds_one cs id left some small short new rest =
      let sound = document_refusal-made seed id some (omega (arith, small)) in
      let none : add_refusal (with_commands cs) (made_doc seed id) ≡ None =
      λ i. option_or (sound i) (if new i then Some (AlreadyLive id) else option_or (counter_none cs (made_doc seed id) short i) (frame_none cs short i)) in
      one_line (behind cs) (lines.AddLine id (made_words seed id)) (Does (Add (made_doc seed id) ∷ []) (Says (shown.Added id))) left
      (ap (λ (r : Option Refusal). unless r (Does (Add (made_doc seed id) ∷ []) (Says (shown.Added id)))) none) refl rest

  -- another document isn't live after an addition where it wasn't before
  not_live_added : (cs : List Command) (id x : ℕ) → x ≢ id → live_now cs x ≡ false → live_now (cs ++ Add (made_doc seed id) ∷ []) x ≡ false
  not_live_added cs id x apart was =
      ap (λ (docs : List Document). is_live docs x) (live-push (made_docs seed n) cs (Add (made_doc seed id)))
      ∙ list_any-append (λ (d : Document). x == d.id) (live (made_docs seed n) cs) (made_doc seed id ∷ [])
      ∙ ap (λ (b : Bool). b || (x == id || false)) was
      ∙ ap (λ (b : Bool). b || false) (ne_eqb x id apart)

  -- additions of rising identifiers, those of the numbers from `start` up to `end`, of which none is live: `IsLater i` holds of the
  -- identifiers from number i on
  module _ (identifier : ℕ → ℕ) (start end : ℕ) (IsLater : ℕ → ℕ → Type 0) (later : (i x : ℕ) → i < end → IsLater (i + 1) x → IsLater i x × (x ≢ identifier i))
      (own : (i : ℕ) → start ≤ i → i < end → IsLater i (identifier i) × (1 ≤ identifier i) × (identifier i < 2 ^ 36)) (left : List (Option Line)) where
    adds : (i more : ℕ) (cs : List Command) → start ≤ i → i + more ≡ end → length cs + more ≤ 5000 → ((x : ℕ) → IsLater i x → live_now cs x ≡ false)
        → ((cs' : List Command) → length cs' ≤ length cs + more → ((x : ℕ) → IsLater end x → live_now cs' x ≡ false) → EndsWell (behind cs') left)
        → EndsWell (behind cs) (map (λ i. added_line seed (identifier i)) (range_with_len i more) ++ left)
    adds i zero cs from sum short new rest =
        let same : end ≡ i = omega (arith, sum) in
        rest cs (omega arith) (λ x l. new x (subst (λ m. IsLater m x) same l))
    adds i (suc more) cs from sum short new rest =
        let below : i < end = omega (arith, sum) in
        let now = own i from below in
        let id = identifier i in
        let longer = length_push cs (Add (made_doc seed id)) in
        adds_one cs id (map (λ i. added_line seed (identifier i)) (range_with_len (i + 1) more) ++ left) now.1 now.2 (omega (arith, short)) (new id now.0)
        (adds (i + 1) more (cs ++ Add (made_doc seed id) ∷ []) (omega (arith, from)) (omega (arith, sum)) (omega (arith, short, longer))
        (λ x l. let before = later i x below l in not_live_added cs id x before.1 (new x before.0))
        (λ cs' few' none. rest cs' (omega (arith, few', longer)) none))

  -- Searches.

  words_are : (i : ℕ) → 1 ≤ i → i < 2 ^ 64 → All (λ w. word_refusal w ≡ None) (made_words seed i)
  words_are i some small = let doc = document_passed i (made_words seed i) small (document_refusal-made seed i some small) in doc.are_words

  -- a word that is searched is one of some document
  searched_is_word : (s : ℕ) → s < 200 → word_refusal (searched_word seed s) ≡ None
  searched_is_word s within = by (s == 0) (nat_le s 10) refl refl
    where
      IsWord : List ℕ → Type 0
      IsWord word = word_refusal word ≡ None

      shared : ℕ → List (List ℕ)
      shared i = map (shared_word seed i) (range_with_len 0 57)

      behind_first : (i : ℕ) → 1 ≤ i → i < 2 ^ 64 → All (λ w. word_refusal w ≡ None) ((codes "m" ++ decimal (i % 10)) ∷ (codes "u" ++ decimal i) ∷ shared i)
      behind_first i some small = All-tail (λ w. word_refusal w ≡ None) (codes "all") ((codes "m" ++ decimal (i % 10)) ∷ (codes "u" ++ decimal i) ∷ shared i) (words_are i some small)

      by : (x y : Bool) → (s == 0) ≡ x → nat_le s 10 ≡ y
          → word_refusal (if x then codes "all" else if y then codes "m" ++ decimal (s - 1) else codes "w" ++ decimal ((seed + 5 * s) % 1000)) ≡ None
      by true y e f = All-head (λ w. word_refusal w ≡ None) (codes "all") ((codes "m" ++ decimal (1 % 10)) ∷ (codes "u" ++ decimal 1) ∷ shared 1) (words_are 1 (omega arith) (omega arith))
      by false true e f =
          let low : s ≤ 10 = leb-true s 10 f in
          let some : s ≢ 0 = eqb-false s 0 e in
          let digit : (9 + s) % 10 ≡ s - 1 = omega (arith, low, some) in
          subst (λ d. word_refusal (codes "m" ++ decimal d) ≡ None) digit
          (All-head (λ w. word_refusal w ≡ None) (codes "m" ++ decimal ((9 + s) % 10)) ((codes "u" ++ decimal (9 + s)) ∷ shared (9 + s)) (behind_first (9 + s) (omega arith) (omega (arith, low))))
      by false false e f =
          let high : 10 < s = leb-false s 10 f in
          let second = All-tail (λ w. word_refusal w ≡ None) (codes "m" ++ decimal (5 * s % 10)) ((codes "u" ++ decimal (5 * s)) ∷ shared (5 * s)) (behind_first (5 * s) (omega (arith, high)) (omega (arith, within))) in
          let third = All-tail (λ w. word_refusal w ≡ None) (codes "u" ++ decimal (5 * s)) (shared (5 * s)) second in
          let residue : 5 * s + seed + 17 * 0 ≡ seed + 5 * s = omega arith in
          subst (λ m. word_refusal (codes "w" ++ decimal (m % 1000)) ≡ None) residue
          (All-head (λ w. word_refusal w ≡ None) (shared_word seed (5 * s) 0) (map (shared_word seed (5 * s)) (range_with_len 1 56)) third)

  finds : (s more : ℕ) (cs : List Command) → s + more ≤ 200 → EndsWell (behind cs) (map (searched_line seed) (range_with_len s more))
  finds s zero cs within = λ number. refl
  finds s (suc more) cs within =
      let word = searched_word seed s in
      let result = Does (commands.Search word ∷ []) (Finds (matching_in (with_commands cs) word)) in
      let none : bad_word 0 (word ∷ []) ≡ None = ap (λ (r : Option WordFault). option_or (option_and_then (word_refused 0) r) None) (searched_is_word s (omega (arith, within))) in
      one_line (behind cs) (lines.Find word) result (map (searched_line seed) (range_with_len (s + 1) more))
      (ap (λ (r : Option Refusal). unless r result) none) refl
      (finds (s + 1) more (cs ++ commands.Search word ∷ []) (omega (arith, within)))

  -- All behind the setup.

  -- identifiers that aren't live as the document of number 20 i is added: those of it and of later ones, and those behind all documents
  abbrev IsTwentieth : ℕ → ℕ → Type 0
  IsTwentieth i x = (n < x) ⊎ ((j : ℕ) × (i ≤ j) × (20 * j ≤ n) × (x ≡ 20 * j))

  twentieth_later : (i x : ℕ) → i < n / 20 + 1 → IsTwentieth (i + 1) x → IsTwentieth i x × (x ≢ 20 * i)
  twentieth_later i x below (inl more) = (inl more, λ e. omega (arith, e, more, below))
  twentieth_later i x below (inr (j, low, high, is)) = (inr (j, omega (arith, low), high, is), λ e. omega (arith, e, low, is))

  added_behind : (cs : List Command) → length cs ≤ 2000 → ((x : ℕ) → n < x → live_now cs x ≡ false) → EndsWell (behind cs) (new_lines seed n)
  added_behind cs short none =
      adds (λ i. i) (n + 1) (n + 1 + n / 20) (λ i x. i ≤ x) (λ i x below l. (omega (arith, l), λ e. omega (arith, e, l)))
      (λ i from below. (omega arith, omega (arith, from), omega (arith, below, few)))
      (searched_lines seed) (n + 1) (n / 20) cs (omega arith) refl (omega (arith, short, few)) (λ x l. none x (omega (arith, l))) (λ cs' few' new. finds 0 200 cs' (omega arith))

  added_back : (cs : List Command) → AreDeleted (n / 10) cs → EndsWell (behind cs) (added_lines seed n)
  added_back cs deleted =
      adds (λ i. 20 * i) 1 (n / 20 + 1) IsTwentieth twentieth_later own (new_lines seed n) 1 (n / 20) cs (omega arith) (omega arith) (omega (arith, deleted.count, few)) new
      (λ cs' few' none. added_behind cs' (omega (arith, few', deleted.count, few)) (λ x more. none x (inl more)))
    where
      own : (i : ℕ) → 1 ≤ i → i < n / 20 + 1 → IsTwentieth i (20 * i) × (1 ≤ 20 * i) × (20 * i < 2 ^ 36)
      own i some below = (inr (i, omega arith, omega (arith, below), refl), omega (arith, some), omega (arith, below, few))

      new : (x : ℕ) → IsTwentieth 1 x → live_now cs x ≡ false
      new x (inl more) = deleted.above x more
      new x (inr (j, low, high, is)) =
          let tenth : 10 * (2 * j) ≡ x = omega (arith, is) in
          subst (λ m. live_now cs m ≡ false) tenth (deleted.gone (2 * j) (omega (arith, low)) (omega (arith, high)))

  behind_key : EndsWell (collecting seed mark key 0) (all_lines seed n)
  behind_key =
      collects seed mark key 0 n n (Some (lines.Command (lines.SetupLine 16 64 1)) ∷ behind_lines seed n) (omega arith) few
      (sets_up (behind_lines seed n) (deletes 0 (n / 10) (n / 10) [] (added_lines seed n) (omega arith) (omega arith) none_deleted added_back))

-- ---- the script

-- a list in these parts, read line by line
parts : {A : Type 0} (reads : A → Option Line) (doc : ℕ → A) (set_up : A) (delete back add : ℕ → A) (a b c d : List ℕ) (rest : List A)
    → map reads (map doc a ++ set_up ∷ (map delete b ++ (map back c ++ (map add d ++ rest))))
    ≡ map (λ i. reads (doc i)) a ++ reads set_up ∷ (map (λ i. reads (delete i)) b ++ (map (λ i. reads (back i)) c ++ (map (λ i. reads (add i)) d ++ map reads rest)))
parts {A = A} reads doc set_up delete back add a b c d rest =
    part doc a (set_up ∷ (map delete b ++ (map back c ++ (map add d ++ rest))))
    ∙ ap (λ (items : List (Option Line)). map (λ i. reads (doc i)) a ++ reads set_up ∷ items)
    (part delete b (map back c ++ (map add d ++ rest))
    ∙ ap (λ (items : List (Option Line)). map (λ i. reads (delete i)) b ++ items)
    (part back c (map add d ++ rest)
    ∙ ap (λ (items : List (Option Line)). map (λ i. reads (back i)) c ++ items)
    (part add d rest)))
  where
    part : (f : ℕ → A) (xs : List ℕ) (ys : List A) → map reads (map f xs ++ ys) ≡ map (λ i. reads (f i)) xs ++ map reads ys
    part f xs ys = map-append reads (map f xs) ys ∙ ap (λ (front : List (Option Line)). front ++ map reads ys) (map-map reads f xs)

-- its lines are those that it is made of
script_lines-made : (seed n : ℕ) → n ≤ 10000 → script_lines (made_text seed n) ≡ Some (lines.Key (made_key seed)) ∷ all_lines seed n
script_lines-made seed n few =
    sym (map-map (λ (o : Option read.Line). option_map line_read o) line_of (lines_of (made_text seed n)))
    ∙ ap (map (λ (o : Option read.Line). option_map line_read o)) (read-made_text seed n (omega (arith, few)))
    ∙ map-map (λ (o : Option read.Line). option_map line_read o) (λ line. Some (said_by seed line)) (made_lines n)
    ∙ ap (λ (items : List (Option Line)). Some (lines.Key (made_key seed)) ∷ items)
    (parts (λ line. Some (line_read (said_by seed line))) _ _ _ _ _ (range_with_len 1 n) (range_with_len 1 (n / 10)) (range_with_len 1 (n / 20)) (range_with_len (n + 1) (n / 20)) _)

-- Promise P163 (inside): No line of a made script is bad or refused: a run of it that ends with 0, 1 or 2 reached its end.
-- the script is carried out to its end, and nothing is refused
pub made_text-end : (mark : Option (List ℕ → List ℕ)) (seed n : ℕ) → n ≤ 10000 → (meaning mark (made_text seed n)).end ≡ AtEnd false
made_text-end mark seed n few =
    ap (λ (items : List (Option Line)). (meant_from mark 1 items).end) (script_lines-made seed n few)
    ∙ behind_key seed mark (made_key seed) n few 2

-- Promise P163, also here
-- so a run of it that no bad line and no want stopped came to its end, and nothing was refused
pub made_text-ran : (f : KeyedFn) (seed n : ℕ) → n ≤ 10000 → (now : Outside) (end : Ended) → Opens f 1 (script_lines (made_text seed n)) now end → status_of end.stop ≤ 2
    → end.stop ≡ AtEnd false
made_text-ran f seed n few now end opens low = let all = goes f (made_text seed n) now end opens in (all.ended low).0 ∙ made_text-end (Some (mark_of f)) seed n few
