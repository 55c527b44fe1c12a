-- Two runs of one leakage: where a searched word stands in the one, its partner stands in the other.
use Rattle.std.proofs.Common.{◌≡◌, ◌⊎◌, ℕ, zero, suc, ◌+◌, ◌<◌, Bool, true, false, not, ◌&&◌, List, [], ◌∷◌, ◌++◌, length, map, refl, sym, ap, ◌∙◌, subst, arith, append_assoc, inl, inr, ⊎_elim, Some, None}
use Rattle.std.specs.Prelude.{Option, bytes_eq, if◌then◌else◌, flat_map, option_map}
use Rattle.std.specs.List.{enumerate_from, list_any, slice_get}
use Rattle.std.specs.Option.{option_or}
use Rattle.std.proofs.lemmas.Bool.{and_parts, or_left, or_right}
use Rattle.std.proofs.lemmas.Slice.Eq.{bytes_eq-Decides}
use Rattle.std.proofs.lemmas.List.{append-nil}
use Rattle.std.proofs.lemmas.List.Concat.{flat_map-append}
use Rattle.client_registry.proofs.OverLaws.{over-append}
use Rattle.client_registry.specs.Command.{Command, Add, Delete, Search}
use Rattle.client_registry.specs.Document.{Document}
use Rattle.client_registry.specs.Documents.{has_word}
use Rattle.client_registry.specs.Live.{is_listed}
use Rattle.client_registry.specs.Over.{over}
use Rattle.client_registry.specs.Run.{Offsets}
use Rattle.client_registry.specs.Setup.{Setup, setup_list}
use Rattle.sse_model.specs.Drawn.{sends_number}
use Rattle.def_leakage.proofs.Places.{none_is_some, slice_get-append, earliest-push}
use Rattle.def_relabelling.proofs.FirstPlaces.{some_inside, at-own_place, id_of, Stands, stands_once, stands_here, stands_sent}
use Rattle.def_leakage.specs.Firsts.{origin, first_place, earliest, update_words, place_where, place_of, number_origin}
use Rattle.def_leakage.specs.CommandLeaks.{sent_at, word_added, word_deleted, listed_in_setup, listed_by, listed_pairs, pair_leak}
use Rattle.sse_simulator.specs.Leaks.{Origin, Sent, NewEntry, Fresh, Again, ListedLeak}

-- Items somewhere in a list.

abbrev pub Has : {A : Type 0} → List A → A → Type 0
Has xs a = (i : ℕ) × (slice_get xs i ≡ Some a)

pub has-left : {A : Type 0} (xs ys : List A) (a : A) → Has xs a → Has (xs ++ ys) a
has-left xs ys a h = (h.0, slice_get-append xs ys h.0 a h.1)

pub has-right : {A : Type 0} (xs ys : List A) (a : A) → Has ys a → Has (xs ++ ys) a
has-right [] ys a h = h
has-right (x ∷ xs) ys a h = let rest = has-right xs ys a h in (suc rest.0, rest.1)

has-cases : {A : Type 0} (xs ys : List A) (a : A) → Has (xs ++ ys) a → Has xs a ⊎ Has ys a
has-cases [] ys a h = inr h
has-cases (x ∷ xs) ys a (zero, e) = inl (zero, e)
has-cases (x ∷ xs) ys a (suc i, e) = ⊎_elim (λ l. inl (suc l.0, l.1)) (λ r. inr r) (has-cases xs ys a (i, e))

pub at-map : {A B : Type 0} (f : A → B) (xs : List A) (i : ℕ) → slice_get (map f xs) i ≡ option_map f (slice_get xs i)
at-map f [] i = refl
at-map f (x ∷ xs) zero = refl
at-map f (x ∷ xs) (suc i) = at-map f xs i

-- what a map gives came from an item
pub has-mapped : {A B : Type 0} (f : A → B) (xs : List A) (b : B) → Has (map f xs) b → (a : A) × Has xs a × (f a ≡ b)
has-mapped {A} {B} f xs b h = by (slice_get xs h.0) refl (sym (at-map f xs h.0) ∙ h.1)
  where
    by : (m : Option A) → slice_get xs h.0 ≡ m → option_map f m ≡ Some b → (a : A) × Has xs a × (f a ≡ b)
    by None is e = none_is_some b e
    by (Some a) is e = (a, (h.0, is), some_inside (f a) b e)

-- of two lists with one image, an item of the one has a partner in the other
has-partner : {A B C : Type 0} (f : A → C) (g : B → C) (xs : List A) (ys : List B) → map f xs ≡ map g ys → (a : A) → Has xs a → (b : B) × Has ys b × (g b ≡ f a)
has-partner f g xs ys same a h =
    has-mapped g ys (f a) (h.0, ap (λ zs. slice_get zs h.0) (sym same) ∙ at-map f xs h.0 ∙ ap (option_map f) h.1)

-- Listed pairs.

module _ (o : Offsets) (s : Setup) (word : List ℕ) where
  pub record ListedAt (past xs : List Command) (pair : ℕ × Origin) : Type 0 where
    pub front : List Command
    pub c : Command
    pub rest : List Command
    pub parts : xs ≡ front ++ c ∷ rest
    pub has : Has (listed_by o s word (past ++ front) c) pair

  failure_at : (past xs : List Command) (pair : ℕ × Origin) → Has (flat_map (λ pairs. pairs) (over (listed_by o s word) past xs)) pair → ListedAt past xs pair
  failure_at past [] pair h = none_is_some pair h.1
  failure_at past (x ∷ xs) pair h =
      ⊎_elim
      (λ (here : Has (listed_by o s word past x) pair). record { front = []; c = x; rest = xs; parts = refl; has = subst (λ before. Has (listed_by o s word before x) pair) (sym (append-nil past)) here })
      (λ later. let at_later = failure_at (past ++ x ∷ []) xs pair later in record {
        front = x ∷ at_later.front;
        c = at_later.c;
        rest = at_later.rest;
        parts = ap (λ rest. x ∷ rest) at_later.parts;
        has = subst (λ before. Has (listed_by o s word before at_later.c) pair) (append_assoc past (x ∷ []) at_later.front) at_later.has;
      })
      (has-cases (listed_by o s word past x) (flat_map (λ pairs. pairs) (over (listed_by o s word) (past ++ x ∷ []) xs)) pair h)

  -- a listed pair that no setup listed stands where its origin says
  pub stands_listed : (cs : List Command) (pair : ℕ × Origin) → Has (listed_pairs o s cs word) pair → o.command < pair.1.command → Stands o s cs word pair.0 pair.1
  stands_listed cs pair h behind =
      ⊎_elim
      (λ (own : Has (listed_in_setup o s word) pair).
      let item = has-mapped (λ (item : ℕ × ℕ). (item.1, origin o.command item.0)) (enumerate_from 0 (setup_list s word)) pair own in
      absurd (let e : o.command ≡ pair.1.command = ap (λ (x : ℕ × Origin). x.1.command) item.2 in omega (arith, e, behind)))
      (λ later. let l = failure_at [] cs pair later in by l.front l.c l.rest l.parts l.has)
      (has-cases (listed_in_setup o s word) (flat_map (λ pairs. pairs) (over (listed_by o s word) [] cs)) pair h)
    where
      new : (front : List Command) (d : Document) (b : Bool) → (has_word word d && not (is_listed s front word d.id)) ≡ b
          → Has (map (λ id. (id, origin (o.command + 1 + length front) (place_of word d.words))) (if b then d.id ∷ [] else [])) pair
          → (has_word word d ≡ true) × (pair ≡ (d.id, origin (o.command + 1 + length front) (place_of word d.words)))
      new front d false is (i, e) = none_is_some pair e
      new front d true is (zero, e) = ((and_parts (has_word word d) (not (is_listed s front word d.id)) is).0, sym (some_inside _ pair e))
      new front d true is (suc i, e) = none_is_some pair e

      by : (front : List Command) (c : Command) (rest : List Command) → cs ≡ front ++ c ∷ rest → Has (listed_by o s word front c) pair → Stands o s cs word pair.0 pair.1
      by front (Delete id) rest parts (i, e) = none_is_some pair e
      by front (Search other) rest parts (i, e) = none_is_some pair e
      by front (Add d) rest parts has =
          let n = new front d (has_word word d && not (is_listed s front word d.id)) refl has in
          subst (λ (p : ℕ × Origin). Stands o s cs word p.0 p.1) (sym n.1)
          (subst (λ xs. Stands o s xs word d.id (origin (o.command + 1 + length front) (place_of word d.words))) (sym parts)
          (stands_here o s front (Add d) rest (place_of word d.words) word (at-own_place word d.words n.0)))

  -- a pair that an addition is the first to list is among the listed ones, with its place
  pub has_listed : (front : List Command) (d : Document) (rest : List Command) → has_word word d ≡ true → is_listed s front word d.id ≡ false
      → Has (listed_pairs o s (front ++ Add d ∷ rest) word) (d.id, origin (o.command + 1 + length front) (place_of word d.words))
  has_listed front d rest own new =
      has-right (listed_in_setup o s word) (flat_map (λ pairs. pairs) (over (listed_by o s word) [] (front ++ Add d ∷ rest))) pair
      (subst (λ (xss : List (List (ℕ × Origin))). Has (flat_map (λ pairs. pairs) xss) pair) (sym (over-append (listed_by o s word) [] front (Add d ∷ rest)))
      (subst (λ xs. Has xs pair) (sym (flat_map-append (λ (pairs : List (ℕ × Origin)). pairs) (over (listed_by o s word) [] front) (over (listed_by o s word) front (Add d ∷ rest))))
      (has-right (flat_map (λ (pairs : List (ℕ × Origin)). pairs) (over (listed_by o s word) [] front)) (flat_map (λ (pairs : List (ℕ × Origin)). pairs) (over (listed_by o s word) front (Add d ∷ rest))) pair
      (has-left (listed_by o s word front (Add d)) (flat_map (λ (pairs : List (ℕ × Origin)). pairs) (over (listed_by o s word) (front ++ Add d ∷ []) rest)) pair
      (0, λ i. slice_get (map (λ id. (id, origin (o.command + 1 + length front) (place_of word d.words))) (if own i && not (new i) then d.id ∷ [] else [])) 0)))))
    where
      pair : ℕ × Origin
      pair = (d.id, origin (o.command + 1 + length front) (place_of word d.words))

-- Numbers.

-- what came first stays first
first_place-front : (k : ℕ) (xs ys : List (Option ℕ)) (first : Origin) → first_place k xs ≡ Some first → first_place k (xs ++ ys) ≡ Some first
first_place-front k [] ys first e = none_is_some first e
first_place-front k (None ∷ xs) ys first e = first_place-front (k + 1) xs ys first e
first_place-front k (Some place ∷ xs) ys first e = e

pub earliest-more : (o : Offsets) (f : List Command → Command → Option ℕ) (cs more : List Command) (first : Origin) → earliest o f cs ≡ Some first → earliest o f (cs ++ more) ≡ Some first
earliest-more o f cs more first e =
    ap (first_place (o.command + 1)) (over-append f [] cs more) ∙ first_place-front (o.command + 1) (over f [] cs) (over f cs more) first e

-- what an update sends for a word
abbrev pub sent_for : Offsets → Setup → List Command → Command → List ℕ → Sent
sent_for o s before (Add d) word = (word_added o s before d.id word).sent
sent_for o s before (Delete id) word = (word_deleted o s before id word).sent
sent_for o s before (Search other) word = NewEntry

-- where the number was first sent that an update sends at a place
abbrev pub number_by : ℕ → ℕ → Sent → Origin
number_by k p NewEntry = origin k p
number_by k p Fresh = origin k p
number_by k p (Again first) = first

-- a word at a place is among the words
pub own_word : (word : List ℕ) (words : List (List ℕ)) (p : ℕ) → slice_get words p ≡ Some word → list_any (bytes_eq word) words ≡ true
own_word word [] p e = none_is_some word e
own_word word (w ∷ ws) zero e = or_left (bytes_eq word w) (list_any (bytes_eq word) ws) ((bytes_eq-Decides word w).1 (sym (some_inside w word e)))
own_word word (w ∷ ws) (suc p) e = or_right (bytes_eq word w) (list_any (bytes_eq word) ws) (own_word word ws p e)

-- what is so of accepted commands: a word has one place in its document, and an update sends the numbers of its words whose
-- pair is listed, as each of a deletion's is
pub record IsOrderly (s : Setup) (before : List Command) (c : Command) (p : ℕ) (word : List ℕ) : Type 0 where
  pub place : place_of word (update_words s before c) ≡ p
  pub sends : is_listed s before word (id_of c) ≡ true → sends_number s word (id_of c) before c ≡ true
  pub deletes : (id : ℕ) → c ≡ Delete id → is_listed s before word id ≡ true

module _ (o : Offsets) (s : Setup) (before : List Command) (p : ℕ) (word : List ℕ) where
  abbrev k : ℕ
  k = o.command + 1 + length before

  sent_number : (c : Command) → IsOrderly s before c p word → is_listed s before word (id_of c) ≡ true → (sent : Sent) → (m : Option Origin) → number_origin o s before word (id_of c) ≡ m → sent_at m ≡ sent
      → number_origin o s (before ++ c ∷ []) word (id_of c) ≡ Some (number_by (o.command + 1 + length before) p sent)
  sent_number c orderly listed sent (Some first) was is =
      earliest-push o (λ past x. place_where (sends_number s word (id_of c) past x) word (update_words s past x)) before c
      ∙ ap (λ m. option_or m (option_map (origin (o.command + 1 + length before)) (place_where (sends_number s word (id_of c) before c) word (update_words s before c)))) was
      ∙ ap (λ x. Some (number_by (o.command + 1 + length before) p x)) is
  sent_number c orderly listed sent None was is =
      earliest-push o (λ past x. place_where (sends_number s word (id_of c) past x) word (update_words s past x)) before c
      ∙ ap (λ m. option_or m (option_map (origin (o.command + 1 + length before)) (place_where (sends_number s word (id_of c) before c) word (update_words s before c)))) was
      ∙ ap (λ b. option_map (origin (o.command + 1 + length before)) (place_where b word (update_words s before c))) (orderly.sends listed)
      ∙ ap (λ place. Some (origin (o.command + 1 + length before) place)) orderly.place
      ∙ ap (λ x. Some (number_by (o.command + 1 + length before) p x)) is

  -- after an update that sends a number for a word, the number was sent where the update says
  pub number_behind : (c : Command) → IsOrderly s before c p word → (sent : Sent) → sent_for o s before c word ≡ sent → (sent ≡ NewEntry → ⊥)
      → number_origin o s (before ++ c ∷ []) word (id_of c) ≡ Some (number_by (o.command + 1 + length before) p sent)
  number_behind (Search other) orderly sent is differ = absurd (differ (sym is))
  number_behind (Delete id) orderly sent is differ = sent_number (Delete id) orderly (orderly.deletes id refl) sent (number_origin o s before word id) refl is
  number_behind (Add d) orderly sent is differ = by (is_listed s before word d.id) refl is
    where
      by : (b : Bool) → is_listed s before word d.id ≡ b → (if b then sent_at (number_origin o s before word d.id) else NewEntry) ≡ sent
          → number_origin o s (before ++ Add d ∷ []) word d.id ≡ Some (number_by (o.command + 1 + length before) p sent)
      by true listed is = sent_number (Add d) orderly listed sent (number_origin o s before word d.id) refl is
      by false listed is = absurd (differ (sym is))

  -- a number is sent of a pair that is listed
  pub number_listed : (c : Command) → IsOrderly s before c p word → (sent : Sent) → sent_for o s before c word ≡ sent → (sent ≡ NewEntry → ⊥) → slice_get (update_words s before c) p ≡ Some word
      → is_listed s before word (id_of c) ≡ true
  number_listed (Search other) orderly sent is differ e = none_is_some word e
  number_listed (Delete id) orderly sent is differ e = orderly.deletes id refl
  number_listed (Add d) orderly sent is differ e = by (is_listed s before word d.id) is
    where
      by : (b : Bool) → (if b then sent_at (number_origin o s before word d.id) else NewEntry) ≡ sent → b ≡ true
      by true is = refl
      by false is = absurd (differ (sym is))

  -- a new entry is an addition's, of a pair that wasn't listed
  pub entry_of : (c : Command) → sent_for o s before c word ≡ NewEntry → IsOrderly s before c p word → slice_get (update_words s before c) p ≡ Some word → (rest : List Command)
      → Has (listed_pairs o s (before ++ c ∷ rest) word) (id_of c, origin (o.command + 1 + length before) p)
  entry_of (Search other) is orderly e rest = none_is_some word e
  entry_of (Delete id) is orderly e rest = by (number_origin o s before word id) is
    where
      by : (m : Option Origin) → sent_at m ≡ NewEntry → Has (listed_pairs o s (before ++ Delete id ∷ rest) word) (id, origin (o.command + 1 + length before) p)
      by None is = absurd (let no_entry : Fresh ≡ NewEntry = is in cc)
      by (Some first) is = absurd (let no_entry : Again first ≡ NewEntry = is in cc)
  entry_of (Add d) is orderly e rest = by (is_listed s before word d.id) refl is
    where
      other : (m : Option Origin) → sent_at m ≡ NewEntry → Has (listed_pairs o s (before ++ Add d ∷ rest) word) (d.id, origin (o.command + 1 + length before) p)
      other None is = absurd (let no_entry : Fresh ≡ NewEntry = is in cc)
      other (Some first) is = absurd (let no_entry : Again first ≡ NewEntry = is in cc)

      by : (b : Bool) → is_listed s before word d.id ≡ b → (if b then sent_at (number_origin o s before word d.id) else NewEntry) ≡ NewEntry
          → Has (listed_pairs o s (before ++ Add d ∷ rest) word) (d.id, origin (o.command + 1 + length before) p)
      by true listed is = other (number_origin o s before word d.id) is
      by false new is =
          subst (λ n. Has (listed_pairs o s (before ++ Add d ∷ rest) word) (d.id, origin (o.command + 1 + length before) n)) orderly.place
          (has_listed o s word before d rest (own_word word d.words p e) new)

-- The heart: at a later search, whose item is the same in both runs.

module _ (o : Offsets) (s s2 : Setup) (before before2 mid mid2 : List Command) (c c2 : Command) (p : ℕ) (w w2 v : List ℕ) where
  pub same_word : length before ≡ length before2
      → slice_get (update_words s before c) p ≡ Some w → slice_get (update_words s2 before2 c2) p ≡ Some w2
      → IsOrderly s before c p w → IsOrderly s2 before2 c2 p w2
      → sent_for o s before c w ≡ sent_for o s2 before2 c2 w2
      → ((id : ℕ) → is_listed s before w id ≡ true → (first : Origin) × Has (listed_pairs o s (before ++ c ∷ mid) w) (id, first))
      → map (pair_leak o s (before ++ c ∷ mid) w) (listed_pairs o s (before ++ c ∷ mid) w) ≡ map (pair_leak o s2 (before2 ++ c2 ∷ mid2) v) (listed_pairs o s2 (before2 ++ c2 ∷ mid2) v)
      → (v ≡ w2) × (id_of c ≡ id_of c2)
  same_word even here here2 orderly orderly2 sent listed_has same = by (sent_for o s before c w) refl
    where
      k2 : o.command + 1 + length before ≡ o.command + 1 + length before2
      k2 = ap (λ n. o.command + 1 + n) even

      stands2 : Stands o s2 (before2 ++ c2 ∷ mid2) w2 (id_of c2) (origin (o.command + 1 + length before) p)
      stands2 = subst (λ n. Stands o s2 (before2 ++ c2 ∷ mid2) w2 (id_of c2) (origin n p)) (sym k2) (stands_here o s2 before2 c2 mid2 p w2 here2)

      number : (sent_is : Sent) → sent_for o s before c w ≡ sent_is → (sent_is ≡ NewEntry → ⊥) → is_listed s before w (id_of c) ≡ true → (v ≡ w2) × (id_of c ≡ id_of c2)
      number sent_is is differ listed =
          let n = number_by (o.command + 1 + length before) p sent_is in
          let own : number_origin o s (before ++ c ∷ mid) w (id_of c) ≡ Some n =
          ap (λ cs. number_origin o s cs w (id_of c)) (sym (append_assoc before (c ∷ []) mid))
          ∙ earliest-more o (λ past x. place_where (sends_number s w (id_of c) past x) w (update_words s past x)) (before ++ c ∷ []) mid n (number_behind o s before p w c orderly sent_is is differ) in
          let other : number_origin o s2 (before2 ++ c2 ∷ mid2) w2 (id_of c2) ≡ Some n =
          ap (λ cs. number_origin o s2 cs w2 (id_of c2)) (sym (append_assoc before2 (c2 ∷ []) mid2))
          ∙ earliest-more o (λ past x. place_where (sends_number s2 w2 (id_of c2) past x) w2 (update_words s2 past x)) (before2 ++ c2 ∷ []) mid2 n
          (number_behind o s2 before2 p w2 c2 orderly2 sent_is (sym sent ∙ is) differ ∙ ap (λ m. Some (number_by m p sent_is)) (sym k2)) in
          let pair = listed_has (id_of c) listed in
          let partner = has-partner (pair_leak o s (before ++ c ∷ mid) w) (pair_leak o s2 (before2 ++ c2 ∷ mid2) v) (listed_pairs o s (before ++ c ∷ mid) w) (listed_pairs o s2 (before2 ++ c2 ∷ mid2) v) same (id_of c, pair.0) pair.1 in
          let id : partner.0.0 ≡ id_of c = ap (λ (l : ListedLeak). l.id) partner.2 in
          let theirs : number_origin o s2 (before2 ++ c2 ∷ mid2) v (id_of c) ≡ Some n =
          ap (number_origin o s2 (before2 ++ c2 ∷ mid2) v) (sym id) ∙ ap (λ (l : ListedLeak). l.number) partner.2 ∙ own in
          stands_once o s2 (before2 ++ c2 ∷ mid2) v w2 (id_of c) (id_of c2) n (stands_sent o s2 (before2 ++ c2 ∷ mid2) v (id_of c) n theirs) (stands_sent o s2 (before2 ++ c2 ∷ mid2) w2 (id_of c2) n other)

      entry : sent_for o s before c w ≡ NewEntry → (v ≡ w2) × (id_of c ≡ id_of c2)
      entry is =
          let first = origin (o.command + 1 + length before) p in
          let pair = entry_of o s before p w c is orderly here mid in
          let partner = has-partner (pair_leak o s (before ++ c ∷ mid) w) (pair_leak o s2 (before2 ++ c2 ∷ mid2) v) (listed_pairs o s (before ++ c ∷ mid) w) (listed_pairs o s2 (before2 ++ c2 ∷ mid2) v) same (id_of c, first) pair in
          let id : partner.0.0 ≡ id_of c = ap (λ (l : ListedLeak). l.id) partner.2 in
          let place : partner.0.1 ≡ first = ap (λ (l : ListedLeak). l.origin) partner.2 in
          let behind : o.command < partner.0.1.command = (let e : partner.0.1.command ≡ o.command + 1 + length before = ap (λ (x : Origin). x.command) place in omega (arith, e)) in
          let once = stands_once o s2 (before2 ++ c2 ∷ mid2) v w2 partner.0.0 (id_of c2) first
          (subst (λ x. Stands o s2 (before2 ++ c2 ∷ mid2) v partner.0.0 x) place (stands_listed o s2 v (before2 ++ c2 ∷ mid2) partner.0 partner.1 behind)) stands2 in
          (once.0, sym id ∙ once.1)

      listed_here : (sent_is : Sent) → sent_for o s before c w ≡ sent_is → (sent_is ≡ NewEntry → ⊥) → is_listed s before w (id_of c) ≡ true
      listed_here sent_is is differ = number_listed o s before p w c orderly sent_is is differ here

      by : (sent_is : Sent) → sent_for o s before c w ≡ sent_is → (v ≡ w2) × (id_of c ≡ id_of c2)
      by NewEntry is = entry is
      by Fresh is = number Fresh is (λ e. cc) (listed_here Fresh is (λ e. cc))
      by (Again first) is = number (Again first) is (λ e. cc) (listed_here (Again first) is (λ e. cc))
