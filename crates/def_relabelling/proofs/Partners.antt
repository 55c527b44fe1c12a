-- Two runs of equal leakage and a search of both at one place: where the one's word stands in an update, the other's word stands, with
-- the same identifier.
use Rattle.std.proofs.Common.{◌≡◌, ℕ, ◌+◌, List, [], ◌∷◌, ◌++◌, length, map, refl, sym, ap, ◌∙◌, subst, append_assoc, Some, None}
use Rattle.std.specs.Prelude.{Option, unwrap_or}
use Rattle.std.specs.List.{slice_get}
use Rattle.std.proofs.lemmas.List.Elements.{All-contains, Contains-push}
use Rattle.client_registry.proofs.SizedLaws.{IsHistory-front}
use Rattle.client_registry.specs.Command.{Command, Add, Delete, Search}
use Rattle.client_registry.specs.Run.{Run, Offsets}
use Rattle.client_registry.specs.Setup.{Setup}
use Rattle.client_registry.specs.Sized.{IsSizedCommand, IsHistory}
use Rattle.def_leakage.proofs.Places.{none_is_some}
use Rattle.def_leakage.specs.Firsts.{update_words, first_search}
use Rattle.def_leakage.specs.CommandLeaks.{seen_by, home, pair_leak, listed_pairs, leak_by}
use Rattle.def_relabelling.proofs.Alongside.{Alongside, Before, At, Behind, alongside}
use Rattle.def_relabelling.proofs.Beside.{Beside}
use Rattle.def_relabelling.proofs.FirstSearches.{searched_once, first_search-push, first_search-more}
use Rattle.def_relabelling.proofs.Orderly.{is_orderly, has_listed_pair}
use Rattle.def_relabelling.proofs.SameDrawings.{words_told, earlier_told}
use Rattle.def_relabelling.proofs.SamePlaces.{sent_for, IsOrderly, same_word}
use Rattle.def_relabelling.proofs.FirstPlaces.{some_inside, id_of}
use Rattle.sse_simulator.specs.Leaks.{Seen, WordLeak, Home, ListedLeak, Leak, SetupLeak, AddLeak, DeleteLeak, SearchLeak}

-- Items.

abbrev pub pairs_told : Leak → List ListedLeak
pairs_told (SetupLeak shape words blocks) = []
pairs_told (AddLeak words) = []
pairs_told (DeleteLeak words) = []
pairs_told (SearchLeak earlier home listed found) = listed

abbrev pub home_told : Leak → Option Home
home_told (SetupLeak shape words blocks) = None
home_told (AddLeak words) = None
home_told (DeleteLeak words) = None
home_told (SearchLeak earlier home listed found) = home

-- what an update's item says of a word
abbrev pub word_for : Offsets → Setup → List Command → Command → List ℕ → WordLeak
word_for o s past c word = record { sent = sent_for o s past c word; seen = seen_by (id_of c) (first_search o past word) }

pub words_told-by : (o : Offsets) (s : Setup) (past : List Command) (c : Command) → words_told (leak_by o s past c) ≡ map (word_for o s past c) (update_words s past c)
words_told-by o s past (Add d) = refl
words_told-by o s past (Delete id) = refl
words_told-by o s past (Search word) = refl

-- each word of a history's update is orderly
orderly_in : (run : Run) → IsHistory run → (past : List Command) (c : Command) (rest : List Command) → run.later ≡ past ++ c ∷ rest
    → (p : ℕ) (w : List ℕ) → slice_get (update_words run.setup past c) p ≡ Some w → IsOrderly run.setup past c p w
orderly_in run history past c rest parts p w here =
    let s = run.setup in
    let whole : IsHistory (record { setup = s; later = (past ++ c ∷ []) ++ rest }) =
    subst (λ cs. IsHistory (record { setup = s; later = cs })) (parts ∙ sym (append_assoc past (c ∷ []) rest)) history in
    let front = IsHistory-front s (past ++ c ∷ []) rest whole in
    let before = IsHistory-front s past (c ∷ []) front in
    is_orderly s history.collected past before.each before.accepted c (All-contains IsSizedCommand (past ++ c ∷ []) c front.each (Contains-push past c)) p w here

-- The first searches of two words that are searched at one place.

module _ (o : Offsets) (run other : Run) (front front2 : List Command) (w w2 : List ℕ) (search : Beside o run other front front2 (Search w) (Search w2)) where
  abbrev pub first : ℕ
  first = unwrap_or (first_search o front w) (o.command + 1 + length front)

  first_is : first_search o (front ++ Search w ∷ []) w ≡ Some first
  first_is = first_search-push o front w

  first2_is : first_search o (front2 ++ Search w2 ∷ []) w2 ≡ Some first
  first2_is = first_search-push o front2 w2 ∙ sym (λ i. Some (unwrap_or (ap earlier_told search.same i) (o.command + 1 + search.even i)))

  behind : (cs cs2 : List Command) (mid : List Command) (v : List ℕ) → cs ≡ cs2 ++ Search v ∷ mid → first_search o (cs2 ++ Search v ∷ []) v ≡ Some first → first_search o cs v ≡ Some first
  behind cs cs2 mid v parts e =
      ap (λ all. first_search o all v) (parts ∙ sym (append_assoc cs2 (Search v ∷ []) mid)) ∙ first_search-more o (cs2 ++ Search v ∷ []) mid v first e

  -- that of the first word after its search, and in the whole run
  pub first_behind : (cs mid : List Command) → cs ≡ front ++ Search w ∷ mid → first_search o cs w ≡ Some first
  first_behind cs mid parts = behind cs front mid w parts first_is

  pub first2_behind : (cs mid : List Command) → cs ≡ front2 ++ Search w2 ∷ mid → first_search o cs w2 ≡ Some first
  first2_behind cs mid parts = behind cs front2 mid w2 parts first2_is

-- two words searched at one place, and again at another
pub searches_beside : (o : Offsets) (run other : Run) (front front2 past past2 : List Command) (w w2 v v2 : List ℕ)
    → Beside o run other front front2 (Search w) (Search w2) → Beside o run other past past2 (Search v) (Search v2) → v ≡ w → v2 ≡ w2
searches_beside o run other front front2 past past2 w w2 v v2 a b same =
    let one = first_behind o run other front front2 w w2 a run.later a.rest a.parts in
    let two = first_behind o run other past past2 v v2 b run.later b.rest b.parts in
    let k : first o run other past past2 v v2 b ≡ first o run other front front2 w w2 a = some_inside _ _ (sym two ∙ ap (first_search o run.later) same ∙ one) in
    searched_once o other.later v2 w2 (first o run other front front2 w w2 a)
    (first2_behind o run other past past2 v v2 b other.later b.rest2 b.parts2 ∙ ap (λ n. Some n) k)
    (first2_behind o run other front front2 w w2 a other.later a.rest2 a.parts2)

-- Partners.

module _ (o : Offsets) (run other : Run) (history : IsHistory run) (history2 : IsHistory other) (front front2 : List Command) (w w2 : List ℕ) (search : Beside o run other front front2 (Search w) (Search w2)) where
  pub partner : (past past2 : List Command) (c c2 : Command) → Beside o run other past past2 c c2 → (p : ℕ) (u u2 : List ℕ)
      → slice_get (update_words run.setup past c) p ≡ Some u → slice_get (update_words other.setup past2 c2) p ≡ Some u2 → word_for o run.setup past c u ≡ word_for o other.setup past2 c2 u2
      → u ≡ w → (u2 ≡ w2) × (id_of c ≡ id_of c2)
  partner past past2 c c2 beside p u u2 here here2 leaks same = by (alongside o run other front front2 past past2 (Search w) (Search w2) c c2 search beside)
    where
      s : Setup
      s = run.setup

      s2 : Setup
      s2 = other.setup

      k : ℕ
      k = first o run other front front2 w w2 search

      -- searched before: the item says so
      seen : first_search o past w ≡ Some k → first_search o past2 w2 ≡ Some k → (m : Option ℕ) → first_search o past2 u2 ≡ m → (u2 ≡ w2) × (id_of c ≡ id_of c2)
      seen e e2 None is =
          none_is_some (record { search = k; id = id_of c })
          (sym (ap (seen_by (id_of c)) (sym (ap (first_search o past) same ∙ e)) ∙ ap (λ (l : WordLeak). l.seen) leaks ∙ ap (seen_by (id_of c2)) is))
      seen e e2 (Some j) is =
          let one : record { search = k; id = id_of c } ≡ record { search = j; id = id_of c2 } =
          some_inside _ _ (ap (seen_by (id_of c)) (sym (ap (first_search o past) same ∙ e)) ∙ ap (λ (l : WordLeak). l.seen) leaks ∙ ap (seen_by (id_of c2)) is) in
          (searched_once o past2 u2 w2 k (is ∙ ap (λ (x : Seen). Some x.search) (sym one)) e2, ap (λ (x : Seen). x.id) one)

      by : Alongside front front2 (Search w) (Search w2) past past2 c c2 → (u2 ≡ w2) × (id_of c ≡ id_of c2)
      by (Behind mid mid2 parts parts2) =
          seen (first_behind o run other front front2 w w2 search past mid parts) (first2_behind o run other front front2 w w2 search past2 mid2 parts2) (first_search o past2 u2) refl
      by (At is is2) = none_is_some u (ap (λ x. slice_get (update_words s past x) p) (sym is) ∙ here)
      by (Before mid mid2 parts parts2) =
          let listed : map (pair_leak o s (past ++ c ∷ mid) w) (listed_pairs o s (past ++ c ∷ mid) w) ≡ map (pair_leak o s2 (past2 ++ c2 ∷ mid2) w2) (listed_pairs o s2 (past2 ++ c2 ∷ mid2) w2) =
          (λ i. map (pair_leak o s (sym parts i) w) (listed_pairs o s (sym parts i) w)) ∙ ap pairs_told search.same ∙ (λ i. map (pair_leak o s2 (parts2 i) w2) (listed_pairs o s2 (parts2 i) w2)) in
          let here_w : slice_get (update_words s past c) p ≡ Some w = here ∙ ap (λ x. Some x) same in
          let one = same_word o s s2 past past2 mid mid2 c c2 p w u2 w2 beside.even here_w here2
          (orderly_in run history past c beside.rest beside.parts p w here_w) (orderly_in other history2 past2 c2 beside.rest2 beside.parts2 p u2 here2)
          (ap (sent_for o s past c) (sym same) ∙ ap (λ (l : WordLeak). l.sent) leaks)
          (has_listed_pair o s w past (c ∷ mid)) listed in
          (sym one.0, one.1)
