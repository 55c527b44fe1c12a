-- What an item of leakage means tells the item.
use Rattle.std.proofs.Common.{◌≡◌, List, [], ◌∷◌, map, Option, None, Some, refl, sym, ap, ◌∙◌}
use Rattle.std.specs.Prelude.{option_map}
use Rattle.sse_simulator.specs.Leaks.{Origin, Sent, NewEntry, Fresh, Again, Seen, WordLeak, Home, ListedLeak, Leak, SetupLeak, AddLeak, DeleteLeak, SearchLeak}
use Rattle.leakage_frames.specs.declared.leak.Origin as origins
use Rattle.leakage_frames.specs.declared.leak.Sent as sents
use Rattle.leakage_frames.specs.declared.leak.Sent.TheVariants as sent
use Rattle.leakage_frames.specs.declared.leak.Seen as seens
use Rattle.leakage_frames.specs.declared.leak.WordLeak as words
use Rattle.leakage_frames.specs.declared.leak.Home as homes
use Rattle.leakage_frames.specs.declared.leak.ListedLeak as pairs
use Rattle.leakage_frames.specs.declared.leak.Leak as leaks
use Rattle.leakage_frames.specs.declared.leak.Leak.TheVariants as leak
use Rattle.leakage_frames.specs.Views.{origin_view, sent_view, seen_view, word_view, home_view, listed_view, leak_view}

abbrev origin_of : Origin → origins.Origin
origin_of origin = record { command = origin.command; place = origin.place }

abbrev sent_of : Sent → sents.Sent
sent_of NewEntry = sent.Entry
sent_of Fresh = sent.Fresh
sent_of (Again origin) = sent.Again (origin_of origin)

abbrev seen_of : Seen → seens.Seen
seen_of seen = record { search = seen.search; id = seen.id }

abbrev word_of : WordLeak → words.WordLeak
word_of word = record { sent = sent_of word.sent; seen = option_map seen_of word.seen }

abbrev home_of : Home → homes.Home
home_of home = record { entry = home.entry; blocks = home.blocks }

abbrev pair_of : ListedLeak → pairs.ListedLeak
pair_of pair = record { id = pair.id; origin = origin_of pair.origin; number = option_map origin_of pair.number; revoked = pair.revoked }

abbrev item_of : Leak → leaks.Leak
item_of (SetupLeak shape words blocks) = leak.Setup shape.b shape.big words blocks
item_of (AddLeak words) = leak.Add (map word_of words)
item_of (DeleteLeak words) = leak.Delete (map word_of words)
item_of (SearchLeak earlier home listed found) = leak.Search earlier (option_map home_of home) (map pair_of listed) found

-- and back again

sent_again : (s : sents.Sent) → sent_of (sent_view s) ≡ s
sent_again sent.Entry = refl
sent_again sent.Fresh = refl
sent_again (sent.Again origin) = refl

option_again : {A B : Type 0} (view : A → B) (back : B → A) → ((a : A) → back (view a) ≡ a) → (o : Option A) → option_map back (option_map view o) ≡ o
option_again view back same None = refl
option_again view back same (Some a) = ap Some (same a)

list_again : {A B : Type 0} (view : A → B) (back : B → A) → ((a : A) → back (view a) ≡ a) → (xs : List A) → map back (map view xs) ≡ xs
list_again view back same [] = refl
list_again view back same (x ∷ xs) = λ i. same x i ∷ list_again view back same xs i

word_again : (w : words.WordLeak) → word_of (word_view w) ≡ w
word_again w = λ i. record { sent = sent_again w.sent i; seen = option_again seen_view seen_of (λ s. refl) w.seen i }

pair_again : (p : pairs.ListedLeak) → pair_of (listed_view p) ≡ p
pair_again p = λ i. record { id = p.id; origin = p.origin; number = option_again origin_view origin_of (λ o. refl) p.number i; revoked = p.revoked }

item_again : (l : leaks.Leak) → item_of (leak_view l) ≡ l
item_again (leak.Setup b big words blocks) = refl
item_again (leak.Add words) = ap leak.Add (list_again word_view word_of word_again words)
item_again (leak.Delete words) = ap leak.Delete (list_again word_view word_of word_again words)
item_again (leak.Search earlier home listed found) =
    λ i. leak.Search earlier (option_again home_view home_of (λ h. refl) home i) (list_again listed_view pair_of pair_again listed i) found

-- items that mean the same are one
pub leak_view-one : (l m : leaks.Leak) → leak_view l ≡ leak_view m → l ≡ m
leak_view-one l m same = sym (item_again l) ∙ ap item_of same ∙ item_again m
