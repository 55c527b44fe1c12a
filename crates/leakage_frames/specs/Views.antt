-- A contract's view of leakage and drawn values of the code.
use Rattle.std.specs.Prelude.{map, option_map}
use Rattle.sse_simulator.specs.Leaks.{Origin, Sent, NewEntry, Fresh, Again, Seen, WordLeak, Home, ListedLeak, Leak, SetupLeak, AddLeak, DeleteLeak, SearchLeak, Draw, EntryDraw, BlockDraw, NumberDraw, TokenDraw}
use Rattle.leakage_frames.specs.declared.leak.Origin as origins
use Rattle.leakage_frames.specs.declared.leak.Sent as sents
use Rattle.leakage_frames.specs.declared.leak.Sent.TheVariants as sent
use Rattle.leakage_frames.specs.declared.leak.Seen as seens
use Rattle.leakage_frames.specs.declared.leak.WordLeak as words
use Rattle.leakage_frames.specs.declared.leak.Home as homes
use Rattle.leakage_frames.specs.declared.leak.ListedLeak as pairs
use Rattle.leakage_frames.specs.declared.leak.Leak as leaks
use Rattle.leakage_frames.specs.declared.leak.Leak.TheVariants as leak
use Rattle.leakage_frames.specs.declared.leak.Draw as draws
use Rattle.leakage_frames.specs.declared.leak.Draw.TheVariants as draw

abbrev pub origin_view : origins.Origin → Origin
origin_view origin = record { command = origin.command; place = origin.place }

abbrev pub sent_view : sents.Sent → Sent
sent_view sent.Entry = NewEntry
sent_view sent.Fresh = Fresh
sent_view (sent.Again origin) = Again (origin_view origin)

abbrev pub seen_view : seens.Seen → Seen
seen_view seen = record { search = seen.search; id = seen.id }

abbrev pub word_view : words.WordLeak → WordLeak
word_view word = record { sent = sent_view word.sent; seen = option_map seen_view word.seen }

abbrev pub home_view : homes.Home → Home
home_view home = record { entry = home.entry; blocks = home.blocks }

abbrev pub listed_view : pairs.ListedLeak → ListedLeak
listed_view pair = record { id = pair.id; origin = origin_view pair.origin; number = option_map origin_view pair.number; revoked = pair.revoked }

-- an item of leakage
abbrev pub leak_view : leaks.Leak → Leak
leak_view (leak.Setup b big words blocks) = SetupLeak (record { b = b; big = big }) words blocks
leak_view (leak.Add words) = AddLeak (map word_view words)
leak_view (leak.Delete words) = DeleteLeak (map word_view words)
leak_view (leak.Search earlier home listed found) = SearchLeak earlier (option_map home_view home) (map listed_view listed) found

-- a drawn value
abbrev pub draw_view : draws.Draw → Draw
draw_view (draw.Entry label cell) = EntryDraw (record { label = label; text = cell })
draw_view (draw.Block tag block) = BlockDraw (record { label = tag; text = block })
draw_view (draw.Number number) = NumberDraw number
draw_view (draw.Token token) = TokenDraw token
