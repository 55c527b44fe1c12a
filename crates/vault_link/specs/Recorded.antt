-- The exchanges that a record of bytes stands for, and whether it has the memory for one more.
use Rattle.std.specs.Prelude.{List, map, ◌<◌, vec_len, vec_capacity}
use Rattle.std.specs.Option.{option_map}
use Rattle.vault_link.specs.declared.exchange.VaultExchange as code
use Rattle.vault_link.specs.declared.transcript.Transcript.{Transcript}
use Rattle.vault_link.specs.Exchanges.{Exchange}

abbrev pub exchange_of : code.VaultExchange → Exchange
exchange_of x = record { frame = x.frame.items; reply = option_map (λ bytes. bytes.items) x.reply }

abbrev pub exchanges_of : List code.VaultExchange → List Exchange
exchanges_of records = map exchange_of records

abbrev pub recorded : Transcript → List Exchange
recorded kept = exchanges_of kept.exchanges.items

abbrev pub HasRoom : Transcript → Type 0
HasRoom kept = vec_len kept.exchanges < vec_capacity kept.exchanges
