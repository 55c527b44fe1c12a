use Rattle.std.proofs.Common.{rules, ◌≡◌, ℕ, List, ◌++◌, sym, ap, ◌∙◌}
use Rattle.std.specs.Int.{w32, to_be_bytes}
use Rattle.std.proofs.lemmas.Nat.{be_bytes_4}
use Rattle.client_records.proofs.unread.Unread.read_u32.Goals as goal

pub returns-clause-read : goal.returns-clause-read
returns-clause-read c =
    let whole : to_be_bytes w32 c.from_be_bytes.result ≡ c.in_ok-bytes.bytes = be_bytes_4 c.in_ok-bytes.bytes c.from_be_bytes.result c.in_ok-bytes.ensures.len (search rules) c.from_be_bytes.ensures in
    c.in_ok-bytes.ensures.read ∙ ap (λ (l : List ℕ). l ++ c.read_array.new.self) (sym whole)
