use Rattle.std.proofs.Common.{◌≡◌, take, arith}
use Rattle.std.proofs.lemmas.List.{take_all}
use Rattle.search_token.proofs.token.Token.to_bytes.Goals as goal

pub returns : goal.returns
returns c =
    let whole : take 160 c.put_key-5.new.bytes ≡ c.put_key-5.new.bytes = take_all 160 _ (omega arith) in
    rw (← c.self.view_is) (cc)
