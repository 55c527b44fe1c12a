use Rattle.std.proofs.Common.{◌<◌, ◌≤◌, ℕ, IfSome, None, Option, Some, arith, length, ap, unwrap_or}
use Rattle.std.proofs.lemmas.Str.{utf8_valid_len-IsUtf8}
use Rattle.client_registry.proofs.word.clean_text.Goals as goal

-- a place within n, or n where there is none, is at most n
unwrap_or_within : (o : Option ℕ) (n : ℕ) → IfSome o (λ place. place < n) → unwrap_or o n ≤ n
unwrap_or_within None n h = omega arith
unwrap_or_within (Some place) n h = omega arith

pub returns-in-Ok-clause-clean : goal.returns-in-Ok-clause-clean
returns-in-Ok-clause-clean c =
    let len = length c.args.bytes.now in
    omega (arith, utf8_valid_len-IsUtf8 c.args.bytes.now c.in-Ok.ensures.cases.1, c.unwrap_or-allowed.ensures, ap (λ o. unwrap_or o len) c.first_forbidden.ensures.first, c.if-allowed-bytes.true)

pub returns-in-Ok-2-clause-place : goal.returns-in-Ok-2-clause-place
returns-in-Ok-2-clause-place c =
    let len = length c.args.bytes.now in
    omega (arith, utf8_valid_len-IsUtf8 c.args.bytes.now c.in-Ok-2.ensures.cases.1, c.unwrap_or-allowed.ensures, ap (λ o. unwrap_or o len) c.first_forbidden.ensures.first, unwrap_or_within c.first_forbidden.result len c.first_forbidden.ensures.within)
