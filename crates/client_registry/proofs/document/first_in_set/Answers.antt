use Rattle.std.proofs.Common.{◌≡◌, ◌<◌, ◌+◌, ℕ, List, Some, false, true, cond, ap, ◌∙◌, arith, drop, length, map, sym, take}
use Rattle.std.specs.BTreeSet.{contains_by}
use Rattle.std.specs.Cmp.Lexicographic.{slice_cmp}
use Rattle.std.specs.List.{list_any}
use Rattle.std.specs.Ordering.{nat_cmp}
use Rattle.std.specs.Str.{bytes_eq}
use Rattle.std.proofs.lemmas.Bool.{not-true, not-false}
use Rattle.std.proofs.lemmas.Map.Text.{is_eq-slice_cmp}
use Rattle.client_registry.specs.DocumentRule.{first_repeat as least_repeat}
use Rattle.client_registry.specs.WordBytes.{word_bytes as bytes_of}
use Rattle.client_registry.proofs.FirstClashLaws.{first_repeat-new, first_repeat-old}
use Rattle.client_registry.proofs.SeenWords.{front_and_rest, front_more, length_front, list_any-push}
use Rattle.client_registry.proofs.document.first_in_set.Goals as goal
use denote.Bor.{Bor}

pub returns-then-not-branch : goal.returns-then-not-branch
returns-then-not-branch c =
    let words = c.args.words.now in
    let i = c.loop-position.position in
    let word = c.index-words-position.result in
    let bytes = c.bytes.result.now in
    let within : i < length words = omega arith in
    let front = map bytes_of (take i words) in
    let found : list_any (bytes_eq bytes) front ≡ true = sym (c.loop-position.invariant.seen c.bytes.result) ∙ not-false _ (sym c.in_ok-insert.ensures.added ∙ c.if-not-branch.true) in
    let whole = front_and_rest bytes_of words i word bytes within c.index-words-position.is c.bytes.ensures.bytes in
    let len = length_front bytes_of words i word bytes within c.index-words-position.is c.bytes.ensures.bytes in
    sym (ap least_repeat whole ∙ first_repeat-old front bytes (map bytes_of (drop (i + 1) words)) c.loop-position.invariant.clear found ∙ ap (λ n. Some n) len)

pub loop-position-preserved : goal.loop-position-preserved
loop-position-preserved c =
    let words = c.args.words.now in
    let i = c.loop-position.position in
    let word = c.index-words-position.result in
    let bytes = c.bytes.result.now in
    let within : i < length words = omega arith in
    let front = map bytes_of (take i words) in
    let absent : list_any (bytes_eq bytes) front ≡ false = sym (c.loop-position.invariant.seen c.bytes.result) ∙ not-true _ (sym c.in_ok-insert.ensures.added ∙ c.if-not-branch.false) in
    let more = front_more bytes_of words i word bytes within c.index-words-position.is c.bytes.ensures.bytes in
    record {
      clear = ap least_repeat more ∙ first_repeat-new front bytes c.loop-position.invariant.clear absent;
      seen = λ q.
          let had = contains_by (λ (k : Bor (List ℕ)). slice_cmp nat_cmp q.now k.now) c.loop-position.seen in
          c.in_ok-insert.ensures.updates.0 q
          ∙ ap (λ b. cond b true had) (is_eq-slice_cmp bytes q.now)
          ∙ list_any-push q.now bytes front had (c.loop-position.invariant.seen q) ∙ ap (list_any (bytes_eq q.now)) (sym more);
    }
