use Rattle.std.proofs.Common.{map, string_bytes, sym, ap, ◌∙◌, Ok}
use Rattle.program_words.proofs.HyphenLaws.{local_mode_of-hyphen, has_hyphen-texts, never, some_of}
use Rattle.program_words.proofs.LocalReading.{local_right, local_wrong}
use Rattle.program_words.proofs.local_mode.local_mode_of.Goals as goal

pub returns-then-has_hyphen-clause-mode : goal.returns-then-has_hyphen-clause-mode
returns-then-has_hyphen-clause-mode c =
    local_mode_of-hyphen (map (λ word. string_bytes word) c.args.words.now) (has_hyphen-texts c.args.words.now ∙ sym c.has_hyphen.ensures ∙ c.if-has_hyphen.true)

pub returns-in_err-local_command-clause-hyphen : goal.returns-in_err-local_command-clause-hyphen
returns-in_err-local_command-clause-hyphen c = never _ (has_hyphen-texts c.args.words.now ∙ sym c.has_hyphen.ensures ∙ c.if-has_hyphen.false)

pub returns-in_err-matches-clause-hyphen : goal.returns-in_err-matches-clause-hyphen
returns-in_err-matches-clause-hyphen c = never _ (has_hyphen-texts c.args.words.now ∙ sym c.has_hyphen.ensures ∙ c.if-has_hyphen.false)

pub returns-in-Some-clause-mode : goal.returns-in-Some-clause-mode
returns-in-Some-clause-mode c =
    c.mode_at.ensures ∙ local_right _ _ c.in-Some.matches c.in_ok-local_command.ensures (has_hyphen-texts c.args.words.now ∙ sym c.has_hyphen.ensures ∙ c.if-has_hyphen.false)
    (some_of _ c.in-Some.matches _ c.in-Some.is c.in_ok-matches.ensures.right) (some_of _ c.in-Some.matches _ c.in-Some.is c.in_ok-matches.ensures.matches)

pub returns-in-Some-clause-hyphen : goal.returns-in-Some-clause-hyphen
returns-in-Some-clause-hyphen c = never _ (has_hyphen-texts c.args.words.now ∙ sym c.has_hyphen.ensures ∙ c.if-has_hyphen.false)

pub returns-in-None-clause-mode : goal.returns-in-None-clause-mode
returns-in-None-clause-mode c =
    local_wrong _ _ c.in_ok-local_command.ensures (has_hyphen-texts c.args.words.now ∙ sym c.has_hyphen.ensures ∙ c.if-has_hyphen.false) (c.in_ok-matches.ensures.wrong (ap (λ o. Ok o) c.in-None.is))
