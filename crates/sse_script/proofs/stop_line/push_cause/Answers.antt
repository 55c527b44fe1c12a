use Rattle.std.proofs.Common.{◌≡◌, ℕ, List, [], ◌++◌, append_assoc, sym, ap, ◌∙◌}
use Rattle.std.specs.Prelude.{codes, decimal}
use Rattle.std.proofs.lemmas.List.{append-nil}
use Rattle.sse_script.proofs.stop_line.push_cause.Goals as goal

pub returns-in-LabelClash-clause-text : goal.returns-in-LabelClash-clause-text
returns-in-LabelClash-clause-text c = rw c.in-LabelClash.is c.push_equal.ensures.text

pub returns-in-PlaceClash-clause-text : goal.returns-in-PlaceClash-clause-text
returns-in-PlaceClash-clause-text c = rw c.in-PlaceClash.is c.push_equal-in-PlaceClash.ensures.text

pub returns-in-NumberClash-clause-text : goal.returns-in-NumberClash-clause-text
returns-in-NumberClash-clause-text c = rw c.in-NumberClash.is c.push_equal-in-NumberClash.ensures.text

-- three pairs after a text
three : (old a b d e f g : List ℕ) → ((old ++ (a ++ b)) ++ (d ++ e)) ++ (f ++ g) ≡ old ++ (a ++ (b ++ (d ++ (e ++ (f ++ (g ++ []))))))
three old a b d e f g =
    append_assoc (old ++ (a ++ b)) (d ++ e) (f ++ g)
    ∙ append_assoc old (a ++ b) ((d ++ e) ++ (f ++ g))
    ∙ ap (λ rest. old ++ rest) (append_assoc a b ((d ++ e) ++ (f ++ g)))
    ∙ ap (λ rest. old ++ (a ++ (b ++ rest))) (append_assoc d e (f ++ g) ∙ ap (λ rest. d ++ (e ++ (f ++ rest))) (sym (append-nil g)))

pub returns-in-PeerElsewhere-clause-text : goal.returns-in-PeerElsewhere-clause-text
returns-in-PeerElsewhere-clause-text c =
    let first = c.push_one-in-PeerElsewhere.ensures.text ∙ ap (λ n. c.args.line.now.bytes ++ (codes "server is at " ++ decimal n)) c.from-in-PeerElsewhere.ensures in
    let second =
    c.push_one-in-PeerElsewhere-2.ensures.text
    ∙ ap (λ n. c.push_one-in-PeerElsewhere.new.line.bytes ++ (codes ", wanted " ++ decimal n)) c.from-in-PeerElsewhere-2.ensures
    ∙ ap (λ (text : List ℕ). text ++ (codes ", wanted " ++ decimal c.in-PeerElsewhere.low)) first in
    rw c.in-PeerElsewhere.is
    (c.push_one-in-PeerElsewhere-3.ensures.text
    ∙ ap (λ n. c.push_one-in-PeerElsewhere-2.new.line.bytes ++ (codes " to " ++ decimal n)) c.from-in-PeerElsewhere-3.ensures
    ∙ ap (λ (text : List ℕ). text ++ (codes " to " ++ decimal c.in-PeerElsewhere.high)) second
    ∙ three c.args.line.now.bytes (codes "server is at ") (decimal c.in-PeerElsewhere.got) (codes ", wanted ") (decimal c.in-PeerElsewhere.low) (codes " to ") (decimal c.in-PeerElsewhere.high))

pub returns-in-NoJournal-clause-text : goal.returns-in-NoJournal-clause-text
returns-in-NoJournal-clause-text c = rw c.in-NoJournal.is c.push_str-in-NoJournal.ensures.bytes

pub returns-in-HasRecords-clause-text : goal.returns-in-HasRecords-clause-text
returns-in-HasRecords-clause-text c = rw c.in-HasRecords.is c.push_str-in-HasRecords.ensures.bytes
