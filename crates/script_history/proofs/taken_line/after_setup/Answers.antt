use Rattle.script_history.proofs.taken_line.after_setup.Goals as goal

pub returns-clause-takes : goal.returns-clause-takes
returns-clause-takes c = λ request e place at.
    let both = c.in_ok-found.ensures.takes request e place at in
    record { refusal = both.0; stands = both.1 }
