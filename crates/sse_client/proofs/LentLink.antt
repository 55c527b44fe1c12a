-- A link to a server in this process that is lent: what passes over it in a run is honest from the server as it was.
use Rattle.std.proofs.Common.{◌≡◌, ◌++◌, Option, Some, refl, ap, subst}
use Rattle.keyed_fn.specs.KeyedFn.{KeyedFn}
use Rattle.def_link_events.proofs.Honest.{IsHonest-resumed, IsServed-dropped}
use Rattle.def_link_events.specs.Events.{Remote, AreKnown}
use Rattle.def_link_events.specs.Served.{IsHonest, IsServed, idle}
use Rattle.def_script_meaning.specs.Headline.{IsOverHonest}
use Rattle.sse_link.specs.LinkStates.{LinkState, served}
use Rattle.sse_client.proofs.FirstFrames.{AddsFrames}

-- the server at the other end as it was when the link began, which it tells
abbrev first_remote : LinkState → Remote
first_remote told = record { state = told.began; file = told.began_file }

abbrev pub remote : LinkState → Option Remote
remote told = Some (first_remote told)

inside : {A : Type 0} (a b : A) → Some a ≡ Some b → a ≡ b
inside a b e = cc

module _ (f : KeyedFn) (old new : LinkState) (kept : remote new ≡ remote old) (known : AreKnown old.events) (before : IsServed f (idle old.began) old.events (served old)) (after : IsServed f (idle new.began) new.events (served new)) where
  same_remote : first_remote new ≡ first_remote old
  same_remote = inside (first_remote new) (first_remote old) kept

  pub same_start : new.began ≡ old.began
  same_start = ap (λ (r : Remote). r.state) same_remote

  pub same_file : new.began_file ≡ old.began_file
  same_file = ap (λ (r : Remote). r.file) same_remote

  -- all that ever passed
  pub all_honest : IsHonest f new.began new.events new.state
  all_honest = IsServed-dropped f (idle new.began) (served new) new.events after

  -- what these events added
  module _ (adds : AddsFrames (Some old.events) (Some new.events)) where
    pub all_are : new.events ≡ old.events ++ adds.events
    all_are = inside new.events (old.events ++ adds.events) adds.adds

    pub added_honest : IsHonest f old.state adds.events new.state
    added_honest =
        IsHonest-resumed f old.began old.state new.state old.events adds.events known adds.begins (IsServed-dropped f (idle old.began) (served old) old.events before)
        (subst (λ s. IsHonest f s (old.events ++ adds.events) new.state) same_start (subst (λ es. IsHonest f new.began es new.state) all_are all_honest))

    pub lent-over : IsOverHonest f old.state (Some old.events) (Some new.events) new.state
    lent-over = record { past = old.events; told = refl; events = adds.events; adds = adds.adds; honest = added_honest }
