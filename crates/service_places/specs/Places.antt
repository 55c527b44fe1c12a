-- What places were asked for, in order, and what they gave and got back; and how a service over them ends.
use Rattle.std.specs.Prelude.{◌≡◌, ℕ, List, [], ◌∷◌, ◌++◌, Option}
use Rattle.std.specs.Option.{option_map}

-- what a place was asked for; a disk and connections each as they were then
pub data Event (D C : Type 0) : Type 0 where
  -- the file of a path was opened, or couldn't be
  Opened : (path : List ℕ) → D → Event D C
  NotOpened : (path : List ℕ) → Event D C
  -- connections to an address can come, or can't
  Listened : (address : List ℕ) → C → Event D C
  NotListened : (address : List ℕ) → Event D C
  -- they were given back
  Ended : C → Event D C
  Closed : D → Event D C

-- if it is told, these come after
abbrev pub with_events : {D C : Type 0} → Option (List (Event D C)) → List (Event D C) → Option (List (Event D C))
with_events told more = option_map (λ events. events ++ more) told

abbrev pub with_event : {D C : Type 0} → Option (List (Event D C)) → Event D C → Option (List (Event D C))
with_event told event = with_events told (event ∷ [])

module _ {D C : Type 0} (told told2 : Option (List (Event D C))) (holds : List ℕ → D → Type 0) (hears : List ℕ → C → Type 0) (kept : D → Type 0) (ended : C → Type 0) (path address : List ℕ) where
  -- the file was opened, connections to the address could come, what was done over both is Ran, and they were given back
  pub record HasRun (Ran : D → C → D → C → Type 0) : Type 0 where
    pub disk : D
    pub conns : C
    pub disk2 : D
    pub conns2 : C
    pub found : holds path disk
    pub heard : hears address conns
    pub ran : Ran disk conns disk2 conns2
    pub disk_back : kept disk2
    pub conns_back : ended conns2
    pub events : told2 ≡ with_events told (Opened path disk ∷ Listened address conns ∷ Ended conns2 ∷ Closed disk2 ∷ [])

  -- the file couldn't be opened, and nobody listened at the address
  pub record HasNoFile (Rose HasEnded : Type 0) : Type 0 where
    pub cause : Rose
    pub end : HasEnded
    pub events : told2 ≡ with_events told (NotOpened path ∷ [])

  -- the file was opened, nobody could listen at the address, and the file was given back as it was
  pub record HasNoAddress (Rose HasEnded : Type 0) : Type 0 where
    pub disk : D
    pub found : holds path disk
    pub disk_back : kept disk
    pub cause : Rose
    pub end : HasEnded
    pub events : told2 ≡ with_events told (Opened path disk ∷ NotListened address ∷ Closed disk ∷ [])

-- what was done over both, and they were given back
pub record HasDone {D C : Type 0} (told told2 : Option (List (Event D C))) (kept : D → Type 0) (ended : C → Type 0) (Ran : D → C → Type 0) : Type 0 where
  pub disk2 : D
  pub conns2 : C
  pub ran : Ran disk2 conns2
  pub disk_back : kept disk2
  pub conns_back : ended conns2
  pub events : told2 ≡ with_events told (Ended conns2 ∷ Closed disk2 ∷ [])
