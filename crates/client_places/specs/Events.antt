-- What places were asked for, in order, and what they gave and got back; and how a run over them ends.
use Rattle.std.specs.Prelude.{◌≡◌, ◌⊎◌, ℕ, List, [], ◌∷◌, ◌++◌, Option}
use Rattle.std.specs.Option.{option_map}

-- what a place was asked for; a disk and a link each as they were then
pub data Event (D L : Type 0) : Type 0 where
  -- the file of a path was opened, or couldn't be
  Opened : (path : List ℕ) → D → Event D L
  NotOpened : (path : List ℕ) → Event D L
  -- the server at an address was reached, or couldn't be
  Connected : (address : List ℕ) → L → Event D L
  NotConnected : (address : List ℕ) → Event D L
  -- they were given back
  HungUp : L → Event D L
  Closed : D → Event D L

-- where it is told, these come behind
abbrev pub with_events : {D L : Type 0} → Option (List (Event D L)) → List (Event D L) → Option (List (Event D L))
with_events told more = option_map (λ events. events ++ more) told

abbrev pub with_event : {D L : Type 0} → Option (List (Event D L)) → Event D L → Option (List (Event D L))
with_event told event = with_events told (event ∷ [])

-- the file was opened, the server was reached, what was done over both is Ran, and they were given back
pub record HasRun {D L : Type 0} (told told2 : Option (List (Event D L))) (holds : List ℕ → D → Type 0) (reaches : List ℕ → L → Type 0) (kept : D → Type 0) (hung : L → Type 0)
    (path address : List ℕ) (Ran : D → L → D → L → Type 0) : Type 0 where
  pub disk : D
  pub link : L
  pub disk2 : D
  pub link2 : L
  pub found : holds path disk
  pub reached : reaches address link
  pub ran : Ran disk link disk2 link2
  pub disk_back : kept disk2
  pub link_back : hung link2
  pub events : told2 ≡ with_events told (Opened path disk ∷ Connected address link ∷ HungUp link2 ∷ Closed disk2 ∷ [])

-- the file couldn't be opened, and no server was called
pub record HasNoFile {D L : Type 0} (told told2 : Option (List (Event D L))) (path : List ℕ) (Rose HasEnded : Type 0) : Type 0 where
  pub cause : Rose
  pub end : HasEnded
  pub events : told2 ≡ with_events told (NotOpened path ∷ [])

-- the file was opened, the server couldn't be reached, and the file was given back as it was
pub record HasNoServer {D L : Type 0} (told told2 : Option (List (Event D L))) (holds : List ℕ → D → Type 0) (kept : D → Type 0) (path address : List ℕ) (Rose HasEnded : Type 0) : Type 0 where
  pub disk : D
  pub found : holds path disk
  pub disk_back : kept disk
  pub cause : Rose
  pub end : HasEnded
  pub events : told2 ≡ with_events told (Opened path disk ∷ NotConnected address ∷ Closed disk ∷ [])

-- one of the three, by how the program ends without the file, and without the server
abbrev pub EndsAt : {D L : Type 0} (told told2 : Option (List (Event D L))) (holds : List ℕ → D → Type 0) (reaches : List ℕ → L → Type 0) (kept : D → Type 0) (hung : L → Type 0)
    (path address : List ℕ) (Rose WithoutFile WithoutServer : Type 0) (Ran : D → L → D → L → Type 0) → Type 0
EndsAt told told2 holds reaches kept hung path address Rose WithoutFile WithoutServer Ran =
    HasRun told told2 holds reaches kept hung path address Ran
    ⊎ (HasNoFile told told2 path Rose WithoutFile ⊎ HasNoServer told told2 holds kept path address Rose WithoutServer)

-- what was done over both, and they were given back
pub record HasDone {D L : Type 0} (told told2 : Option (List (Event D L))) (kept : D → Type 0) (hung : L → Type 0) (Ran : D → L → Type 0) : Type 0 where
  pub disk2 : D
  pub link2 : L
  pub ran : Ran disk2 link2
  pub disk_back : kept disk2
  pub link_back : hung link2
  pub events : told2 ≡ with_events told (HungUp link2 ∷ Closed disk2 ∷ [])
