-- What the program does: a run over a disk and a link, or a restore over a link.
use Rattle.std.specs.Prelude.{◌≡◌, ◌⊎◌, ℕ, List, [], ◌∷◌, Option, Some, IfSome}
use Rattle.client_places.specs.Events.{Event, Connected, NotConnected, HungUp, with_events}
use Rattle.vault_shelf.specs.Shelves.{VaultCommand}
use Rattle.keyed_fn.specs.KeyedFn.{KeyedFn}
use Rattle.keyed_fn.specs.VaultFormulas.{vault_secrets}
use Rattle.script_run_texts.specs.Words.{RunOn, More, disk_mode_of}
use Rattle.client_journal.specs.Shows.{SinkShows, SourceShows}
use Rattle.sse_script.specs.TextLines.{lines_left}
use Rattle.vault_link.specs.Exchanges.{Exchange}
use Rattle.vault_link.specs.Loopbacks.{LoopbackState}
use Rattle.vault_link.specs.Served.{VaultRemote}
use Rattle.vault_server.specs.VaultState.{empty_vault}
use Rattle.doc_vault.specs.Sights.{sight_of}
use Rattle.vault_client.specs.OnDisk.{BeginsOnDisk, LeavesDevices, ResumesOnDisk}
use Rattle.vault_restore.specs.KeyScripts.{KeyAlone, key_script}
use Rattle.vault_restore.specs.LeftInOrder.{IsLeftInOrder}
use Rattle.vault_restore.specs.WholeRestores.{BringsBack, IsRestore, TellsRestore, prints}

-- over a disk and a link, from where they were to where they are, these words' run did all that `vault_run` says of it
pub record HasRunOnDisk {D L : Type 0} (content : D → Option (List ℕ)) (images : D → List ℕ → Type 0) (moment : D → ℕ) (left_since : D → ℕ → List ℕ → Type 0) (disk_faults : D → ℕ)
    (transcript : L → Option (List Exchange)) (remote : L → Option VaultRemote) (link_faults : L → ℕ) (f : KeyedFn) (words : List (List ℕ)) (source source' : SourceShows) (sink sink' : SinkShows) (status : ℕ)
    (disk : D) (link : L) (disk2 : D) (link2 : L) : Type 0 where
  pub begun : disk_mode_of words ≡ Some RunOn → BeginsOnDisk content images moment left_since disk disk2 f (lines_left [] source.remaining)
      (sight_of (transcript link) (remote link)) (sight_of (transcript link2) (remote link2)) sink sink' status
  pub resumed : disk_mode_of words ≡ Some More → ResumesOnDisk content images moment left_since disk disk2 f (lines_left [] source.remaining)
      (sight_of (transcript link) (remote link)) (sight_of (transcript link2) (remote link2)) sink sink' status
  pub devices : LeavesDevices source source' sink sink' (link_faults link) (link_faults link2) (disk_faults disk) (disk_faults disk2) status

-- a link in memory over which nothing has passed, to a vault that holds nothing
pub record IsUnused (link : LoopbackState) : Type 0 where
  pub no_exchange : link.exchanges ≡ []
  pub began_empty : link.began ≡ empty_vault
  pub empty : link.server.state ≡ empty_vault
  pub no_fault : link.faults ≡ 0

-- what was done over an empty disk and such a link, both made for it and let go after it
pub record HasRunInMemory {D : Type 0} (content : D → Option (List ℕ)) (Ran : D → LoopbackState → D → LoopbackState → Type 0) : Type 0 where
  pub disk : D
  pub link : LoopbackState
  pub disk2 : D
  pub link2 : LoopbackState
  pub no_journal : content disk ≡ Some []
  pub unused : IsUnused link
  pub ran : Ran disk link disk2 link2

-- over a link, from where it was to where it is, a restore did all that `vault_restore` says of it
pub record HasRestored {L : Type 0} (transcript : L → Option (List Exchange)) (remote : L → Option VaultRemote) (link_faults : L → ℕ) (f : KeyedFn) (source source' : SourceShows)
    (sink sink' : SinkShows) (status : ℕ) (link link2 : L) : Type 0 where
  pub restored : IsRestore f (lines_left [] source.remaining) (record { link = sight_of (transcript link) (remote link); written = sink.written })
      (record { link = sight_of (transcript link2) (remote link2); written = sink'.written }) (prints sink'.written sink'.faults sink'.shortages) status
  pub brings : IfSome (lines_left [] source.remaining) (λ lines. IfSome (remote link) (λ before. (key : List ℕ) (cs : List VaultCommand) → key_script lines ≡ KeyAlone key →
      IsLeftInOrder f (vault_secrets f key) before.state cs → BringsBack sink.written sink'.written cs status))
  pub devices : TellsRestore source.faults source'.faults (link_faults link) (link_faults link2) sink.faults sink'.faults status

-- the server was reached, what was done over the link is Ran, and the link was given back; no file was opened
pub record HasCalled {D L : Type 0} (told told2 : Option (List (Event D L))) (reaches : List ℕ → L → Type 0) (hung : L → Type 0) (address : List ℕ) (Ran : L → L → Type 0) : Type 0 where
  pub link : L
  pub link2 : L
  pub reached : reaches address link
  pub ran : Ran link link2
  pub link_back : hung link2
  pub events : told2 ≡ with_events told (Connected address link ∷ HungUp link2 ∷ [])

-- the server couldn't be reached, and no file was opened
pub record HasNoAnswer {D L : Type 0} (told told2 : Option (List (Event D L))) (address : List ℕ) (Rose HasEnded : Type 0) : Type 0 where
  pub cause : Rose
  pub end : HasEnded
  pub events : told2 ≡ with_events told (NotConnected address ∷ [])

-- one of the two
abbrev pub CallsOrEnds : {D L : Type 0} (told told2 : Option (List (Event D L))) (reaches : List ℕ → L → Type 0) (hung : L → Type 0) (address : List ℕ) (Rose WithoutServer : Type 0) (Ran : L → L → Type 0) → Type 0
CallsOrEnds told told2 reaches hung address Rose WithoutServer Ran =
    HasCalled told told2 reaches hung address Ran ⊎ HasNoAnswer told told2 address Rose WithoutServer
