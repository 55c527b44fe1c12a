-- The contents of a server after a run's commands, by its look-ups: the setup's cells and blocks, the additions of each word from 0 to its counter,
-- and the numbers of the pairs that are listed and not live.
use Rattle.std.specs.Prelude.{◌≡◌, ◌≢◌, ℕ, ◌<◌, ◌≤◌, true, false, List, length, slice_index, slice_index_or, slice_get, Contains, Some, None}
use Rattle.std.specs.FinMap as finmap
use Rattle.std.specs.FinSet as set
use Rattle.client_registry.specs.Command.{Command}
use Rattle.client_registry.specs.Live.{is_listed, is_live_with, added_list, counter}
use Rattle.client_registry.specs.Run.{Offsets}
use Rattle.client_registry.specs.Setup.{Setup}
use Rattle.keyed_fn.specs.Xored.{xored}
use Rattle.sse_frames.specs.Frames.{be64}
use Rattle.server_core.specs.declared.stage.Stage.TheVariants.{Ready}
use Rattle.server_core.specs.State.{ServerState}
use Rattle.server_tables.specs.Contents.{CellMap, NumberSet}
use Rattle.sse_model.specs.Names.{Table, name, PlusLabel, PlusPad, Revocation}
use Rattle.sse_model.specs.Positions.{Position, sealed, ranks_of, entry_positions, block_positions}
use Rattle.sse_model.specs.Wire.{labels_in, next_number}

-- the rank of each of a setup's blocks
abbrev pub ranks_in : Table → (epoch : ℕ) → Setup → List ℕ
ranks_in t epoch s = ranks_of (labels_in t (block_positions epoch s))

-- the label of each entry, a dummy's too, has its encrypted cell and no other label is there; each block is in the array at its rank
pub record HoldsSetup (t : Table) (epoch : ℕ) (s : Setup) (dictionary : CellMap) (array : List (List ℕ)) : Type 0 where
  pub cell : (p : Position) → Contains (entry_positions epoch s) p → finmap.get dictionary (t p.label) ≡ Some (sealed t (ranks_in t epoch s) p).text
  pub missing : (label : List ℕ) → ((p : Position) → Contains (entry_positions epoch s) p → label ≢ t p.label) → finmap.get dictionary label ≡ None
  pub block : (j : ℕ) (d : Position) → j < length (block_positions epoch s) →
      slice_get array (slice_index (ranks_in t epoch s) j) ≡ Some (sealed t (ranks_in t epoch s) (slice_index_or (block_positions epoch s) j d)).text

-- each addition of a word from 0 to its counter has its label, the identifier under its pad, and no other label is there
pub record HoldsAdditions (t : Table) (epoch : ℕ) (s : Setup) (cs : List Command) (additions : CellMap) : Type 0 where
  pub there : (word : List ℕ) (c : ℕ) → c < counter s cs word →
      finmap.get additions (t (name epoch word PlusLabel c)) ≡ Some (xored (be64 (slice_index (added_list s cs word) c)) (t (name epoch word PlusPad c)))
  pub missing : (label : List ℕ) → ((word : List ℕ) (c : ℕ) → c < counter s cs word → label ≢ t (name epoch word PlusLabel c)) → finmap.get additions label ≡ None
  pub enough : (word : List ℕ) → counter s cs word ≤ finmap.len additions

-- a number is that of a pair which is listed and isn't live
pub record IsOfDeadPair (t : Table) (epoch : ℕ) (s : Setup) (cs : List Command) (number : List ℕ) : Type 0 where
  pub word : List ℕ
  pub id : ℕ
  pub listed : is_listed s cs word id ≡ true
  pub dead : is_live_with s cs word id ≡ false
  pub same : number ≡ t (name epoch word Revocation id)

-- the numbers of these pairs are revoked, and no others
pub record HoldsRevoked (t : Table) (epoch : ℕ) (s : Setup) (cs : List Command) (revoked : NumberSet) : Type 0 where
  pub there : (word : List ℕ) (id : ℕ) → is_listed s cs word id ≡ true → is_live_with s cs word id ≡ false → set.contains revoked (t (name epoch word Revocation id)) ≡ true
  pub only : (number : List ℕ) → set.contains revoked number ≡ true → IsOfDeadPair t epoch s cs number

-- a server that was sent a setup and these commands: it is ready, expects the update after them, and holds the setup's
-- lists, and the additions and revoked numbers of the commands
pub record Holds (t : Table) (o : Offsets) (s : Setup) (cs : List Command) (state : ServerState) : Type 0 where
  pub ready : state.stage ≡ Ready
  pub next : state.next ≡ next_number o s cs
  pub setup : HoldsSetup t o.epoch s state.dictionary state.array
  pub additions : HoldsAdditions t o.epoch s cs state.additions
  pub revoked : HoldsRevoked t o.epoch s cs state.revoked
