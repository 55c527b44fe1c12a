-- A contract's view of places in memory.
use Rattle.std.specs.Prelude.{◌≡◌, ℕ, List, Option, Some, string_bytes}
use Rattle.client_places.specs.declared.mem_places.MemPlaces.{MemPlaces}

-- this disk is the one at this path, and wasn't given yet; likewise a link at an address

abbrev pub disk_at : {D L : Type 0} → MemPlaces D L → List ℕ → D → Type 0
disk_at p path disk = (string_bytes p.path ≡ path) × (p.disk ≡ Some disk)

abbrev pub link_at : {D L : Type 0} → MemPlaces D L → List ℕ → L → Type 0
link_at p address link = (string_bytes p.address ≡ address) × (p.link ≡ Some link)

-- what was given back

abbrev pub disk_closed : {D L : Type 0} → MemPlaces D L → Option D
disk_closed p = p.disk_back

abbrev pub link_hung_up : {D L : Type 0} → MemPlaces D L → Option L
link_hung_up p = p.link_back

-- how many calls failed
abbrev pub faults_of : {D L : Type 0} → MemPlaces D L → ℕ
faults_of p = p.faults
