-- A service that wasn't started leaves its connections and its file as they were.
use Rattle.std.specs.Prelude.{◌≡◌, ◌⊎◌, ℕ, List, Option, IfSome}
use Rattle.sse_journal.specs.Files.{GivesAs}

-- a crash leaves what it might have left before, or a file that gives the records of the file as it read
abbrev pub LeavesSame : {D : Type 0} → (content : D → Option (List ℕ)) (images : D → List ℕ → Type 0) (disk disk2 : D) → Type 0
LeavesSame content images disk disk2 = (bytes : List ℕ) → images disk2 bytes → images disk bytes ⊎ IfSome (content disk) (λ file. GivesAs file bytes)

-- nothing was served: the connections are untouched, and the file has the records that it had
abbrev pub HasNotServed : {C D : Type 0} → (content : D → Option (List ℕ)) (images : D → List ℕ → Type 0) (conns conns2 : C) (disk disk2 : D) → Type 0
HasNotServed content images conns conns2 disk disk2 = (conns2 ≡ conns) × LeavesSame content images disk disk2
