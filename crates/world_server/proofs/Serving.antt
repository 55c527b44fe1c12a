-- What a store leaves of its disk.
use Rattle.std.proofs.Common.{◌≡◌, ℕ, ◌+◌, ◌≤◌, Bool, true, false, List, [], ◌∷◌, ◌++◌, length, Option, None, Some, option_map, refl, sym, ap, ◌∙◌, subst, arith, length-append}
use Rattle.std.proofs.lemmas.List.{map-append}
use Rattle.outside_memory_disk.specs.MemDisk.{began_of, changes_on, file_of, images_of, moment_of, left_since_of}
use Rattle.sse_outside.proofs.DiskLaws.{reads_now}
use Rattle.sse_journal.proofs.Once.{gives_once}
use Rattle.outside_memory_disk.specs.declared.mem_disk.MemDisk.{MemDisk}
use Rattle.sse_frames.proofs.FrameBytesLaws.{one_body}
use Rattle.sse_frames.specs.Frames.{FrameText, body_of}
use Rattle.sse_journal.specs.AnyMoment.{LeavesOnly}
use Rattle.sse_journal.specs.Files.{front, GivesWithOrWithout}
use Rattle.sse_journal.specs.JournalView.{end_of, broken_by}
use Rattle.server_core.specs.State.{ServerState, at_first}
use Rattle.server_core.specs.Step.{taken}
use Rattle.sse_server.specs.StoreView.{StoreView, IsStoreOf, IsStoreFrom}
use Rattle.sse_server.specs.Taken.{AreTaken, bodies}
use Rattle.world_disks.proofs.Left.{doubts}
use Rattle.world_disks.specs.Disks.{IsDiskOf}
use Rattle.world_model.specs.World.{Disk}
use Rattle.world_model.specs.Events.{in_doubt, left, settled}
use Rattle.world_server.specs.Serving.{Serves, IsDiskOfFrames, spelled}

-- frames that are taken are those of their bodies
pub bodies_once : (s : ServerState) (fs gs : List FrameText) → AreTaken s fs → AreTaken s gs → bodies fs ≡ bodies gs → fs ≡ gs
bodies_once s [] [] are are' same = refl
bodies_once s [] (g ∷ gs) are are' same = cc
bodies_once s (x ∷ xs) [] are are' same = cc
bodies_once s (x ∷ xs) (g ∷ gs) are are' same =
    let e : body_of x ≡ body_of g = cc in
    let behind : bodies xs ≡ bodies gs = cc in
    let one : x ≡ g = one_body x g are.0.grammar are'.0.grammar e in
    let rest : xs ≡ gs = bodies_once (taken s x) xs gs are.1 (subst (λ h. AreTaken (taken s h) gs) (sym one) are'.1) behind in
    λ i. one i ∷ rest i

-- the journal's end is in the file
pub serves_within : (frames : List FrameText) (store : StoreView) (disk : MemDisk) → Serves frames store disk → end_of store.journal + 1 ≤ length (file_of disk)
serves_within frames store disk s = let reads : Some (file_of disk) ≡ Some (front (bodies frames) ++ 0 ∷ []) = ((s.is).journal_is).settled.reads in
    let file : file_of disk ≡ front (bodies frames) ++ 0 ∷ [] = cc in
    omega (arith, ap length file, length-append (front (bodies frames)) (0 ∷ []), ((s.is).journal_is).end_is)

pub store_doubts : (old new : MemDisk) (frames : List FrameText) (frame : FrameText) → LeavesOnly moment_of left_since_of old new (GivesWithOrWithout (bodies frames) (body_of frame)) → IsDiskOfFrames (in_doubt (settled frames) frame) new
store_doubts old new frames frame leaves = doubts old new (bodies frames) (body_of frame) leaves

-- what a crash leaves of frames is what it leaves of their bodies
left_spelled : (model : Disk FrameText) (there : Bool) → (left there (spelled model)).records ≡ bodies (left there model).records
left_spelled model there = by_parts there model.records model.doubt
  where
    by_parts : (there : Bool) (frames : List FrameText) (doubt : Option FrameText)
        → (left there (record { records = bodies frames; doubt = option_map body_of doubt })).records ≡ bodies (left there (record { records = frames; doubt = doubt })).records
    by_parts true frames None = sym (map-append body_of frames [])
    by_parts true frames (Some f) = sym (map-append body_of frames (f ∷ []))
    by_parts false frames doubt = refl

pub spelled_left : (model : Disk FrameText) (there : Bool) → left there (spelled model) ≡ spelled (left there model)
spelled_left model true = ap settled (left_spelled model true)
spelled_left model false = ap settled (left_spelled model false)

-- a stop leaves of a disk of frames what it leaves of the disk of their bodies
pub left_frames : (model : Disk FrameText) (old new : MemDisk) → ((m : Disk (List ℕ)) → IsDiskOf m old → (there : Bool) × IsDiskOf (left there m) new) → IsDiskOfFrames model old → (there : Bool) × IsDiskOfFrames (left there model) new
left_frames model old new leaves is = let one = leaves (spelled model) is in (one.0, subst (λ m. IsDiskOf m new) (spelled_left model one.0) one.1)

-- a store that was started has taken the frames of the disk
pub opened_serves : (model : Disk FrameText) (old new : MemDisk) (store : StoreView) → ((there : Bool) → AreTaken at_first (left there model).records) → IsDiskOfFrames model old
    → IsStoreFrom (file_of old) store (Some (file_of new)) (images_of new) → broken_by store.journal ≡ None → (there : Bool) × Serves (left there model).records store new
opened_serves model old new store taken_are is from whole =
    let reads = is (file_of old) (reads_now (began_of old) (changes_on old) (file_of old) old.file.replayed) in
    let there = reads.0 in
    let same : bodies from.frames ≡ bodies (left there model).records = gives_once (bodies from.frames) ((left there (spelled model)).records) (file_of old) from.gives reads.1 ∙ left_spelled model there in
    let frames : from.frames ≡ (left there model).records = bodies_once at_first from.frames (left there model).records (from.store_is).are_taken (taken_are there) same in
    (there, record { whole = whole; is = subst (λ fs. IsStoreOf fs store (Some (file_of new)) (images_of new)) frames from.store_is })
