-- What a server ends with at a frame, by what its store ended with.
use Rattle.std.proofs.Common.{◌≡◌, ℕ, Bool, true, false, not, List, [], ◌∷◌, sym, ap, ◌∙◌, subst}
use Rattle.std.specs.Prelude.{Option, Some, None, is_some}
use Rattle.std.specs.Option.{option_map_or}
use Rattle.keyed_fn.specs.KeyedFn.{KeyedFn}
use Rattle.outside_memory_disk.specs.declared.mem_disk.MemDisk.{MemDisk}
use Rattle.sse_frames.specs.Frames.{FrameText}
use Rattle.sse_frames.specs.Replies.{ReplyText}
use Rattle.server_core.specs.Refusal.{refusal}
use Rattle.server_core.specs.State.{ServerState}
use Rattle.server_core.specs.Step.{taken, answers, step}
use Rattle.sse_server.specs.StoreView.{StoreView}
use Rattle.world_model.specs.Events.{in_doubt, settled}
use Rattle.world_server.specs.Serving.{IsDiskOfFrames}
use Rattle.world_server.specs.Updates.{IsEnded}
use Rattle.world_server.specs.declared.update.Ended.{Ended}

pub ended_as : (frames : List FrameText) (frame frame' : FrameText) (e e' : Ended) (store : StoreView) (d d' : MemDisk) → frame ≡ frame' → e ≡ e' → d' ≡ d → IsEnded frames frame e store d → IsEnded frames frame' e' store d'
ended_as frames frame frame' e e' store d d' same is disk ended =
    subst (λ x. IsEnded frames frame' e' store x) (sym disk) (subst (λ x. IsEnded frames frame' x store d) is (subst (λ x. IsEnded frames x e store d) same ended))

pub doubt_as : (frames : List FrameText) (frame frame' : FrameText) (d d' : MemDisk) → frame ≡ frame' → d' ≡ d → IsDiskOfFrames (in_doubt (settled frames) frame) d → IsDiskOfFrames (in_doubt (settled frames) frame') d'
doubt_as frames frame frame' d d' same disk is =
    subst (λ x. IsDiskOfFrames (in_doubt (settled frames) frame') x) (sym disk) (subst (λ x. IsDiskOfFrames (in_doubt (settled frames) x) d) same is)

replies_by : (f : KeyedFn) (s : ServerState) (frame : FrameText) → Option ReplyText → List ReplyText
replies_by f s frame refused = let came : ServerState × List ReplyText = option_map_or (λ reply. (s, reply ∷ [])) refused (taken s frame, answers f s frame) in came.1

-- a frame that is refused is replied to with the cause
pub refused_replies : (f : KeyedFn) (s : ServerState) (frame : FrameText) (reply : ReplyText) → refusal s frame ≡ Some reply → reply ∷ [] ≡ (step f s frame).1
unfolding replies_by
refused_replies f s frame reply e = sym (ap (replies_by f s frame) e)

pub none_by : (o o' : Option ℕ) (b : Bool) → o ≡ o' → is_some o ≡ not b → b ≡ true → o' ≡ None
none_by None o' b same is e = sym same
none_by (Some n) o' b same is e = let clash : true ≡ false = is ∙ ap not e in cc
