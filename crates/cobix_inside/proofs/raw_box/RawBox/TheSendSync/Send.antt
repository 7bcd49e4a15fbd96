use mir.Raw.{raw}
use denote.RattleType.{RattleType}
use denote.Builtin.{RawPtr}
use denote.Memory.{lone}
use denote.Param.Send.{IsSend, Frees, owning_send, struct_send, sendable}
use denote.Struct.Struct.{exits_of}
use denote.Struct.Owning.{shape, fields, to}
use Rattle.core.specs.declared.alloc.Allocator.{Ghosts}
use Rattle.std_alloc.proofs.SendSync.{quiet, lies}
use Rattle.cobix_inside.specs.contracts.raw_box.RawBox.{the_row, the_type}

pointer : IsSend RawPtr
pointer = search sendable

pub send : (T A : RattleType) (g : Ghosts A.Denot) → IsSend T → IsSend A → Frees g g.dealloc_token → IsSend (the_row T A g)
send T A g value alloc frees =
    let box = the_type T A g in
    owning_send box (pointer, (alloc, tt)) (λ d. (lies T value d.at d.value, frees.frees d.alloc (raw (lone T.mir)) d.at))
    (λ k. quiet (to box) (exits_of k (fields box)) ((struct_send (shape box) (pointer, (alloc, tt))).leaving k))
