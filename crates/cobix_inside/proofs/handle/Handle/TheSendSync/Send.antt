-- C may hand a session to another thread.
use Rattle.std.specs.Prelude.{Option, Some, None}
use mir.Raw.{raw}
use base.Shift.{Keyless}
use denote.Memory.{lone}
use denote.RawPtr.{Ptr}
use denote.Param.Send.{IsSend, AllSend, owning_send, struct_send, sendable}
use denote.Struct.Struct.{exits_of}
use denote.Struct.Owning.{shape, fields, to}
use Rattle.std.specs.contracts.alloc.Global as heap
use Rattle.std.specs.contracts.impls.GlobalAllocator.TheImpl.{ghosts}
use Rattle.std.proofs.Crossing.{frees}
use Rattle.std.proofs.alloc.Global.TheSendSync as heap_sent
use Rattle.std_alloc.proofs.SendSync.{quiet, lies}
use Rattle.cobix_inside.specs.Lending.{lent_owns}
use Rattle.cobix_inside.specs.contracts.open_session.OpenSession as session
use Rattle.cobix_inside.proofs.open_session.OpenSession.TheSendSync.{the_send as session_send}
use Rattle.cobix_inside.specs.contracts.handle.Handle.{the_row, the_type}

lent_Keyless : (a : (heap.the_row).Denot) (p : Ptr) (x : Option (session.the_row).Denot) → Keyless (lent_owns (ghosts.dealloc_token a) session.the_row p x)
lent_Keyless a p None = tt
lent_Keyless a p (Some x) = (lies session.the_row session_send p x, frees.frees a (raw (lone (session.the_row).mir)) p)

pub send : IsSend the_row
send =
    let all : AllSend (fields the_type) = (search sendable, (heap_sent.the_field_send, tt)) in
    owning_send the_type all (λ d. lent_Keyless d.alloc d.at d.value)
    (λ k. quiet (to the_type) (exits_of k (fields the_type)) ((struct_send (shape the_type) all).leaving k))
