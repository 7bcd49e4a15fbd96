-- A statement behind the beginning of its count of pages.
use Rattle.std.proofs.Common.{◌≡◌, ◌≤◌, ℕ, ◌+◌, Bool, true, false, List, refl, sym, ◌∙◌, subst, arith, IsTrue}
use Rattle.io_state.specs.declared.statement.FileStatement.{FileStatement}
use Rattle.indexed_file.specs.World.{World, OnlyAt, name_at}
use Rattle.indexed_file.specs.Moments.{JoinsStretches, EndsNow}
use Rattle.indexed_file.specs.Room.{Room}
use Rattle.indexed_file.specs.Shown.{Shown}
use Rattle.indexed_file.specs.Images.{ImagesGo}
use Rattle.indexed_file.proofs.ImageLemmas.{goes_then}
use Rattle.indexed_file.specs.UnitCalls.{RestartsCount}
use Rattle.verbs.specs.declared.answer.Answer.{Answer}
use Rattle.verbs.specs.Counted.{begins_count, BeginsCount}
use Rattle.verbs.specs.Fits.{IsStanding, asks, key_of_session}
use Rattle.verbs.specs.Full.{TellsRoom, lacks_room}
use Rattle.verbs.specs.Held.{Held, Performs, Decides, state_of}
use Rattle.verbs.specs.Performed.{IsPerformed, IsPerformedCounted, StatusHasCause, in_memory, is_known_late, state_in}
use Rattle.verbs.specs.Pages.{most_asked}
use Rattle.verbs.specs.Traces.{trace_of}
use Rattle.verbs.specs.Verbs.{perform}

-- what comes to a count that has begun
from_none : (first asked most : ℕ) → first ≡ 0 → asked ≤ first + most → asked ≤ most
from_none first asked most none few = omega arith

module _
    {S : Type 0} (shown : Shown S)
    (joins : JoinsStretches shown.moments) (ends : EndsNow shown.moments)
    (u : ℕ) (statement : FileStatement) (n : ℕ) (held left : Held) (old mid new : S) (area next : List ℕ) (answer : Answer) where
  -- the count was begun
  begun_then :
      RestartsCount shown u old mid → begins_count shown u statement old ≡ true
      → IsPerformedCounted shown u statement n (in_memory held mid area) answer (in_memory left new next)
      → IsPerformed shown u statement n (in_memory held old area) answer (in_memory left new next)
  begun_then restarts begins done = record {
    fits = done.fits;
    schema = done.schema;
    only = subst (λ (w : World). OnlyAt u w (shown.world new)) restarts.world done.only;
    keeps = record {
      honest = λ honest. subst (λ (b : Bool). IsTrue b) restarts.honest (done.keeps.honest honest);
      truth = λ honest name truly. done.keeps.truth honest name (restarts.truth name truly);
      count = subst (λ (m : ℕ). m ≤ shown.fault_count new) restarts.count done.keeps.count;
      limit = done.keeps.limit ∙ restarts.limit;
      frames = done.keeps.frames ∙ restarts.frames;
    };
    early = λ none.
        let both = done.early (subst (λ (w : World). asks statement n (state_of held w u area) ≡ false) (sym restarts.world) none) in
        (stays both.0, subst (λ (w : World). Decides statement n (state_of held w u area) answer (state_in shown u (in_memory left new next))) restarts.world both.1);
    refusal = λ refused. subst (λ (w : World). asks statement n (state_of held w u area) ≡ false) restarts.world (done.refusal refused);
    known = λ late.
        let both = done.known (subst (λ (w : World). is_known_late statement n held (state_of held w u area) ≡ true) (sym restarts.world) late) in
        (stays both.0, both.1);
    failed_close = done.failed_close;
    cause = subst (λ (m : ℕ). StatusHasCause statement held.connector.session answer.status m (shown.fault_count new)) restarts.count done.cause;
    memory = done.memory;
    step = λ honest truly standing.
        subst (λ (w : World). Performs statement n (state_of held w u area) answer (state_in shown u (in_memory left new next))) restarts.world
        (done.step honest (truly_then truly) (stands standing));
    standing = λ honest truly standing. done.standing honest (truly_then truly) (stands standing);
    room = λ honest truly standing.
        subst (λ (w : World). TellsRoom (perform statement n (state_of held w u area)) (lacks_room statement n (shown.room old u) (state_of held w u area)) answer.status) restarts.world
        (rw (restarts.room u) at (done.room honest (truly_then truly) (stands standing)));
    asked = λ honest truly standing counts answered.
        let few = done.asked honest (truly_then truly) (stands standing) (rw restarts.world counts) answered in
        from_none _ _ _ restarts.asked
        (subst (λ (room : Room). shown.pages_asked new u ≤ shown.pages_asked mid u + most_asked statement (key_of_session held.connector.session) room) (restarts.room u) few);
    images = λ honest truly standing.
        goes_then shown.moments joins ends old mid new (name_at (shown.world old) u) _
        (record { may = restarts.images _; only = tt; others = λ other apart. restarts.images other })
        (subst (λ (w : World). ImagesGo shown.moments (name_at w u) (trace_of statement (state_of held w u area) answer.status) mid new) restarts.world
        (done.images honest (truly_then truly) (stands standing)));
  }
    where
      truly_then : shown.IsShownTruly old (name_at (shown.world old) u) → shown.IsShownTruly mid (name_at (shown.world mid) u)
      truly_then truly = subst (λ (w : World). shown.IsShownTruly mid (name_at w u)) (sym restarts.world) (restarts.truth _ truly)

      stands : IsStanding held (shown.world old) u → IsStanding held (shown.world mid) u
      stands standing = subst (λ (w : World). IsStanding held w u) (sym restarts.world) standing

      stays : new ≡ mid → BeginsCount shown u statement old new
      stays same = record {
        begun = λ yes. subst (λ (s : S). RestartsCount shown u old s) (sym same) restarts;
        left = λ no. absurd (cc);
      }

  -- the count was left
  left_then :
      mid ≡ old → begins_count shown u statement old ≡ false
      → IsPerformedCounted shown u statement n (in_memory held mid area) answer (in_memory left new next)
      → IsPerformed shown u statement n (in_memory held old area) answer (in_memory left new next)
  left_then same begins done_there =
      let done = subst (λ (s : S). IsPerformedCounted shown u statement n (in_memory held s area) answer (in_memory left new next)) same done_there in
      record {
        fits = done.fits;
        schema = done.schema;
        only = done.only;
        keeps = done.keeps;
        early = λ none. let both = done.early none in (stays both.0, both.1);
        refusal = done.refusal;
        known = λ late. let both = done.known late in (stays both.0, both.1);
        failed_close = done.failed_close;
        cause = done.cause;
        memory = done.memory;
        step = done.step;
        standing = done.standing;
        room = done.room;
        asked = λ honest truly standing counts. absurd (cc);
        images = done.images;
      }
    where
      stays : new ≡ old → BeginsCount shown u statement old new
      stays is = record { begun = λ yes. absurd (cc); left = λ no. is }

  -- OPEN and CLOSE leave the count
  pub uncounted_then :
      mid ≡ old → IsPerformed shown u statement n (in_memory held mid area) answer (in_memory left new next)
      → IsPerformed shown u statement n (in_memory held old area) answer (in_memory left new next)
  uncounted_then same done = subst (λ (s : S). IsPerformed shown u statement n (in_memory held s area) answer (in_memory left new next)) same done

  pub counted_then :
      BeginsCount shown u statement old mid
      → IsPerformedCounted shown u statement n (in_memory held mid area) answer (in_memory left new next)
      → IsPerformed shown u statement n (in_memory held old area) answer (in_memory left new next)
  counted_then begins = by_count (begins_count shown u statement old) refl
    where
      by_count : (b : Bool) → begins_count shown u statement old ≡ b
          → IsPerformedCounted shown u statement n (in_memory held mid area) answer (in_memory left new next)
          → IsPerformed shown u statement n (in_memory held old area) answer (in_memory left new next)
      by_count true is = begun_then (begins.begun is) is
      by_count false is = left_then (begins.left is) is
