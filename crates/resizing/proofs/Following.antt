-- Evictions and the answer after them: the handles that went are what the call lists.
use mathlib.Core.Path.{sym, ◌∙◌, subst}
use mathlib.Core.List.{List, append-nil}
use Prim.Native.Nat.{ℕ}
use native.Mathlib.Nat.{zero-add}
use lib.ListN.{length}
use Rattle.page.specs.declared.cache.PageCache.{PageCache}
use Rattle.model.specs.Cache.{Cache}
use Rattle.model.specs.Call.{answer}
use Rattle.model.specs.Rooms.{Room, following}
use Rattle.memory.specs.Memory.{Memory}
use Rattle.memory.specs.Holds.{Holds}
use Rattle.answer.specs.Answer.{code_of, value_of, Wrote, MatchesOutcome}
use Rattle.answer.specs.declared.answer.Answer.{Answer}
use Rattle.answer.proofs.Steps.{wrote_none, wrote_then, following_follows}
use Rattle.eviction.specs.Room.{Made}
use Rattle.eviction.specs.declared.making_room.Room as code

pub made_comes : (a : Answer) {room : Room} {list : List ℕ} {m' : Memory} {list' : List ℕ} {r : code.Room} {head' : PageCache} {c' : Cache}
    → Made room list 0 m' list' r → Holds m' head' c'
    → MatchesOutcome (following room (answer (code_of a) (value_of a) c')) list m' list' (record { answer = a; passed = r.passed; listed = r.listed; head = head' })
made_comes a {room} {list} {list' = list'} made H = record {
  follows = following_follows room a H made.passed (made.listed ∙ zero-add (length room.gone));
  wrote = subst (λ (handles : List ℕ). Wrote handles list list') (sym (append-nil room.gone)) (wrote_then (wrote_none list) room.gone made.handles);
}
