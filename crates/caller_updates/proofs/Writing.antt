-- A record write that passes its test does what rule 12 says of the entry that the search found, or of none.
use mathlib.Core.Path.{◌≡◌, refl, ap, ◌∙◌}
use mathlib.Core.Option.{Option, none}
use Prim.Native.Nat.{ℕ, ◌≤◌, ◌<◌}
use borrow.Author.Tests.{lt-ltb, le-ltb}
use Rattle.page.specs.Record.{all_flags}
use Rattle.page.specs.declared.cache.PageCache.{PageCache}
use Rattle.page.specs.declared.record.PageRecord.{PageRecord}
use Rattle.model.specs.Cache.{Cache, rewrite}
use Rattle.model.specs.Call.{Outcome, write}
use Rattle.model.specs.Row.{Entry, find}
use Rattle.model.specs.Rules.{write_found}
use Rattle.model.specs.Step.{act, step}
use Rattle.memory.specs.Memory.{Memory}
use Rattle.memory.specs.Holds.{Holds}
use Rattle.answer.specs.Answer.{plainly, Follows}
use Rattle.answer.specs.declared.answer.Answer.TheVariants.{Done, BadRecord, Absent}
use Rattle.answer.proofs.Steps.{step_acts, step_bad_record, follows_as, plain_follows}
use Rattle.moves.specs.Moves.{StandsAt}

write_found_lem : (key : ℕ) (c : Cache) {found : Option Entry} → find key c.row ≡ found → (page : PageRecord) → page.flags ≤ all_flags
    → step (write key page) c ≡ write_found key page found c
unfolding act
write_found_lem key c is page good =
    step_acts (write key page) (record { capacity = refl; state = le-ltb all_flags page.flags good; places = refl; naming = refl })
    ∙ ap {B = Outcome} (λ (x : Option Entry). write_found key page x c) is

module _ {m : Memory} {head : PageCache} {c : Cache} (H : Holds m head c) (key : ℕ) (page : PageRecord) where
  pub write_bad : all_flags < page.flags → Follows (step (write key page) c) m (plainly BadRecord head)
  write_bad bad = follows_as (step_bad_record (write key page) refl (lt-ltb all_flags page.flags bad)) (plain_follows BadRecord H)

  module _ (good : page.flags ≤ all_flags) where
    pub write_absent : find key c.row ≡ none → Follows (step (write key page) c) m (plainly Absent head)
    write_absent absent = follows_as (write_found_lem key c absent page good) (plain_follows Absent H)

    pub write_there : {s : ℕ} {e : Entry} {m' : Memory} → StandsAt c.row key s e → Holds m' head (rewrite key page c)
        → Follows (step (write key page) c) m' (plainly (Done 0) head)
    write_there at written = follows_as (write_found_lem key c at.found page good) (plain_follows (Done 0) written)
