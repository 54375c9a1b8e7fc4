-- The memory with a page replaced in its place: another handle, another record. No other seat has the new handle, since one
-- that had it would have the key too; so the index by handle lists the slot anew, and the rest is a change in place.
use mathlib.Core.Path.{◌≡◌, refl, sym, ap, ◌∙◌, subst}
use mathlib.Core.Bool.{false, true}
use mathlib.Core.List.{List, ◌∷◌, ◌++◌}
use mathlib.Core.Option.{some}
use Prim.Native.Nat.{ℕ, ◌≤◌, ◌<◌}
use lib.ListN.{length, get_or, set}
use Rattle.page.specs.Record.{all_flags}
use Rattle.page.specs.declared.cache.PageCache.{PageCache}
use Rattle.page.specs.declared.entry.PageCacheEntry.{PageCacheEntry}
use Rattle.page.specs.declared.names.PageHandle.{PageHandle}
use Rattle.page.specs.declared.record.PageRecord.{PageRecord}
use Rattle.pool.specs.Slots.{blank, entries}
use Rattle.ring_links.specs.Ring.{has}
use Rattle.sorted_index.specs.Names.{names}
use Rattle.sorted_index.specs.Listed.{Listed, Absent}
use Rattle.sorted_index.specs.declared.search.By.TheVariants.{Key, Handle}
use Rattle.sorted_index.proofs.Membership.{has_mid, has_there}
use Rattle.sorted_index.proofs.Names.{name_at_lem}
use Rattle.sorted_index.proofs.Listed.{listed_names}
use Rattle.model.specs.Cache.{Cache, replaced, replaced_entry, replace, count_over}
use Rattle.model.specs.Row.{Entry, Each, find}
use Rattle.model.specs.Tests.{under_other}
use Rattle.memory.specs.Memory.{memory_of}
use Rattle.memory.specs.Holds.{seen, row_of, Holds}
use Rattle.memory.proofs.Columns.{written_store, names_written}
use Rattle.memory.proofs.Seats.{in_out}
use Rattle.memory.proofs.Rows.{each_seat}
use Rattle.memory.proofs.Standing.{Standing, standing_has, holds_standing, found_inside, found_seated, found_held, found_alone, found_good}
use Rattle.moves.specs.Counting.{counted_over}
use Rattle.moves.specs.Moves.{StandsAt}
use Rattle.moves.specs.Relist.{Relistable, CanRelist, Relisted}
use Rattle.moves.proofs.Search.{Fits, under_each}
use Rattle.moves.proofs.Change.{Stored, head_counting, changed}

-- the entry with another handle and another record
abbrev pub with_handle : PageCacheEntry → PageHandle → PageRecord → PageCacheEntry
with_handle e handle page = record {
  key = e.key;
  handle = handle;
  page = page;
  uses = e.uses;
  spare = e.spare;
  next = e.next;
  prev = e.prev;
}

-- what the calls leave, one after another
pub record Replaced (slots by_handle : List ℕ) (head : PageCache) (s : ℕ) (handle : PageHandle) (page : PageRecord) (slots' by_handle' : List ℕ)
    (head' : PageCache) : Type 0 where
  pub old : PageCacheEntry
  pub estimate : ℕ
  pub loaded : old ≡ get_or (entries slots) s blank
  pub handles_kept : length by_handle' ≡ length by_handle
  pub relisted : Relisted (names Handle (entries slots)) by_handle head.held s old.handle.0 handle.0 by_handle'
  pub stored : Stored slots s (with_handle old handle page) slots'
  pub counted : estimate ≡ counted_over old.key.0 old.page page head.estimate
  pub head_is : head' ≡ head_counting head estimate

module _ {slots by_key by_handle marks : List ℕ} {head : PageCache} {c : Cache} {key s : ℕ} {e : Entry}
    (H : Holds (memory_of slots by_key by_handle marks) head c) (at : StandsAt c.row key s e) where
  abbrev standing_here : Standing (entries slots) H.seats c.row key s e
  standing_here = holds_standing H key at.found at.slot

  pub slot_inside : s < length (entries slots)
  slot_inside = found_inside H key at.found at.slot

  module _ {handle : ℕ} (free : under_other key handle c.row ≡ false) where
    -- a seat with the handle has the key, and so it is this one
    handle_free : Absent (names Handle (entries slots)) (standing_here.front ++ standing_here.back) handle
    handle_free j h q =
        let k = standing_here in
        let es : List PageCacheEntry = entries slots in
        let seat : has j H.seats ≡ true = ap (has j) k.seats_are ∙ has_mid j s k.front k.back ∙ has_there j s (k.front ++ k.back) h in
        let all : Each (Fits key handle) (row_of es H.seats) = subst (Each (Fits key handle)) H.row (under_each key handle c.row free) in
        let its_key : (get_or es j blank).key.0 ≡ key = each_seat (Fits key handle) es H.seats all j seat (sym (name_at_lem Handle es j) ∙ q) in
        let our_key : (get_or es s blank).key.0 ≡ key = sym (ap (λ (x : Entry). x.page.key) k.entry_is) ∙ k.key_is in
        let one_key : get_or (names Key es) j 0 ≡ get_or (names Key es) s 0 = name_at_lem Key es j ∙ its_key ∙ sym our_key ∙ sym (name_at_lem Key es s) in
        let same : j ≡ s = listed_names H.keys refl j s seat (standing_has k) one_key in
        in_out s (k.front ++ k.back) (ap (λ (x : ℕ). has x (k.front ++ k.back)) (sym same) ∙ h) (found_alone H key at.found at.slot)

    handle_relistable : {old : PageCacheEntry} → old ≡ get_or (entries slots) s blank
        → Relistable (names Handle (entries slots)) by_handle head.held s old.handle.0 handle standing_here.front standing_here.back
    handle_relistable {old} loaded = record {
      listed = subst (Listed (names Handle (entries slots)) by_handle) standing_here.seats_are H.handles;
      apart = (found_seated H key at.found at.slot).ring.apart;
      long = sym (found_held H key at.found at.slot);
      named = name_at_lem Handle (entries slots) s ∙ sym (ap (λ (x : PageCacheEntry). x.handle.0) loaded);
      free = handle_free;
    }

    pub can_relist : {old : PageCacheEntry} → old ≡ get_or (entries slots) s blank
        → CanRelist (names Handle (entries slots)) by_handle head.held s old.handle.0 handle
    can_relist loaded = record { before = standing_here.front; after = standing_here.back; relistable = handle_relistable loaded }

  -- the same entry, by its own key
  own : StandsAt c.row e.page.key s e
  own = record { found = subst (λ (k : ℕ). find k c.row ≡ some e) (sym standing_here.key_is) at.found; slot = at.slot }

  pub replaced_at : {handle : PageHandle} {page : PageRecord} {slots' by_handle' : List ℕ} {head' : PageCache} → under_other key handle.0 c.row ≡ false
      → page.flags ≤ all_flags → Replaced slots by_handle head s handle page slots' by_handle' head'
      → Holds (memory_of slots' by_key by_handle' marks) head' (replace e.page handle.0 page c)
  replaced_at {handle} {page} {slots'} {by_handle'} {head'} free flags r =
      let k = standing_here in
      let es : List PageCacheEntry = entries slots in
      let x : PageCacheEntry = with_handle (get_or es s blank) handle page in
      let st : Stored slots s x slots' = subst (λ (o : PageCacheEntry). Stored slots s (with_handle o handle page) slots') r.loaded r.stored in
      let entry : e ≡ seen s (get_or es s blank) = k.entry_is in
      let n : ℕ = count_over e.page (replaced handle.0 page e.page) c.estimate in
      let counting : r.estimate ≡ n = rw (entry, ← r.loaded, ← H.headed.estimate) r.counted in
      let relisted : Listed (set (names Handle es) s handle.0) by_handle' (k.front ++ s ∷ k.back) =
      r.relisted k.front k.back (handle_relistable free r.loaded) in
      let named : names Handle (entries slots') ≡ set (names Handle es) s handle.0 =
      ap (names Handle) st.written ∙ names_written (written_store es s x) Handle in
      let listed : Listed (names Handle (entries slots')) by_handle' H.seats =
      rw named (subst (Listed (set (names Handle es) s handle.0) by_handle') (sym k.seats_are) relisted) in
      changed H own st (record { next = refl; prev = refl; spare = refl; key = refl }) (replaced_entry handle.0 page)
      n (ap {B = Entry} (replaced_entry handle.0 page) entry)
      (record { flags = flags; uses = (found_good H key at.found at.slot).uses })
      (r.head_is ∙ ap {B = PageCache} (head_counting head) counting) r.handles_kept listed
