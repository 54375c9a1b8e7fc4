-- The links of the entries, and what linking and unlinking a slot does to the entries (01, "Ring rules" 1 and 4).
use Rattle.std.specs.Prelude.{◌≡◌, List, map, ℕ, ◌<◌, length, get_or, set}
use Rattle.page.specs.declared.entry.PageCacheEntry.{PageCacheEntry}
use Rattle.page.specs.declared.names.Slot.{Slot}
use Rattle.pool.specs.Slots.{blank}
use Rattle.ring_links.specs.Ring.{Ring}

-- ── reading ──────────────────────────────────────────────────────────────────
abbrev pub nexts : List PageCacheEntry → List ℕ
nexts es = map (λ e. e.next.0) es

abbrev pub prevs : List PageCacheEntry → List ℕ
prevs es = map (λ e. e.prev.0) es

-- the entries' links are those of the ring
abbrev pub RingOf : List PageCacheEntry → List ℕ → Type 0
RingOf es row = Ring (nexts es) (prevs es) row

-- the slots after and before the slot k
abbrev pub next_at : List PageCacheEntry → ℕ → ℕ
next_at es k = (get_or es k blank).next.0

abbrev pub prev_at : List PageCacheEntry → ℕ → ℕ
prev_at es k = (get_or es k blank).prev.0

-- ── writing ──────────────────────────────────────────────────────────────────
-- the entry between other neighbours
abbrev pub with_links : PageCacheEntry → ℕ → ℕ → PageCacheEntry
with_links e next prev = record {
  key = e.key;
  handle = e.handle;
  page = e.page;
  uses = e.uses;
  spare = e.spare;
  next = record { 0 = next };
  prev = record { 0 = prev };
}

unfoldable pub set_next : List PageCacheEntry → ℕ → ℕ → List PageCacheEntry
set_next es k next = set es k (with_links (get_or es k blank) next (prev_at es k))

unfoldable pub set_prev : List PageCacheEntry → ℕ → ℕ → List PageCacheEntry
set_prev es k prev = set es k (with_links (get_or es k blank) (next_at es k) prev)

-- a first page: e is put in at slot s, and is its own ring
unfoldable pub linked_first : List PageCacheEntry → ℕ → PageCacheEntry → List PageCacheEntry
linked_first es s e = set es s (with_links e s s)

-- another goes directly after the hand: e is put in at slot s
unfoldable pub linked_after : List PageCacheEntry → ℕ → ℕ → PageCacheEntry → List PageCacheEntry
linked_after es hand s e =
    set_prev (set_next (set es s (with_links e (next_at es hand) hand)) hand s) (next_at es hand) s

-- the slot s is taken out of its ring, and is then all zero
unfoldable pub unlinked : List PageCacheEntry → ℕ → List PageCacheEntry
unlinked es s =
    set (set_prev (set_next es (prev_at es s) (next_at es s)) (next_at es s) (prev_at es s)) s blank

-- ── contracts ────────────────────────────────────────────────────────────────
-- the slots that linking s after the hand h writes exist
pub record Linkable (es : List PageCacheEntry) (h s : ℕ) : Type 0 where
  pub slot : s < length es
  pub hand : h < length es
  pub after : next_at es h < length es

-- the slots that unlinking s writes exist
pub record Unlinkable (es : List PageCacheEntry) (s : ℕ) : Type 0 where
  pub slot : s < length es
  pub before : prev_at es s < length es
  pub after : next_at es s < length es

-- the slot s is out, and the answer is the slot that stood after it
pub record Unlinked (es : List PageCacheEntry) (s : ℕ) (es' : List PageCacheEntry) (answer : Slot) : Type 0 where
  pub out : es' ≡ unlinked es s
  pub after : answer.0 ≡ next_at es s
