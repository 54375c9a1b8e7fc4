-- The lists that `insert_at` and `remove_at` make: what stands behind a place is copied one place up or down, and then the place that is
-- still to be written is.
use Rattle.std.proofs.Common.{append_assoc}
use mathlib.Core.Path.{◌≡◌, refl, ap, ◌∙◌}
use mathlib.Core.List.{List, [], ◌∷◌, ◌++◌}
use Prim.Native.Nat.{ℕ, zero, suc, ◌+◌, ◌-◌, ◌≤◌, ◌<◌, zero-le}
use native.Mathlib.Nat.{le_of_suc-le-suc, not-suc-le-zero}
use native.Mathlib.Numerals.{add-one, sub-one}
use native.Mathlib.Omega.{arith}
use lib.ListN.{length, take, drop, set, length-append, length-drop}
use lib.Seq.{length-take-le, take_at, drop_at}
use Rattle.std.specs.List.{copy_within}
use Rattle.std.proofs.lemmas.Slice.{between_is}
use Rattle.sorted_index.specs.Index.{insert_at, remove_at, CanInsert, Inserted, CanRemove, Removed}

-- ── upwards ──────────────────────────────────────────────────────────────────
-- xs, where the elements from place i up to n stand one place further up
abbrev raised : ℕ → ℕ → List ℕ → List ℕ
raised i n xs = take (suc i) xs ++ (drop i (take n xs) ++ drop (suc n) xs)

-- what `copy_within` makes of them
raised_by_copy : (xs : List ℕ) (at n : ℕ) → at ≤ n → n < length xs → copy_within xs at n (at + 1) ≡ raised at n xs
raised_by_copy xs at n h k =
    let part : take (n - at) (drop at xs) ≡ drop at (take n xs) = between_is xs at n in
    let past : suc at + (n - at) ≡ suc n = omega arith in
    simp (part, past, add-one, append_assoc)

-- the last store
raised_put : (xs : List ℕ) (at n s : ℕ) → at ≤ n → n < length xs
    → set (raised at n xs) at s ≡ insert_at (take n xs) at s ++ drop (n + 1) xs
raised_put xs at n s h k = rw add-one (go xs at n h k)
  where
    go : (xs : List ℕ) (at n : ℕ) → at ≤ n → n < length xs → set (raised at n xs) at s ≡ insert_at (take n xs) at s ++ drop (suc n) xs
    go [] at n h k = absurd (not-suc-le-zero k)
    go (x ∷ xs) zero n h k = refl
    go (x ∷ xs) (suc at) zero h k = absurd (not-suc-le-zero h)
    go (x ∷ xs) (suc at) (suc n) h k = ap (λ (l : List ℕ). x ∷ l) (go xs at n (le_of_suc-le-suc h) (le_of_suc-le-suc k))

-- ── downwards ────────────────────────────────────────────────────────────────
-- xs, where the elements from place at + 1 up to i stand one place further down
abbrev lowered : ℕ → ℕ → List ℕ → List ℕ
lowered at i xs = take at xs ++ (drop (suc at) (take (suc i) xs) ++ drop i xs)

-- what `copy_within` makes of them
lowered_by_copy : (xs : List ℕ) (at n : ℕ) → at < n → n ≤ length xs → copy_within xs (at + 1) n at ≡ lowered at (n - 1) xs
lowered_by_copy xs at n h k =
    let part : take (n - suc at) (drop (suc at) xs) ≡ drop (suc at) (take n xs) = between_is xs (suc at) n in
    let past : at + (n - suc at) ≡ n - 1 = omega arith in
    let last : suc (n - 1) ≡ n = omega arith in
    simp (part, past, last, add-one, append_assoc)

-- the last store
lowered_put : (xs : List ℕ) (at n : ℕ) → at < n → n ≤ length xs
    → set (lowered at (n - 1) xs) (n - 1) 0 ≡ remove_at (take n xs) at ++ 0 ∷ drop n xs
lowered_put xs at zero h k = absurd (not-suc-le-zero h)
lowered_put xs at (suc n) h k = rw (sub-one (suc n)) (go xs at n (le_of_suc-le-suc h) k)
  where
    go : (xs : List ℕ) (at n : ℕ) → at ≤ n → n < length xs → set (lowered at n xs) n 0 ≡ remove_at (take (suc n) xs) at ++ 0 ∷ drop (suc n) xs
    go [] at n h k = absurd (not-suc-le-zero k)
    go (x ∷ xs) zero zero h k = refl
    go (x ∷ []) zero (suc n) h k = absurd (omega arith)
    go (x ∷ y ∷ xs) zero (suc n) h k = ap (λ (l : List ℕ). y ∷ l) (go (y ∷ xs) zero n zero-le (le_of_suc-le-suc k))
    go (x ∷ xs) (suc at) zero h k = absurd (not-suc-le-zero h)
    go (x ∷ xs) (suc at) (suc n) h k = ap (λ (l : List ℕ). x ∷ l) (go xs at n (le_of_suc-le-suc h) (le_of_suc-le-suc k))

-- ── the order after it ───────────────────────────────────────────────────────
insert_long : (l : List ℕ) (at s : ℕ) → at ≤ length l → length (insert_at l at s) ≡ length l + 1
insert_long l at s h = length-append (take at l) (s ∷ drop at l) ∙ omega (arith, length-take-le at l h, length-drop at l)

pub put_in : (order : List ℕ) (n at s : ℕ) → CanInsert order n at → Inserted order n at s (set (copy_within order at n (at + 1)) at s)
put_in order n at s can =
    let used : List ℕ = insert_at (take n order) at s in
    let taken : length (take n order) ≡ n = length-take-le n order (omega (arith, can.room)) in
    let long : length used ≡ n + 1 = insert_long (take n order) at s (omega (arith, can.place)) ∙ omega arith in
    let whole : set (copy_within order at n (at + 1)) at s ≡ used ++ drop (n + 1) order =
    rw (raised_by_copy order at n can.place can.room) (raised_put order at n s can.place can.room) in
    rw whole (record { used = take_at used (drop (n + 1) order) (n + 1) long; rest = drop_at used (drop (n + 1) order) (n + 1) long })

remove_long : (l : List ℕ) (at : ℕ) → at < length l → length (remove_at l at) ≡ length l - 1
remove_long l at h = length-append (take at l) (drop (suc at) l) ∙ omega (arith, length-take-le at l (omega arith), length-drop (suc at) l)

pub taken_out : (order : List ℕ) (n at : ℕ) → CanRemove order n at → Removed order n at (set (copy_within order (at + 1) n at) (n - 1) 0)
taken_out order n at can =
    let used : List ℕ = remove_at (take n order) at in
    let taken : length (take n order) ≡ n = length-take-le n order can.fits in
    let long : length used ≡ n - 1 = remove_long (take n order) at (omega (arith, can.place)) ∙ omega arith in
    let whole : set (copy_within order (at + 1) n at) (n - 1) 0 ≡ used ++ 0 ∷ drop n order =
    rw (lowered_by_copy order at n can.place can.fits) (lowered_put order at n can.place can.fits) in
    rw whole (record { used = take_at used (0 ∷ drop n order) (n - 1) long; rest = drop_at used (0 ∷ drop n order) (n - 1) long })
