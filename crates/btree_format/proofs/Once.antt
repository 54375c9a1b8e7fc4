-- The check is deterministic: only one rule fails while all rules before it hold, and it has one first fault.
use mathlib.Core.Path.{◌≡◌, refl, sym, ap, subst, ◌∙◌}
use mathlib.Core.List.{List, [], ◌∷◌}
use Prim.Native.Nat.{ℕ, zero, suc, ◌+◌, ◌<◌}
use native.Mathlib.Omega.{arith}
use native.Mathlib.Decide.{dec_lt}
use lib.ListN.{length, get_or, take}
use Rattle.btree_format.specs.Fields.{Page, usable, header, start, pointer_at}
use Rattle.btree_format.specs.Rules.{First, Chain, ends, bad_link, bad_size, goes_on, Unlike, Outside, Rule, same_length, page_size, usable_size, magic_string, page_type, freeblock_chain, cell_count, content_start, fragmented_bytes, cell_pointers, rules, RuleHolds, before, broken, Fails, Obeys, Says, offset}
use Rattle.std.specs.Prelude.{Option, None, Some, unwrap_or, Result, Ok, Err}
use Rattle.btree_format.specs.declared.answer.Fault.{Fault}
use Rattle.btree_format.specs.declared.answer.Fault.TheVariants.{Length, PageSize, UsableSize, Magic, PageType, Freeblocks, CellCount, ContentStart, Fragments, CellPointer}

-- ── the first of some things ─────────────────────────────────────────────────
pub first_once : {Fine : ℕ → Type 0} {many i j : ℕ} → First Fine many i → First Fine many j → i ≡ j
first_once {Fine} {many} {i} {j} one other = go (dec_lt i j) (dec_lt j i)
  where
    go : Dec (i < j) → Dec (j < i) → i ≡ j
    go (yes less) later = absurd (one.bad (other.before i less))
    go (no least) (yes less) = absurd (other.bad (one.before j less))
    go (no least) (no most) = omega arith

-- ── the chain ────────────────────────────────────────────────────────────────
pub chain_once : {b : List ℕ} {end link least : ℕ} {x y : Option ℕ} → Chain b end link least x → Chain b end link least y → x ≡ y
chain_once (ends none) (ends none') = refl
chain_once (ends none) (bad_link some stray) = absurd (some none)
chain_once (ends none) (bad_size some placed bad) = absurd (some none)
chain_once (ends none) (goes_on some placed sized rest) = absurd (some none)
chain_once (bad_link some stray) (ends none) = absurd (some none)
chain_once (bad_link some stray) (bad_link some' stray') = refl
chain_once (bad_link some stray) (bad_size some' placed bad) = absurd (stray placed)
chain_once (bad_link some stray) (goes_on some' placed sized rest) = absurd (stray placed)
chain_once (bad_size some placed bad) (ends none) = absurd (some none)
chain_once (bad_size some placed bad) (bad_link some' stray) = absurd (stray placed)
chain_once (bad_size some placed bad) (bad_size some' placed' bad') = refl
chain_once (bad_size some placed bad) (goes_on some' placed' sized rest) = absurd (bad sized)
chain_once (goes_on some placed sized rest) (ends none) = absurd (some none)
chain_once (goes_on some placed sized rest) (bad_link some' stray) = absurd (stray placed)
chain_once (goes_on some placed sized rest) (bad_size some' placed' bad) = absurd (bad sized)
chain_once (goes_on some placed sized rest) (goes_on some' placed' sized' rest') = chain_once rest rest'

no_place : {at : ℕ} → None ≡ Some at → ⊥
no_place same = cc

-- ── a rule that fails ────────────────────────────────────────────────────────
-- 'refuses only if the named rule fails'
pub fails_not_holds : (p : Page) (f : Fault) → Fails p f → RuleHolds p (broken f) → ⊥
fails_not_holds p Length fails = fails
fails_not_holds p PageSize fails = fails
fails_not_holds p UsableSize fails = fails
fails_not_holds p (Magic at) fails = λ holds. fails.first.bad (holds fails.page1 at fails.first.below)
fails_not_holds p (PageType at) breaks = breaks.fails
fails_not_holds p (Freeblocks at) fails = λ holds. no_place (chain_once holds fails)
fails_not_holds p (CellCount at) breaks = breaks.fails
fails_not_holds p (ContentStart at) breaks = breaks.fails
fails_not_holds p (Fragments at) breaks = breaks.fails
fails_not_holds p (CellPointer at) fails = λ holds. fails.first.bad (holds fails.index fails.first.below)

-- its place, or 0 where it has none
place : Fault → ℕ
place f = unwrap_or (offset f) 0

fault_at : Rule → ℕ → Fault
fault_at same_length at = Length
fault_at page_size at = PageSize
fault_at usable_size at = UsableSize
fault_at magic_string at = Magic at
fault_at page_type at = PageType at
fault_at freeblock_chain at = Freeblocks at
fault_at cell_count at = CellCount at
fault_at content_start at = ContentStart at
fault_at fragmented_bytes at = Fragments at
fault_at cell_pointers at = CellPointer at

-- rule and place make the fault
fault_again : (f : Fault) → fault_at (broken f) (place f) ≡ f
unfolding fault_at place
fault_again Length = refl
fault_again PageSize = refl
fault_again UsableSize = refl
fault_again (Magic at) = refl
fault_again (PageType at) = refl
fault_again (Freeblocks at) = refl
fault_again (CellCount at) = refl
fault_again (ContentStart at) = refl
fault_again (Fragments at) = refl
fault_again (CellPointer at) = refl

FailsAt : Page → Rule → ℕ → Type 0
FailsAt p same_length at = at ≡ 0
FailsAt p page_size at = at ≡ 0
FailsAt p usable_size at = at ≡ 0
FailsAt p magic_string at = Unlike p at
FailsAt p page_type at = at ≡ header p
FailsAt p freeblock_chain at = Chain p.image (usable p) (header p + 1) (start p) (Some at)
FailsAt p cell_count at = at ≡ header p + 3
FailsAt p content_start at = at ≡ header p + 5
FailsAt p fragmented_bytes at = at ≡ header p + 7
FailsAt p cell_pointers at = Outside p at

fails_at : (p : Page) (f : Fault) → Fails p f → FailsAt p (broken f) (place f)
unfolding FailsAt place
fails_at p Length fails = refl
fails_at p PageSize fails = refl
fails_at p UsableSize fails = refl
fails_at p (Magic at) fails = fails
fails_at p (PageType at) fails = fails.stands
fails_at p (Freeblocks at) fails = fails
fails_at p (CellCount at) fails = fails.stands
fails_at p (ContentStart at) fails = fails.stands
fails_at p (Fragments at) fails = fails.stands
fails_at p (CellPointer at) fails = fails

same_place : {x y : ℕ} → Some x ≡ Some y → x ≡ y
same_place same = cc

place_once : (p : Page) (rule : Rule) {x y : ℕ} → FailsAt p rule x → FailsAt p rule y → x ≡ y
unfolding FailsAt
place_once p same_length one other = one ∙ sym other
place_once p page_size one other = one ∙ sym other
place_once p usable_size one other = one ∙ sym other
place_once p magic_string one other = first_once one.first other.first
place_once p page_type one other = one ∙ sym other
place_once p freeblock_chain one other = same_place (chain_once one other)
place_once p cell_count one other = one ∙ sym other
place_once p content_start one other = one ∙ sym other
place_once p fragmented_bytes one other = one ∙ sym other
place_once p cell_pointers one other =
    one.stands ∙ ap (pointer_at p) (first_once one.first other.first) ∙ sym other.stands

-- ── the answer ───────────────────────────────────────────────────────────────
obeys_one : (p : Page) (rest : List Rule) (many n : ℕ) → n < many → n < length rest → Obeys p (take many rest)
    → RuleHolds p (get_or rest n same_length)
obeys_one p [] many n less below obeys = absurd (omega arith)
obeys_one p (rule ∷ rest) zero n less below obeys = absurd (omega arith)
obeys_one p (rule ∷ rest) (suc many) zero less below obeys = obeys.0
obeys_one p (rule ∷ rest) (suc many) (suc n) less below obeys = obeys_one p rest many n (omega arith) (omega arith) obeys.1

before_below : (f : Fault) → before f < 10
before_below Length = omega arith
before_below PageSize = omega arith
before_below UsableSize = omega arith
before_below (Magic at) = omega arith
before_below (PageType at) = omega arith
before_below (Freeblocks at) = omega arith
before_below (CellCount at) = omega arith
before_below (ContentStart at) = omega arith
before_below (Fragments at) = omega arith
before_below (CellPointer at) = omega arith

-- a rule that holds is not the first that fails, nor is one after it
not_earlier : (p : Page) (f : Fault) (many : ℕ) → Fails p f → Obeys p (take many rules) → before f < many → ⊥
not_earlier p f many fails obeys less =
    fails_not_holds p f fails (obeys_one p rules many (before f) less (before_below f) obeys)

fault_once : (p : Page) (f g : Fault) → Says p (Err f) → Says p (Err g) → f ≡ g
fault_once p f g one other = go (dec_lt (before f) (before g)) (dec_lt (before g) (before f))
  where
    go : Dec (before f < before g) → Dec (before g < before f) → f ≡ g
    go (yes less) later = absurd (not_earlier p f (before g) one.fails other.earlier less)
    go (no least) (yes less) = absurd (not_earlier p g (before f) other.fails one.earlier less)
    go (no least) (no most) =
        let number : before f ≡ before g = omega arith in
        let rule : broken f ≡ broken g = ap (λ (n : ℕ). get_or rules n same_length) number in
        let there : place f ≡ place g =
        place_once p (broken g) (rw rule at (fails_at p f one.fails)) (fails_at p g other.fails) in
        sym (fault_again f) ∙ rw (rule, there) (fault_again g)

pub says_once : (p : Page) (r s : Result (Unit {0}) Fault) → Says p r → Says p s → r ≡ s
says_once p (Ok u) (Ok v) one other = refl
says_once p (Ok u) (Err g) one other = absurd (not_earlier p g 10 other.fails one (before_below g))
says_once p (Err f) (Ok u) one other = absurd (not_earlier p f 10 one.fails other (before_below f))
says_once p (Err f) (Err g) one other = ap Err (fault_once p f g one other)

-- 'yes exactly when all the rules hold'
pub yes_if : (p : Page) (r : Result (Unit {0}) Fault) → Says p r → Obeys p rules → r ≡ Ok tt
yes_if p r says obeys = says_once p r (Ok tt) says obeys

pub yes_only_if : (p : Page) (r : Result (Unit {0}) Fault) → Says p r → r ≡ Ok tt → Obeys p rules
yes_only_if p r says is = subst (Says p) is says
