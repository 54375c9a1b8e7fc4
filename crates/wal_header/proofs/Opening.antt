-- What is known of a log that opens.
use Rattle.std.proofs.Common.{◌≡◌, ℕ, ◌≤◌, Bool, true, false, cond, List, length, Result, Ok, Err, ltb, refl, arith}
use Rattle.std.proofs.lemmas.Bool.{ltb-false}
use Rattle.wal_header.specs.Header.{opened}
use Rattle.wal_header.specs.declared.header.Fault.{Fault}
use Rattle.wal_header.specs.declared.header.Fault.TheVariants.{Length}
use Rattle.wal_header.specs.declared.header.Header.{Header}

-- only a log of 32 bytes or more is opened
pub opened_long : (b : List ℕ) {h : Header} → opened b ≡ Ok h → 32 ≤ length b
unfolding opened
opened_long b {h} is = ltb-false (length b) 32 (go (ltb (length b) 32) _ is)
  where
    go : (short : Bool) (other : Result Header Fault) → cond short (Err Length) other ≡ Ok h → short ≡ false
    go true other e = let z : ◌≡◌ {A = ℕ} 0 1 = cc in absurd (omega arith)
    go false other e = refl
