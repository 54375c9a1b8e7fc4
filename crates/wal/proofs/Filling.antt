-- A list that is filled frame by frame: each store adds a frame's number after those of the frames before it.
use Rattle.std.proofs.Common.{◌≡◌, ℕ, zero, suc, ◌+◌, ◌*◌, ◌≤◌, ◌<◌, List, [], ◌∷◌, ◌++◌, map, length, drop, set, ◌-◌, refl, sym, ap, ◌∙◌, add-one, arith}
use Rattle.std.proofs.lemmas.List.{length-map, map-append, drop_more, set-append_right}
use Rattle.std.proofs.Math.Seq.{append_snoc}
use Rattle.wal_checksum.specs.Checksum.{big_endian}
use Rattle.wal_frame.specs.declared.frame.Frame.{Frame}
use Rattle.wal_frame.specs.Frame.{frame_at}
use Rattle.wal.specs.Reading.{placed, filled}

-- i frames are in both lists, of `count` that lie within the log
pub record Filling (n : ℕ) (b : List ℕ) (count : ℕ) (pages₀ sizes₀ pages sizes : List ℕ) (i : ℕ) : Type 0 where
  pub within : 32 + count * n ≤ length b
  pub numbers : pages ≡ filled (λ f. f.page) n b i pages₀
  pub commits : sizes ≡ filled (λ f. f.commit) n b i sizes₀

module _ (n : ℕ) (b : List ℕ) where
  placed_length : (count at : ℕ) → length (placed n b count at) ≡ count
  unfolding placed
  placed_length zero at = refl
  placed_length (suc count) at = ap suc (placed_length count (at + n))

  placed_last : (i at : ℕ) → placed n b (suc i) at ≡ placed n b i at ++ frame_at b (at + i * n) ∷ []
  unfolding placed
  placed_last zero at = let here : at + zero * n ≡ at = omega arith in rw here refl
  placed_last (suc i) at =
      let here : at + n + i * n ≡ at + suc i * n = omega arith in
      rw here at (ap (λ (fs : List Frame). frame_at b at ∷ fs) (placed_last i (at + n)))

  module _ (what : Frame → ℕ) where
    filled_more : (i : ℕ) (list : List ℕ) → i < length list
        → set (filled what n b i list) i (what (frame_at b (32 + i * n))) ≡ filled what n b (i + 1) list
    filled_more i list room =
        let numbers = map what (placed n b i 32) in
        let x = what (frame_at b (32 + i * n)) in
        let rest = drop (i + 1) list in
        let long : length numbers ≡ i = length-map (placed n b i 32) what ∙ placed_length i 32 in
        let first : i - i ≡ 0 = omega arith in
        let stored : set (drop i list) (i - i) x ≡ x ∷ rest = rw (drop_more list i 0 room, first) refl in
        let all : map what (placed n b (i + 1) 32) ≡ numbers ++ x ∷ [] =
        rw (add-one i, placed_last i 32) (map-append what (placed n b i 32) (frame_at b (32 + i * n) ∷ [])) in
        rw all (set-append_right numbers (drop i list) i i x long (omega arith) ∙ rw stored (sym (append_snoc numbers x rest)))

pub filling_starts : {n long : ℕ} {b : List ℕ} {count : ℕ} {pages sizes : List ℕ} → 32 + count * n ≤ length b → long ≡ n
    → Filling long b count pages sizes pages sizes 0
unfolding placed
filling_starts within is = rw is record { within = within; numbers = refl; commits = refl }

module _ {n : ℕ} {b : List ℕ} {count : ℕ} {pages₀ sizes₀ pages sizes : List ℕ} where
  pub filling_more : {i x y : ℕ} → Filling n b count pages₀ sizes₀ pages sizes i → i < length pages₀ → i < length sizes₀
      → x ≡ big_endian b (32 + i * n) → y ≡ big_endian b (32 + i * n + 4)
      → Filling n b count pages₀ sizes₀ (set pages i x) (set sizes i y) (i + 1)
  unfolding frame_at
  filling_more {i} g pages_room sizes_room number commit = record {
    within = g.within;
    numbers = rw (number, g.numbers) (filled_more n b (λ f. f.page) i pages₀ pages_room);
    commits = rw (commit, g.commits) (filled_more n b (λ f. f.commit) i sizes₀ sizes_room);
  }
