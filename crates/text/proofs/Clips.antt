-- One piece after another at the end of a text, each cut off where the room ends.
use Rattle.std.proofs.Common.{◌≡◌, ℕ, ◌-◌, ◌≤◌, min, List, [], ◌++◌, length, take, append_assoc, append-nil, arith}
use Rattle.std.proofs.Math.Seq.{take-append-add}
use Rattle.std.proofs.lemmas.List.{take_min}
use Rattle.std.proofs.lemmas.Grind.{common_steps}
use Rattle.text.specs.Clipped.{clipped, Joins}

take_again : (n : ℕ) (s a b : List ℕ) → take n (take n (s ++ a) ++ b) ≡ take n (s ++ (a ++ b))
take_again n s a b = grind (arith, common_steps)

take_part : (n : ℕ) (s x : List ℕ) → length s ≤ n → s ++ take (min (n - length s) (length x)) x ≡ take n (s ++ x)
take_part n s x h = grind (arith, common_steps, take_min, take-append-add s x (n - length s))

-- what was cut off before is cut off again
pub clipped_more : (s a b : List ℕ) → clipped (clipped (s ++ a) ++ b) ≡ clipped (s ++ (a ++ b))
clipped_more = take_again 8192

-- s, and of x what there is room for
pub clipped_part : (s x : List ℕ) → length s ≤ 8192 → s ++ take (min (8192 - length s) (length x)) x ≡ clipped (s ++ x)
clipped_part = take_part 8192

-- one piece
pub joins_one : (t x u : List ℕ) → u ≡ clipped (t ++ x) → Joins t (λ a. a ++ x) u
joins_one t x u e s a h = grind (arith, clipped_more)

-- no piece
pub joins_none : (t : List ℕ) → Joins t (λ a. a ++ []) t
joins_none t s a h = rw append-nil h

-- one piece and another
pub joins_more : (t x u y v : List ℕ) → Joins t (λ a. a ++ x) u → Joins u (λ a. a ++ y) v → Joins t (λ a. a ++ (x ++ y)) v
joins_more t x u y v p q s a h = rw (← append_assoc a x y) (q s (a ++ x) (p s a h))
