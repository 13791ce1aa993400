-- Pieces put one after another at the end of a text by a loop, and how long they are.
use Rattle.std.proofs.Common.{◌≡◌, ℕ, ◌+◌, ◌*◌, ◌≤◌, List, ◌++◌, length, refl, ap, mul-add, add-one, arith, length-append}
use Rattle.text.specs.Clipped.{Joins}
use Rattle.text.proofs.Clips.{joins_none, joins_more}
use Rattle.listing.specs.Plans.{lines_to}

-- u is t with n pieces of at most w bytes behind it, as far as there is room
pub record Lined (t u : List ℕ) (w n : ℕ) (f : ℕ → List ℕ) : Type 0 where
  pub says : Joins t (λ a. a ++ lines_to n f) u
  pub short : length (lines_to n f) ≤ w * n

pub lined_none : (t : List ℕ) (w : ℕ) (f : ℕ → List ℕ) → Lined t t w 0 f
lined_none t w f = record { says = joins_none t; short = omega arith }

lines_more : (n : ℕ) (f : ℕ → List ℕ) → lines_to (n + 1) f ≡ lines_to n f ++ f n
lines_more n f = rw add-one refl

pub lined_more : (t u v : List ℕ) (w n : ℕ) (f : ℕ → List ℕ) → Lined t u w n f → Joins u (λ a. a ++ f n) v → length (f n) ≤ w → Lined t v w (n + 1) f
lined_more t u v w n f h p few =
    let more = lines_more n f in
    record {
      says = rw more (joins_more t (lines_to n f) u (f n) v h.says p);
      short = omega (arith, ap length more, length-append (lines_to n f) (f n), h.short, mul-add w n 1);
    }
