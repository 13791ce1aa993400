-- A row seen through f: what a write at one place, and a walk over all places, does to it.
use Rattle.std.proofs.Common.{◌≡◌, ℕ, zero, suc, ◌+◌, ◌<◌, ◌≤◌, ◌≢◌, List, [], ◌∷◌, ◌++◌, map, length, get_or, take, drop, set, sym, refl, ap, ◌∙◌, arith}
use Rattle.std.specs.List.{slice_get}
use Rattle.std.proofs.lemmas.List.{get_or-map, map-set, length-map, take_all, drop_all, append-nil}
use Rattle.std.proofs.lemmas.List.Edits.{map_over_more}

-- a write at one place leaves the others
pub nth_set_other : {X : Type 0} (xs : List X) (i k : ℕ) (x : X) → k ≢ i → slice_get (set xs i x) k ≡ slice_get xs k
nth_set_other [] i k x h = refl
nth_set_other (a ∷ xs) zero zero x h = absurd (h refl)
nth_set_other (a ∷ xs) zero (suc k) x h = refl
nth_set_other (a ∷ xs) (suc i) zero x h = refl
nth_set_other (a ∷ xs) (suc i) (suc k) x h = nth_set_other xs i k x (λ e. h (ap suc e))

module _ {X Y : Type 0} (f : X → Y) where
  -- v[i], whatever x stands for a place behind the end
  pub at_by : (xs : List X) (i : ℕ) (x : X) (d : Y) → i < length xs → f (get_or xs i x) ≡ get_or (map f xs) i d
  at_by xs i x d within = sym (get_or-map f xs i x d within)

  -- v[i] became z by a change that f sees as g
  pub write_by : (g : Y → Y) (xs : List X) (i : ℕ) (x z : X) (d : Y) → i < length xs → f z ≡ g (f (get_or xs i x)) → map f (set xs i z) ≡ set (map f xs) i (g (get_or (map f xs) i d))
  write_by g xs i x z d within changed =
      map-set f xs i z ∙ ap (set (map f xs) i) (changed ∙ ap g (at_by xs i x d within))

  -- the places below i have been changed by g
  abbrev pub Walked : (Y → Y) → List X → List X → ℕ → Type 0
  Walked g xs ys i = map f ys ≡ map g (take i (map f xs)) ++ drop i (map f xs)

  pub walk_more : (g : Y → Y) (xs ys : List X) (i : ℕ) (x z : X) → i < length xs → length ys ≡ length xs → Walked g xs ys i → f z ≡ g (f (get_or ys i x)) → Walked g xs (set ys i z) (i + 1)
  walk_more g xs ys i x z within long sofar changed =
      map-set f ys i z ∙ ap (set (map f ys) i) changed ∙ map_over_more g (map f xs) (map f ys) i _ (omega (arith, length-map xs f)) sofar (at_by ys i x _ (omega arith))

  pub walk_all : (g : Y → Y) (xs ys : List X) (i : ℕ) → length xs ≤ i → Walked g xs ys i → map f ys ≡ map g (map f xs)
  walk_all g xs ys i end sofar =
      let past : length (map f xs) ≤ i = omega (arith, length-map xs f) in
      sofar ∙ ap (λ l. map g l ++ drop i (map f xs)) (take_all i (map f xs) past) ∙ ap (λ l. map g (map f xs) ++ l) (drop_all i (map f xs) past) ∙ append-nil (map g (map f xs))
