-- What a pass over the entries of a system keeps, entry by entry.
use Rattle.std.proofs.Common.{◌≡◌, ℕ, ◌+◌, ◌-◌, ◌^◌, ◌<◌, ◌≤◌, Bool, true, false, cond, List, length, get_or, set, Some, None, Option, Ok, refl, arith, below_more}
use Rattle.std.proofs.lemmas.List.Sums.{sum_by-set}
use Rattle.std.proofs.lemmas.Bool.{cases_eq}
use Rattle.std.proofs.lemmas.Grind.{common_steps}
use Rattle.least.specs.declared.System.{Ghosts}
use Rattle.least.specs.Systems.{entries_of, Below, Monotone, Meets, Least, NoneMeets, Capped, room}
use Rattle.least.specs.Passes.{Ready, Passed}
use Rattle.least.proofs.Fixed.{on_line}

-- what the first i entries of a pass have done to the entries `before`
pub record Gone {S : Type 0} (g : Ghosts S) (s : S) (before x : List ℕ) (raised : Bool) (i : ℕ) : Type 0 where
  pub ready : Ready g s x
  pub higher : Below (g.lines s) (entries_of before) (entries_of x)
  pub reached : Below i (g.line s (entries_of before)) (entries_of x)
  pub same : raised ≡ false → x ≡ before
  pub falls : room x + cond raised 1 0 ≤ room before

module _ {S : Type 0} {g : Ghosts S} {s : S} {before x : List ℕ} {raised : Bool} {i : ℕ} (monotone : Monotone (g.lines s) (g.line s))
    (gone : Gone g s before x raised i) (within : i < g.lines s) where
  -- a line is no higher than any solution's entry
  under_solution : (y : ℕ → ℕ) → Meets (g.lines s) (g.line s) (g.ceiling s) y → g.line s (entries_of x) i ≤ y i
  under_solution y m = omega (arith, monotone (entries_of x) y (gone.ready.floor y m) i within, m.above i within)

  -- a line rises with the entries
  risen : g.line s (entries_of before) i ≤ g.line s (entries_of x) i
  risen = monotone (entries_of before) (entries_of x) gone.higher i within

  -- the entry at i, by what its line is
  module _ (found : Option ℕ) (line : Capped (g.line s (entries_of x) i) (g.ceiling s i) found) where
    -- where the line passes its ceiling there is no solution
    pub refused : found ≡ None → NoneMeets (g.lines s) (g.line s) (g.ceiling s)
    refused is y m = let past = rw is at line in omega (arith, under_solution y m, m.below i within)

    -- an entry that is at or above its line stays
    pub kept : (v : ℕ) → found ≡ Some v → v ≤ get_or x i 0 → Gone g s before x raised (i + 1)
    kept v is high =
        let at_line = rw is at line in
        record {
          ready = gone.ready;
          higher = gone.higher;
          reached = below_more (λ k. g.line s (entries_of before) k ≤ get_or x k 0) i gone.reached (omega (arith, risen));
          same = gone.same;
          falls = gone.falls;
        }

    -- an entry that is below its line is raised to it
    pub lifted : (v : ℕ) → found ≡ Some v → get_or x i 0 < v → v < 2 ^ 32 → Gone g s before (set x i v) true (i + 1)
    unfolding room
    lifted v is low small =
        let at_line = rw is at line in
        let in_x : i < length x = omega (arith, gone.ready.long, within) in
        record {
          ready = record {
            long = grind (arith, common_steps, gone.ready.long);
            below = λ k h. grind (arith, common_steps, gone.ready.below k h, cases_eq k i);
            floor = λ y m k h. grind (arith, common_steps, gone.ready.floor y m k h, under_solution y m, cases_eq k i);
          };
          higher = λ k h. grind (arith, common_steps, gone.higher k h, cases_eq k i);
          reached = λ k h. grind (arith, common_steps, gone.reached k, risen, cases_eq k i);
          same = λ e. cc;
          falls = omega (arith, gone.falls, sum_by-set (λ x. 2 ^ 32 - x) x i v 0 in_x);
        }

-- what a whole pass answers
pub finished : {S : Type 0} {g : Ghosts S} {s : S} {before x : List ℕ} {i : ℕ} (raised : Bool) → Monotone (g.lines s) (g.line s)
    → Ready g s before → Gone g s before x raised i → g.lines s ≤ i → Passed g s before x (Ok raised)
finished true monotone start gone past = record {
  ready = gone.ready;
  higher = gone.higher;
  reached = λ k h. gone.reached k (omega arith);
  falls = omega (arith, gone.falls);
}
finished {g = g} {s} {before} false monotone start gone past =
    let same = gone.same refl in
    let least : Least (g.lines s) (g.line s) (g.ceiling s) (entries_of before) = record {
      meets = record {
        above = λ k h. let f = gone.reached k (omega arith) in rw same at f;
        below = start.below;
      };
      least = start.floor;
    } in
    rw same (refl, least, on_line (entries_of before) monotone least)
