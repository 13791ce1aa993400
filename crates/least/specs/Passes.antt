-- What a pass over the entries of a system answers, and what the search does.
use Rattle.std.specs.Prelude.{◌≡◌, ℕ, ◌<◌, Bool, true, false, List, length, Ok, Err, Result}
use Rattle.least.specs.declared.System.{Ghosts}
use Rattle.least.specs.declared.Unmet.{Unmet}
use Rattle.least.specs.Systems.{entries_of, Below, Floor, Least, NoneMeets, room}

module _ {S : Type 0} (g : Ghosts S) (s : S) where
  -- entries that a pass or a search may start from: none is above its ceiling, nor above a solution's
  pub record Ready (entries : List ℕ) : Type 0 where
    pub long : length entries ≡ g.lines s
    pub below : Below (g.lines s) (entries_of entries) (g.ceiling s)
    pub floor : Floor (g.lines s) (g.line s) (g.ceiling s) (entries_of entries)

  -- what a pass that raises some entry does: no entry is lowered, each is raised at least to its line of before
  pub record Rose (before after : List ℕ) : Type 0 where
    pub ready : Ready after
    pub higher : Below (g.lines s) (entries_of before) (entries_of after)
    pub reached : Below (g.lines s) (g.line s (entries_of before)) (entries_of after)
    pub falls : room after < room before

  -- each entry is its line
  abbrev pub OnLines : List ℕ → Type 0
  OnLines entries = (i : ℕ) → i < g.lines s → entries_of entries i ≡ g.line s (entries_of entries) i

  -- the answer of a pass: whether some entry was raised; where none was, the entries are the least, on their lines
  abbrev pub Passed : List ℕ → List ℕ → Result Bool Unmet → Type 0
  Passed before after (Ok true) = Rose before after
  Passed before after (Ok false) = (after ≡ before) × Least (g.lines s) (g.line s) (g.ceiling s) (entries_of after) × OnLines after
  Passed before after (Err u) = NoneMeets (g.lines s) (g.line s) (g.ceiling s)

  -- the answer of the search: the entries are the least, or none meet the system
  abbrev pub Found : List ℕ → List ℕ → Result (Unit {0}) Unmet → Type 0
  Found before after (Ok u) = (length after ≡ length before) × Least (g.lines s) (g.line s) (g.ceiling s) (entries_of after)
  Found before after (Err u) = NoneMeets (g.lines s) (g.line s) (g.ceiling s)
